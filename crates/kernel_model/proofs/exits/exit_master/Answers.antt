use Rattle.std.proofs.Common.{ℕ, ap, ◌∙◌}
use Rattle.std.specs.List.{filter_map, list_any}
use Rattle.call_laws.specs.Pieces.{is_live_master, with_rows, caller_exits}
use Rattle.definitions.specs.Calls.{without_exited}
use Rattle.kernel_rows.specs.Holds.{seen_holds}
use Rattle.kernel_rows.specs.Seen.{caller_row}
use Rattle.kernel_table.specs.Seen.{seen}
use Rattle.kernel_table.proofs.Masters.{IsOnly-from, exited_alike-all}
use Rattle.kernel_model.proofs.exits.exit_master.Goals as goal

pub returns-in-Some-clause-table : goal.returns-in-Some-clause-table
returns-in-Some-clause-table c =
    let t = seen c.args.store.now in
    let addresses = c.args.store.now.addresses.items in
    let m = c.in-Some.master in
    let place = c.in-Some.ensures.row in
    let only = IsOnly-from t.rows 0 t.next_process (caller_row addresses m) place.0 c.requires.formed.ascending place.1 place.2 in
    let lives = λ (q : ℕ). list_any (is_live_master q) t.rows in
    c.edit.ensures.table
    ∙ ap (λ b. with_rows t (filter_map (without_exited m.number (λ q. b)) t.rows)) c.has_live_master-stays.ensures
    ∙ ap (with_rows t) (exited_alike-all m.number m.parent m.image (seen_holds addresses m.holds) lives t.rows only)
    ∙ ap (λ caller. with_rows t (caller_exits caller t.rows)) c.in-Some.ensures.caller
