use Rattle.std.proofs.Common.{ap, ◌∙◌}
use Rattle.std.specs.List.{filter_map}
use Rattle.vocabulary.specs.declared.calls.Answer.TheVariants as answer
use Rattle.call_laws.specs.Pieces.{with_rows}
use Rattle.definitions.specs.Calls.{drop_where, gives}
use Rattle.kernel_rows.specs.Edits.{is_of_either}
use Rattle.kernel_table.specs.Seen.{seen}
use Rattle.kernel_model.proofs.Ended.{ended-all}
use Rattle.kernel_model.proofs.master_calls.terminate.Goals as goal

pub returns-clause-outcome : goal.returns-clause-outcome
returns-clause-outcome c =
    let t = seen c.args.store.now in
    ap (gives answer.Fine)
    (c.edit.ensures.table
    ∙ ap (λ n. with_rows t (filter_map (drop_where (is_of_either c.args.image n)) t.rows)) c.master_number-master.ensures
    ∙ ap (with_rows t) (ended-all c.args.image t.rows t.rows (c.requires.masters c.args.image)))
