use Rattle.std.proofs.Common.{◌+◌, ◌++◌, List, map, drop, sym, ap, ◌∙◌}
use Rattle.std.specs.List.{filter_map}
use Rattle.kernel_model.specs.Readers.{row_of}
use Rattle.plan_executor.specs.Naming.{listed}
use Rattle.explorer.specs.declared.events.Mishap.{Mishap}
use Rattle.explorer.specs.Events.{exit_of}
use Rattle.explorer.proofs.Listing.{one-added, none-added, all-added}
use Rattle.explorer.proofs.effects.add_exits.Goals as goal
use Rattle.explorer.proofs.effects.add_exits.Goals.{in-Some-exit_of+in_ok-push, in_default-exit_of}

pub returns-in_default : goal.returns-in_default
returns-in_default c =
    all-added (exit_of (listed c.args.heir) c.args.above) (map row_of c.args.kernel.now.table.rows) c.loop-place.place c.loop-place.mishaps.items _ (sym c.row.ensures ∙ c.in_default.is) c.loop-place.invariant

pub loop-place-preserved : goal.loop-place-preserved
loop-place-preserved c =
    let exit = exit_of (listed c.args.heir) c.args.above in
    let rows = map row_of c.args.kernel.now.table.rows in
    let all : List Mishap = c.args.mishaps.now.items ++ filter_map exit rows in
    let at = sym c.row.ensures ∙ c.in-Some.is in
    elim c.match-exit_of.branch [
      | in-Some-exit_of+in_ok-push w ↦
          one-added exit rows c.loop-place.place c.in-Some.row _ c.loop-place.mishaps.items c.match-exit_of.mishaps.items all at (sym c.exit_of.ensures ∙ w.in-Some-exit_of.is) (ap (λ ms. ms.items) w.mishaps-is ∙ w.in_ok-push.ensures) c.loop-place.invariant
      | in_default-exit_of w ↦
          ap (λ (ms : List Mishap). ms ++ filter_map exit (drop (c.loop-place.place + 1) rows)) (ap (λ ms. ms.items) w.mishaps-is)
          ∙ none-added exit rows c.loop-place.place c.in-Some.row c.loop-place.mishaps.items all at (sym c.exit_of.ensures ∙ w.in_default-exit_of.is) c.loop-place.invariant
    ]
