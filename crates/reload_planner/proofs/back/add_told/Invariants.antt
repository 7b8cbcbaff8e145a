use Rattle.std.proofs.Common.{◌≡◌, ◌+◌, length}
use Rattle.plan_steps.specs.Batches.{calls_of}
use Rattle.rollback_plan.specs.Drafts.{trees_of, tree_at, IsMade, Keeps}
use Rattle.rollback_plan.specs.Back.{told_back, AreMade}
use Rattle.reload_planner.proofs.back.add_told.Given as goal

abbrev pub invariant-loop-i : goal.invariant-loop-i
invariant-loop-i l =
    record {
      all : AreMade l.draft l.places.items l.i (told_back l.by (calls_of l.calls) (tree_at l.fn.draft l.fn.rest));
      last : IsMade l.draft l.next (told_back l.by (calls_of l.calls) (tree_at l.fn.draft l.fn.rest) l.i);
      count : length (trees_of l.draft) ≡ length (trees_of l.fn.draft) + l.i;
      keeps : Keeps l.fn.draft l.draft;
    }
