use Rattle.std.proofs.Common.{◌≡◌, ◌+◌, ◌*◌, length, drop}
use Rattle.definitions.specs.Plans.{awaits}
use Rattle.rollback_plan.specs.Drafts.{trees_of, tree_at, IsMade, Keeps}
use Rattle.plan_pieces.proofs.starting.add_awaits.Given as goal

abbrev pub invariant-loop-i : goal.invariant-loop-i
invariant-loop-i l =
    record {
      made : IsMade l.draft l.next (awaits l.by l.generation (drop l.i l.numbers) (tree_at l.fn.draft l.fn.rest) (tree_at l.fn.draft l.failed));
      count : length (trees_of l.draft) + 2 * l.i ≡ length (trees_of l.fn.draft) + 2 * length l.numbers;
      keeps : Keeps l.fn.draft l.draft;
    }
