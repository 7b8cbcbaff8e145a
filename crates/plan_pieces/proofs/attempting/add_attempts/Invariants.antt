use Rattle.std.proofs.Common.{◌≡◌, ℕ, ◌+◌, ◌<◌, length}
use Rattle.definitions.specs.Run.{Tree}
use Rattle.plan_steps.specs.Batches.{calls_of, size_of}
use Rattle.rollback_plan.specs.Drafts.{trees_of, tree_at, IsMade, Keeps}
use Rattle.rollback_plan.specs.Back.{AreMade}
use Rattle.plan_pieces.specs.Pieces.{IsAttempted}
use Rattle.plan_pieces.proofs.attempting.add_attempts.Given as goal

abbrev pub invariant-loop-i : goal.invariant-loop-i
invariant-loop-i l =
    record {
      made : (back tree : ℕ → Tree) → AreMade l.fn.draft l.ways_back (size_of l.calls) back →
          IsAttempted l.by (calls_of l.calls) (tree_at l.fn.draft l.fn.rest) back tree →
          IsMade l.draft l.next (tree l.i);
      below : l.next.0 < length (trees_of l.draft);
      count : length (trees_of l.draft) + l.i ≡ length (trees_of l.fn.draft) + size_of l.calls;
      keeps : Keeps l.fn.draft l.draft;
    }
