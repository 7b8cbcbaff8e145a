use Rattle.std.proofs.Common.{◌≡◌, ◌+◌, length, drop}
use Rattle.definitions.specs.Plans.{tries_all}
use Rattle.plan_steps.specs.Steps.{tree_among}
use Rattle.plan_steps.specs.Batches.{calls_of, size_of}
use Rattle.rollback_plan.specs.Drafts.{trees_of, LeadsTo, Keeps}
use Rattle.plan_pieces.proofs.trying.add_tried_all.Given as goal

abbrev pub invariant-loop-i : goal.invariant-loop-i
invariant-loop-i l =
    record {
      made : LeadsTo l.draft l.next
          (tries_all l.by (drop l.i (calls_of l.calls)) (tree_among 0 (trees_of l.fn.draft) l.fn.rest)
          (tree_among 0 (trees_of l.fn.draft) l.fn.back));
      count : length (trees_of l.draft) + l.i ≡ length (trees_of l.fn.draft) + size_of l.calls;
      keeps : Keeps l.fn.draft l.draft;
    }
