use Rattle.std.proofs.Common.{◌≡◌, ◌+◌, ◌*◌, length}
use Rattle.definitions.specs.Plans.{settle}
use Rattle.rollback_plan.specs.Drafts.{trees_of, IsMade, Keeps}
use Rattle.rollback_plan.proofs.draft.Draft.add_settle.Given as goal

abbrev pub invariant-loop-round : goal.invariant-loop-round
invariant-loop-round l =
    record {
      made : IsMade l.self l.place (settle l.by l.crew l.set l.fn.side l._round);
      count : length (trees_of l.self) ≡ length (trees_of l.fn.self) + (1 + 4 * l._round);
      keeps : Keeps l.fn.self l.self;
    }
