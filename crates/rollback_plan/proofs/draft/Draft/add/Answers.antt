use Rattle.std.proofs.Common.{length}
use Rattle.rollback_plan.specs.Drafts.{trees_of}
use Rattle.rollback_plan.proofs.Splits.{plain_split, plain_all_below}
use Rattle.rollback_plan.proofs.draft.Draft.add.Goals as goal

pub add_split-requires : goal.add_split-requires
add_split-requires c = plain_all_below (length (trees_of c.args.self.now)) c.args.edges.now c.requires

pub returns-clause-keeps : goal.returns-clause-keeps
returns-clause-keeps c =
    let grown = c.add_split.ensures.extends in
    record {
      more = grown.more;
      is = grown.is;
      splits = λ a b. c.add_split.ensures.splits a b (plain_split (length (trees_of c.args.self.now)) a b c.args.edges.now c.requires);
    }
