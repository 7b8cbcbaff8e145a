use Rattle.std.proofs.Common.{length}
use Rattle.rollback_plan.proofs.BackTrees.{all_kept, closes_made, quits_made, way_there}
use Rattle.rollback_plan.proofs.draft.Draft.add_back.Goals as goal

pub add_ways-requires-2 : goal.add_ways-requires-2
add_ways-requires-2 c = (way_there c.add_ways.new.self c.in_ok-opened.opened.items _ _ c.index-closed.result.now c.in_ok-opened.ensures.made c.index-closed.ensures).below

pub returns-clause-made : goal.returns-clause-made
returns-clause-made c =
    let by = c.args.by in
    let u = c.args.undone.now in
    let opened = closes_made by c.add_ways.new.self c.in_ok-opened.opened.items u.opened.now _ _ c.in_ok-settled.ensures.made.is c.in_ok-opened.ensures.made in
    record {
      opened = all_kept c.add_ways.new.self c.add_ways-2.new.self c.in_ok-opened.opened.items (length u.opened.now) _ c.in_ok-forked.ensures.grows.keeps opened;
      forked = quits_made by u.generation c.add_ways-2.new.self c.in_ok-forked.forked.items u.forked.now _ _ (way_there c.add_ways.new.self c.in_ok-opened.opened.items _ _ c.index-closed.result.now opened c.index-closed.ensures).is c.in_ok-forked.ensures.made;
    }
