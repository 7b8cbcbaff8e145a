use Rattle.std.proofs.Common.{ap}
use Rattle.worker_groups.proofs.PostLists.{none-posted, none-there}
use Rattle.worker_groups.proofs.posts.Posts.new.Goals as goal

pub invariant_of-result : goal.invariant_of-result
invariant_of-result c = none-posted c.args.groups.now c.none.result c.none.ensures c.as_slice.ensures.groups

pub returns-clause-posts : goal.returns-clause-posts
returns-clause-posts c =
    ap (λ fds. record { groups = c.args.groups.now; descriptors = fds }) (none-there c.args.groups.now c.none.result c.none.ensures c.as_slice.ensures.groups)
