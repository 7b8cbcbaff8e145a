use Rattle.std.proofs.Common.{ap, ◌∙◌, [], get_or, arith}
use Rattle.std.proofs.lemmas.List.{get_or_default}
use Rattle.worker_groups.specs.Crews.{Posts}
use Rattle.worker_groups.proofs.PostLists.{get_or-padded}
use Rattle.worker_groups.proofs.posts.Posts.descriptors_of.Goals as goal

pub returns-then-place-lt-MOST_GROUPS : goal.returns-then-place-lt-MOST_GROUPS
returns-then-place-lt-MOST_GROUPS c =
    get_or_default c.self.inside.descriptors c.args.place c.index-self-place.result [] (omega (arith, c.self.invariant.padded.size))
    ∙ get_or-padded c.self.invariant.padded c.args.place
    ∙ ap (λ (p : Posts). get_or p.descriptors c.args.place []) c.self.view_is
