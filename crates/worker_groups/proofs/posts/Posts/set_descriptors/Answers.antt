use Rattle.std.proofs.Common.{ap, ◌∙◌, ◌<◌, ℕ, List, length, set}
use Rattle.std.proofs.Math.Seq.{take-set-lt}
use Rattle.worker_groups.specs.Crews.{Posts}
use Rattle.worker_groups.proofs.posts.Posts.set_descriptors.Goals as goal

pub returns : goal.returns
returns c =
    let gs = c.self.inside.groups in
    let fds = c.args.descriptors.now in
    let within : c.args.place < length gs = rw (ap (λ (p : Posts). p.groups) c.self.view_is) c.requires in
    ap (λ (ds : List (List ℕ)). record { groups = gs; descriptors = ds }) (take-set-lt (length gs) c.self.inside.descriptors c.args.place fds within)
    ∙ ap (λ (p : Posts). record { groups = p.groups; descriptors = set p.descriptors c.args.place fds }) c.self.view_is
