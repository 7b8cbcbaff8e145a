use Rattle.std.proofs.Common.{◌≡◌, ℕ, ◌-◌, ◌≤◌, List, length, take, drop, ap, ◌∙◌, arith}
use Rattle.std.proofs.lemmas.List.{length-take-le}
use Rattle.child_processes.specs.Unheard.{Unheard}
use Rattle.child_processes.proofs.Buffers.{moved_front}
use Rattle.child_processes.proofs.buffer.LineBuffer.remove.Goals as goal

pub returns : goal.returns
returns c =
    let filled : ℕ = c.self.inside.filled in
    let bytes : List ℕ = c.self.inside.bytes in
    let made : List ℕ → Unheard = λ text. record { bytes = text; drops = c.self.inside.drops } in
    let without : Unheard → Unheard = λ u. record { bytes = drop c.args.count u.bytes; drops = u.drops } in
    let fits : filled ≤ length bytes = omega arith in
    let size : length (take filled bytes) ≡ filled = length-take-le filled bytes fits in
    let same : length (take filled bytes) ≡ length c.args.self.now.bytes = ap (λ u. length u.bytes) c.self.view_is in
    let within : c.args.count ≤ filled = omega (arith, size, same, c.requires) in
    ap (λ text. made (take (filled - c.args.count) text)) c.copy_within.ensures.after
    ∙ ap made (moved_front c.args.count filled bytes within fits)
    ∙ ap without c.self.view_is
