use Rattle.std.proofs.Common.{ℕ, ◌-◌, ◌≤◌, List, ◌++◌, length, take, ap, ◌∙◌, arith}
use Rattle.std.proofs.lemmas.List.{length-take-le}
use Rattle.child_processes.specs.Unheard.{Unheard}
use Rattle.child_processes.proofs.Buffers.{read_behind}
use Rattle.child_processes.proofs.buffer.LineBuffer.fill.Goals as goal

pub returns-clause-read : goal.returns-clause-read
returns-clause-read g c =
    let filled : ℕ = c.self.inside.filled in
    let bytes : List ℕ = c.self.inside.bytes in
    let count : ℕ = c.in_ok-count.count in
    let piece : List ℕ = take count c.read.new.buf in
    let made : List ℕ → Unheard = λ text. record { bytes = text; drops = c.self.inside.drops } in
    let longer : Unheard → Unheard = λ u. record { bytes = u.bytes ++ piece; drops = u.drops } in
    let fits : filled ≤ length bytes = omega arith in
    let within : count ≤ length c.read.new.buf = c.in_ok-count.ensures.bound.0 in (
      piece,
      length-take-le count c.read.new.buf within,
      ap made (read_behind filled (4097 - filled) count bytes c.read.new.buf fits within) ∙ ap longer c.self.view_is,
      c.in_ok-count.ensures.bytes.0,
    )
