use Rattle.std.proofs.Common.{◌≤◌, length, ◌∙◌, sym, ap, arith}
use Rattle.std.proofs.lemmas.List.{length-take-le}
use Rattle.master_on_children.proofs.waiting.Waiting.len.Goals as goal

pub returns-clause-count : goal.returns-clause-count
returns-clause-count c =
    let inside = c.self.invariant in
    let fits : c.self.inside.count ≤ length c.self.inside.lines = omega (arith, inside.0, inside.1) in
    sym (length-take-le c.self.inside.count c.self.inside.lines fits) ∙ ap length c.self.view_is
