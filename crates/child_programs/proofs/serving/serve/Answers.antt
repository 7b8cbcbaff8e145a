use Rattle.std.proofs.Common.{ℕ, Option, Some, List, [], ◌∷◌, ◌++◌, ◌≡◌, sym, ap, subst, ◌∙◌}
use Rattle.child_processes.specs.NextLine.{unheard}
use Rattle.child_programs.specs.Served.{if_more, IsNextLine, IsObeyed}
use Rattle.child_programs.proofs.Obeying.{next-push, obeyed-push}
use Rattle.child_programs.proofs.serving.serve.Goals as goal

pub loop-preserved : goal.loop-preserved
loop-preserved g c =
    let hears = g.H.Hears.hears in
    let h = c.loop.invariant in
    let text = c.bytes.result.now in
    let before = unheard g.I.Read.remaining c.loop.lines in
    let left = unheard g.I.Read.remaining c.next_line.new.lines in
    let said = g.O.Write.contents c.loop.output in
    let saying = g.O.Write.contents c.obey.new.output in
    let is : if_more c.in-Ok-true.field-0 c.next_line.new.line ≡ Some text =
    ap (λ more. if_more more c.next_line.new.line) c.in-Ok-true.field-0-test ∙ ap (λ (t : List ℕ). Some t) (sym c.bytes.ensures.text) in
    let next = subst (λ (one : Option (List ℕ)). IsNextLine before one left) is c.in-Ok-true.ensures in
    let obeyed = subst (λ (status : Option ℕ). IsObeyed hears c.loop.program said text status c.obey.new.program saying) c.in_default.is c.obey.ensures in (
      h.0 ++ text ∷ [],
      next-push (unheard g.I.Read.remaining c.args.lines.now) h.0 before text left h.1 next,
      obeyed-push hears c.args.program.now (g.O.Write.contents c.args.output.now) h.0 c.loop.program said text c.obey.new.program saying h.2 obeyed,
    )
