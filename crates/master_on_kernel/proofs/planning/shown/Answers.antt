use Rattle.std.proofs.Common.{◌≡◌, IfOk, sym, subst}
use Rattle.master_on_kernel.specs.Outlooks.{shown}
use Rattle.master_on_kernel.proofs.planning.shown.Goals as goal

pub returns-in-Text : goal.returns-in-Text
returns-in-Text c =
    subst (λ form. IfOk c.write_plan.result (λ text. text.items ≡ shown form c.args.plan.now)) (sym c.in-Text.is)
    c.write_plan.ensures.text

pub returns-in-Picture : goal.returns-in-Picture
returns-in-Picture c =
    subst (λ form. IfOk c.write_graph.result (λ text. text.items ≡ shown form c.args.plan.now)) (sym c.in-Picture.is)
    c.write_graph.ensures.text
