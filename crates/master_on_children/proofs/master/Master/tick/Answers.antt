use Rattle.std.proofs.Common.{List, None, Option, sym, ◌∙◌, subst}
use Rattle.definitions.specs.Master.{Record}
use Rattle.control_words.specs.declared.words.Word.{Word}
use Rattle.master_on_children.specs.Lines.{tick_words, AreActed, IsTicked}
use Rattle.master_on_children.proofs.Hearing.{short-acted}
use Rattle.master_on_children.proofs.master.Master.tick.Goals as goal

pub returns-in-Ok : goal.returns-in-Ok
returns-in-Ok g c =
    let remaining = g.I.Read.remaining in
    let s = c.args.self.now.standing in
    let asked = record s { world = record s.world { edge = c.tick_reigning-heard.new.self } } in
    let acted = subst (λ (words : List Word). AreActed remaining None words asked c.act-in-Ok.result c.act-in-Ok.new.self.standing) (c.deref.ensures.value ∙ c.in-Ok.ensures) c.act-in-Ok.ensures in
    subst (λ (known : Option Record). IsTicked remaining known c.args.now s c.act-in-Ok.result c.act-in-Ok.new.self.standing) (sym c.in-Some.is) (c.tick_reigning-heard.new.self, c.tick_reigning-heard.result, c.tick_reigning-heard.ensures.turn, acted)

pub returns-in-Err : goal.returns-in-Err
returns-in-Err g c =
    let remaining = g.I.Read.remaining in
    let s = c.args.self.now.standing in
    let asked = record s { world = record s.world { edge = c.tick_reigning-heard.new.self } } in
    let acted = short-acted remaining None (tick_words c.tick_reigning-heard.result c.args.now) asked c.short.result c.short.ensures in
    subst (λ (known : Option Record). IsTicked remaining known c.args.now s c.short.result asked) (sym c.in-Some.is) (c.tick_reigning-heard.new.self, c.tick_reigning-heard.result, c.tick_reigning-heard.ensures.turn, acted)
