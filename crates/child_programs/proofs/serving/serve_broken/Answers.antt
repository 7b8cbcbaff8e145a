use Rattle.std.proofs.Common.{ℕ, Option, List, refl, subst}
use Rattle.child_processes.specs.NextLine.{unheard}
use Rattle.child_programs.specs.Served.{IsObeyed}
use Rattle.child_programs.specs.Adopting.{AnswersNothing, BeatsNobody, HearsBy}
use Rattle.child_programs.proofs.Handing.{served-after, served-at}
use Rattle.child_programs.proofs.serving.serve_broken.Goals as goal

pub returns-in-Some : goal.returns-in-Some
returns-in-Some g c = λ unread next.
    let hears = HearsBy AnswersNothing BeatsNobody in
    let old = c.new-master.result in
    let new = c.obey.new.program in
    let before = g.O.Write.contents c.args.output.now in
    let after = g.O.Write.contents c.obey.new.output in
    let obeyed = subst (λ (status : Option ℕ). IsObeyed hears old before c.args.line.now status new after) c.in-Some.is c.obey.ensures in (
      old.answers,
      new.answers,
      record {
        old = old;
        new = new;
        begins = refl;
        waits = c.new-master.ensures.waiting;
        served = served-at hears unread (unheard g.I.Read.remaining c.args.lines.now) c.args.line.now old new before after c.in-Some.status next obeyed;
        ends = refl;
      },
    )

pub returns : goal.returns
returns g c = λ unread next.
    let hears = HearsBy AnswersNothing BeatsNobody in
    let old = c.new-master.result in
    let mid = c.obey.new.program in
    let new = c.serve.new.program in
    let before = g.O.Write.contents c.args.output.now in
    let between = g.O.Write.contents c.obey.new.output in
    let after = g.O.Write.contents c.serve.new.output in
    let obeyed = subst (λ (status : Option ℕ). IsObeyed hears old before c.args.line.now status mid between) c.in_default.is c.obey.ensures in (
      old.answers,
      new.answers,
      record {
        old = old;
        new = new;
        begins = refl;
        waits = c.new-master.ensures.waiting;
        served = served-after hears unread (unheard g.I.Read.remaining c.args.lines.now) c.args.line.now old mid new before between after c.serve.result next obeyed c.serve.ensures;
        ends = refl;
      },
    )
