use Rattle.std.proofs.Common.{sym, ap, ◌∙◌, arith, subst}
use Rattle.vocabulary.specs.declared.calls.Answer.TheVariants.{MasterGone}
use Rattle.vocabulary.specs.declared.reports.Entry.{Entry}
use Rattle.plan_walk.specs.Path.{Asks, advance}
use Rattle.definitions.specs.Run.{Moment}
use Rattle.plan_walk.specs.Course.{trail_on}
use Rattle.plan_walk.proofs.Paths.{asks_height}
use Rattle.explorer.proofs.Later.{later}
use Rattle.explorer.proofs.position.Position.make.Goals as goal

pub answered-entry-requires : goal.answered-entry-requires
answered-entry-requires c =
    let t = trail_on c.args.self.now.course in
    let left = asks_height t.rest t.lacked _ (c.requires.due MasterGone) in
    omega (arith, left, c.requires.fit.room)

pub after-self-requires-clause-asks : goal.after-self-requires-clause-asks
after-self-requires-clause-asks c =
    let t = trail_on c.args.self.now.course in
    subst (λ (e : Entry). Asks t.rest t.lacked e) (sym c.answered-entry.ensures.entry) (c.requires.due c.answered-entry.result.answer)

pub returns : goal.returns
returns c =
    let m : Moment = record { exits = c.args.exits.now; fate = c.args.fate } in
    later c.args.self.now c.args.due.now m c.after-self.result c.answered-entry.new.kernel c.waiting-self.result c.answered-entry.result.answer c.requires.fit c.requires.due c.requires.moment (record {
      step = c.answered-entry.ensures.step;
      room = c.answered-entry.ensures.room;
      trail = c.after-self.ensures.trail ∙ ap (advance (trail_on c.args.self.now.course)) c.answered-entry.ensures.entry;
      sides = c.after-self.ensures.sides;
      turns = c.after-self.ensures.turns;
      lower = c.after-self.ensures.lower;
      heir = c.waiting-self.ensures;
    })
