use Rattle.std.proofs.Common.{sym, ap, ◌∙◌, arith, subst}
use Rattle.vocabulary.specs.declared.calls.Answer.TheVariants.{MasterGone}
use Rattle.vocabulary.specs.declared.reports.Entry.{Entry}
use Rattle.definitions.specs.Calls.{step_with, after_exits}
use Rattle.plan_walk.specs.Path.{Asks, advance}
use Rattle.definitions.specs.Run.{Moment}
use Rattle.handover_text.specs.Reading.{handed_by}
use Rattle.kernel_model.specs.State.{State}
use Rattle.plan_walk.specs.Course.{trail_on}
use Rattle.plan_walk.proofs.Paths.{asks_height}
use Rattle.explorer.proofs.Later.{later}
use Rattle.explorer.proofs.position.Position.branch.Goals as goal

pub answered-entry-requires : goal.answered-entry-requires
answered-entry-requires c =
    let t = trail_on c.args.self.now.course in
    let left = asks_height t.rest t.lacked _ (c.requires.due MasterGone) in
    let same = ap (λ (s : State). s.room) c.in_ok-kernel.ensures in
    omega (arith, left, c.requires.fit.room, same, c.room.ensures)

pub after-requires-clause-asks : goal.after-requires-clause-asks
after-requires-clause-asks c =
    let t = trail_on c.args.self.now.course in
    subst (λ (e : Entry). Asks t.rest t.lacked e) (sym c.answered-entry.ensures.entry) (c.requires.due c.answered-entry.result.answer)

pub returns : goal.returns
returns c =
    let m : Moment = record { exits = c.args.exits.now; fate = c.args.fate } in
    let old = c.args.self.now in
    let due = c.args.due.now in
    later (record old { tried = c.args.tried }) due m c.after.result c.answered-entry.new.kernel c.waiting.result c.answered-entry.result.answer
    (record { room = c.requires.fit.room; countable = c.requires.fit.countable }) c.requires.due c.requires.moment (record {
      step = c.answered-entry.ensures.step ∙ ap (λ (s : State). step_with (handed_by old.text.now) due.by due.call m.fate (after_exits m.exits s.table)) c.in_ok-kernel.ensures;
      room = c.answered-entry.ensures.room ∙ ap (λ (s : State). s.room) c.in_ok-kernel.ensures ∙ c.room.ensures;
      trail = c.after.ensures.trail ∙ ap (advance (trail_on old.course)) c.answered-entry.ensures.entry;
      sides = c.after.ensures.sides;
      turns = c.after.ensures.turns;
      lower = c.after.ensures.lower;
      heir = c.waiting.ensures;
    })
