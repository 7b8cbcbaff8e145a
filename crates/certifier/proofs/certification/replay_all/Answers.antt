use Rattle.handover_text.specs.Reading.{handed_by}
use Rattle.std.proofs.Common.{◌≡◌, ◌+◌, ◌<◌, length, List, ◌∷◌, [], ◌++◌, take, refl, sym, ◌∙◌, ap, subst, arith}
use Rattle.std.proofs.lemmas.Bool.{false≢true}
use Rattle.std.proofs.lemmas.List.{take_more}
use Rattle.std.proofs.lemmas.Option.{get_or_from_slice_get}
use Rattle.vocabulary.specs.declared.reports.Entry.{Entry}
use Rattle.rollback_plan.specs.Plans.{sides_told, text_of}
use Rattle.plan_executor.specs.Naming.{listed}
use Rattle.certifier.specs.Turns.{used_in}
use Rattle.certifier.specs.Places.{planned_start, HasTaken, AreNextUnder}
use Rattle.certifier.proofs.Taking.{taken-on, next-then}
use Rattle.certifier.proofs.certification.replay_all.Goals as goal

pub loop-place-init : goal.loop-place-init
loop-place-init c =
    let before = c.new-replay.ensures in (
      subst (λ (X : Type 0). X) (λ i. HasTaken (handed_by (before.text i)) (ap listed before.heir i) (before.sides i) (before.start i) [] c.new-replay.result) before.taken,
      omega (arith, before.room, c.requires),
    )

pub loop-place-preserved : goal.loop-place-preserved
loop-place-preserved c =
    let plan = c.args.plan.now in
    let heirs = listed c.args.heir in
    let from = planned_start plan c.args.kernel.table c.args.image in
    let entries = c.args.log.now.entries in
    let place = c.loop-place.place in
    let e = c.get.result in
    let within : place < length entries = omega (arith, c.loop-place-test.true, c.len-place-end.ensures.count) in
    let longer : take (place + 1) entries ≡ take place entries ++ e ∷ [] = take_more entries place e within ∙ ap (λ x. take place entries ++ x ∷ []) (((get_or_from_slice_get entries place e e c.get.ensures))) in
    let left = c.in_ok-take.ensures.left c.if-not-branch.false in
    let before = c.loop-place.invariant.1 in (
      subst (λ (es : List Entry). HasTaken (handed_by (text_of plan)) heirs (sides_told plan) from es c.take.new.self) (sym longer)
          (taken-on (handed_by (text_of plan)) heirs (sides_told plan) from (take place entries) e c.loop-place.replay c.loop-place.invariant.0 c.take.new.self (c.in_ok-take.ensures.taken c.if-not-branch.false)),
      omega (arith, left, before),
    )

pub returns-then-not-branch-clause-err : goal.returns-then-not-branch-clause-err
returns-then-not-branch-clause-err c =
    let plan = c.args.plan.now in
    let heirs = listed c.args.heir in
    let from = planned_start plan c.args.kernel.table c.args.image in
    let entries = c.args.log.now.entries in
    let place = c.loop-place.place in
    let e = c.get.result in
    let within : place < length entries = omega (arith, c.loop-place-test.true, c.len-place-end.ensures.count) in
    let longer : take (place + 1) entries ≡ take place entries ++ e ∷ [] = take_more entries place e within ∙ ap (λ x. take place entries ++ x ∷ []) (((get_or_from_slice_get entries place e e c.get.ensures))) in
    record {
      before = place;
      number = refl;
      within = omega (arith, within);
      turns = used_in c.loop-place.replay.turns ++ [];
      next = c.loop-place.invariant.0.next [];
      stops =
          λ others all. false≢true
          (sym c.if-not-branch.true
          ∙ c.in_ok-take.ensures.next.1
          (next-then (handed_by (text_of plan)) heirs (sides_told plan) from (take place entries) e c.loop-place.replay c.loop-place.invariant.0 others
          (subst (λ (es : List Entry). AreNextUnder (handed_by (text_of plan)) heirs from others es) longer all)));
    }
