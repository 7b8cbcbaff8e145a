use Rattle.std.proofs.Common.{◌≡◌, ◌++◌, ◌<◌, true, false, List, ℕ, length, get_or, set, reverse, refl, sym, ◌∙◌, ap, subst, arith}
use Rattle.std.proofs.lemmas.List.{nil_from_length, get_or_read}
use Rattle.std.proofs.lemmas.Option.{slice_get_read}
use Rattle.plan_steps.specs.Numbering.{places_behind}
use Rattle.plan_steps.proofs.Walked.{AreWalked, walked_none, walked_past, walked_on, walked_all, place_low, work_less}
use Rattle.plan_steps.proofs.walking.walk.Goals as goal

pub loop-place-init : goal.loop-place-init
loop-place-init c =
    walked_none c.args.steps.now c.args.roots.now _ _ _ (c.in_ok-is_met.ensures.items_if_clones_equal (λ y same. same)) c.new-met.ensures.items
    (c.reverse.ensures.items ∙ ap reverse (c.in_ok-waiting.ensures.items))

pub index-requires : goal.index-requires
index-requires c =
    omega (arith, c.loop-place.invariant.count, place_low c.args.steps.now c.args.roots.now c.loop-place.is_met.items c.loop-place.met.items c.loop-place.waiting.items c.pop.new.self.items c.in-Some.place c.loop-place.invariant c.in-Some.ensures.items c.requires.back c.requires.roots)

pub index_mut-requires : goal.index_mut-requires
index_mut-requires c =
    omega (arith, c.loop-place.invariant.count, place_low c.args.steps.now c.args.roots.now c.loop-place.is_met.items c.loop-place.met.items c.loop-place.waiting.items c.pop.new.self.items c.in-Some.place c.loop-place.invariant c.in-Some.ensures.items c.requires.back c.requires.roots)

pub bounds-steps-here : goal.bounds-steps-here
bounds-steps-here c =
    place_low c.args.steps.now c.args.roots.now c.loop-place.is_met.items c.loop-place.met.items c.loop-place.waiting.items c.pop.new.self.items c.in-Some.place c.loop-place.invariant c.in-Some.ensures.items c.requires.back c.requires.roots

pub loop-place-preserved-then-index : goal.loop-place-preserved-then-index
loop-place-preserved-then-index c =
    let steps = c.args.steps.now in
    let flags = c.loop-place.is_met.items in
    let p = c.in-Some.place in
    let low = place_low steps c.args.roots.now flags c.loop-place.met.items c.loop-place.waiting.items c.pop.new.self.items p c.loop-place.invariant c.in-Some.ensures.items c.requires.back c.requires.roots in
    let was : get_or flags p false ≡ true = sym (get_or_read flags p c.index.result.now (omega (arith, low, c.loop-place.invariant.count)) c.index.ensures false) ∙ c.if-index.true in
    walked_past steps c.args.roots.now flags c.loop-place.met.items c.pop.new.self.items p
    (subst (AreWalked steps c.args.roots.now flags c.loop-place.met.items) c.in-Some.ensures.items c.loop-place.invariant) was

pub loop-place-smaller : goal.loop-place-smaller
loop-place-smaller c =
    let steps = c.args.steps.now in
    let flags = c.loop-place.is_met.items in
    let p = c.in-Some.place in
    let s = c.index-steps-here.result in
    let low = place_low steps c.args.roots.now flags c.loop-place.met.items c.loop-place.waiting.items c.pop.new.self.items p c.loop-place.invariant c.in-Some.ensures.items c.requires.back c.requires.roots in
    let low_flag : p < length flags = omega (arith, low, c.loop-place.invariant.count) in
    let was : get_or flags p false ≡ false = sym (get_or_read flags p c.index.result.now low_flag c.index.ensures false) ∙ c.if-index.false in
    let new = c.in_ok-push_behind.ensures ∙ ap (λ es. c.pop.new.self.items ++ reverse (places_behind es)) (c.deref.ensures.value ∙ ap (λ t. t.edges.items) (sym c.index-steps-here.is)) in
    work_less flags steps p s c.loop-place.waiting.items c.pop.new.self.items c.push_behind.new.waiting.items low_flag was
    (slice_get_read steps (length steps) p s refl low c.index-steps-here.is) c.in-Some.ensures.items new

pub loop-place-preserved : goal.loop-place-preserved
loop-place-preserved c =
    let steps = c.args.steps.now in
    let roots = c.args.roots.now in
    let flags = c.loop-place.is_met.items in
    let p = c.in-Some.place in
    let s = c.index-steps-here.result in
    let low = place_low steps roots flags c.loop-place.met.items c.loop-place.waiting.items c.pop.new.self.items p c.loop-place.invariant c.in-Some.ensures.items c.requires.back c.requires.roots in
    let low_flag : p < length flags = omega (arith, low, c.loop-place.invariant.count) in
    let was : get_or flags p false ≡ false = sym (get_or_read flags p c.index.result.now low_flag c.index.ensures false) ∙ c.if-index.false in
    let new = c.in_ok-push_behind.ensures ∙ ap (λ es. c.pop.new.self.items ++ reverse (places_behind es)) (c.deref.ensures.value ∙ ap (λ t. t.edges.items) (sym c.index-steps-here.is)) in
    let on = walked_on steps roots flags c.loop-place.met.items c.pop.new.self.items p s
    (subst (AreWalked steps roots flags c.loop-place.met.items) c.in-Some.ensures.items c.loop-place.invariant) was (slice_get_read steps (length steps) p s refl low c.index-steps-here.is) low_flag in
    subst (AreWalked steps roots (set flags p true) c.push.new.self.items) (sym new)
    (subst (λ (met : List ℕ). AreWalked steps roots (set flags p true) met (c.pop.new.self.items ++ reverse (places_behind s.edges.items))) (sym c.in_ok-push.ensures.items) on)

pub returns : goal.returns
returns c =
    walked_all c.args.steps.now c.args.roots.now c.loop-place.is_met.items c.loop-place.met.items
    (subst (AreWalked c.args.steps.now c.args.roots.now c.loop-place.is_met.items c.loop-place.met.items) (nil_from_length c.loop-place.waiting.items (omega (arith, c.in_default.ensures.cases.0))) c.loop-place.invariant)
