use Rattle.std.proofs.Common.{rules, eq-eqb, None, ◌≡◌, ◌<◌, List, ℕ, [], true, false, not, nat_eq, length, get_or}
use Rattle.std.proofs.Common.{reverse, refl, sym, ◌∙◌, ap, subst, arith}
use Rattle.listener_set.specs.Numbers.{is_in, last}
use Rattle.worker_groups.specs.Groups.{group_of}
use Rattle.definitions.specs.Master.{addresses_of, layout_of}
use Rattle.table_laws.proofs.Sets.{in-filter-of, in-filter-on}
use Rattle.definitions.specs.Plans.{without, staying, is_enough}
use Rattle.plan_rollout.specs.Spots.{spots_of}
use Rattle.plan_rollout.specs.Counts.{AreServed}
use Rattle.plan_rollout.proofs.Sides.{old-spots, member-has, member-of, in-last, none-left, filter-shorter}
use Rattle.plan_rollout.proofs.Staying.{group-stays, one-quits, enough-falls, spare-is, served-less}
use Rattle.plan_rollout.proofs.crowd.staying.Goals as goal

pub loop-number-init : goal.loop-number-init
loop-number-init c = record {
  same = refl;
  fewer = λ i lt. omega arith;
  within = λ k on. on;
  told = λ r s started old now. (refl, now);
}

pub loop-number-smaller-then-not-has_spare : goal.loop-number-smaller-then-not-has_spare
loop-number-smaller-then-not-has_spare c =
    let gs = c.args.crowd.now.groups.now in
    let rest = c.loop-number.rest in
    let k = c.in-Some.number in
    let members = c.spots_at.result in
    let there : is_in members k ≡ true =
    ap (λ ks. is_in ks k) (c.spots_at.ensures ∙ ap (λ ms. get_or ms (group_of gs k) []) c.requires.all)
    ∙ member-has gs k c.as_slice.ensures.groups.some c.in-Some.ensures.below in
    subst (λ (xs : List ℕ). length xs < length rest) (sym c.minus-rest.ensures)
    (filter-shorter (λ j. not (is_in members j)) rest k (in-last rest k (sym c.in-Some.ensures.highest)) (ap not there))

pub loop-number-preserved-then-not-has_spare : goal.loop-number-preserved-then-not-has_spare
loop-number-preserved-then-not-has_spare c =
    let crowd = c.args.crowd.now in
    let gs = crowd.groups.now in
    let loop = c.loop-number in
    let rest = loop.rest in
    let stay = loop.stay in
    let k = c.in-Some.number in
    let members = c.spots_at.result in
    let off : c.has_spare-has_spare.result ≡ false = search rules in
    let listed = c.spots_at.ensures ∙ ap (λ ms. get_or ms (group_of gs k) []) c.requires.all in
    record {
      same = loop.invariant.same;
      fewer = loop.invariant.fewer;
      within = λ j on. loop.invariant.within j (in-filter-of (λ i. not (is_in members i)) rest j
          (subst (λ (xs : List ℕ). is_in xs j ≡ true) c.minus-rest.ensures on)).0;
      told = λ r s started old was.
          let before = loop.invariant.told r s started old was in
          let enough = is_enough r s started in
          let none : (j : ℕ) → is_in rest j ≡ true → is_in members j ≡ true → enough (without j stay) ≡
          false = λ j on is.
          let group = member-of gs k j c.as_slice.ensures.groups.some
          (subst (λ (xs : List ℕ). is_in xs j ≡ true) listed is) in
          let same : group_of r.posts.groups k ≡ group_of r.posts.groups j =
          sym (ap (λ hs. group_of hs k) old.groups) ∙ (sym group ∙ ap (λ hs. group_of hs j) old.groups) in
          let spots = c.spots_at-spots.ensures ∙ (old-spots r s crowd k old c.as_slice.ensures.groups.some ∙
          ap (spots_of (layout_of r) (addresses_of r)) same) in
          spare-is r s started stay loop.counts crowd.least.now c.spots_at-spots.result j
          c.len.ensures.numbers.rising (loop.invariant.within j on) before.1 old.least spots
          c.has_spare-has_spare.result c.has_spare-has_spare.ensures ∙ off in (
            before.0 ∙ (group-stays enough (enough-falls r s started) stay rest members none ∙
                ap (λ xs. staying enough stay (reverse xs)) (sym c.minus-rest.ensures)),
            before.1,
          );
    }

pub loop-number-smaller : goal.loop-number-smaller
loop-number-smaller c =
    let rest = c.loop-number.rest in
    let k = c.in-Some.number in
    subst (λ (xs : List ℕ). length xs < length rest) (sym c.remove.ensures)
    (filter-shorter (λ j. not (nat_eq j k)) rest k (in-last rest k (sym c.in-Some.ensures.highest))
    (ap not (eq-eqb k k refl)))

pub loop-number-preserved : goal.loop-number-preserved
loop-number-preserved c =
    let crowd = c.args.crowd.now in
    let loop = c.loop-number in
    let rest = loop.rest in
    let stay = loop.stay in
    let k = c.in-Some.number in
    let last = sym c.in-Some.ensures.highest in
    let on = loop.invariant.within k (in-last rest k last) in
    let spare : c.has_spare-has_spare.result ≡ true = search rules in
    record {
      same = c.take_at.ensures.same ∙ loop.invariant.same;
      fewer = λ i lt. omega (
        arith,
        c.take_at.ensures.each i lt,
        loop.invariant.fewer i (omega (arith, c.take_at.ensures.same, lt)),
      );
      within = λ j is.
          let was = in-filter-of (λ i. not (nat_eq i k)) rest j
          (subst (λ (xs : List ℕ). is_in xs j ≡ true) c.remove.ensures is) in
          subst (λ (xs : List ℕ). is_in xs j ≡ true) (sym c.remove-in-Some.ensures)
          (in-filter-on (λ i. not (nat_eq i k)) stay j (loop.invariant.within j was.0) was.1);
      told = λ r s started old was.
          let before = loop.invariant.told r s started old was in
          let enough = is_enough r s started in
          let spots = c.spots_at-spots.ensures ∙ old-spots r s crowd k old c.as_slice.ensures.groups.some in
          let rising = c.len.ensures.numbers.rising in
          let may = spare-is r s started stay loop.counts crowd.least.now c.spots_at-spots.result k rising on
          before.1 old.least spots
          c.has_spare-has_spare.result c.has_spare-has_spare.ensures ∙ spare in
          let fewer = served-less r s started stay loop.counts crowd.least.now c.spots_at-spots.result k rising on
          before.1 old.least spots c.take_at.new.counts c.take_at.ensures.same c.take_at.ensures.each in (
            before.0 ∙ (one-quits enough stay rest k c.in-Some.ensures.numbers.rising last may
                ∙ (λ i. staying enough (sym c.remove-in-Some.ensures i) (reverse (sym c.remove.ensures i)))),
            subst (λ (xs : List ℕ). AreServed r s started xs c.take_at.new.counts) (sym c.remove-in-Some.ensures) fewer,
          );
    }

pub returns-clause-stay : goal.returns-clause-stay
returns-clause-stay c =
    let loop = c.loop-number in
    let none : last loop.rest ≡ None = search rules in
    λ r s started old was.
    let before = loop.invariant.told r s started old was in (
      sym (before.0 ∙ ap (λ xs. staying (is_enough r s started) loop.stay (reverse xs)) (none-left loop.rest none)),
      before.1,
    )
