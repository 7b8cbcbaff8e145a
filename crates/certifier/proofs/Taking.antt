-- A replay that comes one entry further, and one that stops.
use Rattle.std.proofs.Common.{◌≡◌, ℕ, ◌+◌, nat_eq, List, [], ◌∷◌, ◌++◌, length, length-append, append_assoc, sym, ◌∙◌, ap, subst}
use Rattle.std.specs.Prelude.{if◌then◌else◌}
use Rattle.definitions.specs.Plans.{Turn}
use Rattle.theorems.specs.Apart.{Plays}
use Rattle.definitions.specs.Run.{Entry, Moment}
use Rattle.definitions.specs.Master.{Sides}
use Rattle.plan_walk.specs.Path.{Trail, Asks, Follows, advance, trail_after}
use Rattle.definitions.specs.Calls.{Handed}
use Rattle.handover_text.specs.Reading.{handed_by}
use Rattle.plan_executor.specs.Naming.{listed}
use Rattle.certifier.specs.declared.replay.Replay.{Replay}
use Rattle.certifier.specs.Shown.{moment_shown, moments_shown, pattern_of}
use Rattle.certifier.specs.Turns.{used_in}
use Rattle.certifier.specs.Places.{Place, Start, place_at, place_under, trail_to, place_of, IsNext, IsNextFor}
use Rattle.certifier.specs.Places.{place_after, AreNext, AreNextUnder, IsPathUnder, UseTurns, IsTaken, HasTaken}
use Rattle.certifier.proofs.Explaining.{next-follows, next-trail}
use Rattle.certifier.proofs.Steps.{next-push, next-last, next-front, place-push, moments-push, moments-length, pattern-push}
use Rattle.certifier.proofs.Turns.{GoesOn, goes-on}

-- a path that is one entry longer goes on with a call that is asked for
follows-last : (t : Trail) (es : List Entry) (e : Entry) → Follows t (es ++ e ∷ []) → Asks (trail_after t es).rest (trail_after t es).lacked e
follows-last t [] e path = path.0
follows-last t (x ∷ es) e path = follows-last (advance t x) es e path.1

follows-front : (t : Trail) (es : List Entry) (e : Entry) → Follows t (es ++ e ∷ []) → Follows t es
follows-front t [] e path = tt
follows-front t (x ∷ es) e path = (path.0, follows-front (advance t x) es e path.1)

module _ (handed : Handed) (heirs : List ℕ) (sides : Sides) (from : Start) (es : List Entry) (e : Entry) (x : Replay)
    (h : HasTaken handed heirs sides from es x) where
  -- where the replay has come, with what it was given
  there : (turns : List Turn) →
      IsNext (handed_by x.text.now) (listed x.heir) (place_of x turns) e
      ≡ IsNext handed heirs (place_under handed heirs from (used_in x.turns ++ turns) es) e
  there turns = λ i. IsNext (h.handed_is i) (h.heirs_are i) (h.place turns i) e

  -- the trail to which the entries lead is where the replay has come
  trail-there : (turns : List Turn) → trail_to from (used_in x.turns ++ turns) es ≡ (place_of x turns).trail
  trail-there turns = sym (ap (λ (p : Place). p.trail) (h.place turns) ∙ next-trail handed heirs (place_at from (used_in x.turns ++ turns)) es)

  -- turns under which the entries are a path are those that were used, and then others
  goes : (turns : List Turn) → IsPathUnder from turns es → GoesOn from.trail turns (used_in x.turns)
  goes turns path = goes-on from.trail h.steady turns (used_in x.turns) (h.only turns path)

  ---- An entry that is next

  -- what is next then under some turns is next for the replay
  pub next-then : (turns : List Turn) → AreNextUnder handed heirs from turns (es ++ e ∷ []) → IsNextFor x e
  next-then turns all =
      let more = goes turns (next-follows handed heirs (place_at from turns) es (next-front handed heirs (place_at from turns) es (e ∷ []) all)) in
      let next = subst (λ (t : Trail). AreNext handed heirs (record { trail = t; table = from.table; executing = from.executing }) (es ++ e ∷ [])) more.same all in
      (more.one ∷ more.rest, subst (λ (X : Type 0). X) (sym (there (more.one ∷ more.rest))) (next-last handed heirs (place_at from (used_in x.turns ++ more.one ∷ more.rest)) es e next))

  module _ (new : Replay) (taken : IsTaken x e new) where
    -- the turns that are used then
    used-then : (turns : List Turn) → used_in new.turns ++ turns ≡ used_in x.turns ++ (taken.taken ++ turns)
    used-then turns = ap (λ (us : List Turn). us ++ turns) taken.used ∙ append_assoc (used_in x.turns) taken.taken turns

    next-all : (turns : List Turn) → AreNextUnder handed heirs from (used_in new.turns ++ turns) (es ++ e ∷ [])
    next-all turns =
        let given = taken.taken ++ turns in
        subst (λ (us : List Turn). AreNextUnder handed heirs from us (es ++ e ∷ [])) (sym (used-then turns))
        (next-push handed heirs (place_at from (used_in x.turns ++ given)) es e (h.next given) (subst (λ (X : Type 0). X) (there given) (taken.next turns)))

    place-all : (turns : List Turn) → place_of new turns ≡ place_under handed heirs from (used_in new.turns ++ turns) (es ++ e ∷ [])
    place-all turns =
        let given = taken.taken ++ turns in
        taken.place turns
        ∙ ((λ i. place_after (h.handed_is i) (h.heirs_are i) (h.place given i) e)
        ∙ (sym (place-push handed heirs (place_at from (used_in x.turns ++ given)) es e)
        ∙ ap (λ (us : List Turn). place_under handed heirs from us (es ++ e ∷ [])) (sym (used-then turns))))

    only-all : UseTurns from (es ++ e ∷ []) (used_in new.turns)
    only-all turns path =
        let more = goes turns (follows-front (from.trail turns) es e path) in
        let asked = follows-last (from.trail turns) es e path in
        let along = λ (t : Trail). Asks (trail_after t es).rest (trail_after t es).lacked e in
        let there = subst (λ (t : Trail). Asks t.rest t.lacked e) (trail-there (more.one ∷ more.rest)) (subst along more.same asked) in
        subst (λ (us : List Turn). Plays turns us) (sym taken.used) (more.more taken.taken (taken.only more.one more.rest there))

    pub taken-on : HasTaken handed heirs sides from (es ++ e ∷ []) new
    taken-on =
        let t = (place_under handed heirs from (used_in x.turns ++ []) es).table in
        let m = moment_shown handed t e in
        let ms = moments_shown handed from.table es in
        let number : x.number + 1 ≡ length ms + 1 = ap (λ n. n + 1) (h.number ∙ sym (moments-length handed from.table es)) in
        let same : moment_shown (handed_by x.text.now) x.kernel.table e ≡ m = λ i. moment_shown (h.handed_is i) ((h.place [] i).table) e in
        let longer : length (es ++ e ∷ []) ≡ length es + 1 = length-append es (e ∷ []) in
        record {
          steady = h.steady;
          room = taken.room;
          handed_is = ap handed_by taken.text ∙ h.handed_is;
          heirs_are = ap listed taken.heir ∙ h.heirs_are;
          sides_are = taken.sides ∙ h.sides_are;
          number = taken.number ∙ (ap (λ n. n + 1) h.number ∙ sym longer);
          trimmed = taken.trimmed h.trimmed;
          next = next-all;
          only = only-all;
          place = place-all;
          pattern =
              λ n. taken.pattern n
              ∙ ((λ i. if nat_eq n (x.number + 1) then same i else h.pattern n i)
              ∙ (sym (pattern-push ms m (x.number + 1) number n) ∙ ap (λ (all : List Moment). pattern_of all n) (sym (moments-push handed heirs (place_at from (used_in x.turns ++ [])) es e))));
        }
