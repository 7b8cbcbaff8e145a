-- Entries that are next one after another are explained, and the other way round.
use Rattle.std.proofs.Common.{◌≡◌, ℕ, suc, ◌+◌, Bool, true, false, List, [], ◌∷◌, Option, Some, None, refl, sym, ◌∙◌, ap, subst, arith}
use Rattle.std.specs.Prelude.{if◌then◌else◌, unwrap_or, slice_get, is_some}
use Rattle.std.proofs.lemmas.Option.{none-some}
use Rattle.definitions.specs.Table.{Table}
use Rattle.definitions.specs.Master.{Record, handover_for}
use Rattle.vocabulary.specs.declared.targets.Target.{Target}
use Rattle.vocabulary.specs.declared.plans.PidNote.{PidNote}
use Rattle.definitions.specs.Calls.{Stepped, Handed}
use Rattle.definitions.specs.Run.{Tree, Entry, Moment, Pattern}
use Rattle.definitions.specs.Plans.{Turn, plan_tree}
use Rattle.call_laws.specs.Pieces.{quiet, executing_at, executing_after}
use Rattle.plan_walk.specs.Path.{Trail, begin, advance, rest_after, trail_after, Follows}
use Rattle.rollback_plan.specs.Following.{follow}
use Rattle.plan_executor.specs.Replays.{Replays}
use Rattle.definitions.specs.Claims.{names_any, refused_among, heirs_of}
use Rattle.certifier.specs.Shown.{moment_shown, moments_shown, pattern_of, stepped_at}
use Rattle.certifier.specs.Places.{Place, Start, place_at, place_after, place_after_all, AreNext}
use Rattle.certifier.specs.Explained.{pattern_shown, IsExplainedBy}

---- Patterns that go through moments

-- from the n-th moment on, a pattern has these
abbrev pub GoesThrough : Pattern → ℕ → List Moment → Type 0
GoesThrough pattern n [] = Unit {0}
GoesThrough pattern n (m ∷ ms) = (pattern (n + 1) ≡ m) × GoesThrough pattern (n + 1) ms

through : (pattern : Pattern) (n : ℕ) (ms : List Moment) → ((i : ℕ) → pattern (n + suc i) ≡ unwrap_or (slice_get ms i) quiet) → GoesThrough pattern n ms
through pattern n [] same = tt
through pattern n (m ∷ ms) same =
    (same 0, through pattern (n + 1) ms (λ i. let at : (n + 1) + suc i ≡ n + suc (suc i) = omega arith in ap pattern at ∙ same (suc i)))

pub goes-through : (pattern : Pattern) (ms : List Moment) → ((n : ℕ) → pattern n ≡ pattern_of ms n) → GoesThrough pattern 0 ms
goes-through pattern ms same = through pattern 0 ms (λ i. let at : 0 + suc i ≡ suc i = omega arith in ap pattern at ∙ same (suc i))

---- What is next is explained

edge-on : (found : Option (Option PidNote × Tree)) → is_some found ≡ true → is_some (rest_after found) ≡ true
edge-on None some = some
edge-on (Some edge) some = refl

edge-back : (found : Option (Option PidNote × Tree)) → is_some (rest_after found) ≡ true → is_some found ≡ true
edge-back None some = some
edge-back (Some edge) some = refl

pub next-follows : (handed : Handed) (heirs : List ℕ) (p : Place) (es : List Entry) → AreNext handed heirs p es → Follows p.trail es
next-follows handed heirs p [] all = tt
next-follows handed heirs p (e ∷ es) all = (all.0.asks, next-follows handed heirs (place_after handed heirs p e) es all.1)

pub next-edges : (handed : Handed) (heirs : List ℕ) (p : Place) (es : List Entry) → is_some p.trail.rest ≡ true →
    AreNext handed heirs p es → is_some (trail_after p.trail es).rest ≡ true
next-edges handed heirs p [] some all = some
next-edges handed heirs p (e ∷ es) some all = next-edges handed heirs (place_after handed heirs p e) es (edge-on (follow p.trail.rest e.answer) all.0.edge) all.1

pub next-trail : (handed : Handed) (heirs : List ℕ) (p : Place) (es : List Entry) → (place_after_all handed heirs p es).trail ≡ trail_after p.trail es
next-trail handed heirs p [] = refl
next-trail handed heirs p (e ∷ es) = next-trail handed heirs (place_after handed heirs p e) es

pub next-replays : (handed : Handed) (heirs : List ℕ) (pattern : Pattern) (n : ℕ) (p : Place) (es : List Entry) →
    GoesThrough pattern n (moments_shown handed p.table es) → AreNext handed heirs p es →
    Replays handed pattern n p.table es (place_after_all handed heirs p es).table
next-replays handed heirs pattern n p [] goes all = refl
next-replays handed heirs pattern n p (e ∷ es) goes all =
    let stepped : stepped_at handed p.table (moment_shown handed p.table e) e ≡ stepped_at handed p.table (pattern (n + 1)) e = ap (λ (m : Moment). stepped_at handed p.table m e) (sym goes.0) in (
      ap (λ (s : Stepped). s.answer) (sym stepped) ∙ all.0.gives,
      subst (λ (s : Stepped). Replays handed pattern (n + 1) s.table es (place_after_all handed heirs (place_after handed heirs p e) es).table) stepped
          (next-replays handed heirs pattern (n + 1) (place_after handed heirs p e) es goes.1 all.1),
    )

-- nobody executing is named first where nobody is at the first of the calls
passed-over : (executing heirs : List ℕ) (pattern : Pattern) (n : ℕ) (e : Entry) (es : List Entry) (m : Moment) →
    pattern (n + 1) ≡ m → names_any (executing_at e.call executing heirs) m.exits ≡ false →
    refused_among executing heirs pattern n (e ∷ es) ≡ refused_among (executing_after e.call executing heirs) heirs pattern (n + 1) es
passed-over executing heirs pattern n e es m is none =
    ap (λ b. if b then Some (n + 1) else refused_among (executing_after e.call executing heirs) heirs pattern (n + 1) es)
    (ap (λ (x : Moment). names_any (executing_at e.call executing heirs) x.exits) is ∙ none)

pub next-spares : (handed : Handed) (heirs : List ℕ) (pattern : Pattern) (n : ℕ) (p : Place) (es : List Entry) →
    GoesThrough pattern n (moments_shown handed p.table es) → AreNext handed heirs p es →
    refused_among p.executing heirs pattern n es ≡ None
next-spares handed heirs pattern n p [] goes all = refl
next-spares handed heirs pattern n p (e ∷ es) goes all =
    passed-over p.executing heirs pattern n e es (moment_shown handed p.table e) goes.0 all.0.spares
    ∙ next-spares handed heirs pattern (n + 1) (place_after handed heirs p e) es goes.1 all.1

---- What is explained is next

trail-kept : (t : Trail) (es : List Entry) → is_some (trail_after t es).rest ≡ true → is_some t.rest ≡ true
trail-kept t [] some = some
trail-kept t (e ∷ es) some = there t.rest (edge-back (follow t.rest e.answer) (trail-kept (advance t e) es some))
  where
    there : (rest : Option Tree) → is_some (follow rest e.answer) ≡ true → is_some rest ≡ true
    there None found = found
    there (Some tree) found = refl

unnamed : (b : Bool) (k : ℕ) (rest : Option ℕ) → (if b then Some k else rest) ≡ None → (b ≡ false) × (rest ≡ None)
unnamed true k rest none = absurd (none-some k (sym none))
unnamed false k rest none = (refl, none)

pub explained-next : (handed : Handed) (heirs : List ℕ) (pattern : Pattern) (n : ℕ) (p : Place) (es : List Entry)
    (last : Table) → GoesThrough pattern n (moments_shown handed p.table es) → Follows p.trail es →
    is_some (trail_after p.trail es).rest ≡ true → Replays handed pattern n p.table es last →
    refused_among p.executing heirs pattern n es ≡ None → AreNext handed heirs p es
explained-next handed heirs pattern n p [] last goes follows edges replays spares = tt
explained-next handed heirs pattern n p (e ∷ es) last goes follows edges replays spares =
    let stepped : stepped_at handed p.table (pattern (n + 1)) e ≡ stepped_at handed p.table (moment_shown handed p.table e) e = ap (λ (m : Moment). stepped_at handed p.table m e) goes.0 in
    let none = unnamed (names_any (executing_at e.call p.executing heirs) (pattern (n + 1)).exits) (n + 1) (refused_among (executing_after e.call p.executing heirs) heirs pattern (n + 1) es) spares in (
      record {
        asks = follows.0;
        edge = edge-back (follow p.trail.rest e.answer) (trail-kept (advance p.trail e) es edges);
        gives = ap (λ (s : Stepped). s.answer) (sym stepped) ∙ replays.0;
        spares = ap (λ (m : Moment). names_any (executing_at e.call p.executing heirs) m.exits) (sym goes.0) ∙ none.0;
      },
      explained-next handed heirs pattern (n + 1) (place_after handed heirs p e) es last goes.1 follows.1 edges
          (subst (λ (s : Stepped). Replays handed pattern (n + 1) s.table es last) stepped replays.1) none.1,
    )

---- Of a target

-- where a transcript of the target begins
abbrev pub origin : Table → Record → Target → Start
origin t r target = record { trail = λ turns. begin (plan_tree r target turns) r.note; table = t; executing = r.generation.image ∷ [] }

-- the same under turns
abbrev pub begins : Table → Record → Target → List Turn → Place
begins t r target turns = place_at (origin t r target) turns

module _ (t : Table) (r : Record) (target : Target) (turns : List Turn) (es : List Entry) where
  pub is-explained : AreNext (handover_for r target) (heirs_of r target) (begins t r target turns) es → IsExplainedBy t r target turns es
  is-explained all =
      let handed = handover_for r target in
      let heirs = heirs_of r target in
      let p = begins t r target turns in
      let goes = goes-through (pattern_shown t r target es) (moments_shown handed t es) (λ n. refl) in
      record {
        path = next-follows handed heirs p es all;
        edges = next-edges handed heirs p es refl all;
        last = (place_after_all handed heirs p es).table;
        replays = next-replays handed heirs (pattern_shown t r target es) 0 p es goes all;
        spares = next-spares handed heirs (pattern_shown t r target es) 0 p es goes all;
      }

  pub is-next : IsExplainedBy t r target turns es → AreNext (handover_for r target) (heirs_of r target) (begins t r target turns) es
  is-next h =
      let goes = goes-through (pattern_shown t r target es) (moments_shown (handover_for r target) t es) (λ n. refl) in
      explained-next (handover_for r target) (heirs_of r target) (pattern_shown t r target es) 0 (begins t r target turns) es h.last goes h.path h.edges h.replays h.spares
