-- Which entries a step asks for, and which reports a path has.
use Rattle.std.proofs.Common.{◌≡◌, ℕ, true, false, not, List, Option, Some, None, refl, sym, ◌∙◌}
use Rattle.std.specs.Prelude.{is_some, is_none}
use Rattle.vocabulary.specs.declared.reports.Outcome.{Outcome}
use Rattle.vocabulary.specs.declared.reports.Outcome.TheVariants as outcome
use Rattle.vocabulary.specs.declared.plans.End.TheVariants.{Done, RolledBack, ShortOld, ShortTarget, Split, JoinReady, JoinBack, Join}
use Rattle.vocabulary.specs.declared.plans.PidNote.{PidNote}
use Rattle.definitions.specs.Run.{Tree, Ends, Does, Entry, Report, Lack}
use Rattle.definitions.specs.Master.{Sides}
use Rattle.call_laws.specs.Pieces.{lacked_last}
use Rattle.plan_walk.specs.Path.{Trail, Asks, rest_after, IsOver, IsOutcome, Reports}

-- an entry that is asked for as another is, is the same call by the same master
pub asked-same : (rest : Option Tree) (lacked : List Lack) (x e : Entry) → Asks rest lacked x → Asks rest lacked e → (x.by ≡ e.by) × (x.call ≡ e.call)
asked-same None lacked x e one other = absurd one
asked-same (Some (Ends end)) lacked x e one other = absurd one
asked-same (Some (Does by order set branches)) lacked x e one other = (one.0 ∙ sym other.0, one.1 ∙ sym other.1)

pub asked-too : (rest : Option Tree) (lacked : List Lack) (x e : Entry) → Asks rest lacked x → x.by ≡ e.by → x.call ≡ e.call → Asks rest lacked e
asked-too None lacked x e one by call = one
asked-too (Some (Ends end)) lacked x e one by call = one
asked-too (Some (Does by order set branches)) lacked x e one same call = (sym same ∙ one.0, sym call ∙ one.1)

pub asked-left : (rest : Option Tree) (lacked : List Lack) (e : Entry) → Asks rest lacked e → IsOver rest → ⊥
asked-left None lacked e asks over = asks
asked-left (Some (Ends end)) lacked e asks over = asks
asked-left (Some (Does by order set branches)) lacked e asks over = over

---- Edges

-- an edge is there where the rest behind it is
pub edge-there : (found : Option (Option PidNote × Tree)) → not (is_none (rest_after found)) ≡ true → is_some found ≡ true
edge-there None there = there
edge-there (Some edge) there = refl

pub edge-leads : (found : Option (Option PidNote × Tree)) → is_some found ≡ true → not (is_none (rest_after found)) ≡ true
edge-leads None there = there
edge-leads (Some edge) there = refl

---- Reports

same-outcome : (sides : Sides) (rest : Option Tree) (lacking : List ℕ) (one other : Outcome) →
    IsOutcome sides rest lacking one → IsOutcome sides rest lacking other → one ≡ other
same-outcome sides None lacking one other h k = h ∙ sym k
same-outcome sides (Some (Ends end)) lacking one other h k = h ∙ sym k
same-outcome sides (Some (Does by order set branches)) lacking one other h k = absurd h

-- a path has one report
pub one-report : (sides : Sides) (t : Trail) (one other : Report) → Reports sides t one → Reports sides t other → one ≡ other
one-report sides t one other h k =
    let outcomes = same-outcome sides t.rest (lacked_last t.lacked) one.outcome other.outcome h.outcome k.outcome in
    let causes = h.cause ∙ sym k.cause in
    let notes = h.note ∙ sym k.note in
    let readies = h.ready ∙ sym k.ready in
    λ i. record { outcome = outcomes i; cause = causes i; note = notes i; ready = readies i }

-- a path at an end is not lost
pub not-lost : (sides : Sides) (rest : Option Tree) (lacking : List ℕ) (o : Outcome) → is_some rest ≡ true →
    IsOutcome sides rest lacking o → o ≡ outcome.Lost → ⊥
not-lost sides None lacking o some is lost = let none : false ≡ true = some in cc
not-lost sides (Some (Ends Done)) lacking o some is lost = let e : outcome.Done ≡ outcome.Lost = sym is ∙ lost in cc
not-lost sides (Some (Ends Split)) lacking o some is lost = let e : outcome.Done ≡ outcome.Lost = sym is ∙ lost in cc
not-lost sides (Some (Ends JoinReady)) lacking o some is lost = let e : outcome.Done ≡ outcome.Lost = sym is ∙ lost in cc
not-lost sides (Some (Ends JoinBack)) lacking o some is lost = let e : outcome.Done ≡ outcome.Lost = sym is ∙ lost in cc
not-lost sides (Some (Ends Join)) lacking o some is lost = let e : outcome.Done ≡ outcome.Lost = sym is ∙ lost in cc
not-lost sides (Some (Ends RolledBack)) lacking o some is lost = let e : outcome.RolledBack ≡ outcome.Lost = sym is ∙ lost in cc
not-lost sides (Some (Ends ShortOld)) lacking o some is lost = let e = sym is ∙ lost in cc
not-lost sides (Some (Ends ShortTarget)) lacking o some is lost = let e = sym is ∙ lost in cc
not-lost sides (Some (Does by order set branches)) lacking o some is lost = is
