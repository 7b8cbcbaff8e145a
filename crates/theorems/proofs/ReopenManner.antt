-- The manner of a reopening.
use Rattle.std.proofs.Common.{◌≡◌, ℕ, ◌+◌, ◌<◌, Bool, true, false, List, [], ◌∷◌, None, refl}
use Rattle.std.specs.Prelude.{⊤, ◌||◌}
use Rattle.std.specs.List.{AllByRecursion, list_any}
use Rattle.listener_set.specs.declared.generation.Generation.{Generation}
use Rattle.vocabulary.specs.declared.targets.Target.{Target as Wanted}
use Rattle.vocabulary.specs.declared.targets.Target.TheVariants.{Reopen}
use Rattle.vocabulary.specs.declared.plans.Side.TheVariants.{Target}
use Rattle.vocabulary.specs.declared.plans.Order.TheVariants.{Make}
use Rattle.vocabulary.specs.declared.calls.Call.TheVariants.{Usr1}
use Rattle.vocabulary.specs.declared.calls.Reply.TheVariants as reply
use Rattle.definitions.specs.Table.{Table}
use Rattle.definitions.specs.Master.{Crew, Record, crew_of, sides_of}
use Rattle.definitions.specs.Run.{Tree, Nothing, reply_of, Pattern, Progress, Ending, At, Lost, Ran, run_with}
use Rattle.definitions.specs.Run.{goes_with, after_call, after_moment, start_at, outcome_of}
use Rattle.call_laws.specs.Pieces.{among, usr1s, noted, lacked_last, answered}
use Rattle.definitions.specs.Plans.{plan_tree, reopen_tree, settle}
use Rattle.definitions.specs.Claims.{has_ready, is_usr1_of, IsStart, Says, run_of}
use Rattle.theorems.proofs.Headlines.{InManner}
use Rattle.table_laws.proofs.Effects.{bears-refl}
use Rattle.table_laws.proofs.Rows.{every-more}
use Rattle.theorems.proofs.Reopen.{reopen_headline}
use Rattle.run_laws.proofs.Logic.{Course, Along, Anyhow, Unasked}
use Rattle.run_laws.proofs.Lights.{Light, no_claim, any_end, calm-along}
use Rattle.run_laws.proofs.Staying.{Unlost, Stands, standing}
use Rattle.run_laws.proofs.Taken.{NotTaken, untouched}
use Rattle.run_laws.proofs.Firsts.{first-low, first-stands, first-untouched}
use Rattle.run_laws.proofs.Calms.{calm-settle, calm-usr1s}
use Rattle.run_laws.proofs.Manners.{stays-from, kills-from}
use Rattle.theorems.proofs.WorkersManner.{own_course, own-acts}

module _ (t : Table) (r : Record) (pattern : Pattern) (s : IsStart t r) (p k : ℕ) (on : has_ready t p k ≡ true) where
  abbrev g : Generation
  g = r.generation

  abbrev crew : Crew
  crew = crew_of r

  abbrev low : k < 1024
  low = first-low t r s p k on

  abbrev co : Course
  co = own_course r pattern

  abbrev Need : Ending → Progress → Type 0
  Need e q = ⊤

  abbrev post : Ending → Progress → Type 0
  post e q = Need e q → Stands r.pid g.image p g k low q.table

  abbrev light : Light g.image (Unlost p) Unasked
  light = standing r.pid g.image p g k low

  ends : (e : Ending) (q : Progress) → light.Holds q.table → post e q
  ends e q st need = st

  stays-along : Along no_claim post (Unlost p) Unasked co (reopen_tree g.image crew r.ready r.retries) (start_at t r.note)
  stays-along =
      calm-along g.image (Unlost p) Unasked light post ends co (own-acts r pattern) (reopen_tree g.image crew r.ready r.retries)
      (calm-usr1s g.image (Unlost p) Unasked light post ends co (own-acts r pattern) g r.ready (settle g.image crew r.ready Target r.retries) (λ x. (tt, tt))
      (calm-settle g.image (Unlost p) Unasked light post ends co (own-acts r pattern) Target crew r.ready r.retries tt))
      (start_at t r.note) (first-stands t r s p k on)

  abbrev closely : Light g.image Anyhow (NotTaken p)
  closely = untouched r.pid g.image p g k low

  untaken-along : Along no_claim any_end Anyhow (NotTaken p) co (reopen_tree g.image crew r.ready r.retries) (start_at t r.note)
  untaken-along =
      calm-along g.image Anyhow (NotTaken p) closely any_end (λ e q h. tt) co (own-acts r pattern) (reopen_tree g.image crew r.ready r.retries)
      (calm-usr1s g.image Anyhow (NotTaken p) closely any_end (λ e q h. tt) co (own-acts r pattern) g r.ready (settle g.image crew r.ready Target r.retries) (λ x. (tt, tt))
      (calm-settle g.image Anyhow (NotTaken p) closely any_end (λ e q h. tt) co (own-acts r pattern) Target crew r.ready r.retries tt))
      (start_at t r.note) (first-untouched t r s p k on)

---- Each is told

abbrev Told : Generation → Ran → ℕ → Type 0
Told g ran k = list_any (λ e. is_usr1_of g k e.call) ran.entries ≡ true

-- A run of these calls that is not lost has made them all.
told :
    (by : ℕ) (g : Generation) (ks : List ℕ) (rest : Tree) (pattern : Pattern) (p : Progress) →
    (((run_with None (usr1s by g ks rest) pattern p).ending ≡ Lost) → ⊥) →
    AllByRecursion (Told g (run_with None (usr1s by g ks rest) pattern p)) ks
told by g [] rest pattern p h = tt
told by g (x ∷ ks) rest pattern p h =
    let order = Make (Usr1 g x) in
    let moment = pattern (p.calls + 1) in
    let middle = after_moment moment.exits p in
    let st = answered None by order moment.fate middle in
    let next = after_call by order [] st middle in
    let more = usr1s by g ks rest in
    elim (among (reply.Fine ∷ []) (reply_of [] st.answer)) as (λ b.
    let later : Ran =
    elim b as (λ c. Ran)
    [ true ↦ run_with None more pattern (noted None next) | false ↦ goes_with None Nothing (reply_of [] st.answer) pattern next ]
    in
    (later.ending ≡ Lost → ⊥) →
    ((is_usr1_of g x (Usr1 g x) || list_any (λ e. is_usr1_of g x e.call) later.entries) ≡ true) × AllByRecursion
    (λ k. (is_usr1_of g k (Usr1 g x) || list_any (λ e. is_usr1_of g k e.call) later.entries) ≡ true) ks) [
      | true ↦ λ h.
          (rw (bears-refl g x) refl, every-more (Told g (run_with None more pattern (noted None next))) (λ k. (is_usr1_of g k (Usr1 g x) || list_any (λ e. is_usr1_of g k e.call) (run_with None more pattern (noted None next)).entries) ≡ true) (λ k e. later (is_usr1_of g k (Usr1 g x)) _ e) ks (told by g ks rest pattern (noted None next) h))
      | false ↦ λ h. absurd (h refl)
    ] h
  where
    later : (a b : Bool) → b ≡ true → (a || b) ≡ true
    later true b e = refl
    later false b e = e

pub not-lost :
    (r : Record) (target : Wanted) (first : Table) (e : Ending) (q : Progress) →
    Says r target (outcome_of (sides_of r target) e (lacked_last q.lacked)) first q.table → e ≡ Lost → ⊥
not-lost r target first (At end) q says same = cc same
not-lost r target first Lost q says same = says

pub reopen_manner : InManner Reopen
reopen_manner t r turns pattern a =
    let ran = run_of r Reopen [] pattern t in
    let keeps = reopen_headline t r turns pattern a in (
      λ p k on need. stays-from t r a.start p k on (own_course r pattern) (plan_tree r Reopen []) (λ e q. ⊤)
          (stays-along t r pattern a.start p k on) a.spared tt,
      told r.generation.image r.generation r.ready (settle r.generation.image (crew_of r) r.ready Target r.retries)
          pattern (start_at t r.note) (not-lost r Reopen t ran.ending ran.last keeps.says),
      kills-from t r (own_course r pattern) (plan_tree r Reopen []) (λ e q. ⊤) a.spared (λ p k on. untaken-along t r pattern a.start p k on),
    )
