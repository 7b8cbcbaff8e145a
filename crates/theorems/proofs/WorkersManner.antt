-- The manner of a change of the number of workers.
use Rattle.std.proofs.Common.{None, ◌≡◌, ◌≢◌, ℕ, ◌<◌, ◌≤◌, Bool, true, false, not, List, [], ◌∷◌, refl, sym, ◌∙◌, subst, arith}
use Rattle.std.specs.Prelude.{⊤, ◌&&◌, ◌==◌, nat_lt, filter, reverse, ◌||◌}
use Rattle.std.proofs.lemmas.Bool.Decides.{nat_tests}
use Rattle.listener_set.specs.Numbers.{is_in, numbers_below}
use Rattle.listener_set.specs.declared.generation.Generation.{Generation}
use Rattle.vocabulary.specs.declared.targets.Target.TheVariants.{Workers}
use Rattle.vocabulary.specs.declared.plans.Side.TheVariants.{Old, Target}
use Rattle.definitions.specs.Table.{Table, bears, same_generation}
use Rattle.definitions.specs.Master.{Crew, Record, crew_of, sides_of}
use Rattle.definitions.specs.Run.{Tree, Pattern, Progress, Ending, At, start_at, outcome_of}
use Rattle.definitions.specs.Plans.{plan_tree, workers_tree, settle}
use Rattle.call_laws.specs.Pieces.{quits, lacked_last}
use Rattle.definitions.specs.Claims.{has_ready, is_old_side, IsStart}
use Rattle.theorems.proofs.Headlines.{InManner}
use Rattle.table_laws.proofs.Views.{eqb-off}
use Rattle.table_laws.proofs.Sets.{in-here, in-filter-of, below-of}
use Rattle.table_laws.proofs.Small.{in-reverse, not-is, true-false}
use Rattle.run_laws.proofs.Logic.{Course, Along, Anyhow, Unasked}
use Rattle.run_laws.proofs.Lights.{Light, no_claim, any_end, calm-along}
use Rattle.run_laws.proofs.Staying.{Unlost, Stands, standing}
use Rattle.run_laws.proofs.Taken.{NotTaken, untouched, loose, loosens}
use Rattle.run_laws.proofs.Firsts.{first-in, first-low, first-stands, first-untouched}
use Rattle.run_laws.proofs.Calms.{IsCalm, by-itself, calm-settle, calm-quits, calm-starts, free-along, ends-settle, ends-quits}
use Rattle.run_laws.proofs.Manners.{stays-from, kills-from}

-- Of one generation, another number is another name.
pub free-number : (g : Generation) (x k : ℕ) → k ≢ x → bears g x g k ≡ false
free-number g x k ne = go (same_generation g g) (k == x) (eqb-off k x ne)
  where
    go : (a b : Bool) → b ≡ false → (a && b) ≡ false
    go true b e = e
    go false b e = refl

-- the course of a plan of one master
abbrev pub own_course : Record → Pattern → Course
own_course r pattern = record { handed = None; pattern = pattern; executing = r.generation.image ∷ []; heirs = [] }

pub own-acts : (r : Record) (pattern : Pattern) → is_in (own_course r pattern).executing r.generation.image ≡ true
own-acts r pattern = in-here r.generation.image r.generation.image [] refl

module _ (t : Table) (r : Record) (n : ℕ) (pattern : Pattern) (s : IsStart t r) (p k : ℕ) (on : has_ready t p k ≡ true) where
  abbrev g : Generation
  g = r.generation

  abbrev crew : Crew
  crew = crew_of r

  abbrev R : List ℕ
  R = r.ready

  abbrev low : k < 1024
  low = first-low t r s p k on

  abbrev co : Course
  co = own_course r pattern

  abbrev fresh : List ℕ
  fresh = filter (λ j. not (is_in R j)) (numbers_below n)

  abbrev surplus : List ℕ
  surplus = reverse (filter (λ j. not (nat_lt j n)) R)

  free-fresh : (x : ℕ) → is_in fresh x ≡ true → bears g x g k ≡ false
  free-fresh x e =
      let off = not-is (is_in R x) (in-filter-of (λ j. not (is_in R j)) (numbers_below n) x e).1 in
      free-number g x k (λ same. true-false (is_in R x) (subst (λ z. is_in R z ≡ true) same (first-in t r s p k on)) off)

  at-least : (x : ℕ) → is_in surplus x ≡ true → n ≤ x
  at-least x e =
      let off = not-is (nat_lt x n) (in-filter-of (λ j. not (nat_lt j n)) R x (sym (in-reverse (filter (λ j. not (nat_lt j n)) R) x) ∙ e)).1 in
      grind (arith, nat_tests)

  ---- It stays

  abbrev Need : Ending → Progress → Type 0
  Need e q = (is_old_side (outcome_of (sides_of r (Workers n)) e (lacked_last q.lacked)) || nat_lt k n) ≡ true

  abbrev post : Ending → Progress → Type 0
  post e q = Need e q → Stands r.pid g.image p g k low q.table

  abbrev light : Light g.image (Unlost p) Unasked
  light = standing r.pid g.image p g k low

  ends : (e : Ending) (q : Progress) → light.Holds q.table → post e q
  ends e q st need = st

  abbrev way_on : Tree
  way_on = quits g.image g surplus (settle g.image crew (numbers_below n) Target r.retries)

  on-calm : (b : Bool) → nat_lt k n ≡ b → IsCalm g.image (Unlost p) Unasked light post ends co (own-acts r pattern) way_on
  on-calm true e =
      calm-quits g.image (Unlost p) Unasked light post ends co (own-acts r pattern) g surplus (settle g.image crew (numbers_below n) Target r.retries)
      (λ x in_it. let le = at-least x in_it in (free-number g x k (λ same. let lt : k < n = grind (arith, nat_tests) in absurd (omega arith)), tt))
      (calm-settle g.image (Unlost p) Unasked light post ends co (own-acts r pattern) Target crew (numbers_below n) r.retries tt)
  on-calm false e =
      by-itself g.image (Unlost p) Unasked light post ends co (own-acts r pattern) way_on
      (λ q st. free-along (Unlost p) post co (λ q need. absurd (cc)) way_on q
      (ends-quits (λ e. (q : Progress) → post (At e) q) g.image g surplus (settle g.image crew (numbers_below n) Target r.retries)
      (ends-settle (λ e. (q : Progress) → post (At e) q) g.image crew (numbers_below n) Target r.retries (λ q need. absurd (cc)) (λ q need. absurd (cc)))))

  stays-along : Along no_claim post (Unlost p) Unasked co (workers_tree g.image crew R r.retries n) (start_at t r.note)
  stays-along =
      calm-along g.image (Unlost p) Unasked light post ends co (own-acts r pattern) (workers_tree g.image crew R r.retries n)
      (calm-starts g.image (Unlost p) Unasked light post ends co (own-acts r pattern) crew fresh way_on (λ forked. quits g.image g forked (settle g.image crew R Old r.retries))
      (λ x e. (tt, free-fresh x e)) (on-calm (nat_lt k n) refl)
      (λ forked within. calm-quits g.image (Unlost p) Unasked light post ends co (own-acts r pattern) g forked (settle g.image crew R Old r.retries) (λ x e. (free-fresh x (within x e), tt))
      (calm-settle g.image (Unlost p) Unasked light post ends co (own-acts r pattern) Old crew R r.retries tt)))
      (start_at t r.note) (first-stands t r s p k on)

  ---- No kill takes it

  abbrev closely : Light g.image Anyhow (NotTaken p)
  closely = untouched r.pid g.image p g k low

  abbrev loosely : Light g.image Anyhow (NotTaken p)
  loosely = loose r.pid g.image p g k low

  on-untaken : (b : Bool) → nat_lt k n ≡ b → IsCalm g.image Anyhow (NotTaken p) closely any_end (λ e q h. tt) co (own-acts r pattern) way_on
  on-untaken true e =
      calm-quits g.image Anyhow (NotTaken p) closely any_end (λ e q h. tt) co (own-acts r pattern) g surplus
      (settle g.image crew (numbers_below n) Target r.retries)
      (λ x in_it. let le = at-least x in_it in (free-number g x k (λ same. let lt : k < n = grind (arith, nat_tests) in absurd (omega arith)), tt))
      (calm-settle g.image Anyhow (NotTaken p) closely any_end (λ e q h. tt) co (own-acts r pattern) Target crew (numbers_below n) r.retries tt)
  on-untaken false e =
      by-itself g.image Anyhow (NotTaken p) closely any_end (λ e q h. tt) co (own-acts r pattern) way_on
      (λ q close. calm-along g.image Anyhow (NotTaken p) loosely any_end (λ e q h. tt) co (own-acts r pattern) way_on
      (calm-quits g.image Anyhow (NotTaken p) loosely any_end (λ e q h. tt) co (own-acts r pattern) g surplus (settle g.image crew (numbers_below n) Target r.retries) (λ x in_it. (tt, tt))
      (calm-settle g.image Anyhow (NotTaken p) loosely any_end (λ e q h. tt) co (own-acts r pattern) Target crew (numbers_below n) r.retries
      (λ x in_it. free-number g x k (λ same. let lt = below-of n x in_it in let ge : n ≤ k = grind (arith, nat_tests) in absurd (omega arith)))))
      q (loosens r.pid g.image p g k low q.table close))

  untaken-along : Along no_claim any_end Anyhow (NotTaken p) co (workers_tree g.image crew R r.retries n) (start_at t r.note)
  untaken-along =
      calm-along g.image Anyhow (NotTaken p) closely any_end (λ e q h. tt) co (own-acts r pattern) (workers_tree g.image crew R r.retries n)
      (calm-starts g.image Anyhow (NotTaken p) closely any_end (λ e q h. tt) co (own-acts r pattern) crew fresh way_on (λ forked. quits g.image g forked (settle g.image crew R Old r.retries))
      (λ x e. (tt, free-fresh x e)) (on-untaken (nat_lt k n) refl)
      (λ forked within. calm-quits g.image Anyhow (NotTaken p) closely any_end (λ e q h. tt) co (own-acts r pattern) g forked (settle g.image crew R Old r.retries) (λ x e. (free-fresh x (within x e), tt))
      (calm-settle g.image Anyhow (NotTaken p) closely any_end (λ e q h. tt) co (own-acts r pattern) Old crew R r.retries tt)))
      (start_at t r.note) (first-untouched t r s p k on)

pub workers_manner : (n : ℕ) → InManner (Workers n)
workers_manner n t r turns pattern a = (
  λ p k on need. stays-from t r a.start p k on (own_course r pattern) (plan_tree r (Workers n) [])
      (Need t r n pattern a.start p k on) (stays-along t r n pattern a.start p k on) a.spared need,
  kills-from t r (own_course r pattern) (plan_tree r (Workers n) []) (λ e q. ⊤) a.spared (λ p k on. untaken-along t r n pattern a.start p k on),
)
