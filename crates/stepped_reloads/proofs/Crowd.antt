-- At each table of a reload in steps at most so many workers live as its fullest step has.
use Rattle.std.proofs.Common.{◌≡◌, ℕ, ◌<◌, ◌≤◌, ◌+◌, Bool, true, false, not, List, [], ◌∷◌, None, refl, arith, inl}
use Rattle.std.specs.Prelude.{◌&&◌, ◌||◌, ◌==◌}
use Rattle.std.specs.List.{AllByRecursion}
use Rattle.listener_set.specs.Numbers.{is_in}
use Rattle.listener_set.specs.declared.generation.Generation.{Generation}
use Rattle.vocabulary.specs.Settings.{Settings}
use Rattle.vocabulary.specs.declared.targets.Target.TheVariants.{Workers, Mend, Reopen, Reload, Upgrade, Attended, Stop}
use Rattle.vocabulary.specs.declared.table.Stance.TheVariants.{Starting, Ready, Draining, Exited}
use Rattle.definitions.specs.Table.{Process, Master, Worker, Foreign, Table, bears, same_generation, same_stance, is_worker_where}
use Rattle.definitions.specs.Master.{Record, reload_generation, addresses_of, crew_of}
use Rattle.definitions.specs.After.{crew_wanted}
use Rattle.definitions.specs.Run.{start_at}
use Rattle.definitions.specs.Plans.{only_in}
use Rattle.definitions.specs.Claims.{IsStart, run_of}
use Rattle.call_laws.specs.Pieces.{is_draining}
use Rattle.table_laws.proofs.Rows.{one, weigh, weigh-le, every-more, every-both, count-weigh, both-true}
use Rattle.table_laws.proofs.Counts.{every-any_of}
use Rattle.table_laws.proofs.Views.{named, View, Fine, live_named, eqb-refl, eqb-off}
use Rattle.table_laws.proofs.Effects.{none}
use Rattle.table_laws.proofs.Services.{sole-fine}
use Rattle.table_laws.proofs.Begins.{first_view, begin, rising-distinct}
use Rattle.table_laws.proofs.Duo.{master-below}
use Rattle.table_laws.proofs.Sets.{in-here}
use Rattle.run_laws.proofs.Logic.{Course, from-along, are-mild-anyhow, Anyhow, Unasked}
use Rattle.run_laws.proofs.Processes.{IsOf}
use Rattle.theorems.proofs.Reload.{other-next}
use Rattle.definitions.specs.Plans.{is_enough, reload_plan}
use Rattle.stepped_reloads.specs.Steps.{drained_in, is_living, living_of, ceiling_of, RunsStayBelow}
use Rattle.stepped_reloads.proofs.Living.{lives, is_left}
use Rattle.stepped_reloads.proofs.Alive.{Any, Alive, both_in}
use Rattle.stepped_reloads.proofs.Ceiling.{IsLow, any_end, stepped-run}

module _ (t : Table) (r : Record) (s : IsStart t r) where
  abbrev u : View
  u = first_view r s.agrees.holds

  abbrev dr : ℕ → Bool
  dr = drained_in t

  -- what is known of each row of the first table
  abbrev Known : Process → Type 0
  Known p = Fine u p × ((n : ℕ) → is_worker_where (same_stance Draining) (λ m. m == n) (λ g k. true) p ≡ true → dr n ≡ true)

  known : AllByRecursion Known t.rows
  known =
      every-both (Fine u) (λ p. (n : ℕ) → is_worker_where (same_stance Draining) (λ m. m == n) (λ g k. true) p ≡ true → dr n ≡ true) t.rows
      (sole-fine u (λ n. refl) t.rows (begin t r s).fine)
      (every-any_of (λ n. is_worker_where (same_stance Draining) (λ m. m == n) (λ g k. true)) t.rows)

  gone : (a b c d : Bool) → c ≡ true → one (a && (b && (not c && d))) ≤ 0
  gone true true true d e = omega arith
  gone true false true d e = omega arith
  gone false b true d e = omega arith
  gone a b false d e = absurd (cc e)

  first-alive : (g : Generation) → Alive r.pid r.generation.image dr (both_in r.generation g r.ready []) none t
  first-alive new = record {
    fact = record {
      one = record { all = every-more Known (IsOf r.pid r.generation.image) of t.rows known; some = omega (arith, (begin t r s).alone) };
      all = every-more Known Any (λ p h. tt) t.rows known;
      below = above;
      above = above;
    };
    once = λ h k. omega (arith, (begin t r s).once h k, weigh-le Known (lives is_left r.pid dr (bears h k)) (live_named r.pid h k) (once-row h k) t.rows known);
    within = omega (arith, weigh-le Known (lives is_left r.pid dr (λ h k. not (both_in r.generation new r.ready [] h k))) (λ p. 0) within-row t.rows known, zeros t.rows);
    calm = omega (arith, weigh-le Known (lives is_draining r.pid dr (λ h k. not (none h k))) (λ p. 0) calm-row t.rows known, zeros t.rows);
  }
    where
      above : r.pid < t.next_process
      above = master-below r.pid 0 t.rows t.next_process s.formed.ascending (omega (arith, (begin t r s).alone))

      of : (p : Process) → Known p → IsOf r.pid r.generation.image p
      of (Master j q i live hs) h = inl (h.0.0, h.0.1, h.0.2)
      of (Worker j q g x st hs) h = tt
      of (Foreign j hs) h = tt

      zeros : (rows : List Process) → weigh (λ (p : Process). 0) rows ≡ 0
      zeros [] = refl
      zeros (p ∷ rows) = omega (arith, zeros rows)

      less : (b c d : Bool) → one (b && (c && d)) ≤ one (b && d)
      less true true d = omega arith
      less true false d = omega arith
      less false c d = omega arith

      once-row : (h : Generation) (k : ℕ) (p : Process) → Known p → lives is_left r.pid dr (bears h k) p ≤ live_named r.pid h k p
      once-row h k (Worker n q g x Starting hs) a = less (q == r.pid) (not (dr n)) (bears h k g x)
      once-row h k (Worker n q g x Ready hs) a = less (q == r.pid) (not (dr n)) (bears h k g x)
      once-row h k (Worker n q g x Draining hs) a = gone true (q == r.pid) (dr n) (bears h k g x) (a.1 n (both-true (n == n) true (eqb-refl n n refl) refl))
      once-row h k (Worker n q g x Exited hs) a = omega arith
      once-row h k (Master n q i live hs) a = omega arith
      once-row h k (Foreign n hs) a = omega arith

      outside : (a b c d e : Bool) → d ≡ true → one (a && (b && (c && not (d || e)))) ≤ 0
      outside true true true true e is = omega arith
      outside true true false true e is = omega arith
      outside true false c true e is = omega arith
      outside false b c true e is = omega arith
      outside a b c false e is = absurd (cc is)

      within-row : (p : Process) → Known p → lives is_left r.pid dr (λ h k. not (both_in r.generation new r.ready [] h k)) p ≤ 0
      within-row (Worker n q g x Starting hs) a = absurd (cc (a.0.1.0))
      within-row (Worker n q g x Ready hs) a = outside true (q == r.pid) (not (dr n)) (named r.generation (is_in r.ready) g x) (named new (is_in []) g x) a.0.1.0
      within-row (Worker n q g x Draining hs) a = gone true (q == r.pid) (dr n) (not (both_in r.generation new r.ready [] g x)) (a.1 n (both-true (n == n) true (eqb-refl n n refl) refl))
      within-row (Worker n q g x Exited hs) a = omega arith
      within-row (Master n q i live hs) a = omega arith
      within-row (Foreign n hs) a = omega arith

      calm-row : (p : Process) → Known p → lives is_draining r.pid dr (λ h k. not (none h k)) p ≤ 0
      calm-row (Worker n q g x Starting hs) a = omega arith
      calm-row (Worker n q g x Ready hs) a = omega arith
      calm-row (Worker n q g x Draining hs) a = gone true (q == r.pid) (dr n) true (a.1 n (both-true (n == n) true (eqb-refl n n refl) refl))
      calm-row (Worker n q g x Exited hs) a = omega arith
      calm-row (Master n q i live hs) a = omega arith
      calm-row (Foreign n hs) a = omega arith

next-other : (g : Generation) → same_generation (reload_generation g) g ≡ false
next-other g = go (g.image == g.image) (eqb-off (g.config + 1) g.config (omega arith))
  where
    go : (a : Bool) → (g.config + 1 == g.config) ≡ false → (a && (g.config + 1 == g.config)) ≡ false
    go true e = e
    go false e = refl

pub runs-stay-below : RunsStayBelow
runs-stay-below t r (Reload st) turns pattern s spared =
    let B = ceiling_of r st st.surge in
    let co : Course = record { handed = None; pattern = pattern; executing = r.generation.image ∷ []; heirs = [] } in
    let acts = in-here r.generation.image r.generation.image [] refl in
    let tree = reload_plan false st.surge r st in
    let at = start_at t r.note in
    let low = IsLow r.pid r.generation.image (drained_in t) B co acts in
    let along =
    stepped-run r.pid r.generation.image (drained_in t) B co acts (crew_of r) (crew_wanted r (Reload st)) (next-other r.generation) (other-next r.generation)
    r.retries (only_in (addresses_of r) st.listeners) st.workers (is_enough r st) false st.surge r.ready (addresses_of r) st.listeners refl (rising-distinct r.ready s.rising) (omega arith)
    at (first-alive t r s (reload_generation r.generation)) in
    let all = from-along low (any_end r.pid r.generation.image (drained_in t) B co acts) Anyhow Unasked co tree at along spared (are-mild-anyhow co tree at) in
    every-more low (λ p. living_of t r p.table ≤ B) (λ p h. omega (arith, h, count-weigh (is_living r.pid (drained_in t)) p.table.rows))
    (run_of r (Reload st) turns pattern t).passed all.always
runs-stay-below t r (Workers n) turns pattern start spared = tt
runs-stay-below t r (Mend overdue) turns pattern start spared = tt
runs-stay-below t r Reopen turns pattern start spared = tt
runs-stay-below t r (Upgrade s) turns pattern start spared = tt
runs-stay-below t r (Attended s) turns pattern start spared = tt
runs-stay-below t r (Stop quick) turns pattern start spared = tt
