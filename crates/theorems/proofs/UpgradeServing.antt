-- An upgrade's way back at the second question: the old workers are gone, and the new master serves until they are started again.
use Rattle.std.proofs.Common.{◌≢◌, ℕ, ◌+◌, true, List, [], ◌∷◌, length, refl, sym, subst, arith, inl, inr}
use Rattle.listener_set.specs.Numbers.{is_in}
use Rattle.vocabulary.specs.declared.plans.Order.TheVariants.{Make}
use Rattle.vocabulary.specs.declared.calls.Call.TheVariants.{TermMaster}
use Rattle.definitions.specs.Table.{File, Hold, Caller}
use Rattle.definitions.specs.Calls.{own_step}
use Rattle.definitions.specs.Plans.{then_edge, back_alone, back_from, back_serving}
use Rattle.definitions.specs.Run.{Ending, Progress, Return, faults_since, after_call}
use Rattle.table_laws.proofs.Views.{Names, named, View, eqb-is, eqb-refl}
use Rattle.table_laws.proofs.Effects.{none}
use Rattle.call_laws.proofs.Cases.{unfailing}
use Rattle.run_laws.proofs.Rules.{IsGood, Scene, view, Band, Only, marks-plain, rule-step, Answers, grounded}
use Rattle.table_laws.proofs.Duo.{OneOther, alone-terminated, with_other}
use Rattle.theorems.proofs.UpgradeStage.{Given, g, new, old_crew, R, H0, f, co, acts, inv, post, Goes, u, w, pair_scene}
use Rattle.theorems.proofs.UpgradeStage.{Serve, good-pair, hold-old, Fits, enough-old}
use Rattle.theorems.proofs.UpgradeBack.{Aside, goes-back-alone, restart}

-- Back at the second question, where the old workers are gone and the new master serves, or is dead: the old ones are started
-- again before it ends, and what fails of that counts.
module _ (c : Given) (before : ℕ) (fits : Fits c (record { question = 2; faults = before } ∷ [])) (m : ℕ)
    (ne : m ≢ c.rec.pid) (hs : List Hold) (r names : Names) (d : ℕ) (serve : Serve c (w c m hs none r) names d) where
  abbrev returns : List Return
  returns = record { question = 2; faults = before } ∷ []

  abbrev I : Progress → Type 0
  I = inv c

  abbrev P : Ending → Progress → Type 0
  P = post c

  abbrev v : View
  v = with_other m (u c)

  abbrev two : List File → Scene c.rec.pid c.rec.generation.image
  two files = pair_scene c (w c m hs none r) ne (eqb-refl c.rec.pid c.rec.pid refl) names d (λ a. 0) returns files c.rec.note

  good-two : (files : List File) → IsGood v (two files) I
  good-two files = good-pair c v (w c m hs none r) names d (λ a. 0) returns fits (inr serve) refl (hold-old c)

  -- The new master ends, and the old workers carry the floor.
  ends-new :
      (files : List File) (r0 : Names) (ls : List ℕ) (q : Progress) → Aside c c.rec.pid_path files →
      Only (g c) (R c) r0 → Band v (two files) none r0 (named (g c) (is_in (R c))) (length (R c)) before true ls q →
      Goes c (co c) (back_from c.rec.generation.image (new c).image (old_crew c) (R c) c.rec.retries c.rec.pid_path) q
  ends-new files r0 ls q aside only b =
      let order = Make (TermMaster (new c).image) in
      let rest = back_alone c.rec.generation.image (old_crew c) (R c) c.rec.retries c.rec.pid_path in
      let bs = then_edge rest in
      let t = named (g c) (is_in (R c)) in
      rule-step v (two files) (grounded I P (co c) (acts c) (good-two files)) order [] bs none r0 t (length (R c)) before true ls q refl b (λ p b' fate.
      let me : Caller = record { number = c.rec.pid; holds = H0 c } in
      let one : OneOther (view v none r0) m = ((λ e. ne (sym e)), λ j e. eqb-is j m e) in
      let alone = alone-terminated (view v none r0) (w c m hs none r) p.table.rows one (λ e. absurd (omega (arith, e))) b'.beside.0 b'.looks in
      let excused = faults_since 2 returns p.faults in
      subst (λ st. Answers v (two files) (grounded I P (co c) (acts c) (good-two files)) order [] bs p st)
      (sym (unfailing (co c).handed c.rec.generation.image me (TermMaster (new c).image) fate p.table tt))
      (goes-back-alone c returns fits (f c) 0 excused (inl (λ a. omega arith)) r0 0 ls files (after_call c.rec.generation.image order [] (own_step (co c).handed c.rec.generation.image me (TermMaster (new c).image) p.table) p) aside only (record {
        looks = alone.looks;
        enough = enough-old c;
        secured = λ a e. omega (arith, b'.budget, alone.same t);
        budget = omega (arith, b'.budget, alone.same t);
        lacking = b'.lacking;
        still = b'.still;
        marks = marks-plain true p.faults p.losses (p.calls + 1) p.cause b'.marks;
        beside = (omega arith, omega arith);
      })))

  pub goes-back-serving :
      (files : List File) (ls : List ℕ) (q : Progress) → Aside c c.rec.pid_path files → Band v (two files) none none
      (named (g c) (is_in [])) 0 before true ls q → Goes c (co c)
      (back_serving c.rec.generation.image (new c).image (old_crew c) (R c) c.rec.retries c.rec.pid_path) q
  goes-back-serving files ls q aside b =
      restart c returns fits v (two files) (good-two files) (acts c) (λ a. refl) (λ k. refl)
      (back_from c.rec.generation.image (new c).image (old_crew c) (R c) c.rec.retries c.rec.pid_path) before
      (λ r0 ls' q' only b'. ends-new files r0 ls' q' aside only b') ls q b
