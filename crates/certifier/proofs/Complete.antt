-- What comes of a run under faults alone is explained.
use Rattle.std.proofs.Common.{◌≡◌, ◌⊎◌, inl, inr, ℕ, ◌+◌, true, false, List, [], ◌∷◌, Option, Some, None, Result, Ok, Err, refl, sym, ◌∙◌, ap, subst}
use Rattle.std.specs.Prelude.{is_some, IfErr}
use Rattle.definitions.specs.Table.{Table}
use Rattle.definitions.specs.Master.{Record, handover_for, sides_of, Sides}
use Rattle.vocabulary.specs.declared.targets.Target.{Target}
use Rattle.vocabulary.specs.declared.plans.PidNote.{PidNote}
use Rattle.vocabulary.specs.declared.plans.Order.{Order}
use Rattle.vocabulary.specs.declared.calls.Reply.{Reply}
use Rattle.definitions.specs.Calls.{Fate, Stepped, step_with, Handed, after_exits}
use Rattle.definitions.specs.Plans.{Turn, plan_tree}
use Rattle.definitions.specs.Run.{Tree, Ends, Does, Branches, Nothing, Branch, call_of, reply_of, Entry, Report}
use Rattle.definitions.specs.Run.{lacked_by, Progress, Ending, Lost, Ran, start_at, run_with, goes_with, after_moment}
use Rattle.definitions.specs.Run.{after_call, outcome_of}
use Rattle.call_laws.specs.Pieces.{among, lacked_last, noted, answered, executing_at, executing_after, branch}
use Rattle.plan_walk.specs.Path.{Trail, advance, trail_after, IsOver, IsOutcome, Reports}
use Rattle.definitions.specs.Claims.{IsStart, HasDescriptors, Says, names_any, refused_among, heirs_of, run_of}
use Rattle.plan_executor.specs.Lawful.{trail_at, ending_of}
use Rattle.plan_executor.specs.Enacted.{EndsSo}
use Rattle.plan_executor.specs.Refusals.{HasPlan}
use Rattle.plan_executor.specs.declared.enactment.EnactRefusal.{EnactRefusal}
use Rattle.plan_executor.specs.declared.enactment.EnactRefusal.TheVariants as refusal
use Rattle.plan_executor.proofs.Running.{behind}
use Rattle.mismatches.specs.declared.Mismatch.{Mismatch}
use Rattle.mismatches.specs.declared.Mismatch.TheVariants as mismatch
use Rattle.certifier.specs.Shown.{moment_shown, stepped_at}
use Rattle.certifier.specs.Places.{AreNext}
use Rattle.certifier.specs.Explained.{trail_by, IsExplainedBy, IsMismatch}
use Rattle.plan_executor.specs.Codes.{mismatch_of}
use Rattle.certifier.specs.Certified.{faults_alone, IsFaultyRun}
use Rattle.certifier.proofs.Faults.{shown-again}
use Rattle.certifier.proofs.Explaining.{begins, is-explained}
use Rattle.certifier.proofs.Matching.{IsExact, all-explained}

-- The entries of a run are next one after another from a trail and a table on, and lead to its end.
pub record Walks (handed : Handed) (heirs executing : List ℕ) (start : Trail) (t : Table) (ran : Ran) : Type 0 where
  pub next : AreNext handed heirs (record { trail = start; table = t; executing = executing }) ran.entries
  pub rest : Option Tree
  pub trail : trail_after start ran.entries ≡ trail_at rest ran.last
  pub over : IsOver rest
  pub ending : ending_of rest ≡ ran.ending

module _ (handed : Handed) (heirs : List ℕ) (fates : ℕ → Option Fate) where
  -- one step, and the walk behind it
  step-walks : (by : ℕ) (order : Order) (set : List ℕ) (branches : Branches) (p : Progress) (executing : List ℕ) →
      let s = answered handed by order (fates (p.calls + 1)) (after_moment [] p) in
      let q = after_call by order set s (after_moment [] p) in
      is_some (branch branches (reply_of set s.answer)) ≡ true →
      Walks handed heirs (executing_after (call_of order (lacked_by by p.lacked)) executing heirs)
      (behind (branch branches (reply_of set s.answer)) q) q.table
      (goes_with handed branches (reply_of set s.answer) (faults_alone fates) q) →
      Walks handed heirs executing (trail_at (Some (Does by order set branches)) p) p.table
      (run_with handed (Does by order set branches) (faults_alone fates) p)
  step-walks by order set branches p executing edge walks =
      let call = call_of order (lacked_by by p.lacked) in
      let s = step_with handed by call (fates (p.calls + 1)) p.table in
      let e : Entry = record { by = by; call = call; answer = s.answer } in
      let start = trail_at (Some (Does by order set branches)) p in
      let given = answered handed by order (fates (p.calls + 1)) (after_moment [] p) in
      let behind_it = goes_with handed branches (reply_of set given.answer) (faults_alone fates) (after_call by order set given (after_moment [] p)) in
      let m = moment_shown handed p.table e in
      let shown = shown-again handed by call (fates (p.calls + 1)) p.table in
      let stepped : stepped_at handed p.table m e ≡ s = (λ i. step_with handed by call m.fate (after_exits (shown.nobody i) p.table)) ∙ shown.again in
      record {
        next = (
          record {
            asks = (refl, refl);
            edge = edge;
            gives = ap (λ (x : Stepped). x.answer) stepped;
            spares = ap (names_any (executing_at call executing heirs)) shown.nobody;
          },
          subst (λ (t : Table). AreNext handed heirs
              (record {
                trail = advance start e;
                table = t;
                executing = executing_after call executing heirs;
              }) behind_it.entries)
              (sym (ap (λ (x : Stepped). x.table) stepped)) walks.next,
        );
        rest = walks.rest;
        trail = walks.trail;
        over = walks.over;
        ending = walks.ending;
      }

  -- a note changes nothing of the walk
  noted-walks : (said : Option PidNote) (rest : Tree) (q : Progress) (executing : List ℕ) →
      Walks handed heirs executing (trail_at (Some rest) (noted said q)) (noted said q).table
      (run_with handed rest (faults_alone fates) (noted said q)) →
      Walks handed heirs executing (behind (Some (said, rest)) q) q.table (run_with handed rest (faults_alone fates) (noted said q))
  noted-walks None rest q executing walks = walks
  noted-walks (Some n) rest q executing walks = walks

  mutual
    tree-walks : (tree : Tree) (p : Progress) (executing : List ℕ) →
        ((run_with handed tree (faults_alone fates) p).ending ≡ Lost → ⊥) →
        Walks handed heirs executing (trail_at (Some tree) p) p.table (run_with handed tree (faults_alone fates) p)
    tree-walks (Ends end) p executing not_lost = record { next = tt; rest = Some (Ends end); trail = refl; over = tt; ending = refl }
    tree-walks (Does by order set branches) p executing not_lost =
        let s = answered handed by order (fates (p.calls + 1)) (after_moment [] p) in
        let q = after_call by order set s (after_moment [] p) in
        let behind-it = edges-walk branches (reply_of set s.answer) q (executing_after (call_of order (lacked_by by p.lacked)) executing heirs) not_lost in
        step-walks by order set branches p executing behind-it.0 behind-it.1

    edges-walk : (bs : Branches) (r : Reply) (q : Progress) (executing : List ℕ) → ((goes_with handed bs r (faults_alone fates) q).ending ≡ Lost → ⊥) →
        (is_some (branch bs r) ≡ true) × Walks handed heirs executing (behind (branch bs r) q) q.table (goes_with handed bs r (faults_alone fates) q)
    edges-walk Nothing r q executing not_lost = absurd (not_lost refl)
    edges-walk (Branch replies said rest more) r q executing not_lost =
        let here : ((run_with handed rest (faults_alone fates) (noted said q)).ending ≡ Lost → ⊥) →
        Walks handed heirs executing (behind (Some (said, rest)) q) q.table
        (run_with handed rest (faults_alone fates) (noted said q)) =
        λ none. noted-walks said rest q executing (tree-walks rest (noted said q) executing none) in
        let there = edges-walk more r q executing in
        elim (among replies r) as (λ b.
        let ran : Ran = elim b as (λ c. Ran) [
          | true ↦ run_with handed rest (faults_alone fates) (noted said q)
          | false ↦ goes_with handed more r (faults_alone fates) q
        ] in
        let found : Option (Option PidNote × Tree) = elim b as (λ c. Option (Option PidNote × Tree)) [ true ↦ Some (said, rest) | false ↦ branch more r ] in
        (ran.ending ≡ Lost → ⊥) → (is_some found ≡ true) × Walks handed heirs executing (behind found q) q.table ran) [
          | true ↦ λ none. (refl, here none)
          | false ↦ there
        ] not_lost

---- Of a target

outcome-so : (sides : Sides) (rest : Option Tree) (lacking : List ℕ) (ending : Ending) → IsOver rest →
    ending_of rest ≡ ending → IsOutcome sides rest lacking (outcome_of sides ending lacking)
outcome-so sides None lacking ending over is = ap (λ e. outcome_of sides e lacking) (sym is)
outcome-so sides (Some (Ends end)) lacking ending over is = ap (λ e. outcome_of sides e lacking) (sym is)
outcome-so sides (Some (Does by order set branches)) lacking ending over is = absurd over

---- It is not lost

-- where nobody exits, nobody executing does
none-named : (fates : ℕ → Option Fate) (executing heirs : List ℕ) (n : ℕ) (es : List Entry) → refused_among executing heirs (faults_alone fates) n es ≡ None
none-named fates executing heirs n [] = refl
none-named fates executing heirs n (e ∷ es) = none-named fates (executing_after e.call executing heirs) heirs (n + 1) es

-- The target could be carried out, as far as its plan's end rests on that.
pub record IsDue (t : Table) (r : Record) (target : Target) : Type 0 where
  pub start : IsStart t r
  pub descriptors : HasDescriptors t r
  pub has_plan : HasPlan r target
  pub ends : EndsSo target

never-lost : (t : Table) (r : Record) (target : Target) → IsDue t r target →
    (turns : List Turn) (fates : ℕ → Option Fate) → (run_of r target turns (faults_alone fates) t).ending ≡ Lost → ⊥
never-lost t r target due turns fates lost =
    let ran = run_of r target turns (faults_alone fates) t in
    let kept = due.ends t r turns (faults_alone fates) due.start due.descriptors due.has_plan
    (none-named fates (r.generation.image ∷ []) (heirs_of r target) 0 ran.entries) in
    subst (λ e. Says r target (outcome_of (sides_of r target) e (lacked_last ran.last.lacked)) t ran.last.table) lost kept.promise.says

-- what comes of a run under some turns and faults alone
pub record IsGood (t : Table) (r : Record) (target : Target) (entries : List Entry) (report : Report) : Type 0 where
  pub turns : List Turn
  pub explained : IsExplainedBy t r target turns entries
  pub over : IsOver (trail_by r target turns entries).rest
  pub reports : Reports (sides_of r target) (trail_by r target turns entries) report

is-good : (t : Table) (r : Record) (target : Target) (entries : List Entry) (report : Report) → IsDue t r target →
    IsFaultyRun t r target entries report → IsGood t r target entries report
is-good t r target entries report due h =
    let handed = handover_for r target in
    let heirs = heirs_of r target in
    let sides = sides_of r target in
    let ran = run_of r target h.turns (faults_alone h.fates) t in
    let w = tree-walks handed heirs h.fates (plan_tree r target h.turns) (start_at t r.note) (r.generation.image ∷ [])
    (never-lost t r target due h.turns h.fates) in
    let trail : trail_by r target h.turns entries ≡ trail_at w.rest ran.last = ap (trail_by r target h.turns) (sym h.is_run.entries_are) ∙ w.trail in
    record {
      turns = h.turns;
      explained = is-explained t r target h.turns entries (subst (AreNext handed heirs (begins t r target h.turns)) h.is_run.entries_are w.next);
      over = subst (λ (x : Trail). IsOver x.rest) (sym trail) w.over;
      reports =
          subst (λ (x : Trail). Reports sides x report) (sym trail)
          (subst (Reports sides (trail_at w.rest ran.last)) (sym h.is_run.report_is)
          (record { outcome = outcome-so sides w.rest (lacked_last ran.last.lacked) ran.ending w.over w.ending; cause = refl; note = refl; ready = refl }));
    }

-- it is refused, if at all, before its first entry
only-refused : (t : Table) (r : Record) (target : Target) (es : List Entry) (report : Report) →
    IsGood t r target es report → (why : Mismatch) → IsMismatch t r target es report why → (why ≡ mismatch.Refused) ⊎
    (why ≡ mismatch.Memory)
only-refused t r target es report good mismatch.Refused h = inl refl
only-refused t r target es report good (mismatch.Step n) h = absurd (h.strange (all-explained t r target es n (good.turns, good.explained)))
only-refused t r target es report good mismatch.Short h = absurd (h.unfinished good.turns good.explained.path good.over)
only-refused t r target es report good mismatch.Report h = absurd (h.other good.turns good.explained.path good.reports)
only-refused t r target es report good mismatch.Memory h = inr refl

pub complete-by : {T : Type 0} (t : Table) (r : Record) (target : Target) (es : List Entry) (report : Report)
    (result : Result T Mismatch) → IsExact t r target es report result → IsDue t r target →
    IsFaultyRun t r target es report → IfErr result (λ why. (why ≡ mismatch.Refused) ⊎ (why ≡ mismatch.Memory))
complete-by t r target es report (Ok x) exact due h = tt
complete-by t r target es report (Err why) exact due h = elim (exact why) [
  | inl memory ↦ inr (let e : why ≡ mismatch.Memory = cc in e)
  | inr iff ↦ only-refused t r target es report (is-good t r target es report due h) why (iff.0 refl)
]

-- a target that can't be carried out is refused
pub unready-refused : {T : Type 0} (result : Result T Mismatch) (why : EnactRefusal) → result ≡ Err (mismatch_of why) →
    IfErr result (λ why. (why ≡ mismatch.Refused) ⊎ (why ≡ mismatch.Memory))
unready-refused {T = T} result why is =
    subst (λ (x : Result T Mismatch). IfErr x (λ why. (why ≡ mismatch.Refused) ⊎ (why ≡ mismatch.Memory))) (sym is)
    (one why)
  where
    one : (why : EnactRefusal) → (mismatch_of why ≡ mismatch.Refused) ⊎ (mismatch_of why ≡ mismatch.Memory)
    one refusal.Memory = inr refl
    one refusal.RecordDisagrees = inl refl
    one (refusal.Plan p) = inl refl
    one refusal.NoNumbers = inl refl
    one (refusal.MasterNamed k) = inl refl
