-- One call more of a run.
use Rattle.std.proofs.Common.{◌≡◌, ◌<◌, ◌+◌, ℕ, List, [], ◌∷◌, ◌++◌, map, Option, Some, None, refl, sym, ◌∙◌, ap, subst, arith}
use Rattle.std.specs.Prelude.{Bool, ◌==◌, if◌then◌else◌}
use Rattle.std.proofs.lemmas.Bool.{lt-ltb}
use Rattle.std.proofs.lemmas.List.{append_assoc}
use Rattle.vocabulary.specs.declared.plans.PidNote.{PidNote}
use Rattle.vocabulary.specs.declared.plans.Order.{Order}
use Rattle.vocabulary.specs.declared.reports.Entry.{Entry}
use Rattle.vocabulary.specs.declared.targets.Target.{Target}
use Rattle.definitions.specs.Table.{Table}
use Rattle.definitions.specs.Master.{Record, handover_for}
use Rattle.definitions.specs.Calls.{Stepped, step_with, Handed, after_exits}
use Rattle.call_laws.specs.Pieces.{branch, with_entry, answered}
use Rattle.definitions.specs.Run.{Tree, Ends, Does, Branches, reply_of, call_of, lacked_by, Moment, Pattern, Progress}
use Rattle.definitions.specs.Run.{Ran, run_with, after_moment, after_call}
use Rattle.definitions.specs.Plans.{Turn}
use Rattle.plan_walk.specs.Path.{advance, Asks, rest_after}
use Rattle.rollback_plan.specs.Following.{follow}
use Rattle.plan_executor.specs.Lawful.{trail_at}
use Rattle.plan_executor.proofs.Running.{run_on, goes-branch, behind}
use Rattle.explorer.specs.declared.events.Event.{Event}
use Rattle.explorer.specs.Events.{met, open_at, beside, mishaps_at, event_at, waiting}
use Rattle.explorer.specs.Positions.{rest_run, IsSameUpTo, HasCome, onward, moved, rest_moved}

rest-onward : (handed : Handed) (found : Option (Option PidNote × Tree)) (q : Pattern) (p : Progress) →
    run_on handed found q p ≡ rest_run handed (rest_after found) q (onward found p)
rest-onward handed None q p = refl
rest-onward handed (Some edge) q p = refl

onward-calls : (found : Option (Option PidNote × Tree)) (p : Progress) → (onward found p).calls ≡ p.calls
onward-calls None p = refl
onward-calls (Some (None, rest)) p = refl
onward-calls (Some (Some n, rest)) p = refl

onward-table : (found : Option (Option PidNote × Tree)) (p : Progress) → (onward found p).table ≡ p.table
onward-table None p = refl
onward-table (Some (None, rest)) p = refl
onward-table (Some (Some n, rest)) p = refl

trail-onward : (found : Option (Option PidNote × Tree)) (p : Progress) → behind found p ≡ trail_at (rest_after found) (onward found p)
trail-onward None p = refl
trail-onward (Some (None, rest)) p = refl
trail-onward (Some (Some n, rest)) p = refl

module _ (handed : Handed) (by : ℕ) (order : Order) (set : List ℕ) (branches : Branches) (p : Progress) where
  -- what the step's call is answered in a moment, and what follows
  abbrev pub stepped : Moment → Stepped
  stepped m = answered handed by order m.fate (after_moment m.exits p)

  abbrev pub found : Moment → Option (Option PidNote × Tree)
  found m = branch branches (reply_of set (stepped m).answer)

  abbrev pub entry_in : Moment → Entry
  entry_in m = record { by = by; call = call_of order (lacked_by by p.lacked); answer = (stepped m).answer }

  abbrev pub further : Moment → Progress
  further m = onward (found m) (after_call by order set (stepped m) (after_moment m.exits p))

  pub runs-on : (q : Pattern) (m : Moment) → q (p.calls + 1) ≡ m →
      run_with handed (Does by order set branches) q p
      ≡ with_entry (entry_in m) p (after_moment m.exits p) (rest_run handed (rest_after (found m)) q (further m))
  runs-on q m is =
      subst (λ (m : Moment). run_with handed (Does by order set branches) q p
      ≡ with_entry (entry_in m) p (after_moment m.exits p)
      (rest_run handed (rest_after (found m)) q (further m))) is
      (let m = q (p.calls + 1) in
      let s = stepped m in
      let middle = after_moment m.exits p in
      let onto = after_call by order set s middle in
      ap (with_entry (entry_in m) p middle) (goes-branch handed branches (reply_of set s.answer) q onto ∙ rest-onward handed (found m) q onto))

  pub further-calls : (m : Moment) → (further m).calls ≡ p.calls + 1
  further-calls m = onward-calls (found m) (after_call by order set (stepped m) (after_moment m.exits p))

  pub further-table : (m : Moment) →
      (further m).table
      ≡ (step_with handed by (call_of order (lacked_by by p.lacked)) m.fate (after_exits m.exits p.table)).table
  further-table m = onward-table (found m) (after_call by order set (stepped m) (after_moment m.exits p))

  pub trail-behind : (m : Moment) → advance (trail_at (Some (Does by order set branches)) p) (entry_in m) ≡ trail_at (rest_after (found m)) (further m)
  trail-behind m = trail-onward (found m) (after_call by order set (stepped m) (after_moment m.exits p))

-- what the calls meet from the next one on
pub met-step : (handed : Handed) (last : Option Event) (q : Pattern) (heirs : List ℕ) (n : ℕ) (t : Table) (e : Entry)
    (es : List Entry) (m : Moment) → q (n + 1) ≡ m →
    met handed last q heirs n t (e ∷ es)
    ≡ map (event_at (n + 1)) (open_at handed e.by e.call (waiting e.call heirs) last (n + 1) (after_exits m.exits t))
    ++ met handed last q (waiting e.call heirs) (n + 1) (step_with handed e.by e.call m.fate (after_exits m.exits t)).table es
met-step handed last q heirs n t e es m is =
    ap (λ (m : Moment). map (event_at (n + 1))
    (open_at handed e.by e.call (waiting e.call heirs) last (n + 1) (after_exits m.exits t)) ++ met handed last q
    (waiting e.call heirs) (n + 1) (step_with handed e.by e.call m.fate (after_exits m.exits t)).table es) is

-- before an event nothing is met
passed : (handed : Handed) (last : Event) (q : Pattern) (heirs : List ℕ) (n : ℕ) (t : Table) (e : Entry)
    (es : List Entry) (m : Moment) → q (n + 1) ≡ m → n + 1 < last.number →
    met handed (Some last) q heirs n t (e ∷ es)
    ≡ met handed (Some last) q (waiting e.call heirs) (n + 1)
    (step_with handed e.by e.call m.fate (after_exits m.exits t)).table es
passed handed last q heirs n t e es m is before =
    met-step handed (Some last) q heirs n t e es m is
    ∙ ap (λ (b : Bool). map (event_at (n + 1))
    (if b then [] else if n + 1 == last.number
    then beside handed e.by e.call (waiting e.call heirs) last.mishap (after_exits m.exits t)
    else mishaps_at handed e.by e.call (waiting e.call heirs) 0 (after_exits m.exits t)) ++ met handed (Some last) q
    (waiting e.call heirs) (n + 1) (step_with handed e.by e.call m.fate (after_exits m.exits t)).table es)
    (lt-ltb (n + 1) last.number before)

weaker : (n : ℕ) (p q : Pattern) → IsSameUpTo (n + 1) p q → IsSameUpTo n p q
weaker n p q same m le = same m (omega (arith, le))

-- So far has the run come after one call more, of this step.
come-step : (r : Record) (target : Target) (turns : List Turn) (t : Table) (pattern : Pattern) (n : ℕ) (heirs : List ℕ)
    (by : ℕ) (order : Order) (set : List ℕ) (branches : Branches) (p : Progress) (m : Moment) →
    let handed = handover_for r target in
    HasCome r target turns t pattern n (Some (Does by order set branches)) heirs p → pattern (n + 1) ≡ m →
    HasCome r target turns t pattern (n + 1) (rest_after (found handed by order set branches p m))
    (waiting (call_of order (lacked_by by p.lacked)) heirs) (further handed by order set branches p m)
come-step r target turns t pattern n heirs by order set branches p m come is =
    let handed = handover_for r target in
    let moment : (q : Pattern) → IsSameUpTo (n + 1) pattern q → q (n + 1) ≡ m = λ q same. same (n + 1) (omega arith) ∙ is in
    let goes : (q : Pattern) → IsSameUpTo (n + 1) pattern q →
    run_with handed (Does by order set branches) q p
    ≡ with_entry (entry_in handed by order set branches p m) p (after_moment m.exits p)
    (rest_run handed (rest_after (found handed by order set branches p m)) q
    (further handed by order set branches p m)) =
    λ q same. runs-on handed by order set branches p q m (ap (λ k. q (k + 1)) come.calls ∙ moment q same) in
    record {
      calls = further-calls handed by order set branches p m ∙ ap (λ k. k + 1) come.calls;
      ends = λ q same. record {
        ending = (come.ends q (weaker n pattern q same)).ending ∙ ap (λ (ran : Ran). ran.ending) (goes q same);
        last = (come.ends q (weaker n pattern q same)).last ∙ ap (λ (ran : Ran). ran.last) (goes q same);
      };
      meets = λ q e same before.
          come.meets q e (weaker n pattern q same) (omega (arith, before))
          ∙ ap (λ (ran : Ran). met handed (Some e) q heirs n p.table ran.entries) (goes q same)
          ∙ passed handed e q heirs n p.table (entry_in handed by order set branches p m) _ m (moment q same) before
          ∙ ap (λ (x : Table). met handed (Some e) q (waiting (call_of order (lacked_by by p.lacked)) heirs) (n + 1) x
          (rest_run handed (rest_after (found handed by order set branches p m)) q
          (further handed by order set branches p m)).entries)
          (sym (further-table handed by order set branches p m));
      passes = λ q same.
          let w = come.passes q (weaker n pattern q same) in
          let passed = (rest_run handed (rest_after (found handed by order set branches p m)) q (further handed by order set branches p m)).passed in (
            w.0 ++ p ∷ after_moment m.exits p ∷ [],
            w.1 ∙ ap (λ (ran : Ran). w.0 ++ ran.passed) (goes q same) ∙ sym (append_assoc w.0 (p ∷ after_moment m.exits p ∷ []) passed),
          );
    }

---- Any rest of a plan

-- The call of the entry is made in the moment: what follows of the trail, of the table and of the run.
pub record GoesOn (r : Record) (target : Target) (rest : Option Tree) (p : Progress) (m : Moment) (e : Entry) : Type 0 where
  pub trail : advance (trail_at rest p) e ≡ trail_at (rest_after (follow rest e.answer)) (moved (handover_for r target) rest m p)
  pub onto : rest_after (follow rest e.answer) ≡ rest_moved (handover_for r target) rest m p
  pub table : (moved (handover_for r target) rest m p).table ≡ (step_with (handover_for r target) e.by e.call m.fate (after_exits m.exits p.table)).table
  pub come : (turns : List Turn) (t : Table) (pattern : Pattern) (n : ℕ) (heirs : List ℕ) →
      HasCome r target turns t pattern n rest heirs p → pattern (n + 1) ≡ m →
      HasCome r target turns t pattern (n + 1) (rest_after (follow rest e.answer)) (waiting e.call heirs) (moved (handover_for r target) rest m p)
  pub passed : (q : Pattern) → q (p.calls + 1) ≡ m →
      (rest_run (handover_for r target) rest q p).passed ≡ p
      ∷ after_moment m.exits p
      ∷ (rest_run (handover_for r target) (rest_after (follow rest e.answer)) q
      (moved (handover_for r target) rest m p)).passed
  pub entries : (q : Pattern) → q (p.calls + 1) ≡ m →
      (rest_run (handover_for r target) rest q p).entries ≡ e
      ∷ (rest_run (handover_for r target) (rest_after (follow rest e.answer)) q
      (moved (handover_for r target) rest m p)).entries

pub goes : (r : Record) (target : Target) (rest : Option Tree) (p : Progress) (m : Moment) (e : Entry) → Asks rest p.lacked e →
    e.answer ≡ (step_with (handover_for r target) e.by e.call m.fate (after_exits m.exits p.table)).answer → GoesOn r target rest p m e
goes r target None p m e asks answer = absurd asks
goes r target (Some (Ends end)) p m e asks answer = absurd asks
goes r target (Some (Does by order set branches)) p m e asks answer =
    let handed = handover_for r target in
    let mine : step_with handed e.by e.call m.fate (after_exits m.exits p.table)
    ≡ stepped handed by order set branches p m = λ i. step_with handed (asks.0 i) (asks.1 i) m.fate
    (after_exits m.exits p.table) in
    let same : e ≡ entry_in handed by order set branches p m = λ i.
    record { by = asks.0 i; call = asks.1 i; answer = (answer ∙ ap (λ (s : Stepped). s.answer) mine) i } in
    subst (λ (x : Entry). GoesOn r target (Some (Does by order set branches)) p m x) (sym same) (record {
      trail = trail-behind handed by order set branches p m;
      onto = refl;
      table = further-table handed by order set branches p m;
      come = λ turns t pattern n heirs come is. come-step r target turns t pattern n heirs by order set branches p m come is;
      passed = λ q is. ap (λ (ran : Ran). ran.passed) (runs-on handed by order set branches p q m is);
      entries = λ q is. ap (λ (ran : Ran). ran.entries) (runs-on handed by order set branches p q m is);
    })
