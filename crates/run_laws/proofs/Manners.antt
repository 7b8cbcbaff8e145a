-- From what holds along a run to its manner.
use Rattle.std.proofs.Common.{◌≡◌, ℕ, ◌+◌, Bool, true, false, not, List, [], ◌∷◌, ◌++◌, None, refl, ◌⊎◌, inl, inr}
use Rattle.std.specs.Prelude.{◌&&◌, ◌||◌}
use Rattle.std.specs.List.{list_any}
use Rattle.vocabulary.specs.declared.calls.Call.{Call}
use Rattle.vocabulary.specs.declared.calls.Call.TheVariants.{Kill}
use Rattle.vocabulary.specs.declared.calls.Reply.{Reply}
use Rattle.vocabulary.specs.declared.reports.Entry.{Entry}
use Rattle.definitions.specs.Table.{Table}
use Rattle.definitions.specs.Master.{Record}
use Rattle.definitions.specs.Run.{Tree, Branches, Ends, Does, Nothing, Branch, reply_of, Pattern, Progress, Ending, Ran}
use Rattle.definitions.specs.Run.{run_with, goes_with, after_call, after_moment, start_at}
use Rattle.call_laws.specs.Pieces.{among, noted, answered, is_active_process}
use Rattle.definitions.specs.Claims.{has_ready, is_lost, IsKillDue, KillsAreDue, IsStart}
use Rattle.run_laws.proofs.Logic.{Course, course_after, Along, AreMild, AreMildBehind, AllDue, Unasked, Anyhow, refused_in, run_in, from-along, are-mild-anyhow}
use Rattle.run_laws.proofs.Lights.{no_claim}
use Rattle.run_laws.proofs.Staying.{Unlost, Stands}
use Rattle.run_laws.proofs.Taken.{NotTaken}
use Rattle.run_laws.proofs.Firsts.{first-low, stands-ready}
use Rattle.definitions.specs.Calls.{Handed}

---- Stays

-- In a run that does not lose the process no moment ends it.
mutual
  pub are-unlost : (n : ℕ) (co : Course) (t : Tree) (p : Progress) → is_lost n (run_in co t p).passed ≡ false → AreMild (Unlost n) co t p
  are-unlost n co (Ends end) p e = tt
  are-unlost n co (Does by order set bs) p e =
      let moment = co.pattern (p.calls + 1) in
      let middle = after_moment moment.exits p in
      let s = answered co.handed by order moment.fate middle in
      let next = after_call by order set s middle in
      let lost =
      or-false (list_any (is_active_process n) p.table.rows && not (list_any (is_active_process n) middle.table.rows))
      (is_lost n (goes_with co.handed bs (reply_of set s.answer) co.pattern next).passed) e in
      ((λ on. still (list_any (is_active_process n) p.table.rows) (list_any (is_active_process n) middle.table.rows) on lost.0), unlost-behind n (course_after order co) bs (reply_of set s.answer) next lost.1)
    where
      or-false : (a b : Bool) → (a || b) ≡ false → (a ≡ false) × (b ≡ false)
      or-false true b e = absurd (cc)
      or-false false b e = (refl, e)

      still : (a b : Bool) → a ≡ true → (a && not b) ≡ false → b ≡ true
      still true true e f = refl
      still true false e f = absurd (cc)
      still false b e f = absurd (cc)

  unlost-behind :
      (n : ℕ) (co : Course) (bs : Branches) (r : Reply) (p : Progress) →
      is_lost n (goes_with co.handed bs r co.pattern p).passed ≡ false → AreMildBehind (Unlost n) co bs r p
  unlost-behind n co Nothing r p e = tt
  unlost-behind n co (Branch replies said rest more) r p e =
      elim (among replies r) as (λ b.
      is_lost n (elim b as (λ c. Ran) [ true ↦ run_in co rest (noted said p) | false ↦ goes_with co.handed more r co.pattern p ]).passed ≡ false →
      elim b as (λ c. Type 0) [ true ↦ AreMild (Unlost n) co rest (noted said p) | false ↦ AreMildBehind (Unlost n) co more r p ]) [
        | true ↦ λ e. are-unlost n co rest (noted said p) e
        | false ↦ λ e. unlost-behind n co more r p e
      ] e

-- A process that stands at the end, where that is needed, is Ready there or was lost.
pub stays-from :
    (t : Table) (r : Record) (s : IsStart t r) (n k : ℕ) (on : has_ready t n k ≡ true) (co : Course) (tree : Tree)
    (Need : Ending → Progress → Type 0) → Along no_claim
    (λ e q. Need e q → Stands r.pid r.generation.image n r.generation k (first-low t r s n k on) q.table) (Unlost n)
    Unasked co tree (start_at t r.note) → refused_in co tree (start_at t r.note) ≡ None → Need
    (run_in co tree (start_at t r.note)).ending (run_in co tree (start_at t r.note)).last →
    (has_ready (run_in co tree (start_at t r.note)).last.table n k ≡ true) ⊎
    (is_lost n (run_in co tree (start_at t r.note)).passed ≡ true)
stays-from t r s n k on co tree Need along spared need = go (is_lost n (run_in co tree (start_at t r.note)).passed) refl
  where
    go :
        (b : Bool) → is_lost n (run_in co tree (start_at t r.note)).passed ≡ b →
        (has_ready (run_in co tree (start_at t r.note)).last.table n k ≡ true) ⊎
        (is_lost n (run_in co tree (start_at t r.note)).passed ≡ true)
    go true e = inr e
    go false e =
        let low = first-low t r s n k on in
        let all =
        from-along no_claim (λ e q. Need e q → Stands r.pid r.generation.image n r.generation k low q.table)
        (Unlost n) Unasked co tree (start_at t r.note) along spared (are-unlost n co tree (start_at t r.note) e) in
        inl (stands-ready r.pid r.generation.image n r.generation k low (run_in co tree (start_at t r.note)).last.table (all.last need))

---- Kills

-- Each entry of a run has its tables.
mutual
  pub paired :
      (handed : Handed) (t : Tree) (pattern : Pattern) (p : Progress) →
      AllDue Unasked (run_with handed t pattern p).entries (run_with handed t pattern p).passed
  paired handed (Ends end) pattern p = tt
  paired handed (Does by order set bs) pattern p =
      let moment = pattern (p.calls + 1) in
      let middle = after_moment moment.exits p in
      let s = answered handed by order moment.fate middle in
      (tt, paired-behind handed bs (reply_of set s.answer) pattern (after_call by order set s middle))

  paired-behind :
      (handed : Handed) (bs : Branches) (r : Reply) (pattern : Pattern) (p : Progress) →
      AllDue Unasked (goes_with handed bs r pattern p).entries (goes_with handed bs r pattern p).passed
  paired-behind handed Nothing r pattern p = tt
  paired-behind handed (Branch replies said rest more) r pattern p =
      let here = paired handed rest pattern (noted said p) in
      let there = paired-behind handed more r pattern p in
      elim (among replies r) as
      (λ b. let ran : Ran = elim b as (λ c. Ran) [ true ↦ run_with handed rest pattern (noted said p) | false ↦ goes_with handed more r pattern p ] in AllDue Unasked ran.entries ran.passed) [
        | true ↦ here
        | false ↦ there
      ]

-- a kill that takes none that was Ready is due
kill-due :
    (first : Table) (before : List Entry) (call : Call) (t : Table) →
    ((n k : ℕ) → has_ready first n k ≡ true → NotTaken n call t) → IsKillDue first before call t
kill-due first before (Kill g x) t not_taken = λ n k on taken. let off = not_taken n k on in absurd (cc)
kill-due first before _ t not_taken = tt

kills-due :
    (first : Table) (before entries : List Entry) (passed : List Progress) → AllDue Unasked entries passed →
    ((n k : ℕ) → has_ready first n k ≡ true → AllDue (NotTaken n) entries passed) →
    KillsAreDue first before entries passed
kills-due first before [] passed pairs h = tt
kills-due first before (e ∷ entries) [] pairs h = absurd pairs
kills-due first before (e ∷ entries) (p ∷ []) pairs h = absurd pairs
kills-due first before (e ∷ entries) (p ∷ middle ∷ rest) pairs h =
    (kill-due first before e.call middle.table (λ n k on. (h n k on).0), kills-due first (before ++ e ∷ []) entries rest pairs.1 (λ n k on. (h n k on).1))

-- Where no kill takes a process that was Ready at first, all kills are due.
pub kills-from :
    (t : Table) (r : Record) (co : Course) (tree : Tree) (post : Ending → Progress → Type 0) →
    refused_in co tree (start_at t r.note) ≡ None →
    ((n k : ℕ) → has_ready t n k ≡ true → Along no_claim post Anyhow (NotTaken n) co tree (start_at t r.note)) →
    KillsAreDue t [] (run_in co tree (start_at t r.note)).entries (run_in co tree (start_at t r.note)).passed
kills-from t r co tree post spared along =
    let at = start_at t r.note in
    kills-due t [] (run_in co tree at).entries (run_in co tree at).passed (paired co.handed tree co.pattern at)
    (λ n k on. (from-along no_claim post Anyhow (NotTaken n) co tree at (along n k on) spared (are-mild-anyhow co tree at)).dues)
