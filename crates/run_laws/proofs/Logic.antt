-- A logic for plans of one master: what holds along a run, and a rule for each kind of step.
use Rattle.std.proofs.Common.{[], ◌∷◌, ◌≡◌, List, ℕ, ◌+◌, true, false, Option, Some, None, refl, ◌∙◌}
use Rattle.std.specs.Prelude.{⊤}
use Rattle.std.specs.List.{AllByRecursion}
use Rattle.definitions.specs.Table.{Process, Table}
use Rattle.vocabulary.specs.declared.calls.Call.{Call}
use Rattle.definitions.specs.Run.{call_of, Tree, Branches, Ends, Does, Nothing, Branch, reply_of, Pattern, Progress}
use Rattle.definitions.specs.Run.{Ran, after_moment, after_call, Ending, At, Lost, run_with, goes_with, lacked_by}
use Rattle.call_laws.specs.Pieces.{among, noted, answered}
use Rattle.vocabulary.specs.declared.plans.Order.{Order}
use Rattle.vocabulary.specs.declared.reports.Entry.{Entry}
use Rattle.vocabulary.specs.declared.calls.Reply.{Reply}
use Rattle.definitions.specs.Claims.{names_any, refused_among}
use Rattle.run_laws.proofs.Refusals.{acting_at, acting_after, refused_from, refused_behind, refused-is}
use Rattle.vocabulary.specs.declared.names.Name.{Name}
use Rattle.definitions.specs.Calls.{Handed}

---- What holds along a run

-- what is known of the exits of each moment, with the rows that they meet, beside that they spare the executing masters
abbrev pub Exiting : Type 1
Exiting = List Name → List Process → Type 0

-- What a run goes by: what is handed, the pattern, who is executing, and who takes over at a Leave.
pub record Course : Type 0 where
  pub handed : Handed
  pub pattern : Pattern
  pub executing : List ℕ
  pub heirs : List ℕ

abbrev pub course_after : Order → Course → Course
course_after order co = record co { executing = acting_after order co.executing co.heirs }

-- what is asked of each call with the table that it meets
abbrev pub Asked : Type 1
Asked = Call → Table → Type 0

-- `inv` at each table, `due` at each call and `post` at the end, as long as the exits of each moment are mild and spare the
-- executing masters; and behind some edges
abbrev mutual
  pub Along : (Progress → Type 0) → (Ending → Progress → Type 0) → Exiting → Asked → Course → Tree → Progress → Type 0
  Along inv post mild due co (Ends end) p = inv p × post (At end) p
  Along inv post mild due co (Does by order set branches) p =
      let moment = co.pattern (p.calls + 1) in
      let middle = after_moment moment.exits p in
      let s = answered co.handed by order moment.fate middle in
      names_any (acting_at order co.executing co.heirs) moment.exits ≡ false → mild moment.exits p.table.rows →
      inv p × inv middle × due (call_of order (lacked_by by middle.lacked)) middle.table × Behind inv post mild due
      (course_after order co) branches (reply_of set s.answer) (after_call by order set s middle)

  pub Behind : (Progress → Type 0) → (Ending → Progress → Type 0) → Exiting → Asked → Course → Branches → Reply → Progress → Type 0
  Behind inv post mild due co Nothing r p = inv p × post Lost p
  Behind inv post mild due co (Branch replies said rest more) r p =
      elim (among replies r) as (λ b. Type 0) [
        | true ↦ Along inv post mild due co rest (noted said p)
        | false ↦ Behind inv post mild due co more r p
      ]

-- the exits of each moment of a run are mild
abbrev mutual
  pub AreMild : Exiting → Course → Tree → Progress → Type 0
  AreMild mild co (Ends end) p = ⊤
  AreMild mild co (Does by order set branches) p =
      let moment = co.pattern (p.calls + 1) in
      let middle = after_moment moment.exits p in
      let s = answered co.handed by order moment.fate middle in
      mild moment.exits p.table.rows × AreMildBehind mild (course_after order co) branches (reply_of set s.answer) (after_call by order set s middle)

  pub AreMildBehind : Exiting → Course → Branches → Reply → Progress → Type 0
  AreMildBehind mild co Nothing r p = ⊤
  AreMildBehind mild co (Branch replies said rest more) r p =
      elim (among replies r) as (λ b. Type 0) [
        | true ↦ AreMild mild co rest (noted said p)
        | false ↦ AreMildBehind mild co more r p
      ]

abbrev pub run_in : Course → Tree → Progress → Ran
run_in co tree p = run_with co.handed tree co.pattern p

-- the first moment of the run in which an executing master exits
abbrev pub refused_in : Course → Tree → Progress → Option ℕ
refused_in co tree p = refused_among co.executing co.heirs co.pattern p.calls (run_in co tree p).entries

-- the same, found along the tree
abbrev pub refused_by : Course → Tree → Progress → Option ℕ
refused_by co tree p = refused_from co.handed co.executing co.heirs tree co.pattern p

-- what is asked of each call, with its middle table
abbrev pub AllDue : Asked → List Entry → List Progress → Type 0
AllDue due (e ∷ entries) (p ∷ middle ∷ rest) = due e.call middle.table × AllDue due entries rest
AllDue due [] passed = ⊤
AllDue due (e ∷ entries) [] = ⊥
AllDue due (e ∷ entries) (p ∷ []) = ⊥

-- what holds along a run, at its end and at each call
pub record Holding (inv : Progress → Type 0) (post : Ending → Progress → Type 0) (due : Asked) (ran : Ran) : Type 0 where
  pub always : AllByRecursion inv ran.passed
  pub last : post ran.ending ran.last
  pub dues : AllDue due ran.entries ran.passed

mutual
  tree-along :
      (inv : Progress → Type 0) (post : Ending → Progress → Type 0) (mild : Exiting) (due : Asked) (co : Course)
      (t : Tree) (p : Progress) → Along inv post mild due co t p → refused_by co t p ≡ None → AreMild mild co t p →
      Holding inv post due (run_in co t p)
  tree-along inv post mild due co (Ends end) p a e m = record { always = (a.0, tt); last = a.1; dues = tt }
  tree-along inv post mild due co (Does by order set branches) p a e m =
      let moment = co.pattern (p.calls + 1) in
      let middle = after_moment moment.exits p in
      let st = answered co.handed by order moment.fate middle in
      let next = after_call by order set st middle in
      let r = reply_of set st.answer in
      elim (names_any (acting_at order co.executing co.heirs) moment.exits) as (λ b.
      (b ≡ false → mild moment.exits p.table.rows → inv p × inv middle × due (call_of order (lacked_by by middle.lacked)) middle.table × Behind inv post mild due (course_after order co) branches r next)
      →
      elim b as (λ c. Option ℕ)
      [ true ↦ Some (p.calls + 1) | false ↦ refused_behind co.handed (acting_after order co.executing co.heirs) co.heirs branches r co.pattern next ]
      ≡ None →
      Holding inv post due (run_in co (Does by order set branches) p)) [
        | true ↦ λ a e. absurd (cc)
        | false ↦ λ a e.
            let now = a refl m.0 in
            let rest = tree-behind inv post mild due (course_after order co) branches r next now.3 e m.1 in
            record { always = (now.0, (now.1, rest.always)); last = rest.last; dues = (now.2, rest.dues) }
      ] a e

  tree-behind :
      (inv : Progress → Type 0) (post : Ending → Progress → Type 0) (mild : Exiting) (due : Asked) (co : Course)
      (bs : Branches) (r : Reply) (p : Progress) → Behind inv post mild due co bs r p → refused_behind co.handed
      co.executing co.heirs bs r co.pattern p ≡ None → AreMildBehind mild co bs r p → Holding inv post due
      (goes_with co.handed bs r co.pattern p)
  tree-behind inv post mild due co Nothing r p a e m = record { always = (a.0, tt); last = a.1; dues = tt }
  tree-behind inv post mild due co (Branch replies said rest more) r p a e m =
      elim (among replies r) as (λ b.
      elim b as (λ c. Type 0) [ true ↦ Along inv post mild due co rest (noted said p) | false ↦ Behind inv post mild due co more r p ] →
      elim b as (λ c. Option ℕ) [ true ↦ refused_by co rest (noted said p) | false ↦ refused_behind co.handed co.executing co.heirs more r co.pattern p ] ≡ None →
      elim b as (λ c. Type 0) [ true ↦ AreMild mild co rest (noted said p) | false ↦ AreMildBehind mild co more r p ] →
      Holding inv post due (elim b as (λ c. Ran) [ true ↦ run_in co rest (noted said p) | false ↦ goes_with co.handed more r co.pattern p ])) [
        | true ↦ λ a e m. tree-along inv post mild due co rest (noted said p) a e m
        | false ↦ λ a e m. tree-behind inv post mild due co more r p a e m
      ] a e m

-- What holds along a tree holds of its run.
pub from-along :
    (inv : Progress → Type 0) (post : Ending → Progress → Type 0) (mild : Exiting) (due : Asked) (co : Course)
    (t : Tree) (p : Progress) → Along inv post mild due co t p → refused_in co t p ≡ None → AreMild mild co t p →
    Holding inv post due (run_in co t p)
from-along inv post mild due co t p a e m = tree-along inv post mild due co t p a (refused-is co.handed co.executing co.heirs t co.pattern p ∙ e) m

-- Nothing is asked of a call.
abbrev pub Unasked : Asked
Unasked call t = ⊤

-- Nothing is asked of the exits but that they spare the executing masters.
abbrev pub Anyhow : Exiting
Anyhow es rows = ⊤

mutual
  pub are-mild-anyhow : (co : Course) (t : Tree) (p : Progress) → AreMild Anyhow co t p
  are-mild-anyhow co (Ends end) p = tt
  are-mild-anyhow co (Does by order set branches) p =
      let moment = co.pattern (p.calls + 1) in
      let middle = after_moment moment.exits p in
      let s = answered co.handed by order moment.fate middle in
      (tt, are-mild-behind (course_after order co) branches (reply_of set s.answer) (after_call by order set s middle))

  are-mild-behind : (co : Course) (bs : Branches) (r : Reply) (p : Progress) → AreMildBehind Anyhow co bs r p
  are-mild-behind co Nothing r p = tt
  are-mild-behind co (Branch replies said rest more) r p =
      elim (among replies r) as (λ b. elim b as (λ c. Type 0) [ true ↦ AreMild Anyhow co rest (noted said p) | false ↦ AreMildBehind Anyhow co more r p ]) [
        | true ↦ are-mild-anyhow co rest (noted said p)
        | false ↦ are-mild-behind co more r p
      ]
