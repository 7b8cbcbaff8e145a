-- The moment of a run that is refused, followed along the plan's tree.
use Rattle.std.proofs.Common.{◌≡◌, ℕ, ◌+◌, Bool, true, false, cond, List, ◌++◌, Option, Some, None, refl, sym, ◌∙◌, ap}
use Rattle.std.specs.Prelude.{if◌then◌else◌}
use Rattle.vocabulary.specs.declared.calls.Reply.{Reply}
use Rattle.vocabulary.specs.declared.plans.PidNote.{PidNote}
use Rattle.vocabulary.specs.declared.plans.Order.{Order}
use Rattle.vocabulary.specs.declared.plans.Order.TheVariants.{Make, ForkLacking, AwaitLacking, KillLacking}
use Rattle.vocabulary.specs.declared.reports.Entry.{Entry}
use Rattle.definitions.specs.Run.{Tree, Ends, Does, Branches, Nothing, Branch, reply_of, call_of, Pattern, Progress}
use Rattle.definitions.specs.Run.{Ran, run_with, goes_with, after_moment, after_call, lacked_by}
use Rattle.call_laws.specs.Pieces.{among, noted, answered}
use Rattle.definitions.specs.Claims.{is_leave_call, names_any, refused_among}
use Rattle.definitions.specs.Calls.{Handed}

abbrev pub is_leave : Order → Bool
is_leave (Make call) = is_leave_call call
is_leave (ForkLacking g) = false
is_leave (AwaitLacking g) = false
is_leave (KillLacking g) = false

-- who is executing at a step, and after it
abbrev pub acting_at : Order → List ℕ → List ℕ → List ℕ
acting_at order executing heirs = if is_leave order then executing ++ heirs else executing

abbrev pub acting_after : Order → List ℕ → List ℕ → List ℕ
acting_after order executing heirs = if is_leave order then heirs else executing

abbrev mutual
  pub refused_from : Handed → List ℕ → List ℕ → Tree → Pattern → Progress → Option ℕ
  refused_from handed executing heirs (Ends end) pattern p = None
  refused_from handed executing heirs (Does by order set branches) pattern p =
      let moment = pattern (p.calls + 1) in
      let middle = after_moment moment.exits p in
      let s = answered handed by order moment.fate middle in
      elim (names_any (acting_at order executing heirs) moment.exits) as (λ b. Option ℕ) [
        | true ↦ Some (p.calls + 1)
        | false ↦ refused_behind handed (acting_after order executing heirs) heirs branches (reply_of set s.answer) pattern (after_call by order set s middle)
      ]

  pub refused_behind : Handed → List ℕ → List ℕ → Branches → Reply → Pattern → Progress → Option ℕ
  refused_behind handed executing heirs Nothing r pattern p = None
  refused_behind handed executing heirs (Branch replies said rest more) r pattern p =
      elim (among replies r) as (λ b. Option ℕ) [
        | true ↦ refused_from handed executing heirs rest pattern (noted said p)
        | false ↦ refused_behind handed executing heirs more r pattern p
      ]

---- It is the first of the run's moments that names an executing master

noted-calls : (said : Option PidNote) (p : Progress) → (noted said p).calls ≡ p.calls
noted-calls None p = refl
noted-calls (Some n) p = refl

abbrev pub by_reply : Bool → Ran → Ran → Ran
by_reply b here more = elim b as (λ _. Ran) [ true ↦ here | false ↦ more ]

abbrev pub by_reply_refused : Bool → Option ℕ → Option ℕ → Option ℕ
by_reply_refused b here more = elim b as (λ _. Option ℕ) [ true ↦ here | false ↦ more ]

-- a step asks for a Leave exactly where its call is one
leave-is : (order : Order) (lacking : List ℕ) → is_leave_call (call_of order lacking) ≡ is_leave order
leave-is (Make call) lacking = refl
leave-is (ForkLacking g) lacking = refl
leave-is (AwaitLacking g) lacking = refl
leave-is (KillLacking g) lacking = refl

-- the rest of a run, by whether its first call is a Leave
abbrev pub Behind : List ℕ → List ℕ → Pattern → ℕ → List Entry → Bool → Option ℕ
Behind executing heirs pattern n entries leaves = refused_among (cond leaves heirs executing) heirs pattern n entries

by-test : (b : Bool) (here : Option ℕ) {one other : Option ℕ} → one ≡ other → by_reply_refused b here one ≡ cond b here other
by-test true here same = refl
by-test false here same = same

mutual
  pub refused-is : (handed : Handed) (executing heirs : List ℕ) (tree : Tree) (pattern : Pattern) (p : Progress) →
      refused_from handed executing heirs tree pattern p ≡ refused_among executing heirs pattern p.calls (run_with handed tree pattern p).entries
  refused-is handed executing heirs (Ends end) pattern p = refl
  refused-is handed executing heirs (Does by order set branches) pattern p =
      let moment = pattern (p.calls + 1) in
      let middle = after_moment moment.exits p in
      let s = answered handed by order moment.fate middle in
      let q = after_call by order set s middle in
      let entries = (goes_with handed branches (reply_of set s.answer) pattern q).entries in
      let leaves = sym (leave-is order (lacked_by by middle.lacked)) in
      let named : names_any (acting_at order executing heirs) moment.exits ≡ names_any
      (cond (is_leave_call (call_of order (lacked_by by middle.lacked))) (executing ++ heirs) executing) moment.exits =
      ap (λ b. names_any (cond b (executing ++ heirs) executing) moment.exits) leaves in
      let rest : refused_behind handed (acting_after order executing heirs) heirs branches (reply_of set s.answer) pattern q
      ≡ Behind executing heirs pattern (p.calls + 1) entries (is_leave_call (call_of order (lacked_by by middle.lacked))) =
      behind-is handed (acting_after order executing heirs) heirs branches (reply_of set s.answer) pattern q ∙ ap
      (Behind executing heirs pattern (p.calls + 1) entries) leaves in
      ap
      (λ b. by_reply_refused b (Some (p.calls + 1)) (refused_behind handed (acting_after order executing heirs) heirs branches (reply_of set s.answer) pattern q))
      named
      ∙
      (by-test (names_any (cond (is_leave_call (call_of order (lacked_by by middle.lacked))) (executing ++ heirs) executing) moment.exits) (Some (p.calls + 1)) rest)

  behind-is : (handed : Handed) (executing heirs : List ℕ) (branches : Branches) (r : Reply) (pattern : Pattern) (p : Progress) →
      refused_behind handed executing heirs branches r pattern p ≡ refused_among executing heirs pattern p.calls (goes_with handed branches r pattern p).entries
  behind-is handed executing heirs Nothing r pattern p = refl
  behind-is handed executing heirs (Branch replies said rest more) r pattern p =
      elim (among replies r) as
      (λ b. by_reply_refused b (refused_from handed executing heirs rest pattern (noted said p)) (refused_behind handed executing heirs more r pattern p)
      ≡ refused_among executing heirs pattern p.calls (by_reply b (run_with handed rest pattern (noted said p)) (goes_with handed more r pattern p)).entries) [
        | true ↦ refused-is handed executing heirs rest pattern (noted said p) ∙ ap
            (λ n. refused_among executing heirs pattern n (run_with handed rest pattern (noted said p)).entries)
            (noted-calls said p)
        | false ↦ behind-is handed executing heirs more r pattern p
      ]
