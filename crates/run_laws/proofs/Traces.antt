-- What holds along a run of each call with what was done before it, and of the end with all that was done.
use Rattle.std.proofs.Common.{◌≡◌, ℕ, ◌+◌, Bool, true, false, List, [], ◌∷◌, ◌++◌, Option, Some, None, refl, sym, ◌∙◌, ap, subst, append_assoc}
use Rattle.std.specs.Prelude.{⊤, ◌&&◌, ◌||◌, if◌then◌else◌}
use Rattle.std.specs.List.{list_any}
use Rattle.vocabulary.specs.declared.calls.Call.{Call}
use Rattle.vocabulary.specs.declared.calls.Answer.{Answer}
use Rattle.vocabulary.specs.declared.calls.Reply.{Reply}
use Rattle.vocabulary.specs.declared.calls.Fate.{Fate}
use Rattle.vocabulary.specs.declared.plans.PidNote.{PidNote}
use Rattle.vocabulary.specs.declared.plans.Order.{Order}
use Rattle.vocabulary.specs.declared.plans.Order.TheVariants.{Make}
use Rattle.vocabulary.specs.declared.reports.Entry.{Entry}
use Rattle.vocabulary.specs.declared.names.Name.{Name}
use Rattle.definitions.specs.Table.{Table}
use Rattle.definitions.specs.Calls.{after_exits, step_with, Handed}
use Rattle.definitions.specs.Claims.{is_leave_call, one_then, names_any}
use Rattle.definitions.specs.Run.{Tree, Branches, Ends, Does, Nothing, Branch, reply_of, call_of, Progress, Ran, Ending}
use Rattle.definitions.specs.Run.{At, Lost, after_call, after_moment, goes_with, lacked_by}
use Rattle.call_laws.specs.Pieces.{among, noted, answered}
use Rattle.run_laws.proofs.Refusals.{acting_at, acting_after, refused_behind, refused-is, is_leave}
use Rattle.run_laws.proofs.Logic.{Exiting, Asked, Course, course_after, Along, Behind, AreMild, AreMildBehind, refused_in, refused_by, run_in}
use Rattle.run_laws.proofs.Lights.{no_claim}
use Rattle.table_laws.proofs.Rows.{or-right}

abbrev pub entry_of : ℕ → Call → Answer → Entry
entry_of by call a = record { by = by; call = call; answer = a }

-- what is asked of a call with the entries before it and the table that it meets, and of the end with all entries
abbrev pub Asking : Type 1
Asking = List Entry → Call → Table → Type 0

abbrev pub Finally : Type 1
Finally = List Entry → Ending → Progress → Type 0

abbrev mutual
  pub Traced : Asking → Finally → Exiting → Course → List Entry → Tree → Progress → Type 0
  Traced due post mild co past (Ends end) p = post past (At end) p
  Traced due post mild co past (Does by order set branches) p =
      let moment = co.pattern (p.calls + 1) in
      let middle = after_moment moment.exits p in
      let s = answered co.handed by order moment.fate middle in
      names_any (acting_at order co.executing co.heirs) moment.exits ≡ false → mild moment.exits p.table.rows →
      due past (call_of order (lacked_by by middle.lacked)) middle.table × TracedBehind due post mild
      (course_after order co) (past ++ entry_of by (call_of order (lacked_by by middle.lacked)) s.answer ∷ []) branches
      (reply_of set s.answer) (after_call by order set s middle)

  pub TracedBehind : Asking → Finally → Exiting → Course → List Entry → Branches → Reply → Progress → Type 0
  TracedBehind due post mild co past Nothing r p = post past Lost p
  TracedBehind due post mild co past (Branch replies said rest more) r p =
      elim (among replies r) as (λ b. Type 0) [
        | true ↦ Traced due post mild co past rest (noted said p)
        | false ↦ TracedBehind due post mild co past more r p
      ]

-- what is asked of each call, with the entries before it and its middle table
abbrev pub AllTraced : Asking → List Entry → List Entry → List Progress → Type 0
AllTraced due past (e ∷ entries) (p ∷ middle ∷ rest) = due past e.call middle.table × AllTraced due (past ++ e ∷ []) entries rest
AllTraced due past [] passed = ⊤
AllTraced due past (e ∷ entries) [] = ⊥
AllTraced due past (e ∷ entries) (p ∷ []) = ⊥

pub record Tracing (due : Asking) (post : Finally) (past : List Entry) (ran : Ran) : Type 0 where
  pub dues : AllTraced due past ran.entries ran.passed
  pub last : post (past ++ ran.entries) ran.ending ran.last

pub append-nil : (l : List Entry) → l ++ [] ≡ l
append-nil [] = refl
append-nil (e ∷ l) = ap (λ x. e ∷ x) (append-nil l)

mutual
  tree-traced :
      (due : Asking) (post : Finally) (mild : Exiting) (co : Course) (past : List Entry) (t : Tree) (p : Progress) →
      Traced due post mild co past t p → refused_by co t p ≡ None → AreMild mild co t p →
      Tracing due post past (run_in co t p)
  tree-traced due post mild co past (Ends end) p a e m = record { dues = tt; last = subst (λ l. post l (At end) p) (sym (append-nil past)) a }
  tree-traced due post mild co past (Does by order set branches) p a e m =
      let moment = co.pattern (p.calls + 1) in
      let middle = after_moment moment.exits p in
      let st = answered co.handed by order moment.fate middle in
      let next = after_call by order set st middle in
      let r = reply_of set st.answer in
      let here = entry_of by (call_of order (lacked_by by middle.lacked)) st.answer in
      elim (names_any (acting_at order co.executing co.heirs) moment.exits) as (λ b.
      (b ≡ false → mild moment.exits p.table.rows → due past (call_of order (lacked_by by middle.lacked)) middle.table × TracedBehind due post mild (course_after order co) (past ++ here ∷ []) branches r next)
      →
      elim b as (λ c. Option ℕ)
      [ true ↦ Some (p.calls + 1) | false ↦ refused_behind co.handed (acting_after order co.executing co.heirs) co.heirs branches r co.pattern next ]
      ≡ None →
      Tracing due post past (run_in co (Does by order set branches) p)) [
        | true ↦ λ a e. absurd (cc)
        | false ↦ λ a e.
            let now = a refl m.0 in
            let rest = tree-traced-behind due post mild (course_after order co) (past ++ here ∷ []) branches r next now.1 e m.1 in
            let ran = goes_with co.handed branches r co.pattern next in
            record { dues = (now.0, rest.dues); last = subst (λ l. post l ran.ending ran.last) (append_assoc past (here ∷ []) ran.entries) rest.last }
      ] a e

  tree-traced-behind :
      (due : Asking) (post : Finally) (mild : Exiting) (co : Course) (past : List Entry) (bs : Branches) (r : Reply)
      (p : Progress) → TracedBehind due post mild co past bs r p → refused_behind co.handed co.executing co.heirs bs r
      co.pattern p ≡ None → AreMildBehind mild co bs r p → Tracing due post past (goes_with co.handed bs r co.pattern p)
  tree-traced-behind due post mild co past Nothing r p a e m = record { dues = tt; last = subst (λ l. post l Lost p) (sym (append-nil past)) a }
  tree-traced-behind due post mild co past (Branch replies said rest more) r p a e m =
      elim (among replies r) as (λ b.
      elim b as (λ c. Type 0) [ true ↦ Traced due post mild co past rest (noted said p) | false ↦ TracedBehind due post mild co past more r p ] →
      elim b as (λ c. Option ℕ) [ true ↦ refused_by co rest (noted said p) | false ↦ refused_behind co.handed co.executing co.heirs more r co.pattern p ] ≡ None →
      elim b as (λ c. Type 0) [ true ↦ AreMild mild co rest (noted said p) | false ↦ AreMildBehind mild co more r p ] →
      Tracing due post past (elim b as (λ c. Ran) [ true ↦ run_in co rest (noted said p) | false ↦ goes_with co.handed more r co.pattern p ])) [
        | true ↦ λ a e m. tree-traced due post mild co past rest (noted said p) a e m
        | false ↦ λ a e m. tree-traced-behind due post mild co past more r p a e m
      ] a e m

-- What is traced along a tree is so of its run.
pub from-traced :
    (due : Asking) (post : Finally) (mild : Exiting) (co : Course) (past : List Entry) (t : Tree) (p : Progress) →
    Traced due post mild co past t p → refused_in co t p ≡ None → AreMild mild co t p →
    Tracing due post past (run_in co t p)
from-traced due post mild co past t p a e m = tree-traced due post mild co past t p a (refused-is co.handed co.executing co.heirs t co.pattern p ∙ e) m

said-table : (said : Option PidNote) (p : Progress) → (noted said p).table ≡ p.table
said-table None p = refl
said-table (Some n) p = refl

---- From a proof that does not look at what was done

mutual
  pub along-traced :
      (due : Asking) (post : Finally) (mild : Exiting) (due' : Asked) (post' : Ending → Progress → Type 0) →
      ((past : List Entry) (call : Call) (t : Table) → due' call t → due past call t) →
      ((past : List Entry) (e : Ending) (q : Progress) → post' e q → post past e q) →
      (co : Course) (t : Tree) (p : Progress) → Along no_claim post' mild due' co t p → (past : List Entry) →
      Traced due post mild co past t p
  along-traced due post mild due' post' asks ends co (Ends end) p a past = ends past (At end) p a.1
  along-traced due post mild due' post' asks ends co (Does by order set bs) p a past = λ spared calm.
      let now = a spared calm in
      (asks past _ _ now.2, along-traced-behind due post mild due' post' asks ends (course_after order co) bs _ _ now.3 _)

  along-traced-behind :
      (due : Asking) (post : Finally) (mild : Exiting) (due' : Asked) (post' : Ending → Progress → Type 0) →
      ((past : List Entry) (call : Call) (t : Table) → due' call t → due past call t) →
      ((past : List Entry) (e : Ending) (q : Progress) → post' e q → post past e q) →
      (co : Course) (bs : Branches) (r : Reply) (p : Progress) → Behind no_claim post' mild due' co bs r p →
      (past : List Entry) → TracedBehind due post mild co past bs r p
  along-traced-behind due post mild due' post' asks ends co Nothing r p a past = ends past Lost p a.1
  along-traced-behind due post mild due' post' asks ends co (Branch replies said rest more) r p a past =
      elim (among replies r) as (λ b.
      elim b as (λ c. Type 0) [ true ↦ Along no_claim post' mild due' co rest (noted said p) | false ↦ Behind no_claim post' mild due' co more r p ] →
      elim b as (λ c. Type 0) [ true ↦ Traced due post mild co past rest (noted said p) | false ↦ TracedBehind due post mild co past more r p ]) [
        | true ↦ λ a. along-traced due post mild due' post' asks ends co rest (noted said p) a past
        | false ↦ λ a. along-traced-behind due post mild due' post' asks ends co more r p a past
      ] a

---- Facts that every call keeps

-- facts on what was done that more entries keep
abbrev pub Growing : (List Entry → Type 0) → Type 0
Growing K = (past : List Entry) (e : Entry) → K past → K (past ++ e ∷ [])

-- Whatever the tree: a fact on the table that all exits and calls keep, and one on what was done that grows, are enough.
module _ (due : Asking) (post : Finally) (mild : Exiting) (F : Table → Type 0) (K : List Entry → Type 0)
    (exits : (es : List Name) (t : Table) → F t → F (after_exits es t))
    (steps : (handed : Handed) (by : ℕ) (call : Call) (fate : Option Fate) (t : Table) → F t → F (step_with handed by call fate t).table)
    (grows : Growing K) (asks : (past : List Entry) (call : Call) (t : Table) → K past → F t → due past call t)
    (ends : (past : List Entry) (e : Ending) (q : Progress) → K past → F q.table → post past e q) where
  mutual
    pub robust : (co : Course) (t : Tree) (past : List Entry) (p : Progress) → K past → F p.table → Traced due post mild co past t p
    robust co (Ends end) past p k h = ends past (At end) p k h
    robust co (Does by order set bs) past p k h = λ spared calm.
        let moment = co.pattern (p.calls + 1) in
        let middle = after_moment moment.exits p in
        let s = answered co.handed by order moment.fate middle in
        let h' = exits moment.exits p.table h in (
          asks past (call_of order (lacked_by by middle.lacked)) middle.table k h',
          robust-behind
              (course_after order co) bs (past ++ entry_of by (call_of order (lacked_by by middle.lacked)) s.answer ∷ [])
              (reply_of set s.answer) (after_call by order set s middle)
              (grows past (entry_of by (call_of order (lacked_by by middle.lacked)) s.answer) k)
              (steps co.handed by (call_of order (lacked_by by middle.lacked)) moment.fate middle.table h'),
        )

    pub robust-behind :
        (co : Course) (bs : Branches) (past : List Entry) (r : Reply) (p : Progress) → K past → F p.table →
        TracedBehind due post mild co past bs r p
    robust-behind co Nothing past r p k h = ends past Lost p k h
    robust-behind co (Branch replies said rest more) past r p k h =
        let here = robust co rest past (noted said p) k (subst F (sym (said-table said p)) h) in
        let there = robust-behind co more past r p k h in
        elim (among replies r) as
        (λ b. elim b as (λ c. Type 0) [ true ↦ Traced due post mild co past rest (noted said p) | false ↦ TracedBehind due post mild co past more r p ]) [
          | true ↦ here
          | false ↦ there
        ]

---- A step at a time

module _ (due : Asking) (post : Finally) (mild : Exiting) (co : Course) (lost : (past : List Entry) (p : Progress) → post past Lost p) where
  -- From a fact on the table and one on what was done the tree can be traced.
  abbrev pub Good : (Table → Type 0) → (List Entry → Type 0) → Tree → Type 0
  Good F K t = (past : List Entry) (p : Progress) → K past → F p.table → Traced due post mild co past t p

  abbrev pub AllGood : (Table → Type 0) → (List Entry → Type 0) → Branches → Type 0
  AllGood F K Nothing = ⊤
  AllGood F K (Branch replies said rest more) = Good F K rest × AllGood F K more

  pub all-good :
      (F : Table → Type 0) (K : List Entry → Type 0) (bs : Branches) → AllGood F K bs →
      (past : List Entry) (r : Reply) (p : Progress) → K past → F p.table → TracedBehind due post mild co past bs r p
  all-good F K Nothing all past r p k h = lost past p
  all-good F K (Branch replies said rest more) all past r p k h =
      let here = all.0 past (noted said p) k (subst F (sym (said-table said p)) h) in
      let there = all-good F K more all.1 past r p k h in
      elim (among replies r) as
      (λ b. elim b as (λ c. Type 0) [ true ↦ Traced due post mild co past rest (noted said p) | false ↦ TracedBehind due post mild co past more r p ]) [
        | true ↦ here
        | false ↦ there
      ]

  -- A step, from what it does after the exits of its moment.
  pub good-step :
      (F : Table → Type 0) (K : List Entry → Type 0) (by : ℕ) (call : Call) (set : List ℕ) (bs : Branches) →
      is_leave_call call ≡ false →
      ((es : List Name) (t : Table) → names_any co.executing es ≡ false → mild es t.rows → F t → F (after_exits es t)) →
      ((past : List Entry) (t : Table) → K past → F t → due past call t) →
      ((past : List Entry) (q : Progress) (fate : Option Fate) → K past → F q.table → let st = step_with co.handed by call fate q.table in TracedBehind due post mild co (past ++ entry_of by call st.answer ∷ []) bs (reply_of set st.answer) (after_call by (Make call) set st q))
      → Good F K (Does by (Make call) set bs)
  good-step F K by call set bs stays exits asks next past p k h = λ spared calm.
      let order = Make call in
      let moment = co.pattern (p.calls + 1) in
      let middle = after_moment moment.exits p in
      let s = answered co.handed by order moment.fate middle in
      let at : (if is_leave order then co.executing ++ co.heirs else co.executing) ≡ co.executing = rw stays in
      let after : course_after order co ≡ co = go (is_leave order) stays in
      let h' = exits moment.exits p.table (subst (λ images. names_any images moment.exits ≡ false) at spared) calm h in
      (asks past middle.table k h', subst (λ (x : Course). TracedBehind due post mild x (past ++ entry_of by call s.answer ∷ []) bs (reply_of set s.answer) (after_call by order set s middle)) (sym after) (next past middle moment.fate k h'))
    where
      go : (b : Bool) → b ≡ false → record { handed = co.handed; pattern = co.pattern; executing = if b then co.heirs else co.executing; heirs = co.heirs } ≡ co
      go true e = absurd (cc)
      go false e = refl

  -- A step of any order, with a fact on the table.
  pub ordered-step :
      (Q : Table → Type 0) (by : ℕ) (order : Order) (set : List ℕ) (bs : Branches) (past : List Entry) (p : Progress) →
      is_leave order ≡ false →
      ((es : List Name) (t : Table) → names_any co.executing es ≡ false → mild es t.rows → Q t → Q (after_exits es t)) →
      Q p.table → ((t : Table) → Q t → due past (call_of order (lacked_by by p.lacked)) t) →
      ((q : Progress) (fate : Option Fate) → Q q.table → q.lacked ≡ p.lacked → let st = step_with co.handed by (call_of order (lacked_by by p.lacked)) fate q.table in TracedBehind due post mild co (past ++ entry_of by (call_of order (lacked_by by p.lacked)) st.answer ∷ []) bs (reply_of set st.answer) (after_call by order set st q))
      → Traced due post mild co past (Does by order set bs) p
  ordered-step Q by order set bs past p stays exits h asks next = λ spared calm.
      let moment = co.pattern (p.calls + 1) in
      let middle = after_moment moment.exits p in
      let s = answered co.handed by order moment.fate middle in
      let at : (if is_leave order then co.executing ++ co.heirs else co.executing) ≡ co.executing = rw stays in
      let after : course_after order co ≡ co = go (is_leave order) stays in
      let h' = exits moment.exits p.table (subst (λ images. names_any images moment.exits ≡ false) at spared) calm h in
      (asks middle.table h', subst (λ (x : Course). TracedBehind due post mild x (past ++ entry_of by (call_of order (lacked_by by p.lacked)) s.answer ∷ []) bs (reply_of set s.answer) (after_call by order set s middle)) (sym after) (next middle moment.fate h' refl))
    where
      go : (b : Bool) → b ≡ false → record { handed = co.handed; pattern = co.pattern; executing = if b then co.heirs else co.executing; heirs = co.heirs } ≡ co
      go true e = absurd (cc)
      go false e = refl

  -- A step whose call keeps the fact: what follows is good, whatever is answered.
  pub good-call :
      (F : Table → Type 0) (K : List Entry → Type 0) (by : ℕ) (call : Call) (set : List ℕ) (bs : Branches) →
      is_leave_call call ≡ false →
      ((es : List Name) (t : Table) → names_any co.executing es ≡ false → mild es t.rows → F t → F (after_exits es t)) →
      Growing K → ((past : List Entry) (t : Table) → K past → F t → due past call t) →
      ((handed : Handed) (fate : Option Fate) (t : Table) → F t → F (step_with handed by call fate t).table) →
      AllGood F K bs → Good F K (Does by (Make call) set bs)
  good-call F K by call set bs stays exits grows asks keeps all =
      good-step F K by call set bs stays exits asks
      (λ past q fate k h. let st = step_with co.handed by call fate q.table in all-good F K bs all (past ++ entry_of by call st.answer ∷ []) (reply_of set st.answer) (after_call by (Make call) set st q) (grows past (entry_of by call st.answer) k) (keeps co.handed fate q.table h))

---- Entries one after another

pub any-more : (test : Entry → Bool) (past : List Entry) (e : Entry) → list_any test past ≡ true → list_any test (past ++ e ∷ []) ≡ true
any-more test [] e h = absurd (cc h)
any-more test (x ∷ past) e h = go (test x) h (any-more test past e)
  where
    go :
        (b : Bool) → (b || list_any test past) ≡ true →
        (list_any test past ≡ true → list_any test (past ++ e ∷ []) ≡ true) →
        (b || list_any test (past ++ e ∷ [])) ≡ true
    go true h ih = refl
    go false h ih = ih h

pub any-last : (test : Entry → Bool) (past : List Entry) (e : Entry) → test e ≡ true → list_any test (past ++ e ∷ []) ≡ true
any-last test [] e h = rw h refl
any-last test (x ∷ past) e h = go (test x) (any-last test past e h)
  where
    go : (b : Bool) → list_any test (past ++ e ∷ []) ≡ true → (b || list_any test (past ++ e ∷ [])) ≡ true
    go true ih = refl
    go false ih = ih

pub then-last :
    (first second : Entry → Bool) (past : List Entry) (e : Entry) → list_any first past ≡ true → second e ≡ true →
    one_then first second (past ++ e ∷ []) ≡ true
then-last first second [] e h is = absurd (cc h)
then-last first second (x ∷ past) e h is = go (first x) h (then-last first second past e)
  where
    go :
        (b : Bool) → (b || list_any first past) ≡ true →
        (list_any first past ≡ true → second e ≡ true → one_then first second (past ++ e ∷ []) ≡ true) →
        ((b && list_any second (past ++ e ∷ [])) || one_then first second (past ++ e ∷ [])) ≡ true
    go true h ih = rw (any-last second past e is) refl
    go false h ih = ih h is

pub then-more :
    (first second : Entry → Bool) (past : List Entry) (e : Entry) → one_then first second past ≡ true →
    one_then first second (past ++ e ∷ []) ≡ true
then-more first second [] e h = absurd (cc h)
then-more first second (x ∷ past) e h = go (first x) (list_any second past) h (any-more second past e) (then-more first second past e)
  where
    go :
        (b c : Bool) → ((b && c) || one_then first second past) ≡ true →
        (c ≡ true → list_any second (past ++ e ∷ []) ≡ true) →
        (one_then first second past ≡ true → one_then first second (past ++ e ∷ []) ≡ true) →
        ((b && list_any second (past ++ e ∷ [])) || one_then first second (past ++ e ∷ [])) ≡ true
    go true true h any ih = rw (any refl) refl
    go true false h any ih = or-right (list_any second (past ++ e ∷ [])) (one_then first second (past ++ e ∷ [])) (ih h)
    go false c h any ih = ih h
