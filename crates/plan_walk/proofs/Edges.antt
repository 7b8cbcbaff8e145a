-- What follows an answer in a fit tree.
use Rattle.std.proofs.Common.{◌≡◌, ◌⊎◌, inl, inr, ℕ, ◌+◌, ◌<◌, ◌≤◌, ◌^◌, max, ◌&&◌, ◌||◌, not, Bool, true}
use Rattle.std.proofs.Common.{false, List, [], ◌∷◌, refl, sym, ◌∙◌, ap, subst, arith, Option, Some, None, is_some, unwrap_or}
use mathlib.Core.Bool.{true≢false}
use denote.Enum.Bare.{same_true}
use Rattle.std.specs.List.{list_all}
use Rattle.listener_set.specs.Numbers.{lacks}
use Rattle.vocabulary.specs.contracts.calls.Reply.{the_type}
use Rattle.vocabulary.specs.declared.calls.Call.{Call}
use Rattle.vocabulary.specs.declared.calls.Call.TheVariants.{OpenAt, CloseAt, Fork, AwaitReady, Quit, Kill, Census, AwaitGone, SpawnMaster}
use Rattle.vocabulary.specs.declared.calls.Call.TheVariants.{Adopt, WritePid, MovePid, RemovePid, Alive, Leave, Usr1, TermMaster, Ask}
use Rattle.vocabulary.specs.declared.calls.Answer.{Answer}
use Rattle.vocabulary.specs.declared.calls.Answer.TheVariants as answer
use Rattle.vocabulary.specs.declared.calls.Reply.{Reply}
use Rattle.vocabulary.specs.declared.calls.Reply.TheVariants.{Full, Short}
use Rattle.vocabulary.specs.declared.plans.PidNote.{PidNote}
use Rattle.vocabulary.specs.declared.plans.Order.{Order}
use Rattle.vocabulary.specs.declared.plans.Order.TheVariants.{Make, ForkLacking, AwaitLacking, KillLacking}
use Rattle.vocabulary.specs.declared.reports.Entry.{Entry}
use Rattle.definitions.specs.Run.{Tree, Ends, Does, Branches, Nothing, Branch, same_reply, reply_of, call_of}
use Rattle.definitions.specs.Run.{ready_after, Lack, lacked_by, lacked_after}
use Rattle.call_laws.specs.Pieces.{among, full_or_short, went_wrong, first_cause, branch, replies_to}
use Rattle.call_laws.specs.Lengths.{height, highest}
use Rattle.call_replies.specs.Replies.{is_listed, order_replies}
use Rattle.plan_walk.specs.Path.{Trail, advance, Asks}
use Rattle.rollback_plan.specs.Following.{follow}
use Rattle.plan_steps.specs.declared.step.Step.{Step}
use Rattle.plan_steps.specs.Woven.{answers, all_answer}
use Rattle.rollback_plan.specs.Places.{begins}
use Rattle.plan_walk.specs.Fit.{answers_next}

and_left : (a b : Bool) → (a && b) ≡ true → a ≡ true
and_left true b h = refl
and_left false b h = h

and_right : (a b : Bool) → (a && b) ≡ true → b ≡ true
and_right true b h = h
and_right false b h = absurd (true≢false (sym h))

some_one : {X : Type 0} {x y : X} → Some x ≡ Some y → x ≡ y
some_one e = cc

-- the tree begins with a step of this set
abbrev pub SetIs : Tree → List ℕ → Type 0
SetIs (Ends end) set = ⊥
SetIs (Does by order own branches) set = set ≡ own

-- the tree begins with a step that asks for this call
abbrev pub AsksOne : Tree → List Lack → ℕ → Call → Type 0
AsksOne (Ends end) lacked by call = ⊥
AsksOne (Does own order set branches) lacked by call = (by ≡ own) × (call ≡ call_of order (lacked_by own lacked))

-- the tree begins with a step of this master
abbrev pub ByIs : Tree → ℕ → Type 0
ByIs (Ends end) by = ⊥
ByIs (Does own order set branches) by = by ≡ own

---- Branches

-- what holds of all replies holds of one among them
among_has : (p : Reply → Bool) (replies : List Reply) (r : Reply) → among replies r ≡ true → list_all p replies ≡ true → p r ≡ true
among_has p [] r h all = absurd (true≢false (sym h))
among_has p (x ∷ replies) r h all =
    elim (same_reply x r) as (λ b. same_reply x r ≡ b → (b || among replies r) ≡ true → p r ≡ true) [
      | true ↦ λ same _. subst (λ (y : Reply). p y ≡ true) (same_true the_type tt x r same) (and_left (p x) _ all)
      | false ↦ λ _ more. among_has p replies r more (and_right (p x) _ all)
    ] refl h

abbrev pub chosen : Bool → Option (Option PidNote × Tree) → Option (Option PidNote × Tree) → Option (Option PidNote × Tree)
chosen b found others = elim b as (λ _. Option (Option PidNote × Tree)) [ true ↦ found | false ↦ others ]

-- a branch that is found answers
answers_branch : (bs : Branches) (r : Reply) (found : Option PidNote × Tree) → all_answer bs ≡ true → branch bs r ≡ Some found → answers found.1 ≡ true
answers_branch Nothing r found h e = cc
answers_branch (Branch replies said rest more) r found h e =
    elim (among replies r) as (λ b. among replies r ≡ b → chosen b (Some (said, rest)) (branch more r) ≡ Some found → answers found.1 ≡ true) [
      | true ↦ λ is e.
          let same : rest ≡ found.1 = ap (λ x. x.1) (some_one e) in
          subst (λ (t : Tree). answers t ≡ true) same (among_has (λ x. answers rest) replies r is (and_left _ (all_answer more) h))
      | false ↦ λ _ e. answers_branch more r found (and_right _ (all_answer more) h) e
    ] refl e

-- and lower
height_branch : (bs : Branches) (r : Reply) (found : Option PidNote × Tree) → branch bs r ≡ Some found → height found.1 ≤ highest bs
height_branch Nothing r found e = cc
height_branch (Branch replies said rest more) r found e =
    elim (among replies r) as (λ b. chosen b (Some (said, rest)) (branch more r) ≡ Some found → height found.1 ≤ max (height rest) (highest more)) [
      | true ↦ λ e. let same : height rest ≡ height found.1 = ap (λ x. height x.1) (some_one e) in omega arith
      | false ↦ λ e. let h = height_branch more r found e in omega (arith, h)
    ] e

---- Listed answers

full_listed : (ks : List ℕ) → among (Full ∷ Short ∷ []) (full_or_short ks) ≡ true
full_listed [] = refl
full_listed (k ∷ ks) = refl

-- a count is an answer to a census alone
counted_listed : (call : Call) (ks : List ℕ) → among (replies_to call) Full ≡ true → among (replies_to call) (full_or_short ks) ≡ true
counted_listed (Census g) ks h = full_listed ks
counted_listed (OpenAt x) ks h = absurd (true≢false (sym h))
counted_listed (CloseAt x) ks h = absurd (true≢false (sym h))
counted_listed (Fork g n fds) ks h = absurd (true≢false (sym h))
counted_listed (AwaitReady g n) ks h = absurd (true≢false (sym h))
counted_listed (Quit g n) ks h = absurd (true≢false (sym h))
counted_listed (Kill g n) ks h = absurd (true≢false (sym h))
counted_listed (AwaitGone g k) ks h = absurd (true≢false (sym h))
counted_listed (SpawnMaster i) ks h = absurd (true≢false (sym h))
counted_listed Adopt ks h = absurd (true≢false (sym h))
counted_listed (WritePid path) ks h = absurd (true≢false (sym h))
counted_listed (MovePid from to) ks h = absurd (true≢false (sym h))
counted_listed (RemovePid path) ks h = absurd (true≢false (sym h))
counted_listed (Alive i) ks h = absurd (true≢false (sym h))
counted_listed Leave ks h = absurd (true≢false (sym h))
counted_listed (Usr1 g k) ks h = absurd (true≢false (sym h))
counted_listed (TermMaster i) ks h = absurd (true≢false (sym h))
counted_listed (Ask i) ks h = absurd (true≢false (sym h))

-- a listed answer is that the master is gone, or is a reply of the call
listed_reply : (call : Call) (set : List ℕ) (a : Answer) → is_listed call a ≡ true → (a ≡ answer.MasterGone) ⊎ (among (replies_to call) (reply_of set a) ≡ true)
listed_reply call set answer.MasterGone h = inl refl
listed_reply call set (answer.Counted c) h = inr (counted_listed call (lacks set c) h)
listed_reply call set (answer.Opened fd) h = inr h
listed_reply call set answer.InUse h = inr h
listed_reply call set answer.TooMany h = inr h
listed_reply call set answer.Denied h = inr h
listed_reply call set answer.NoMemory h = inr h
listed_reply call set answer.Fine h = inr h
listed_reply call set answer.Forked h = inr h
listed_reply call set answer.Again h = inr h
listed_reply call set answer.IsReady h = inr h
listed_reply call set answer.Gone h = inr h
listed_reply call set answer.Late h = inr h
listed_reply call set answer.Spawned h = inr h
listed_reply call set answer.NoImage h = inr h
listed_reply call set answer.Adopted h = inr h
listed_reply call set answer.Refused h = inr h
listed_reply call set answer.IoFault h = inr h
listed_reply call set answer.IsAlive h = inr h
listed_reply call set answer.Go h = inr h
listed_reply call set answer.Back h = inr h

replies_of_order : (lacking : List ℕ) (order : Order) → replies_to (call_of order lacking) ≡ order_replies order
replies_of_order lacking (Make call) = refl
replies_of_order lacking (ForkLacking crew) = refl
replies_of_order lacking (AwaitLacking g) = refl
replies_of_order lacking (KillLacking g) = refl

---- A step that is next

-- after an answer that an edge takes, the rest answers, and is lower
pub answers_after : (t : Tree) (a : Answer) (found : Option PidNote × Tree) → answers t ≡ true → follow (Some t) a ≡ Some found → answers found.1 ≡ true
answers_after (Ends end) a found h e = cc
answers_after (Does by order own branches) a found h e = answers_branch branches (reply_of own a) found (and_right _ (all_answer branches) h) e

pub lower_after : (t : Tree) (a : Answer) (found : Option PidNote × Tree) → follow (Some t) a ≡ Some found → height found.1 + 1 ≤ height t
lower_after (Ends end) a found e = cc
lower_after (Does by order set branches) a found e = omega (arith, height_branch branches (reply_of set a) found e)

-- an answer that no edge takes is that the master is gone
pub lost_after : (t : Tree) (lacked : List Lack) (by : ℕ) (c : Call) (a : Answer) → AsksOne t lacked by c →
    answers t ≡ true → is_listed c a ≡ true → follow (Some t) a ≡ None → a ≡ answer.MasterGone
lost_after (Ends end) lacked by c a h on listed e = absurd h
lost_after (Does own order set branches) lacked by c a h on listed e =
    elim (listed_reply c set a listed) [
      | inl gone ↦ gone
      | inr reply ↦
          let of_order = subst (λ (replies : List Reply). among replies (reply_of set a) ≡ true)
          (ap replies_to h.1 ∙ replies_of_order (lacked_by own lacked) order) reply in
          let has = among_has (λ r. is_some (branch branches r)) (order_replies order) (reply_of set a) of_order (and_left _ (all_answer branches) on) in
          absurd (true≢false (sym has ∙ ap is_some e))
    ]

abbrev pub trail_at : Option Tree → List ℕ → List Lack → PidNote → Option ℕ → ℕ → Trail
trail_at rest ready lacked note cause made = record { rest = rest; ready = ready; lacked = lacked; note = note; cause = cause; made = made }

-- what an entry makes of a trail, where no edge takes its answer
pub advanced_lost : (rest : Option Tree) (t : Tree) (set ready ready' : List ℕ) (lacked lacked' : List Lack)
    (note : PidNote) (cause first : Option ℕ) (made : ℕ) (e : Entry) → rest ≡ Some t → SetIs t set →
    ready' ≡ ready_after e.answer ready → lacked' ≡ lacked_after e.by set e.answer lacked →
    first ≡ first_cause cause (went_wrong e.call (reply_of set e.answer)) (made + 1) → follow (Some t) e.answer ≡ None →
    trail_at None ready' lacked' note first (made + 1) ≡ advance (trail_at rest ready lacked note cause made) e
advanced_lost rest (Ends end) set ready ready' lacked lacked' note cause first made e is s readies all causes none = absurd s
advanced_lost rest (Does by order own branches) set ready ready' lacked lacked' note cause first made e is s readies all causes none =
    rw (is, readies, all, causes, s, none) refl

-- and where one does
pub advanced_on : (rest : Option Tree) (t : Tree) (set ready ready' : List ℕ) (lacked lacked' : List Lack)
    (note said : PidNote) (cause first : Option ℕ) (made : ℕ) (e : Entry) (found : Option PidNote × Tree) →
    rest ≡ Some t → SetIs t set → ready' ≡ ready_after e.answer ready →
    lacked' ≡ lacked_after e.by set e.answer lacked →
    first ≡ first_cause cause (went_wrong e.call (reply_of set e.answer)) (made + 1) →
    follow (Some t) e.answer ≡ Some found → said ≡ unwrap_or found.0 note →
    trail_at (Some found.1) ready' lacked' said first (made + 1)
    ≡ advance (trail_at rest ready lacked note cause made) e
advanced_on rest (Ends end) set ready ready' lacked lacked' note said cause first made e found is s readies all causes on notes = absurd s
advanced_on rest (Does by order own branches) set ready ready' lacked lacked' note said cause first made e found is s readies all causes on notes =
    rw (is, readies, all, causes, s, on, notes) refl

-- the entry that is asked for is the next step's master's
pub asked_by : (rest : Option Tree) (t : Tree) (lacked : List Lack) (e : Entry) → rest ≡ Some t → Asks rest lacked e → ByIs t e.by
asked_by None t lacked e is asks = absurd asks
asked_by (Some (Ends end)) t lacked e is asks = absurd asks
asked_by (Some (Does by order set branches)) t lacked e is asks = subst (λ (x : Tree). ByIs x e.by) (some_one is) asks.0

pub asks_one : (rest : Option Tree) (t : Tree) (lacked : List Lack) (e : Entry) → rest ≡ Some t → Asks rest lacked e → AsksOne t lacked e.by e.call
asks_one None t lacked e is asks = absurd asks
asks_one (Some (Ends end)) t lacked e is asks = absurd asks
asks_one (Some (Does by order set branches)) t lacked e is asks = subst (λ (x : Tree). AsksOne x lacked e.by e.call) (some_one is) asks

pub answers_one : (rest : Option Tree) (t : Tree) → rest ≡ Some t → answers_next rest ≡ true → answers t ≡ true
answers_one rest t is on = subst (λ (x : Option Tree). answers_next x ≡ true) is on

-- a tree that begins with a step has its set and its master
pub begins_set : (t : Tree) (s : Step) → begins t s → SetIs t s.set
begins_set (Ends end) s h = h
begins_set (Does by order set branches) s h = h.2

pub begins_by : (t : Tree) (s : Step) → begins t s → ByIs t s.by
begins_by (Ends end) s h = h
begins_by (Does by order set branches) s h = h.0

-- where a step is next, a call is left
pub begun_height : (t : Tree) (s : Step) → begins t s → 1 ≤ height t
begun_height (Ends end) s h = absurd h
begun_height (Does by order set branches) s h = omega arith

-- the entry of a step that is next is its master's
pub begun_by : (t : Tree) (s : Step) (lacked : List Lack) (e : Entry) → begins t s → Asks (Some t) lacked e → e.by ≡ s.by
begun_by (Ends end) s lacked e h asks = absurd asks
begun_by (Does by order set branches) s lacked e h asks = asks.0 ∙ sym h.0

pub causes_of : (before first : Option ℕ) (number : ℕ) (plain : Bool) (r q r' q' : Reply) →
    first ≡ first_cause before (not plain) number → plain ≡ same_reply r q → r ≡ r' → q ≡ q' →
    first ≡ first_cause before (not (same_reply r' q')) number
causes_of before first number plain r q r' q' e p a b =
    e ∙ ap (λ x. first_cause before (not x) number) (p ∙ (ap (λ x. same_reply x q) a ∙ ap (same_reply r') b))

-- where the rest of a walk is lower, its numbers still fit
pub still_countable : (made h below : ℕ) → made + below < 2 ^ 32 → h + 1 ≤ below → (made + 1) + h < 2 ^ 32
still_countable made h below a b = omega arith
