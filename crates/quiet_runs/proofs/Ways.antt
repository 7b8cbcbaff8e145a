-- A run of which no call is a fault has no cause: then each census is full too.
use Rattle.std.proofs.Common.{◌≡◌, ℕ, ◌+◌, ◌-◌, ◌≤◌, Bool, true, false, not, List, [], length, Option, Some, None}
use Rattle.std.proofs.Common.{refl, sym, ap, ◌∙◌, subst, arith, is_some, if◌then◌else◌}
use Rattle.std.specs.Prelude.{⊤}
use Rattle.std.specs.List.{AllByRecursion, list_any}
use denote.Enum.Bare.{true_same}
use Rattle.vocabulary.specs.contracts.calls.Reply.{the_type}
use Rattle.vocabulary.specs.declared.calls.Answer.TheVariants as answer
use Rattle.vocabulary.specs.declared.calls.Reply.TheVariants as reply
use Rattle.definitions.specs.Table.{Table}
use Rattle.definitions.specs.Calls.{Call, Ask, Answer, Handed, step_with}
use Rattle.definitions.specs.Run.{Tree, Branches, Ends, Does, Nothing, Branch, Make, Reply, same_reply, reply_of}
use Rattle.definitions.specs.Run.{plain_reply, is_fault, Return, returns_after, Progress, Ran, run_with, goes_with}
use Rattle.definitions.specs.Run.{after_moment, after_call}
use Rattle.definitions.specs.Claims.{IsBlamed}
use Rattle.call_laws.specs.Pieces.{among, noted, first_cause, went_wrong}
use Rattle.listener_set.specs.Numbers.{lacks}
use Rattle.quiet_runs.specs.Quiet.{no_event}

-- A call is answered plainly; a count is no fault, whatever it counts.
abbrev pub IsPlain : Call → Answer → Type 0
IsPlain call a = reply_of [] a ≡ plain_reply call

-- From this table each call of the plan is answered plainly, as long as its censuses are full.
abbrev mutual
  pub Goes : Handed → Tree → Table → Type 0
  Goes handed (Ends end) t = ⊤
  Goes handed (Does by (Make call) set branches) t =
      let s = step_with handed by call None t in
      IsPlain call s.answer × Follows handed branches (plain_reply call) s.table
  Goes handed (Does by order set branches) t = ⊥

  pub Follows : Handed → Branches → Reply → Table → Type 0
  Follows handed Nothing r t = ⊤
  Follows handed (Branch replies said rest more) r t =
      elim (among replies r) as (λ b. Type 0) [
        | true ↦ Goes handed rest t
        | false ↦ Follows handed more r t
      ]

-- no fault, no loss, no return and no cause so far
pub record Clean (p : Progress) : Type 0 where
  pub faults : p.faults ≡ 0
  pub losses : p.losses ≡ 0
  pub returns : p.returns ≡ []
  pub cause : p.cause ≡ None

same-refl : (x y : Reply) → x ≡ y → same_reply x y ≡ true
same-refl x y e = true_same the_type x y e

is-not : (b : Bool) → b ≡ true → not b ≡ false
is-not true e = refl
is-not false e = sym e

not-is : (b : Bool) → not b ≡ false → b ≡ true
not-is true e = refl
not-is false e = sym e

plain-no-fault : (call : Call) (a : Answer) → IsPlain call a → is_fault call a ≡ false
plain-no-fault call (answer.Counted ns) h = refl
plain-no-fault (Ask n) answer.Back h = refl
plain-no-fault call a h = is-not _ (same-refl (reply_of [] a) (plain_reply call) h)

plain-no-return : (call : Call) (a : Answer) (faults : ℕ) (returns : List Return) → IsPlain call a →
    returns_after call a faults returns ≡ returns
plain-no-return (Ask n) answer.Back faults returns h = absurd (cc)
plain-no-return call a faults returns h = refl

-- an answer that is plain, to a step whose cause shows no wrong
as-replied : (call : Call) (set : List ℕ) (a : Answer) → IsPlain call a → went_wrong call (reply_of set a) ≡ false →
    reply_of set a ≡ plain_reply call
as-replied call set (answer.Counted ns) h w = go (list_any (λ k. true) (lacks set ns)) w
  where
    go : (b : Bool) → went_wrong call (if b then reply.Short else reply.Full) ≡ false →
        (if b then reply.Short else reply.Full) ≡ plain_reply call
    go true w = absurd (let e : same_reply reply.Short reply.Full ≡ true = subst (λ x. same_reply reply.Short x ≡ true)
        (sym h) (not-is _ w) in cc)
    go false w = h
as-replied call set a h w = h

none-is : (o : Option ℕ) → is_some o ≡ false → o ≡ None
none-is None e = refl
none-is (Some n) e = absurd (cc)

no-wrong : (w : Bool) (n : ℕ) (c : Option ℕ) → c ≡ None → first_cause c w n ≡ None → w ≡ false
no-wrong w n (Some k) e f = absurd (cc)
no-wrong true n None e f = absurd (cc)
no-wrong false n None e f = refl

-- what a call adds to no loss
no-losses : (n k : ℕ) → n ≡ 0 → n + (k - k) ≡ 0
no-losses n k e = omega (arith, e)

unless : (b : Bool) (n k : ℕ) → b ≡ false → (if b then n else k) ≡ k
unless true n k e = absurd (cc)
unless false n k e = refl

not-blamed : (p : Progress) → IsBlamed p → p.faults ≡ 0 → p.losses ≡ 0 → p.returns ≡ [] → p.cause ≡ None
not-blamed p blamed f l r = none-is p.cause (go (is_some p.cause) blamed.1)
  where
    go : (b : Bool) → (b ≡ true → 1 ≤ p.faults + p.losses + length p.returns) → b ≡ false
    go true h = let few : length p.returns ≡ 0 = ap (λ (x : List Return). length x) r in absurd (omega
        (arith, h refl, f, l, few))
    go false h = refl

-- the accounts where a run begins
mutual
  first-of : (handed : Handed) (tree : Tree) (p : Progress) → AllByRecursion IsBlamed
      (run_with handed tree no_event p).passed → IsBlamed p
  first-of handed (Ends end) p b = b.0
  first-of handed (Does by order set branches) p b = b.0

  first-behind : (handed : Handed) (bs : Branches) (r : Reply) (p : Progress) → AllByRecursion IsBlamed
      (goes_with handed bs r no_event p).passed → IsBlamed p
  first-behind handed Nothing r p b = b.0
  first-behind handed (Branch replies said rest more) r p b =
      elim (among replies r) as
      (λ b. AllByRecursion IsBlamed (elim b as (λ c. Ran) [
        | true ↦ run_with handed rest no_event
            (noted said p)
        | false ↦ goes_with handed more r no_event p
      ]).passed → IsBlamed p) [
        | true ↦ λ b. first-of handed rest (noted said p) b
        | false ↦ λ b. first-behind handed more r p b
      ] b

mutual
  pub run-clean :
      (handed : Handed) (tree : Tree) (p : Progress) → Goes handed tree p.table → Clean p →
      AllByRecursion IsBlamed (run_with handed tree no_event p).passed →
      (run_with handed tree no_event p).last.cause ≡ None
  run-clean handed (Ends end) p g c b = c.cause
  run-clean handed (Does by (Make call) set bs) p g c b =
      let middle = after_moment [] p in
      let s = step_with handed by call None middle.table in
      let next = after_call by (Make call) set s middle in
      let faults : next.faults ≡ 0 = unless (is_fault call s.answer) (p.faults + 1) p.faults
      (plain-no-fault call s.answer g.0) ∙ c.faults in
      let losses : next.losses ≡ 0 = no-losses p.losses _ c.losses in
      let returns : next.returns ≡ [] = plain-no-return call s.answer p.faults p.returns g.0 ∙ c.returns in
      let cause = not-blamed next (first-behind handed bs (reply_of set s.answer) next b.1.1) faults losses returns in
      let right = no-wrong (went_wrong call (reply_of set s.answer)) (p.calls + 1) p.cause c.cause cause in
      behind-clean handed bs (reply_of set s.answer) next
      (subst (λ r. Follows handed bs r s.table) (sym (as-replied call set s.answer g.0 right)) g.1)
      (record { faults = faults; losses = losses; returns = returns; cause = cause }) b.1.1
  run-clean handed (Does by order set bs) p g c b = absurd g

  behind-clean :
      (handed : Handed) (bs : Branches) (r : Reply) (p : Progress) → Follows handed bs r p.table → Clean p →
      AllByRecursion IsBlamed (goes_with handed bs r no_event p).passed →
      (goes_with handed bs r no_event p).last.cause ≡ None
  behind-clean handed Nothing r p g c b = c.cause
  behind-clean handed (Branch replies said rest more) r p g c b =
      elim (among replies r) as
      (λ b. elim b as (λ c. Type 0) [ true ↦ Goes handed rest p.table | false ↦ Follows handed more r p.table ] →
      AllByRecursion IsBlamed (elim b as (λ c. Ran) [
        | true ↦ run_with handed rest no_event
            (noted said p)
        | false ↦ goes_with handed more r no_event p
      ]).passed →
      (elim b as (λ c. Ran) [
        | true ↦ run_with handed rest no_event
            (noted said p)
        | false ↦ goes_with handed more r no_event p
      ]).last.cause ≡ None) [
        | true ↦ λ g b. run-clean handed rest (noted said p) g (record {
          faults = c.faults;
          losses = c.losses;
          returns = c.returns;
          cause = c.cause;
        }) b
        | false ↦ λ g b. behind-clean handed more r p g c b
      ] g b
