-- Where a run can come to say that a file is left.
use Rattle.std.proofs.Common.{◌≡◌, ℕ, ◌+◌, Bool, true, false, List, [], ◌∷◌, Option, Some, None, refl, sym, ap, subst, ◌⊎◌, inl, inr, ⊎_elim}
use Rattle.std.specs.Prelude.{◌||◌, ⊤}
use Rattle.std.specs.List.{list_any}
use Rattle.listener_set.specs.AddressList.{has}
use Rattle.listener_set.specs.Numbers.{lacks}
use Rattle.vocabulary.specs.declared.plans.PidNote.{PidNote}
use Rattle.vocabulary.specs.declared.plans.PidNote.TheVariants.{Left}
use Rattle.vocabulary.specs.declared.plans.Order.{Order}
use Rattle.vocabulary.specs.declared.plans.Order.TheVariants.{Make, ForkLacking, AwaitLacking, KillLacking}
use Rattle.vocabulary.specs.declared.calls.Call.{Call}
use Rattle.vocabulary.specs.declared.calls.Call.TheVariants.{RemovePid}
use Rattle.vocabulary.specs.declared.calls.Answer.{Answer}
use Rattle.vocabulary.specs.declared.calls.Answer.TheVariants as answer
use Rattle.vocabulary.specs.declared.calls.Reply.{Reply}
use Rattle.vocabulary.specs.declared.calls.Reply.TheVariants as reply
use Rattle.vocabulary.specs.declared.reports.Entry.{Entry}
use Rattle.definitions.specs.Run.{Tree, Branches, Ends, Does, Nothing, Branch, reply_of, call_of, Pattern, Progress}
use Rattle.definitions.specs.Run.{Ran, run_with, goes_with, after_call, after_moment, lacked_by}
use Rattle.call_laws.specs.Pieces.{among, full_or_short, noted, answered}
use Rattle.definitions.specs.Table.{FilePath}
use Rattle.definitions.specs.Claims.{is_failed_removal}
use Rattle.definitions.specs.Calls.{Handed}

is-fault : (set : List ℕ) (a : Answer) → among (reply.IoFault ∷ []) (reply_of set a) ≡ true → a ≡ answer.IoFault
is-fault set (answer.Opened fd) e = absurd (cc e)
is-fault set answer.InUse e = absurd (cc e)
is-fault set answer.TooMany e = absurd (cc e)
is-fault set answer.Denied e = absurd (cc e)
is-fault set answer.NoMemory e = absurd (cc e)
is-fault set answer.Fine e = absurd (cc e)
is-fault set answer.Forked e = absurd (cc e)
is-fault set answer.Again e = absurd (cc e)
is-fault set answer.IsReady e = absurd (cc e)
is-fault set answer.Gone e = absurd (cc e)
is-fault set answer.Late e = absurd (cc e)
is-fault set (answer.Counted ns) e = counts (lacks set ns) e
  where
    counts : (l : List ℕ) → among (reply.IoFault ∷ []) (full_or_short l) ≡ true → answer.Counted ns ≡ answer.IoFault
    counts [] e = absurd (cc e)
    counts (x ∷ l) e = absurd (cc e)
is-fault set answer.Spawned e = absurd (cc e)
is-fault set answer.NoImage e = absurd (cc e)
is-fault set answer.Adopted e = absurd (cc e)
is-fault set answer.Refused e = absurd (cc e)
is-fault set answer.IoFault e = refl
is-fault set answer.IsAlive e = absurd (cc e)
is-fault set answer.Go e = absurd (cc e)
is-fault set answer.Back e = absurd (cc e)
is-fault set answer.MasterGone e = absurd (cc e)

here : (b c : Bool) → b ≡ true → (b || c) ≡ true
here true c e = refl
here false c e = absurd (cc)

there : (b c : Bool) → c ≡ true → (b || c) ≡ true
there true c e = refl
there false c e = e

was-said : (said : Option PidNote) (p : Progress) → (noted said p).note ≡ Left → (p.note ≡ Left) ⊎ (said ≡ Some Left)
was-said None p e = inl e
was-said (Some x) p e = inr (ap (λ n. Some n) e)

module _ (paths : List FilePath) where
  -- the removal of the file at one of the paths
  abbrev pub is_removal_call : Call → Bool
  is_removal_call (RemovePid path) = has paths path
  is_removal_call _ = false

  abbrev pub is_removal : Order → Bool
  is_removal (Make call) = is_removal_call call
  is_removal (ForkLacking g) = false
  is_removal (AwaitLacking g) = false
  is_removal (KillLacking g) = false

  -- Only the fault of a removal says so.
  abbrev pub SaidBy : Bool → List Reply → Option PidNote → Type 0
  SaidBy removes replies said = said ≡ Some Left → (removes ≡ true) × (replies ≡ reply.IoFault ∷ [])

  abbrev mutual
    pub LeftByFault : Tree → Type 0
    LeftByFault (Ends end) = ⊤
    LeftByFault (Does by order set branches) = LeftBehind (is_removal order) branches

    pub LeftBehind : Bool → Branches → Type 0
    LeftBehind removes Nothing = ⊤
    LeftBehind removes (Branch replies said rest more) = SaidBy removes replies said × LeftByFault rest × LeftBehind removes more

  failed-call : (call : Call) → is_removal_call call ≡ true → is_failed_removal paths call answer.IoFault ≡ true
  failed-call (RemovePid path) e = e
  failed-call _ e = absurd (cc e)

  failed : (order : Order) (lacking : List ℕ) → is_removal order ≡ true → is_failed_removal paths (call_of order lacking) answer.IoFault ≡ true
  failed (Make call) lacking e = failed-call call e
  failed (ForkLacking g) lacking e = absurd (cc e)
  failed (AwaitLacking g) lacking e = absurd (cc e)
  failed (KillLacking g) lacking e = absurd (cc e)

  abbrev any_failed : List Entry → Bool
  any_failed entries = list_any (λ e. is_failed_removal paths e.call e.answer) entries

  -- A run that ends with that note began with it, or a removal failed.
  mutual
    pub left-by :
        (handed : Handed) (t : Tree) (pattern : Pattern) (p : Progress) → LeftByFault t →
        (run_with handed t pattern p).last.note ≡ Left →
        (p.note ≡ Left) ⊎ (any_failed (run_with handed t pattern p).entries ≡ true)
    left-by handed (Ends end) pattern p h e = inl e
    left-by handed (Does by order set branches) pattern p h e =
        let moment = pattern (p.calls + 1) in
        let middle = after_moment moment.exits p in
        let s = answered handed by order moment.fate middle in
        ⊎_elim (λ a. inl a)
        (λ a. inr (⊎_elim (λ b. here (is_failed_removal paths (call_of order (lacked_by by middle.lacked)) s.answer) _ b) (λ b. there (is_failed_removal paths (call_of order (lacked_by by middle.lacked)) s.answer) _ b) a))
        (left-behind handed branches order (lacked_by by middle.lacked) set s.answer pattern (after_call by order set s middle) h e)

    left-behind :
        (handed : Handed) (bs : Branches) (order : Order) (lacking set : List ℕ) (a : Answer) (pattern : Pattern)
        (p : Progress) → LeftBehind (is_removal order) bs → (goes_with handed bs (reply_of set a) pattern p).last.note ≡
        Left → (p.note ≡ Left) ⊎
        ((is_failed_removal paths (call_of order lacking) a ≡ true) ⊎ (any_failed (goes_with handed bs (reply_of set a) pattern p).entries ≡ true))
    left-behind handed Nothing order lacking set a pattern p h e = inl e
    left-behind handed (Branch replies said rest more) order lacking set a pattern p h e =
        elim (among replies (reply_of set a)) as (λ b.
        among replies (reply_of set a) ≡ b →
        let ran : Ran = elim b as (λ c. Ran) [ true ↦ run_with handed rest pattern (noted said p) | false ↦ goes_with handed more (reply_of set a) pattern p ] in
        ran.last.note ≡ Left → (p.note ≡ Left) ⊎ ((is_failed_removal paths (call_of order lacking) a ≡ true) ⊎ (any_failed ran.entries ≡ true))) [
          | true ↦ λ on e.
              ⊎_elim (λ x. ⊎_elim (λ y. inl y) (λ y.
              let by = h.0 y in
              let fault = is-fault set a (subst (λ rs. among rs (reply_of set a) ≡ true) by.1 on) in
              inr (inl (subst (λ z. is_failed_removal paths (call_of order lacking) z ≡ true) (sym fault) (failed order lacking by.0)))) (was-said said p x))
              (λ x. inr (inr x)) (left-by handed rest pattern (noted said p) h.1 e)
          | false ↦ λ on e. left-behind handed more order lacking set a pattern p h.2 e
        ] refl e
