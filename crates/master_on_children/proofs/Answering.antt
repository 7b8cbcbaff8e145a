-- Lines that are read for the answer to a question.
use Rattle.std.proofs.Common.{◌≡◌, ℕ, ◌+◌, ◌<◌, ◌≤◌, List, [], ◌∷◌, ◌++◌, Option, Some, None, Result, Ok, Err, length}
use Rattle.std.proofs.Common.{refl, sym, ap, subst, ◌∙◌, append-nil, append_assoc, arith}
use Rattle.std.specs.Prelude.{IsSome, ⊤}
use Rattle.std.proofs.lemmas.List.{length-append}
use Rattle.vocabulary.specs.declared.calls.Answer.{Answer}
use Rattle.vocabulary.specs.declared.calls.Answer.TheVariants.{Back}
use Rattle.master_on_children.specs.Typed.{Typed, AreRead}
use Rattle.master_on_children.specs.Questions.{Asked, reply_to, asked}
use Rattle.master_on_children.specs.Inbox.{IsOver, unread, Takes, ReadsMore, IsGiven, IsAnswered}
use Rattle.master_on_children.specs.declared.fault.SupervisorFault.{SupervisorFault}
use Rattle.master_on_children.specs.declared.inbox.Inbox.{Inbox}
use Rattle.master_on_children.proofs.Typing.{read_more, read_still, whole_later, asked_on, asked_given, asked_lacks, asked_full}

abbrev Came : Type 0
Came = Result (Option Typed) SupervisorFault

abbrev pub IsNoLine : Came → Type 0
IsNoLine (Ok (Some one)) = ⊥
IsNoLine (Ok None) = ⊤
IsNoLine (Err fault) = ⊤

module _ {I : Type 0} (remaining : I → Option (List ℕ)) where
  -- the lines that were read so far wait behind the others, and none of them replies
  abbrev pub Goes : Inbox I → Inbox I → ℕ → Type 0
  Goes first now count =
      (ahead : List Typed)
      × AreRead (unread remaining first) ahead (unread remaining now)
      × (IsSome first.ended → ahead ≡ [])
      × (now.ended ≡ first.ended)
      × (length now.waiting ≡ count)
      × ((more : List Typed) → asked first.waiting (ahead ++ more) ≡ asked now.waiting more)

  pub starts : (first : Inbox I) (count : ℕ) → AreRead (unread remaining first) [] (unread remaining first) →
      length first.waiting ≡ count → Goes first first count
  starts first count same size = ([], same, λ _. refl, refl, size, λ more. refl)

  all_asked : (first now : Inbox I) (count : ℕ) (g : Goes first now count) → asked first.waiting g.0 ≡ asked now.waiting []
  all_asked first now count g = ap (asked first.waiting) (sym (append-nil g.0)) ∙ g.5 []

  -- the input has ended
  pub goes_back : (first now new : Inbox I) (count : ℕ) → Goes first now count → count < 64 →
      (end : Option (Result (Unit {0}) SupervisorFault)) → now.ended ≡ end → (came : Came) → IsNoLine came →
      ReadsMore remaining end now came new → IsAnswered remaining first Back new
  goes_back first now new count g lt None still (Ok (Some one)) line r = absurd line
  goes_back first now new count g lt None still (Ok None) line r =
      let small : length now.waiting < 64 = omega (arith, lt, g.4) in
      let eq = all_asked first now count g ∙ asked_lacks now.waiting small in
      let is : new.ended ≡ Some (Ok tt) = ap (λ (x : Inbox I). x.ended) r.0 in
      let has_ended : IsOver first.ended new.ended = subst (λ (x : Option (Result (Unit {0}) SupervisorFault)). IsOver x new.ended) (sym still ∙ g.3) (subst IsSome (sym is) refl) in
      record {
        ahead = g.0;
        are_read = read_still (unread remaining first) (unread remaining now) (unread remaining new) g.0 g.1 r.1;
        none_read = g.2;
        is_given = subst (λ (x : Asked). IsGiven remaining x Back first new) (sym eq)
            (refl, ap (λ (x : Inbox I). x.waiting) r.0, has_ended, λ o e. whole_later (unread remaining first) (unread remaining now) (unread remaining new) g.0 g.1 r.2);
      }
  goes_back first now new count g lt None still (Err fault) line r =
      let small : length now.waiting < 64 = omega (arith, lt, g.4) in
      let eq = all_asked first now count g ∙ asked_lacks now.waiting small in
      let is : new.ended ≡ Some (Err fault) = ap (λ (x : Inbox I). x.ended) r.0 in
      let has_ended : IsOver first.ended new.ended = subst (λ (x : Option (Result (Unit {0}) SupervisorFault)). IsOver x new.ended) (sym still ∙ g.3) (subst IsSome (sym is) refl) in
      record {
        ahead = g.0;
        are_read = read_still (unread remaining first) (unread remaining now) (unread remaining new) g.0 g.1 r.1;
        none_read = g.2;
        is_given = subst (λ (x : Asked). IsGiven remaining x Back first new) (sym eq)
            (refl, ap (λ (x : Inbox I). x.waiting) r.0, has_ended, λ o e. (let other : Some (Err fault) ≡ Some (Ok tt) = sym is ∙ e in absurd cc));
      }
  goes_back first now new count g lt (Some end) still came line r =
      let small : length now.waiting < 64 = omega (arith, lt, g.4) in
      let eq = all_asked first now count g ∙ asked_lacks now.waiting small in
      let is : new.ended ≡ Some end = ap (λ (x : Inbox I). x.ended) r.1 ∙ still in
      let has_ended : IsOver first.ended new.ended = subst (λ (x : Option (Result (Unit {0}) SupervisorFault)). IsOver x new.ended) (sym still ∙ g.3) is in
      record {
        ahead = g.0;
        are_read = subst (λ (x : Inbox I). AreRead (unread remaining first) g.0 (unread remaining x)) (sym r.1) g.1;
        none_read = g.2;
        is_given = subst (λ (x : Asked). IsGiven remaining x Back first new) (sym eq)
            (refl, ap (λ (x : Inbox I). x.waiting) r.1, has_ended, λ o e. (let other : Some end ≡ None = sym still ∙ g.3 ∙ o in absurd cc));
      }

  -- a line is read only of an input that has not ended
  read_open : (now new : Inbox I) (one : Typed) (end : Option (Result (Unit {0}) SupervisorFault)) →
      ReadsMore remaining end now (Ok (Some one)) new → (end ≡ None) × Takes remaining now (Ok (Some one)) new
  read_open now new one None r = (refl, r)
  read_open now new one (Some (Ok done)) r = let other : Ok (Some one) ≡ Ok None = r.0 in absurd cc
  read_open now new one (Some (Err fault)) r = absurd cc

  none_before : (first now : Inbox I) (lines : List Typed) → now.ended ≡ first.ended → now.ended ≡ None → IsSome first.ended → lines ≡ []
  none_before first now lines same still some =
      let o : Option (Result (Unit {0}) SupervisorFault) = None in
      let other : IsSome o = subst IsSome (sym same ∙ still) some in
      absurd cc

  -- a line replies
  pub replies : (first now new : Inbox I) (count : ℕ) → Goes first now count → count < 64 → (one : Typed) →
      ReadsMore remaining now.ended now (Ok (Some one)) new → (a : Answer) → Some a ≡ reply_to one →
      IsAnswered remaining first a new
  replies first now new count g lt one r a e =
      let small : length now.waiting < 64 = omega (arith, lt, g.4) in
      let on = read_open now new one now.ended r in
      let eq = g.5 (one ∷ []) ∙ asked_given now.waiting one a small (sym e) in
      record {
        ahead = g.0 ++ one ∷ [];
        are_read = read_more (unread remaining first) (unread remaining now) (unread remaining new) g.0 one g.1 on.1.1;
        none_read = none_before first now (g.0 ++ one ∷ []) g.3 on.0;
        is_given = subst (λ (x : Asked). IsGiven remaining x a first new) (sym eq) (refl, ap (λ (x : Inbox I). x.waiting) on.1.0, refl, ap (λ (x : Inbox I). x.ended) on.1.0 ∙ g.3);
      }

  -- a line waits
  pub waits : (first now new : Inbox I) (count : ℕ) → Goes first now count → count < 64 → (one : Typed) →
      ReadsMore remaining now.ended now (Ok (Some one)) new → None ≡ reply_to one → (longer : List Typed) →
      longer ≡ new.waiting ++ one ∷ [] → Goes first (record new { waiting = longer }) (count + 1)
  waits first now new count g lt one r e longer is =
      let small : length now.waiting < 64 = omega (arith, lt, g.4) in
      let on = read_open now new one now.ended r in
      let behind : longer ≡ now.waiting ++ one ∷ [] = is ∙ ap (λ (x : Inbox I). x.waiting ++ one ∷ []) on.1.0 in (
        g.0 ++ one ∷ [],
        read_more (unread remaining first) (unread remaining now) (unread remaining new) g.0 one g.1 on.1.1,
        none_before first now (g.0 ++ one ∷ []) g.3 on.0,
        ap (λ (x : Inbox I). x.ended) on.1.0 ∙ g.3,
        ap length behind ∙ length-append now.waiting (one ∷ []) ∙ ap (λ n. n + 1) g.4,
        λ more.
            ap (asked first.waiting) (append_assoc g.0 (one ∷ []) more)
            ∙ g.5 (one ∷ more)
            ∙ asked_on now.waiting one more small (sym e)
            ∙ ap (λ w. asked w more) (sym behind),
      )

  -- 64 lines wait
  pub is_full : (first now : Inbox I) (count : ℕ) → Goes first now count → 64 ≤ count → IsAnswered remaining first Back now
  is_full first now count g ge =
      let full : 64 ≤ length now.waiting = omega (arith, ge, g.4) in
      let eq = all_asked first now count g ∙ asked_full now.waiting full in
      record {
        ahead = g.0;
        are_read = g.1;
        none_read = g.2;
        is_given = subst (λ (x : Asked). IsGiven remaining x Back first now) (sym eq) (refl, refl, refl, g.3);
      }
