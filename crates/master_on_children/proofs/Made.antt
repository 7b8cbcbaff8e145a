-- Calls one after another, with their questions.
use Rattle.std.proofs.Common.{◌≡◌, ℕ, Bool, true, false, cond, List, [], ◌∷◌, ◌++◌, Option, refl, ap, subst, ◌∙◌}
use Rattle.std.specs.Prelude.{is_some}
use Rattle.vocabulary.specs.declared.reports.Entry.{Entry}
use Rattle.master_on_children.specs.Questions.{question_of}
use Rattle.master_on_children.specs.Inbox.{on_children, IsAnsweredTo, AreAnswered}
use Rattle.master_on_children.specs.declared.inbox.Inbox.{Inbox}

-- a question is made on no child
pub on_question : (entries : List Entry) (e : Entry) → is_some (question_of e.call) ≡ true → on_children (entries ++ e ∷ []) ≡ on_children entries
on_question [] e is = ap (λ b. cond b [] (e ∷ [])) is
on_question (x ∷ entries) e is = ap (λ es. cond (is_some (question_of x.call)) es (x ∷ es)) (on_question entries e is)

later : (b : Bool) (x : Entry) (es : List Entry) (e : Entry) → cond b (es ++ e ∷ []) (x ∷ (es ++ e ∷ [])) ≡ cond b es (x ∷ es) ++ e ∷ []
later true x es e = refl
later false x es e = refl

-- every other call is
pub on_call : (entries : List Entry) (e : Entry) → is_some (question_of e.call) ≡ false → on_children (entries ++ e ∷ []) ≡ on_children entries ++ e ∷ []
on_call [] e is = ap (λ b. cond b [] (e ∷ [])) is
on_call (x ∷ entries) e is =
    ap (λ es. cond (is_some (question_of x.call)) es (x ∷ es)) (on_call entries e is)
    ∙ later (is_some (question_of x.call)) x (on_children entries) e

module _ {I : Type 0} (remaining : I → Option (List ℕ)) where
  pub answered_more : (first mid last : Inbox I) (entries : List Entry) (e : Entry) →
      AreAnswered remaining first entries mid → IsAnsweredTo remaining (question_of e.call) mid e.answer last →
      AreAnswered remaining first (entries ++ e ∷ []) last
  answered_more first mid last [] e before now = (last, subst (λ (x : Inbox I). IsAnsweredTo remaining (question_of e.call) x e.answer last) before now, refl)
  answered_more first mid last (x ∷ entries) e before now = (before.0, before.1, answered_more before.0 mid last entries e before.2 now)
