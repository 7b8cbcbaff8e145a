-- Calls that an edge made, and one more.
use Rattle.std.proofs.Common.{List, [], ◌∷◌, ◌++◌, Option, Some, None, refl, sym, ap, subst, ◌∙◌, append_assoc, append-nil}
use Rattle.vocabulary.specs.declared.reports.Entry.{Entry}
use Rattle.child_family.specs.Told.{Told}
use Rattle.child_family.specs.Talk.{IsHeld, Held}
use Rattle.child_edge.specs.State.{State}
use Rattle.child_edge.specs.Table.{turn_of}
use Rattle.child_edge.specs.Edge.{AreHeld, CallsHeld}

are-more : (first mid last : State) (es : List Entry) (e : Entry) (us ts : List Told) → AreHeld first es us mid →
    IsHeld (turn_of mid e.by e.call) ts (last, e.answer) → AreHeld first (es ++ e ∷ []) (us ++ ts) last
are-more first mid last [] e us ts h k =
    let P : State → Type 0 = λ s. IsHeld (turn_of s e.by e.call) ts (last, e.answer) in
    (last, ts, [], ap (λ l. l ++ ts) h.0 ∙ sym (append-nil ts), subst P h.1 k, (refl, refl))
are-more first mid last (x ∷ es) e us ts h k =
    (h.0, h.1, h.2 ++ ts, ap (λ l. l ++ ts) h.3 ∙ append_assoc h.1 h.2 ts, h.4, are-more h.0 mid last es e h.2 ts h.5 k)

pub calls-more : (old mid new : Option (List Told)) (first before last : State) (es : List Entry) (e : Entry) →
    CallsHeld old mid first es before → Held mid new (turn_of before e.by e.call) (last, e.answer) →
    CallsHeld old new first (es ++ e ∷ []) last
calls-more old mid None first before last es e h k = record { told = tt }
calls-more old mid (Some zs) first before last es e h k =
    let now = k.told in
    let F : Option (List Told) → Type 0 = λ o. CallsHeld old o first es before in
    let so : CallsHeld old (Some now.0) first es before = subst F now.2 h in
    let earlier = so.told in
    record { told = (earlier.0, earlier.1 ++ now.1, earlier.2, now.3 ∙ ap (λ l. l ++ now.1) earlier.3 ∙ append_assoc earlier.0 earlier.1 now.1, are-more first before last es e earlier.1 now.1 earlier.4 now.4) }
