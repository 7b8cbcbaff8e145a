-- Lines that are typed, one after another.
use Rattle.std.proofs.Common.{◌≡◌, ℕ, ◌<◌, ◌≤◌, ◌==◌, nat_le, Bool, true, false, cond, List, [], ◌∷◌, ◌++◌, Option}
use Rattle.std.proofs.Common.{Some, None, length, take, refl, sym, ap, subst, ◌∙◌, arith}
use Rattle.std.specs.Io.KnownBytes.{Keeps}
use Rattle.std.proofs.lemmas.Bool.{lt-ltb, le-ltb, eqb-true}
use Rattle.child_family.specs.Told.{Hearing, line, too_long, ended}
use Rattle.child_processes.specs.Unheard.{newline_in}
use Rattle.child_processes.specs.NextLine.{told, line_at, rest_at, line_in, rest_in, IsNext}
use Rattle.vocabulary.specs.declared.calls.Answer.{Answer}
use Rattle.vocabulary.specs.declared.calls.Answer.TheVariants.{Back}
use Rattle.master_on_children.specs.Typed.{Typed, typed, AreTyped, AreRead, IsWhole}
use Rattle.master_on_children.specs.Questions.{replies, lacks, by_reply, reply_to, asked}

-- ---- what one read does
told_some : (text : List ℕ) → told text ≡ ended → ⊥
told_some text e = by_size (nat_le (length text) 4096) refl
  where
    by_size : (t : Bool) → nat_le (length text) 4096 ≡ t → ⊥
    by_size true is = let other : line text ≡ ended = sym (ap (λ t. cond t (line text) too_long) is) ∙ e in absurd cc
    by_size false is = let other : too_long ≡ ended = sym (ap (λ t. cond t (line text) too_long) is) ∙ e in absurd cc

empty : (bytes : List ℕ) → length bytes ≡ 0 → bytes ≡ []
empty [] e = refl
empty (c ∷ cs) e = absurd (omega (arith, e))

ended_at : (bytes : List ℕ) (o : Option ℕ) → line_at bytes o ≡ ended → (bytes ≡ []) × (rest_at bytes o ≡ [])
ended_at bytes (Some at) e = absurd (told_some (take at bytes) e)
ended_at bytes None e = by_size (length bytes == 0) refl
  where
    by_size : (t : Bool) → (length bytes == 0) ≡ t → (bytes ≡ []) × (rest_at bytes None ≡ [])
    by_size true is = (empty bytes (eqb-true (length bytes) 0 is), refl)
    by_size false is = absurd (told_some bytes (sym (ap (λ t. cond t ended (told bytes)) is) ∙ e))

typed_none : (h : Hearing) → typed h ≡ None → h ≡ ended
typed_none (line text) e = absurd cc
typed_none too_long e = absurd cc
typed_none ended e = refl

pub read_end : (k m : Option (List ℕ)) (h : Hearing) → IsNext line_in rest_in k m h → typed h ≡ None → AreRead k [] m × IsWhole k m
read_end None m h next e = (tt, tt)
read_end (Some bytes) m h next e =
    let at = ended_at bytes (newline_in bytes) (sym next.0 ∙ typed_none h e) in
    let left : m ≡ Some [] = next.1 ∙ ap (λ t. Some t) at.1 in
    (subst (λ (x : Option (List ℕ)). AreRead (Some bytes) [] x) (sym left) (sym at.0), left)

pub read_line : (k m : Option (List ℕ)) (h : Hearing) (one : Typed) → IsNext line_in rest_in k m h → typed h ≡ Some one → AreRead k (one ∷ []) m
read_line None m h one next e = tt
read_line (Some bytes) m h one next e =
    subst (λ (x : Option (List ℕ)). AreRead (Some bytes) (one ∷ []) x) (sym next.1) (sym (ap typed next.0) ∙ e, refl)

pub read_none : (k m : Option (List ℕ)) → Keeps k m → AreRead k [] m
read_none None m same = tt
read_none (Some bytes) None same = absurd same
read_none (Some bytes) (Some left) same = same

-- ---- one read after another
typed_more : (bytes left last : List ℕ) (lines : List Typed) (one : Typed) → AreTyped bytes lines left →
    AreTyped left (one ∷ []) last → AreTyped bytes (lines ++ one ∷ []) last
typed_more bytes left last [] one read more = subst (λ (b : List ℕ). AreTyped b (one ∷ []) last) read more
typed_more bytes left last (first ∷ lines) one read more = (read.0, typed_more (rest_in bytes) left last lines one read.1 more)

pub read_more : (k l m : Option (List ℕ)) (lines : List Typed) (one : Typed) → AreRead k lines l → AreRead l (one ∷ []) m → AreRead k (lines ++ one ∷ []) m
read_more None l m lines one read more = tt
read_more (Some bytes) None m lines one read more = absurd read
read_more (Some bytes) (Some left) None lines one read more = absurd more
read_more (Some bytes) (Some left) (Some last) lines one read more = typed_more bytes left last lines one read more

typed_still : (bytes left last : List ℕ) (lines : List Typed) → AreTyped bytes lines left → last ≡ left → AreTyped bytes lines last
typed_still bytes left last lines read same = subst (λ (b : List ℕ). AreTyped bytes lines b) (sym same) read

pub read_still : (k l m : Option (List ℕ)) (lines : List Typed) → AreRead k lines l → AreRead l [] m → AreRead k lines m
read_still None l m lines read same = tt
read_still (Some bytes) None m lines read same = absurd read
read_still (Some bytes) (Some left) None lines read same = absurd same
read_still (Some bytes) (Some left) (Some last) lines read same = typed_still bytes left last lines read same

pub whole_later : (k l m : Option (List ℕ)) (lines : List Typed) → AreRead k lines l → IsWhole l m → IsWhole k m
whole_later None l m lines read whole = tt
whole_later (Some bytes) None m lines read whole = absurd read
whole_later (Some bytes) (Some left) m lines read whole = whole

-- ---- what answers a question
pub asked_on : (waiting : List Typed) (one : Typed) (more : List Typed) → length waiting < 64 → reply_to one ≡ None →
    asked waiting (one ∷ more) ≡ asked (waiting ++ one ∷ []) more
asked_on waiting one more lt e =
    ap (λ t. cond t (by_reply (reply_to one) (λ answer. replies answer waiting more) (asked (waiting ++ one ∷ []) more)) (replies Back waiting (one ∷ more))) (lt-ltb (length waiting) 64 lt)
    ∙ ap (λ r. by_reply r (λ answer. replies answer waiting more) (asked (waiting ++ one ∷ []) more)) e

pub asked_given : (waiting : List Typed) (one : Typed) (a : Answer) → length waiting < 64 → reply_to one ≡ Some a →
    asked waiting (one ∷ []) ≡ replies a waiting []
asked_given waiting one a lt e =
    ap (λ t. cond t (by_reply (reply_to one) (λ answer. replies answer waiting []) (asked (waiting ++ one ∷ []) [])) (replies Back waiting (one ∷ []))) (lt-ltb (length waiting) 64 lt)
    ∙ ap (λ r. by_reply r (λ answer. replies answer waiting []) (asked (waiting ++ one ∷ []) [])) e

pub asked_lacks : (waiting : List Typed) → length waiting < 64 → asked waiting [] ≡ lacks waiting
asked_lacks waiting lt = ap (λ t. cond t (lacks waiting) (replies Back waiting [])) (lt-ltb (length waiting) 64 lt)

pub asked_full : (waiting : List Typed) → 64 ≤ length waiting → asked waiting [] ≡ replies Back waiting []
asked_full waiting ge = ap (λ t. cond t (lacks waiting) (replies Back waiting [])) (le-ltb (length waiting) 64 ge)
