-- Lines of patterns are read as they are written.
use Rattle.std.proofs.Common.{◌≡◌, ℕ, Bool, true, false, cond, List, ◌∷◌, ◌++◌, Option, Some, None, refl, sym, ap, subst, ◌∙◌}
use Rattle.std.specs.Prelude.{codes, bytes_eq, option_map, option_and_then}
use Rattle.std.specs.Fmt.{decimal}
use Rattle.vocabulary.specs.declared.names.Name.{Name}
use Rattle.vocabulary.specs.declared.calls.Fate.{Fate}
use Rattle.call_text.specs.Words.{fate_text}
use Rattle.call_text.specs.NameText.{name_text}
use Rattle.call_text.specs.Ranges.{IsCount}
use Rattle.call_text.specs.Reads.{Reads}
use Rattle.plain_text.specs.NumberText.{count_of}
use Rattle.plain_text.specs.Cuts.{cut}
use Rattle.call_text.specs.NameReading.{name_of, fate_of}
use Rattle.plain_text.proofs.CutTexts.{lacks, cut_found, cut_at}
use Rattle.call_text.proofs.Readers.{IsReader, reads, mapped, then, count_reads, same_bytes}
use Rattle.call_text.proofs.PartTexts.{number_lacks}
use Rattle.call_text.proofs.NameTexts.{name_reads, fate_reads}
use Rattle.pattern_text.specs.declared.pattern_line.PatternLine.{PatternLine}
use Rattle.pattern_text.specs.declared.pattern_line.PatternLine.TheVariants.{Exit, Fail, Next}
use Rattle.pattern_text.specs.LineText.{line_text, IsLine}
use Rattle.pattern_text.specs.LineReading.{event_of, numbered_of, line_of}

event_found : (n : ℕ) (verb what : List ℕ) (v : PatternLine) → IsCount n → event_of n verb what ≡ Some v → IsLine v ×
    (decimal n ++ 32 ∷ (verb ++ 32 ∷ what) ≡ line_text v)
event_found n verb what v h e = at (bytes_eq verb (codes "exit")) refl (bytes_eq verb (codes "fail")) refl e
  where
    at : (a : Bool) → bytes_eq verb (codes "exit") ≡ a → (b : Bool) → bytes_eq verb (codes "fail") ≡ b →
        cond a (option_map (λ x. Exit n x) (name_of what)) (cond b (option_map (λ f. Fail n f) (fate_of what)) None)
        ≡ Some v → IsLine v × (decimal n ++ 32 ∷ (verb ++ 32 ∷ what) ≡ line_text v)
    at true k b l e =
        let x = mapped (λ (x : Name). Exit n x) (name_of what) v e in
        let got = name_reads.found what x.0 x.1 in
        let W : PatternLine → Type 0 = λ v. IsLine v × (decimal n ++ 32 ∷ (verb ++ 32 ∷ what) ≡ line_text v) in
        subst W x.2 ((h, got.0), ap (λ t. decimal n ++ 32 ∷ (t ++ 32 ∷ what)) (same_bytes verb (codes "exit") k) ∙ ap (λ t. decimal n ++ 32 ∷ (codes "exit " ++ t)) got.1)
    at false k true l e =
        let f = mapped (λ (f : Fate). Fail n f) (fate_of what) v e in
        let got = fate_reads.found what f.0 f.1 in
        let W : PatternLine → Type 0 = λ v. IsLine v × (decimal n ++ 32 ∷ (verb ++ 32 ∷ what) ≡ line_text v) in
        subst W f.2 (h, ap (λ t. decimal n ++ 32 ∷ (t ++ 32 ∷ what)) (same_bytes verb (codes "fail") l) ∙ ap (λ t. decimal n ++ 32 ∷ (codes "fail " ++ t)) got.1)
    at false k false l e = let none : Option PatternLine = None in let no : none ≡ Some v = e in absurd cc

numbered_found : (text : List ℕ) (v : PatternLine) → numbered_of text ≡ Some v → IsLine v × (text ≡ line_text v)
numbered_found text v e =
    let parts = then (λ (p : List ℕ × List ℕ). option_and_then (λ n. option_and_then (λ (q : List ℕ × List ℕ). event_of n q.0 q.1) (cut 32 p.1)) (count_of p.0)) (cut 32 text) v e in
    let n = then (λ n. option_and_then (λ (q : List ℕ × List ℕ). event_of n q.0 q.1) (cut 32 parts.0.1)) (count_of parts.0.0) v parts.2 in
    let rest = then (λ (q : List ℕ × List ℕ). event_of n.0 q.0 q.1) (cut 32 parts.0.1) v n.2 in
    let number = count_reads.found parts.0.0 n.0 n.1 in
    let got = event_found n.0 rest.0.0 rest.0.1 v number.0 rest.2 in (
      got.0,
      cut_found 32 text parts.0 parts.1 ∙ ap (λ t. t ++ 32 ∷ parts.0.1) number.1
          ∙ ap (λ t. decimal n.0 ++ 32 ∷ t) (cut_found 32 parts.0.1 rest.0 rest.1) ∙ got.1,
    )

numbered_only : (n : ℕ) (verb what : List ℕ) (o : Option PatternLine) → IsCount n → lacks 32 verb ≡ true →
    event_of n verb what ≡ o → numbered_of (decimal n ++ 32 ∷ (verb ++ 32 ∷ what)) ≡ o
numbered_only n verb what o h apart e =
    ap (option_and_then (λ (p : List ℕ × List ℕ). option_and_then (λ n. option_and_then (λ (q : List ℕ × List ℕ). event_of n q.0 q.1) (cut 32 p.1)) (count_of p.0))) (cut_at 32 (decimal n) (verb ++ 32 ∷ what) (number_lacks 32 n refl h.1))
    ∙ ap (option_and_then (λ n. option_and_then (λ (q : List ℕ × List ℕ). event_of n q.0 q.1) (cut 32 (verb ++ 32 ∷ what)))) (count_reads.only n h)
    ∙ ap (option_and_then (λ (q : List ℕ × List ℕ). event_of n q.0 q.1)) (cut_at 32 verb what apart)
    ∙ e

-- a line that begins with a number is not `next`
not_next : (text : List ℕ) (v : PatternLine) → numbered_of text ≡ Some v → line_of text ≡ Some v
not_next text v e = at (bytes_eq text (codes "next")) refl
  where
    at : (b : Bool) → bytes_eq text (codes "next") ≡ b → line_of text ≡ Some v
    at true k =
        let none : Option PatternLine = None in
        let no : none ≡ Some v = sym (ap numbered_of (same_bytes text (codes "next") k)) ∙ e in
        absurd cc
    at false k = ap (λ b. cond b (Some Next) (numbered_of text)) k ∙ e

any_found : (text : List ℕ) (v : PatternLine) → line_of text ≡ Some v → IsLine v × (text ≡ line_text v)
any_found text v e = at (bytes_eq text (codes "next")) refl e
  where
    at : (b : Bool) → bytes_eq text (codes "next") ≡ b → cond b (Some Next) (numbered_of text) ≡ Some v → IsLine v × (text ≡ line_text v)
    at true k e =
        let same : Some Next ≡ Some v = e in
        let is : Next ≡ v = cc in
        let W : PatternLine → Type 0 = λ v. IsLine v × (text ≡ line_text v) in
        subst W is (tt, same_bytes text (codes "next") k)
    at false k e = numbered_found text v e

any_only : (v : PatternLine) → IsLine v → line_of (line_text v) ≡ Some v
any_only (Exit n x) h =
    not_next (decimal n ++ 32 ∷ (codes "exit " ++ name_text x)) (Exit n x) (numbered_only n (codes "exit") (name_text x) (Some (Exit n x)) h.0 refl (ap (option_map (λ x. Exit n x)) (name_reads.only x h.1)))
any_only (Fail n f) h =
    not_next (decimal n ++ 32 ∷ (codes "fail " ++ fate_text f)) (Fail n f) (numbered_only n (codes "fail") (fate_text f) (Some (Fail n f)) h refl (ap (option_map (λ f. Fail n f)) (fate_reads.only f tt)))
any_only Next h = refl

pub line_reads : IsReader IsLine line_text line_of
line_reads = record { found = any_found; only = any_only }

pub Reads-line : (text : List ℕ) → Reads IsLine line_text text (line_of text)
Reads-line text = reads IsLine line_text line_of line_reads text
