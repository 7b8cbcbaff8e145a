-- A line is read as a word where it is what is written of the word.
use Rattle.std.proofs.Common.{◌≡◌, ℕ, ◌+◌, ◌^◌, ◌<◌, Bool, true, false, cond, ltb, eqb, List, [], ◌∷◌, ◌++◌, length}
use Rattle.std.proofs.Common.{take, drop, Option, Some, None, Ok, codes, find, bytes_eq, refl, sym, ap, subst, ◌∙◌}
use Rattle.std.proofs.Common.{arith}
use Rattle.std.specs.Fmt.{decimal}
use Rattle.std.specs.Str.{all_ascii_digits}
use Rattle.std.specs.Char.{is_ascii_digit}
use Rattle.std.specs.List.{AllByRecursion, before_first, after_first, position_or_len}
use Rattle.std.specs.Cmp.Lexicographic.{same_text}
use Rattle.std.proofs.lemmas.Bool.Decides.{nat_tests}
use Rattle.std.proofs.lemmas.List.{length-drop, take_at}
use Rattle.std.proofs.Math.Seq.{drop-append-add}
use Rattle.std.proofs.lemmas.List.Sums.{split_at_first, passes_at_first}
use Rattle.plain_text.specs.NumberText.{number_in, number64_of}
use Rattle.plain_text.proofs.NumberTextLemmas.{both, decimal-number_in, decimal-number64_of, number_in-decimal, number64_of-decimal, digits-decimal}
use Rattle.control_words.specs.declared.words.Word.{Word}
use Rattle.control_words.specs.declared.words.Word.TheVariants.{Hup, Quit, Int, Term, Usr1, Usr2, Usr2Attended, Winch, Ttin, Ttou, Beat, Tick}
use Rattle.control_words.specs.declared.refusal.WordRefusal.{WordRefusal}
use Rattle.control_words.specs.declared.refusal.WordRefusal.TheVariants.{Unknown, BadNumber}
use Rattle.control_words.specs.Words.{word_name, word_text, IsWord, signals, signal_of, is_space, beat_of, beat_in, tick_of, tick_in, or_refused, reading}

---- What is written is read

no_space : (c : ℕ) → is_ascii_digit c ≡ true → eqb c 32 ≡ false
no_space c digit = grind (arith, nat_tests)

-- the first space stands behind digits
space_behind : (xs ys : List ℕ) → all_ascii_digits xs ≡ true → position_or_len is_space (xs ++ 32 ∷ ys) ≡ length xs
space_behind [] ys digits = refl
space_behind (x ∷ xs) ys digits =
    let tests = both (is_ascii_digit x) (all_ascii_digits xs) digits in
    rw (no_space x tests.0) (omega (arith, space_behind xs ys tests.1))

before_digits : (xs ys : List ℕ) → all_ascii_digits xs ≡ true → before_first is_space (xs ++ 32 ∷ ys) ≡ xs
before_digits xs ys digits = ap (λ n. take n (xs ++ 32 ∷ ys)) (space_behind xs ys digits) ∙ take_at xs (32 ∷ ys) (length xs) refl

after_digits : (xs ys : List ℕ) → all_ascii_digits xs ≡ true → after_first is_space (xs ++ 32 ∷ ys) ≡ ys
after_digits xs ys digits = ap (λ n. drop (n + 1) (xs ++ 32 ∷ ys)) (space_behind xs ys digits) ∙ drop-append-add xs (32 ∷ ys) 1

below_limit : (nr : ℕ) → nr < 1024 → ltb nr 1024 ≡ true
below_limit nr lt = grind (arith, nat_tests)

beat_in-written : (nr now : ℕ) → nr < 1024 → now < 2 ^ 64 → beat_in (decimal nr ++ 32 ∷ decimal now) ≡ Some (Beat nr now)
beat_in-written nr now small fits =
    let digits = digits-decimal nr (omega arith) in
    rw (
      before_digits (decimal nr) (decimal now) digits,
      after_digits (decimal nr) (decimal now) digits,
      number_in-decimal nr (omega arith),
      number64_of-decimal now fits,
      below_limit nr small,
    ) refl

pub reading-written : (word : Word) → IsWord word → reading (word_text word) ≡ Ok word
reading-written Hup h = refl
reading-written Quit h = refl
reading-written Int h = refl
reading-written Term h = refl
reading-written Usr1 h = refl
reading-written Usr2 h = refl
reading-written Usr2Attended h = refl
reading-written Winch h = refl
reading-written Ttin h = refl
reading-written Ttou h = refl
reading-written (Beat nr now) h = ap (or_refused BadNumber) (beat_in-written nr now h.0 h.1)
reading-written (Tick now) h = ap (λ o. or_refused BadNumber (tick_of o)) (number64_of-decimal now h)

---- What is read is written

-- Behind the first space there is nothing where there is none.
line_of : (line : List ℕ) → 0 < length (after_first is_space line) → line ≡ before_first is_space line ++ 32 ∷ after_first is_space line
line_of line some =
    let stands : position_or_len is_space line < length line = omega (arith, some, length-drop (position_or_len is_space line + 1) line) in
    split_at_first is_space line 0 stands
    ∙ ap (λ c. before_first is_space line ++ c ∷ after_first is_space line) (byte_is _ (passes_at_first is_space line 0 stands))
  where
    byte_is : (c : ℕ) → eqb c 32 ≡ true → c ≡ 32
    byte_is c e = grind (arith, nat_tests)

number_nonempty : (text : List ℕ) (n : ℕ) → number64_of text ≡ Some n → 0 < length text
number_nonempty [] n e = cc
number_nonempty (c ∷ cs) n e = omega arith

-- the numbers of a word behind its name are what is read of them
beat_written : (numbers : List ℕ) (word : Word) → beat_in numbers ≡ Some word → (codes "beat" ++ 32 ∷ numbers ≡ word_text word) × IsWord word
beat_written numbers word h =
    at (number_in (before_first is_space numbers)) (number64_of (after_first is_space numbers)) refl refl h
  where
    below : (nr now : ℕ) (b : Bool) → ltb nr 1024 ≡ b → cond b (Some (Beat nr now)) None ≡ Some word → (nr < 1024) × (Beat nr now ≡ word)
    below nr now true e h = (grind (arith, nat_tests), cc)
    below nr now false e h = cc

    at : (nr now : Option ℕ) → number_in (before_first is_space numbers) ≡ nr →
        number64_of (after_first is_space numbers) ≡ now → beat_of nr now ≡ Some word →
        (codes "beat" ++ 32 ∷ numbers ≡ word_text word) × IsWord word
    at None now e f h = cc
    at (Some nr) None e f h = cc
    at (Some nr) (Some now) e f h =
        let is = below nr now (ltb nr 1024) refl h in
        let first = decimal-number_in (before_first is_space numbers) nr e in
        let second = decimal-number64_of (after_first is_space numbers) now f in
        let line = line_of numbers (number_nonempty (after_first is_space numbers) now f) in
        subst (λ w. (codes "beat" ++ 32 ∷ numbers ≡ word_text w) × IsWord w) is.1
        (ap (λ ns. codes "beat" ++ 32 ∷ ns) (line ∙ ap (λ a. a ++ 32 ∷ after_first is_space numbers) first.0 ∙ ap (λ b. decimal nr ++ 32 ∷ b) second.0), (is.0, second.1))

tick_written : (number : List ℕ) (word : Word) → tick_in number ≡ Some word → (codes "tick" ++ 32 ∷ number ≡ word_text word) × IsWord word
tick_written number word h = at (number64_of number) refl h
  where
    at : (now : Option ℕ) → number64_of number ≡ now → tick_of now ≡ Some word → (codes "tick" ++ 32 ∷ number ≡ word_text word) × IsWord word
    at None e h = cc
    at (Some now) e h =
        let is : Tick now ≡ word = cc in
        let found = decimal-number64_of number now e in
        subst (λ w. (codes "tick" ++ 32 ∷ number ≡ word_text w) × IsWord w) is (ap (λ n. codes "tick" ++ 32 ∷ n) found.0, found.1)

-- A word that is written as its name alone.
abbrev IsPlain : Word → Type 0
IsPlain word = (word_name word ≡ word_text word) × IsWord word

found_written : (line : List ℕ) (words : List Word) → AllByRecursion IsPlain words → (word : Word) →
    find (λ w. bytes_eq (word_name w) line) words ≡ Some word → (line ≡ word_text word) × IsWord word
found_written line [] all word h = cc
found_written line (w ∷ ws) all word h = at (bytes_eq (word_name w) line) refl (found_written line ws all.1 word) h
  where
    at : (b : Bool) → bytes_eq (word_name w) line ≡ b →
        (find (λ w. bytes_eq (word_name w) line) ws ≡ Some word → (line ≡ word_text word) × IsWord word) →
        cond b (Some w) (find (λ w. bytes_eq (word_name w) line) ws) ≡ Some word → (line ≡ word_text word) × IsWord word
    at true e later h =
        let is : w ≡ word = cc in
        subst (λ v. (line ≡ word_text v) × IsWord v) is (sym (same_text (word_name w) line (sym e)) ∙ all.0.0, all.0.1)
    at false e later h = later h

signal_written : (line : List ℕ) (word : Word) → signal_of line ≡ Some word → (line ≡ word_text word) × IsWord word
signal_written line word h = found_written line signals ((refl, tt), ((refl, tt), ((refl, tt), ((refl, tt), ((refl, tt), ((refl, tt), ((refl, tt), ((refl, tt), ((refl, tt), ((refl, tt), tt)))))))))) word h

accepted : (refusal : WordRefusal) (found : Option Word) (word : Word) → or_refused refusal found ≡ Ok word → found ≡ Some word
accepted refusal None word h = cc
accepted refusal (Some w) word h = cc

-- A name with something behind it, which a space parts.
named : (name line : List ℕ) → bytes_eq (before_first is_space line) name ≡ true →
    0 < length (after_first is_space line) → line ≡ name ++ 32 ∷ after_first is_space line
named name line e some =
    line_of line some
    ∙ ap (λ before. before ++ 32 ∷ after_first is_space line) (same_text (before_first is_space line) name (sym e))

beat_nonempty : (numbers : List ℕ) (word : Word) → beat_in numbers ≡ Some word → 0 < length numbers
beat_nonempty [] word h = cc
beat_nonempty (c ∷ cs) word h = omega arith

tick_nonempty : (number : List ℕ) (word : Word) → tick_in number ≡ Some word → 0 < length number
tick_nonempty [] word h = cc
tick_nonempty (c ∷ cs) word h = omega arith

pub written-reading : (line : List ℕ) (word : Word) → reading line ≡ Ok word → (line ≡ word_text word) × IsWord word
written-reading line word h =
    beat (bytes_eq (before_first is_space line) (codes "beat")) refl h
  where
    tick : (b : Bool) → bytes_eq (before_first is_space line) (codes "tick") ≡ b →
        cond b (or_refused BadNumber (tick_in (after_first is_space line))) (or_refused Unknown (signal_of line))
        ≡ Ok word → (line ≡ word_text word) × IsWord word
    tick true e h =
        let found = accepted BadNumber (tick_in (after_first is_space line)) word h in
        let written = tick_written (after_first is_space line) word found in
        (named (codes "tick") line e (tick_nonempty (after_first is_space line) word found) ∙ written.0, written.1)
    tick false e h = signal_written line word (accepted Unknown (signal_of line) word h)

    beat : (b : Bool) → bytes_eq (before_first is_space line) (codes "beat") ≡ b →
        cond b (or_refused BadNumber (beat_in (after_first is_space line)))
        (cond (bytes_eq (before_first is_space line) (codes "tick"))
        (or_refused BadNumber (tick_in (after_first is_space line))) (or_refused Unknown (signal_of line))) ≡ Ok word →
        (line ≡ word_text word) × IsWord word
    beat true e h =
        let found = accepted BadNumber (beat_in (after_first is_space line)) word h in
        let written = beat_written (after_first is_space line) word found in
        (named (codes "beat") line e (beat_nonempty (after_first is_space line) word found) ∙ written.0, written.1)
    beat false e h = tick (bytes_eq (before_first is_space line) (codes "tick")) refl h
