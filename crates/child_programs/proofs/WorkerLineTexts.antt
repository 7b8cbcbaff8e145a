-- Lines that are said to a worker are read as they are said.
use Rattle.std.proofs.Common.{◌≡◌, ℕ, ◌<◌, ◌^◌, Bool, true, false, cond, List, ◌∷◌, ◌++◌, Option, Some, None, refl, sym}
use Rattle.std.proofs.Common.{ap, subst, ◌∙◌, append_assoc, ◌⊎◌, inl, inr, arith}
use Rattle.std.specs.Prelude.{codes, bytes_eq, option_map}
use Rattle.std.specs.Fmt.{decimal}
use Rattle.listener_set.specs.declared.generation.Generation.{Generation}
use Rattle.listener_set.specs.GenerationText.{generation_text}
use Rattle.plain_text.specs.NumberText.{number_in, number64_of}
use Rattle.plain_text.specs.Cuts.{cut}
use Rattle.plain_text.proofs.NumberTextLemmas.{decimal-number64_of, number64_of-decimal}
use Rattle.plain_text.proofs.CutTexts.{lacks, cut_found, cut_at}
use Rattle.call_text.specs.CallText.{worker_text}
use Rattle.call_text.specs.Reads.{Reads}
use Rattle.call_text.specs.Ranges.{IsNumber, IsWorkerNumber, IsGeneration}
use Rattle.call_text.specs.Reading.{both_of, generation_of, worker_number}
use Rattle.call_text.proofs.Readers.{IsReader, reads, mapped, both_reads, number_reads, worker_number_reads, same_bytes}
use Rattle.call_text.proofs.PartTexts.{number_lacks, generation_lacks, generation_reads, address_reads}
use Rattle.child_programs.specs.WorkerLines.{WorkerLine, Named, Listener, Go, Ping, Tick, Usr1, Close, Quit}
use Rattle.child_programs.specs.WorkerLines.{worker_line_text, IsWorkerLine, named_from, bare_of, about, line_from}
use Rattle.child_programs.specs.WorkerLines.{line_of}

-- ---- parts
moment_reads : IsReader (λ n. n < 2 ^ 64) decimal number64_of
moment_reads = record {
  found = λ text n e. let got = decimal-number64_of text n e in (got.1, got.0);
  only = λ n lt. number64_of-decimal n lt;
}

nr_start_reads : IsReader (λ (p : ℕ × ℕ). IsWorkerNumber p.0 × IsNumber p.1)
    (λ (p : ℕ × ℕ). decimal p.0 ++ 32 ∷ decimal p.1) (both_of 32 worker_number number_in)
nr_start_reads =
    both_reads IsWorkerNumber IsNumber decimal decimal worker_number number_in 32 (λ nr lt. let less : nr < 1024 = lt in number_lacks 32 nr refl (omega arith)) worker_number_reads number_reads

abbrev Parts : Type 0
Parts = Generation × (ℕ × ℕ)

parts_reads : IsReader (λ (p : Parts). IsGeneration p.0 × (IsWorkerNumber p.1.0 × IsNumber p.1.1))
    (λ (p : Parts). generation_text p.0 ++ 32 ∷ (decimal p.1.0 ++ 32 ∷ decimal p.1.1))
    (both_of 32 generation_of (both_of 32 worker_number number_in))
parts_reads =
    both_reads IsGeneration (λ (p : ℕ × ℕ). IsWorkerNumber p.0 × IsNumber p.1) generation_text (λ (p : ℕ × ℕ). decimal p.0 ++ 32 ∷ decimal p.1) generation_of (both_of 32 worker_number number_in) 32
    (generation_lacks 32 refl refl) generation_reads nr_start_reads

-- the text of a name, by its parts
named_text : (g : Generation) (nr start : ℕ) → codes "worker" ++ 32
    ∷ (generation_text g ++ 32 ∷ (decimal nr ++ 32 ∷ decimal start)) ≡ worker_line_text (Named g nr start)
named_text g nr start =
    ap (λ t. codes "worker " ++ t) (sym (append_assoc (generation_text g) (32 ∷ decimal nr) (32 ∷ decimal start)))
    ∙ sym (append_assoc (codes "worker ") (worker_text g nr) (32 ∷ decimal start))

-- ---- a line that is read
chosen_of : {A : Type 0} (b : Bool) (x y : Option A) (v : A) → cond b x y ≡ Some v → ((b ≡ true) × (x ≡ Some v)) ⊎ ((b ≡ false) × (y ≡ Some v))
chosen_of true x y v e = inl (refl, e)
chosen_of false x y v e = inr (refl, e)

module _ {A : Type 0} (P : A → Type 0) (f : A → List ℕ) (r : List ℕ → Option A) (h : IsReader P f r) (make : A → WorkerLine) where
  arm : (head : List ℕ) → ((a : A) → P a → IsWorkerLine (make a) × (head ++ 32 ∷ f a ≡ worker_line_text (make a))) →
      (word rest : List ℕ) (l : WorkerLine) → bytes_eq word head ≡ true → option_map make (r rest) ≡ Some l →
      IsWorkerLine l × (word ++ 32 ∷ rest ≡ worker_line_text l)
  arm head made word rest l is e =
      let from = mapped make (r rest) l e in
      let got = h.found rest from.0 from.1 in
      let good = made from.0 got.0 in
      let L : WorkerLine → Type 0 = λ l. IsWorkerLine l × (word ++ 32 ∷ rest ≡ worker_line_text l) in
      subst L from.2 (good.0, ap (λ w. w ++ 32 ∷ rest) (same_bytes word head is) ∙ ap (λ t. head ++ 32 ∷ t) got.1 ∙ good.1)

about_found : (word rest : List ℕ) (l : WorkerLine) → about word rest ≡ Some l → IsWorkerLine l × (word ++ 32 ∷ rest ≡ worker_line_text l)
about_found word rest l e =
    elim (chosen_of (bytes_eq word (codes "worker")) _ _ l e) [
      | inl w ↦ arm _ _ _ parts_reads named_from (codes "worker") (λ p h. (((h.0, h.1.0), h.1.1), named_text p.0 p.1.0 p.1.1)) word rest l w.0 w.1
      | inr v ↦ elim (chosen_of (bytes_eq word (codes "listener")) _ _ l v.1) [
        | inl w ↦ arm _ _ _ address_reads (λ a. Listener a) (codes "listener") (λ a h. (h, refl)) word rest l w.0 w.1
        | inr v ↦ elim (chosen_of (bytes_eq word (codes "tick")) _ _ l v.1) [
          | inl w ↦ arm _ _ _ moment_reads (λ now. Tick now) (codes "tick") (λ now h. (h, refl)) word rest l w.0 w.1
          | inr v ↦ elim (chosen_of (bytes_eq word (codes "close")) _ _ l v.1) [
            | inl w ↦ arm _ _ _ address_reads (λ a. Close a) (codes "close") (λ a h. (h, refl)) word rest l w.0 w.1
            | inr v ↦ (let none : Option WorkerLine = None in let no : none ≡ Some l = v.1 in absurd cc)
          ]
        ]
      ]
    ]

bare : (head text : List ℕ) (a l : WorkerLine) → bytes_eq text head ≡ true → IsWorkerLine a →
    head ≡ worker_line_text a → Some a ≡ Some l → IsWorkerLine l × (text ≡ worker_line_text l)
bare head text a l is h k e =
    let same : a ≡ l = cc in
    let L : WorkerLine → Type 0 = λ l. IsWorkerLine l × (text ≡ worker_line_text l) in
    subst L same (h, same_bytes text head is ∙ k)

bare_found : (text : List ℕ) (l : WorkerLine) → bare_of text ≡ Some l → IsWorkerLine l × (text ≡ worker_line_text l)
bare_found text l e =
    elim (chosen_of (bytes_eq text (codes "go")) _ _ l e) [
      | inl w ↦ bare (codes "go") text Go l w.0 tt refl w.1
      | inr v ↦ elim (chosen_of (bytes_eq text (codes "ping")) _ _ l v.1) [
        | inl w ↦ bare (codes "ping") text Ping l w.0 tt refl w.1
        | inr v ↦ elim (chosen_of (bytes_eq text (codes "usr1")) _ _ l v.1) [
          | inl w ↦ bare (codes "usr1") text Usr1 l w.0 tt refl w.1
          | inr v ↦ elim (chosen_of (bytes_eq text (codes "quit")) _ _ l v.1) [
            | inl w ↦ bare (codes "quit") text Quit l w.0 tt refl w.1
            | inr v ↦ (let none : Option WorkerLine = None in let no : none ≡ Some l = v.1 in absurd cc)
          ]
        ]
      ]
    ]

line_found : (text : List ℕ) (l : WorkerLine) → line_of text ≡ Some l → IsWorkerLine l × (text ≡ worker_line_text l)
line_found text l e = at (cut 32 text) refl e
  where
    at : (o : Option (List ℕ × List ℕ)) → cut 32 text ≡ o → line_from text o ≡ Some l → IsWorkerLine l × (text ≡ worker_line_text l)
    at None k e = bare_found text l e
    at (Some parts) k e =
        let got = about_found parts.0 parts.1 l e in
        (got.0, cut_found 32 text parts k ∙ got.1)

-- ---- a line that was said
behind_word : (word rest : List ℕ) → lacks 32 word ≡ true → line_of (word ++ 32 ∷ rest) ≡ about word rest
behind_word word rest apart = ap (line_from (word ++ 32 ∷ rest)) (cut_at 32 word rest apart)

line_only : (l : WorkerLine) → IsWorkerLine l → line_of (worker_line_text l) ≡ Some l
line_only (Named g nr start) h =
    ap line_of (sym (named_text g nr start))
    ∙ behind_word (codes "worker") (generation_text g ++ 32 ∷ (decimal nr ++ 32 ∷ decimal start)) refl
    ∙ ap (option_map named_from) (parts_reads.only (g, (nr, start)) (h.0.0, (h.0.1, h.1)))
line_only (Listener a) h = behind_word (codes "listener") a refl ∙ ap (option_map (λ a. Listener a)) (address_reads.only a h)
line_only Go h = refl
line_only Ping h = refl
line_only (Tick now) h = behind_word (codes "tick") (decimal now) refl ∙ ap (option_map (λ now. Tick now)) (moment_reads.only now h)
line_only Usr1 h = refl
line_only (Close a) h = behind_word (codes "close") a refl ∙ ap (option_map (λ a. Close a)) (address_reads.only a h)
line_only Quit h = refl

pub Reads-line : (text : List ℕ) → Reads IsWorkerLine worker_line_text text (line_of text)
Reads-line text = reads IsWorkerLine worker_line_text line_of (record { found = line_found; only = line_only }) text
