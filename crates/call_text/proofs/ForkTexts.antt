-- Forks are read as they are written.
use Rattle.std.proofs.Common.{◌≡◌, ℕ, ◌+◌, ◌<◌, ◌≤◌, leb, ltb, Bool, true, false, List, [], ◌∷◌, ◌++◌, Option, Some}
use Rattle.std.proofs.Common.{None, refl, sym, ap, subst, ◌∙◌, arith, append_assoc, true≢false}
use Rattle.std.specs.Prelude.{codes, option_map, option_and_then, IfSome, IsSome, ◌↔◌}
use Rattle.std.specs.Fmt.{decimal}
use Rattle.std.specs.List.{All, list_all}
use Rattle.std.proofs.lemmas.Bool.{both_ways}
use Rattle.std.proofs.lemmas.Bool.Decides.{nat_tests}
use Rattle.std.proofs.lemmas.List.Sums.{AllPass-from_list_all, list_all-from_AllPass}
use Rattle.listener_set.specs.declared.generation.Generation.{Generation}
use Rattle.listener_set.specs.GenerationText.{generation_text}
use Rattle.listener_set.specs.Numbers.{RisesFrom, AreBelow, AreNumbers}
use Rattle.listener_set.specs.Descriptors.{IsDescriptor}
use Rattle.listener_set.specs.DescriptorSets.{AreDescriptorNumbers}
use Rattle.plain_text.specs.Cuts.{cut}
use Rattle.plain_text.proofs.NumberTextLemmas.{both}
use Rattle.plain_text.proofs.CutTexts.{lacks, cut_found, cut_at, cut_none}
use Rattle.call_text.specs.SetText.{set_text}
use Rattle.call_text.specs.CallText.{forked_text}
use Rattle.call_text.specs.Ranges.{IsGeneration, IsWorkerNumber, IsShare}
use Rattle.call_text.specs.Reading.{some_if, both_of, behind, worker_number, generation_of}
use Rattle.call_text.specs.SetReading.{set_of}
use Rattle.call_text.specs.CallReading.{is_descriptor, all_descriptors, descriptors_of, named_from, named_of}
use Rattle.call_text.proofs.Readers.{IsReader, mapped, then, chosen, both_reads, behind_found, behind_at, worker_number_reads}
use Rattle.call_text.proofs.PartTexts.{number_lacks, generation_lacks, generation_reads}
use Rattle.call_text.proofs.SetTexts.{set_reads}

-- ---- descriptors are numbers
rising_from : (ns : List ℕ) → RisesFrom 3 ns → RisesFrom 0 ns
rising_from [] h = tt
rising_from (n ∷ ns) h = (omega arith, h.1)

below_limit : (ns : List ℕ) → AreBelow 67 ns → AreBelow 1024 ns
below_limit [] h = tt
below_limit (n ∷ ns) h = (omega (arith, h.0), below_limit ns h.1)

pub are_numbers : (fds : List ℕ) → AreDescriptorNumbers fds → AreNumbers 1024 fds
are_numbers fds h = record { rising = rising_from fds h.rising; below = below_limit fds h.below }

-- ---- numbers that are descriptors
descriptor : (n : ℕ) → is_descriptor n ≡ true → IsDescriptor n
descriptor n h =
    let parts = both (leb 3 n) (ltb n 67) h in
    let low : leb 3 n ≡ true = parts.0 in
    let high : ltb n 67 ≡ true = parts.1 in
    (grind (arith, nat_tests), grind (arith, nat_tests))

is_one : (n : ℕ) → IsDescriptor n → is_descriptor n ≡ true
is_one n h =
    let low : leb 3 n ≡ true = (let from : 3 ≤ n = h.0 in grind (arith, nat_tests)) in
    let high : ltb n 67 ≡ true = (let below : n < 67 = h.1 in grind (arith, nat_tests)) in
    rw (low, high) refl

all_below : (ns : List ℕ) → list_all is_descriptor ns ≡ true → AreBelow 67 ns
all_below [] h = tt
all_below (n ∷ ns) h = let parts = both (is_descriptor n) (list_all is_descriptor ns) h in ((descriptor n parts.0).1, all_below ns parts.1)

rises : (ns : List ℕ) → list_all is_descriptor ns ≡ true → RisesFrom 0 ns → RisesFrom 3 ns
rises [] h rising = tt
rises (n ∷ ns) h rising = ((descriptor n (both (is_descriptor n) (list_all is_descriptor ns) h).0).0, rising.1)

all_ones : (ns : List ℕ) (low : ℕ) → 3 ≤ low → RisesFrom low ns → AreBelow 67 ns → list_all is_descriptor ns ≡ true
all_ones [] low from rising below = refl
all_ones (n ∷ ns) low from rising below =
    rw (is_one n (omega (arith, from, rising.0), below.0)) (all_ones ns (n + 1) (omega (arith, from, rising.0)) rising.1 below.1)

-- ---- a set of descriptors
pub descriptors_reads : IsReader AreDescriptorNumbers set_text descriptors_of
descriptors_reads = record { found = found; only = λ fds h. ap (option_and_then all_descriptors) (set_reads.only fds (are_numbers fds h)) ∙ again fds h }
  where
    all_found : (ns fds : List ℕ) → all_descriptors ns ≡ Some fds → AreNumbers 1024 ns → AreDescriptorNumbers fds × (ns ≡ fds)
    all_found ns fds e are =
        let is = chosen (list_all is_descriptor ns) ns fds e in
        let S : List ℕ → Type 0 = λ fds. AreDescriptorNumbers fds × (ns ≡ fds) in
        subst S is.1 (record { rising = rises ns is.0 are.rising; below = all_below ns is.0 }, refl)

    found : (text fds : List ℕ) → descriptors_of text ≡ Some fds → AreDescriptorNumbers fds × (text ≡ set_text fds)
    found text fds e =
        let ns = then all_descriptors (set_of text) fds e in
        let got = set_reads.found text ns.0 ns.1 in
        let is = all_found ns.0 fds ns.2 got.0 in
        (is.0, got.1 ∙ ap set_text is.1)

    again : (fds : List ℕ) → AreDescriptorNumbers fds → all_descriptors fds ≡ Some fds
    again fds h = ap (λ b. some_if b fds) (all_ones fds 3 (omega arith) h.rising h.below)

-- ---- a new worker's number and its descriptors
abbrev pub named_text : ℕ → Option (List ℕ) → List ℕ
named_text nr None = decimal nr
named_text nr (Some fds) = decimal nr ++ (codes " fds " ++ set_text fds)

abbrev IsNamed : ℕ × Option (List ℕ) → Type 0
IsNamed p = IsWorkerNumber p.0 × IsShare p.1

spaceless : (nr : ℕ) → IsWorkerNumber nr → lacks 32 (decimal nr) ≡ true
spaceless nr h = let small : nr < 1024 = h in number_lacks 32 nr refl (omega (arith, small))

named_reads : IsReader IsNamed (λ (p : ℕ × Option (List ℕ)). named_text p.0 p.1) named_of
named_reads = record { found = λ text p e. at text p (cut 32 text) refl e; only = λ p h. again p.0 p.1 h }
  where
    at : (text : List ℕ) (p : ℕ × Option (List ℕ)) (o : Option (List ℕ × List ℕ)) → cut 32 text ≡ o →
        named_from text o ≡ Some p → IsNamed p × (text ≡ named_text p.0 p.1)
    at text p None k e =
        let all : Option (List ℕ) = None in
        let nr = mapped (λ nr. (nr, all)) (worker_number text) p e in
        let got = worker_number_reads.found text nr.0 nr.1 in
        let N : ℕ × Option (List ℕ) → Type 0 = λ p. IsNamed p × (text ≡ named_text p.0 p.1) in
        subst N nr.2 ((got.0, tt), got.1)
    at text p (Some q) k e =
        let nr = then (λ nr. option_and_then (λ rest. option_and_then (λ fds. Some (nr, Some fds)) (descriptors_of rest)) (behind (codes "fds") q.1)) (worker_number q.0) p e in
        let rest = then (λ rest. option_and_then (λ fds. Some (nr.0, Some fds)) (descriptors_of rest)) (behind (codes "fds") q.1) p nr.2 in
        let fds = then (λ fds. Some (nr.0, Some fds)) (descriptors_of rest.0) p rest.2 in
        let pair : (nr.0, Some fds.0) ≡ p = (let same : Some (nr.0, Some fds.0) ≡ Some p = fds.2 in cc) in
        let one = worker_number_reads.found q.0 nr.0 nr.1 in
        let two = descriptors_reads.found rest.0 fds.0 fds.1 in
        let written : q.1 ≡ codes "fds" ++ 32 ∷ set_text fds.0 = behind_found (codes "fds") q.1 rest.0 rest.1 ∙ ap (λ t. codes "fds" ++ 32 ∷ t) two.1 in
        let N : ℕ × Option (List ℕ) → Type 0 = λ p. IsNamed p × (text ≡ named_text p.0 p.1) in
        subst N pair ((one.0, two.0), cut_found 32 text q k ∙ ap (λ t. t ++ 32 ∷ q.1) one.1 ∙ ap (λ t. decimal nr.0 ++ 32 ∷ t) written)

    again : (nr : ℕ) (share : Option (List ℕ)) → IsNamed (nr, share) → named_of (named_text nr share) ≡ Some (nr, share)
    again nr None h =
        let all : Option (List ℕ) = None in
        ap (named_from (decimal nr)) (cut_none 32 (decimal nr) (spaceless nr h.0)) ∙ ap (option_map (λ nr. (nr, all))) (worker_number_reads.only nr h.0)
    again nr (Some fds) h =
        ap (named_from (named_text nr (Some fds))) (cut_at 32 (decimal nr) (codes "fds " ++ set_text fds) (spaceless nr h.0))
        ∙ ap (option_and_then (λ nr. option_and_then (λ rest. option_and_then (λ fds. Some (nr, Some fds)) (descriptors_of rest)) (behind (codes "fds") (codes "fds " ++ set_text fds)))) (worker_number_reads.only nr h.0)
        ∙ ap (option_and_then (λ rest. option_and_then (λ fds. Some (nr, Some fds)) (descriptors_of rest))) (behind_at (codes "fds") (set_text fds) refl)
        ∙ ap (option_and_then (λ fds. Some (nr, Some fds))) (descriptors_reads.only fds h.1)

-- ---- a new worker
abbrev pub IsForked : Generation × (ℕ × Option (List ℕ)) → Type 0
IsForked p = IsGeneration p.0 × IsNamed p.1

pub forked_reads : IsReader IsForked
    (λ (p : Generation × (ℕ × Option (List ℕ))). generation_text p.0 ++ 32 ∷ named_text p.1.0 p.1.1)
    (both_of 32 generation_of named_of)
forked_reads = both_reads IsGeneration IsNamed generation_text (λ (p : ℕ × Option (List ℕ)). named_text p.0 p.1) generation_of named_of 32 (generation_lacks 32 refl refl) generation_reads named_reads

pub forked_text_is : (g : Generation) (nr : ℕ) (share : Option (List ℕ)) → generation_text g ++ 32 ∷ named_text nr share ≡ forked_text g nr share
forked_text_is g nr None = refl
forked_text_is g nr (Some fds) = sym (append_assoc (generation_text g) (32 ∷ decimal nr) (codes " fds " ++ set_text fds))

-- ---- numbers that make a set of descriptors
pub set_made : (ns : List ℕ) (o : Option (List ℕ)) → IfSome o (λ set. set ≡ ns) → (IsSome o ↔ All IsDescriptor ns) → o ≡ all_descriptors ns
set_made ns o is made = at (list_all is_descriptor ns) refl o is made
  where
    at : (b : Bool) → list_all is_descriptor ns ≡ b → (o : Option (List ℕ)) → IfSome o (λ set. set ≡ ns) →
        (IsSome o ↔ All IsDescriptor ns) → o ≡ all_descriptors ns
    at true e None is made = absurd (true≢false (sym (made.1 (λ k d lt. descriptor _ (AllPass-from_list_all is_descriptor ns e k d lt)))))
    at true e (Some set) is made = ap Some is ∙ sym (ap (λ b. some_if b ns) e)
    at false e None is made = sym (ap (λ b. some_if b ns) e)
    at false e (Some set) is made = absurd (both_ways (list_all is_descriptor ns) e (list_all-from_AllPass is_descriptor ns (λ k d lt. is_one _ (made.0 refl k d lt))))
