-- Exits and fates are read as they are written.
use Rattle.std.proofs.Common.{◌≡◌, ℕ, ◌==◌, eqb, Bool, true, false, cond, List, [], ◌∷◌, ◌++◌, Option, Some, None, refl, ap, subst, ◌∙◌, arith}
use Rattle.std.specs.Prelude.{⊤, option_map}
use Rattle.std.specs.Fmt.{decimal}
use Rattle.std.proofs.lemmas.Bool.Decides.{nat_tests}
use Rattle.listener_set.specs.declared.generation.Generation.{Generation}
use Rattle.plain_text.specs.NumberText.{number_in}
use Rattle.vocabulary.specs.declared.names.Name.{Name}
use Rattle.vocabulary.specs.declared.names.Name.TheVariants as name
use Rattle.vocabulary.specs.declared.calls.Fate.{Fate}
use Rattle.vocabulary.specs.declared.calls.Fate.TheVariants as fate
use Rattle.vocabulary.specs.Fates.{all_fates}
use Rattle.call_text.specs.Words.{fate_text}
use Rattle.call_text.specs.NameText.{worker_name, name_text}
use Rattle.call_text.specs.Reads.{Reads}
use Rattle.call_text.specs.Ranges.{IsNumber, IsWorkerNumber, IsWorker, IsName}
use Rattle.call_text.specs.Reading.{both_of, worker_number}
use Rattle.call_text.specs.NameReading.{three_of, worker_from, worker_name_of, name_of, fate_of}
use Rattle.call_text.proofs.Readers.{IsReader, reads, mapped, both_reads, mapped_reads, find_found, number_reads, worker_number_reads}
use Rattle.call_text.proofs.PartTexts.{number_lacks}

-- ---- names
two_reads : IsReader (λ (p : ℕ × ℕ). IsNumber p.0 × IsWorkerNumber p.1) (λ (p : ℕ × ℕ). decimal p.0 ++ 46 ∷ decimal p.1) (both_of 46 number_in worker_number)
two_reads =
    both_reads IsNumber IsWorkerNumber decimal decimal number_in worker_number 46 (λ n lt. number_lacks 46 n refl lt) number_reads worker_number_reads

three_reads : IsReader (λ (p : ℕ × (ℕ × ℕ)). IsNumber p.0 × (IsNumber p.1.0 × IsWorkerNumber p.1.1))
    (λ (p : ℕ × (ℕ × ℕ)). decimal p.0 ++ 46 ∷ (decimal p.1.0 ++ 46 ∷ decimal p.1.1)) three_of
three_reads =
    both_reads IsNumber (λ (p : ℕ × ℕ). IsNumber p.0 × IsWorkerNumber p.1) decimal (λ (p : ℕ × ℕ). decimal p.0 ++ 46 ∷ decimal p.1) number_in (both_of 46 number_in worker_number) 46
    (λ n lt. number_lacks 46 n refl lt) number_reads two_reads

worker_name_reads : IsReader (λ (w : Generation × ℕ). IsWorker w.0 w.1) (λ (w : Generation × ℕ). worker_name w.0 w.1) worker_name_of
worker_name_reads =
    mapped_reads (λ (p : ℕ × (ℕ × ℕ)). IsNumber p.0 × (IsNumber p.1.0 × IsWorkerNumber p.1.1)) (λ (w : Generation × ℕ). IsWorker w.0 w.1)
    (λ (p : ℕ × (ℕ × ℕ)). decimal p.0 ++ 46 ∷ (decimal p.1.0 ++ 46 ∷ decimal p.1.1)) (λ (w : Generation × ℕ). worker_name w.0 w.1) three_of worker_from (λ (w : Generation × ℕ). (w.0.image, (w.0.config, w.1)))
    (λ p h. (((h.0, h.1.0), h.1.1), refl)) (λ w h. ((h.0.0, (h.0.1, h.1)), refl)) three_reads

byte_is : (c d : ℕ) → (c == d) ≡ true → c ≡ d
byte_is c d h = let test : eqb c d ≡ true = h in grind (arith, nat_tests)

name_found : (text : List ℕ) (x : Name) → name_of text ≡ Some x → IsName x × (text ≡ name_text x)
name_found [] x e = let none : Option Name = None in let no : none ≡ Some x = e in absurd cc
name_found (c ∷ cs) x e = at (c == 119) refl (c == 100) refl (c == 109) refl e
  where
    worker : (make : Generation → ℕ → Name) (kind : ℕ) → c ≡ kind →
        ((g : Generation) (k : ℕ) → IsWorker g k → IsName (make g k) ×
        (kind ∷ worker_name g k ≡ name_text (make g k))) →
        option_map (λ (w : Generation × ℕ). make w.0 w.1) (worker_name_of cs) ≡ Some x → IsName x ×
        (c ∷ cs ≡ name_text x)
    worker make kind is made e =
        let w = mapped (λ (w : Generation × ℕ). make w.0 w.1) (worker_name_of cs) x e in
        let got = worker_name_reads.found cs w.0 w.1 in
        let good = made w.0.0 w.0.1 got.0 in
        let W : Name → Type 0 = λ x. IsName x × (c ∷ cs ≡ name_text x) in
        subst W w.2 (good.0, ap (λ b. b ∷ cs) is ∙ ap (λ t. kind ∷ t) got.1 ∙ good.1)

    at : (p : Bool) → (c == 119) ≡ p → (q : Bool) → (c == 100) ≡ q → (r : Bool) → (c == 109) ≡ r →
        cond p (option_map (λ (w : Generation × ℕ). name.Worker w.0 w.1) (worker_name_of cs))
        (cond q (option_map (λ (w : Generation × ℕ). name.Draining w.0 w.1) (worker_name_of cs))
        (cond r (option_map (λ i. name.Master i) (number_in cs)) None)) ≡ Some x → IsName x × (c ∷ cs ≡ name_text x)
    at true k q l r m e = worker (λ g k. name.Worker g k) 119 (byte_is c 119 k) (λ g k h. (h, refl)) e
    at false k true l r m e = worker (λ g k. name.Draining g k) 100 (byte_is c 100 l) (λ g k h. (h, refl)) e
    at false k false l true m e =
        let i = mapped (λ i. name.Master i) (number_in cs) x e in
        let got = number_reads.found cs i.0 i.1 in
        let W : Name → Type 0 = λ x. IsName x × (c ∷ cs ≡ name_text x) in
        subst W i.2 (got.0, ap (λ b. b ∷ cs) (byte_is c 109 m) ∙ ap (λ t. 109 ∷ t) got.1)
    at false k false l false m e = let none : Option Name = None in let no : none ≡ Some x = e in absurd cc

name_only : (x : Name) → IsName x → name_of (name_text x) ≡ Some x
name_only (name.Worker g k) h = ap (option_map (λ (w : Generation × ℕ). name.Worker w.0 w.1)) (worker_name_reads.only (g, k) h)
name_only (name.Draining g k) h = ap (option_map (λ (w : Generation × ℕ). name.Draining w.0 w.1)) (worker_name_reads.only (g, k) h)
name_only (name.Master i) h = ap (option_map (λ i. name.Master i)) (number_reads.only i h)

pub name_reads : IsReader IsName name_text name_of
name_reads = record { found = name_found; only = name_only }

pub Reads-name : (text : List ℕ) → Reads IsName name_text text (name_of text)
Reads-name text = reads IsName name_text name_of name_reads text

-- ---- fates
fate_again : (f : Fate) → fate_of (fate_text f) ≡ Some f
fate_again fate.InUse = refl
fate_again fate.TooMany = refl
fate_again fate.Denied = refl
fate_again fate.NoMemory = refl
fate_again fate.Again = refl
fate_again fate.Late = refl
fate_again fate.NoImage = refl
fate_again fate.Refused = refl
fate_again fate.IoFault = refl
fate_again fate.Back = refl

pub fate_reads : IsReader (λ (f : Fate). ⊤) fate_text fate_of
fate_reads = record { found = λ text f e. (tt, find_found fate_text text all_fates f e); only = λ f _. fate_again f }

pub Reads-fate : (text : List ℕ) → Reads (λ (f : Fate). ⊤) fate_text text (fate_of text)
Reads-fate text = reads (λ (f : Fate). ⊤) fate_text fate_of fate_reads text
