-- Generations, workers, addresses and paths are read as they are written.
use Rattle.std.proofs.Common.{◌≡◌, ℕ, ◌+◌, ◌-◌, leb, Bool, true, false, cond, ◌&&◌, List, ◌∷◌, ◌++◌, length, take, drop}
use Rattle.std.proofs.Common.{Option, Some, None, Result, Ok, Err, refl, sym, ap, ◌∙◌, arith, inl, inr}
use Rattle.std.specs.Prelude.{codes, bytes_eq, is_ok}
use Rattle.std.specs.Fmt.{decimal}
use Rattle.std.specs.List.{list_all}
use Rattle.std.specs.Char.{is_ascii_graphic, is_ascii_digit}
use Rattle.std.proofs.lemmas.Bool.Decides.{nat_tests}
use Rattle.std.proofs.lemmas.List.{length-append, take-append-drop}
use Rattle.std.proofs.Math.Seq.{take-append_seam, drop-append_seam}
use Rattle.listener_set.specs.declared.generation.Generation.{Generation}
use Rattle.listener_set.specs.declared.address.AddressRefusal.{AddressRefusal}
use Rattle.plain_text.specs.NumberText.{number_in}
use Rattle.listener_set.specs.AddressText.{reading, check, accepted as taken, IsAddress}
use Rattle.listener_set.specs.PathText.{is_path, begins_with_slash}
use Rattle.listener_set.proofs.AddressGrammar.{grammar}
use Rattle.plain_text.proofs.NumberTextLemmas.{both}
use Rattle.listener_set.specs.GenerationText.{generation_text}
use Rattle.call_text.specs.CallText.{worker_text}
use Rattle.call_text.specs.Ranges.{IsNumber, IsWorkerNumber, IsGeneration, IsWorker, IsPath}
use Rattle.call_text.specs.Reading.{some_if, both_of, worker_number, accepted}
use Rattle.call_text.specs.Reading.{generation_from, generation_of, worker_of}
use Rattle.call_text.specs.Reading.{address_of, is_suffixed, suffixed_of, path_of, paths_of}
use Rattle.plain_text.proofs.CutTexts.{lacks, lacks-append, lacks-all, lacks-decimal}
use Rattle.call_text.proofs.Readers.{IsReader, both_reads, mapped_reads, chosen, number_reads, worker_number_reads, same_bytes}

-- ---- generations and workers
pub number_lacks : (b n : ℕ) → is_ascii_digit b ≡ false → IsNumber n → lacks b (decimal n) ≡ true
number_lacks b n off lt = lacks-decimal b n off (omega (arith, lt))

pub generation_reads : IsReader IsGeneration generation_text generation_of
generation_reads =
    mapped_reads (λ (p : ℕ × ℕ). IsNumber p.0 × IsNumber p.1) IsGeneration (λ (p : ℕ × ℕ). decimal p.0 ++ 46 ∷ decimal p.1) generation_text (both_of 46 number_in number_in) generation_from (λ (g : Generation). (g.image, g.config))
    (λ p h. (h, refl)) (λ g h. (h, refl))
    (both_reads IsNumber IsNumber decimal decimal number_in number_in 46 (λ n lt. number_lacks 46 n refl lt) number_reads number_reads)

pub generation_lacks : (b : ℕ) → is_ascii_digit b ≡ false → lacks b (codes ".") ≡ true → (g : Generation) → IsGeneration g → lacks b (generation_text g) ≡ true
generation_lacks b off dot g h =
    lacks-append b (decimal g.image) (codes "." ++ decimal g.config) (number_lacks b g.image off h.0)
    (lacks-append b (codes ".") (decimal g.config) dot (number_lacks b g.config off h.1))

pub worker_reads : IsReader (λ (w : Generation × ℕ). IsWorker w.0 w.1) (λ (w : Generation × ℕ). worker_text w.0 w.1) worker_of
worker_reads =
    both_reads IsGeneration IsWorkerNumber generation_text decimal generation_of worker_number 32 (generation_lacks 32 refl refl) generation_reads worker_number_reads

-- ---- addresses
pub address_reads : IsReader IsAddress (λ a. a) address_of
address_reads = record {
  found = λ text a e. at text a (check text) refl e;
  only = λ a h. again a (check a) ((grammar a (reading a) refl).1 h);
}
  where
    at : (text a : List ℕ) (r : Result (Unit {0}) AddressRefusal) → check text ≡ r → accepted (taken text (check text)) ≡ Some a → IsAddress a × (text ≡ a)
    at text a (Ok u) k e =
        let same : Some text ≡ Some a = sym (ap (λ r. accepted (taken text r)) k) ∙ e in
        let is : text ≡ a = cc in
        let read : reading a ≡ Ok a = sym (ap reading is) ∙ ap (taken text) k ∙ ap (λ t. Ok t) is in
        ((grammar a (reading a) refl).0 (ap is_ok read), is)
    at text a (Err x) k e =
        let none : Option (List ℕ) = None in
        let no : none ≡ Some a = sym (ap (λ r. accepted (taken text r)) k) ∙ e in
        absurd cc

    again : (a : List ℕ) (r : Result (Unit {0}) AddressRefusal) → is_ok (taken a r) ≡ true → accepted (taken a r) ≡ Some a
    again a (Ok u) h = refl
    again a (Err x) h = absurd cc

-- ---- paths
suffixed_found : (text path : List ℕ) → suffixed_of text ≡ Some path → IsPath path × (text ≡ path)
suffixed_found text path e =
    let place : ℕ = length text - 7 in
    let is = chosen (leb 7 (length text) && is_suffixed place text) text path e in
    let tests = both (leb 7 (length text)) (is_suffixed place text) is.0 in
    let parts = both (bytes_eq (drop place text) (codes ".oldbin")) (is_path (take place text)) tests.1 in
    let written : text ≡ take place text ++ codes ".oldbin" =
    sym (take-append-drop place text) ∙ ap (λ t. take place text ++ t) (same_bytes (drop place text) (codes ".oldbin") parts.0) in
    (inr (take place text, parts.1, sym is.1 ∙ written), is.1)

suffixed_only : (stem : List ℕ) → is_path stem ≡ true → suffixed_of (stem ++ codes ".oldbin") ≡ Some (stem ++ codes ".oldbin")
suffixed_only stem h =
    let text : List ℕ = stem ++ codes ".oldbin" in
    let long : length text ≡ length stem + 7 = length-append stem (codes ".oldbin") in
    let place : length text - 7 ≡ length stem = omega (arith, long) in
    let room : leb 7 (length text) ≡ true = grind (arith, nat_tests) in
    let behind : bytes_eq (drop (length stem) text) (codes ".oldbin") ≡ true = ap (λ t. bytes_eq t (codes ".oldbin")) (drop-append_seam stem (codes ".oldbin")) in
    let before : is_path (take (length stem) text) ≡ true = ap is_path (take-append_seam stem (codes ".oldbin")) ∙ h in
    ap (λ b. some_if (b && is_suffixed (length text - 7) text) text) room
    ∙ ap (λ n. some_if (is_suffixed n text) text) place
    ∙ ap (λ b. some_if (b && is_path (take (length stem) text)) text) behind
    ∙ ap (λ b. some_if b text) before

pub path_reads : IsReader IsPath (λ p. p) path_of
path_reads = record {
  found = λ text path e. at text path (is_path text) refl e;
  only = λ path h. elim h [ inl is ↦ ap (λ b. cond b (Some path) (suffixed_of path)) is | inr stem ↦ suffixed path stem.0 stem.1 stem.2 (is_path path) refl ];
}
  where
    at : (text path : List ℕ) (b : Bool) → is_path text ≡ b → cond (is_path text) (Some text) (suffixed_of text) ≡ Some path → IsPath path × (text ≡ path)
    at text path true k e =
        let same : Some text ≡ Some path = sym (ap (λ b. cond b (Some text) (suffixed_of text)) k) ∙ e in
        let is : text ≡ path = cc in
        (inl (sym (ap is_path is) ∙ k), is)
    at text path false k e = suffixed_found text path (sym (ap (λ b. cond b (Some text) (suffixed_of text)) k) ∙ e)

    suffixed : (path stem : List ℕ) → is_path stem ≡ true → path ≡ stem ++ codes ".oldbin" → (b : Bool) →
        is_path path ≡ b → cond (is_path path) (Some path) (suffixed_of path) ≡ Some path
    suffixed path stem h e true k = ap (λ b. cond b (Some path) (suffixed_of path)) k
    suffixed path stem h e false k =
        ap (λ b. cond b (Some path) (suffixed_of path)) k
        ∙ ap suffixed_of e ∙ suffixed_only stem h ∙ ap Some (sym e)

-- a path has no space
path_lacks : (path : List ℕ) → IsPath path → lacks 32 path ≡ true
path_lacks path h = elim h [ inl is ↦ plain path is | inr stem ↦ ap (lacks 32) stem.2 ∙ lacks-append 32 stem.0 (codes ".oldbin") (plain stem.0 stem.1) refl ]
  where
    plain : (path : List ℕ) → is_path path ≡ true → lacks 32 path ≡ true
    plain path is =
        lacks-all is_ascii_graphic 32 refl path (both (leb (length path) 100 && begins_with_slash path) (list_all is_ascii_graphic path) is).1

pub paths_reads : IsReader (λ (p : List ℕ × List ℕ). IsPath p.0 × IsPath p.1) (λ (p : List ℕ × List ℕ). p.0 ++ 32 ∷ p.1) paths_of
paths_reads = both_reads IsPath IsPath (λ p. p) (λ p. p) path_of path_of 32 path_lacks path_reads path_reads
