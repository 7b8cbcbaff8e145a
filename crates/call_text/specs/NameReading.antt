-- What reading the names of exits and fates gives, part by part.
use Rattle.std.specs.Prelude.{ℕ, ◌==◌, Bool, List, [], ◌∷◌, Option, None, option_map, find, bytes_eq, if◌then◌else◌}
use Rattle.plain_text.specs.NumberText.{number_in}
use Rattle.listener_set.specs.declared.generation.Generation.{Generation}
use Rattle.vocabulary.specs.declared.names.Name.{Name}
use Rattle.vocabulary.specs.declared.names.Name.TheVariants as name
use Rattle.vocabulary.specs.declared.calls.Fate.{Fate}
use Rattle.vocabulary.specs.Fates.{all_fates}
use Rattle.call_text.specs.Words.{fate_text}
use Rattle.call_text.specs.Reading.{both_of, worker_number}

abbrev pub three_of : List ℕ → Option (ℕ × (ℕ × ℕ))
three_of text = both_of 46 number_in (both_of 46 number_in worker_number) text

abbrev pub worker_from : ℕ × (ℕ × ℕ) → Generation × ℕ
worker_from p = (record { image = p.0; config = p.1.0 }, p.1.1)

abbrev pub worker_name_of : List ℕ → Option (Generation × ℕ)
worker_name_of text = option_map worker_from (three_of text)

-- `wI.C.N`, `dI.C.N` or `mI`
abbrev pub name_of : List ℕ → Option Name
name_of [] = None
name_of (c ∷ cs) =
    if c == 119 then option_map (λ w. name.Worker w.0 w.1) (worker_name_of cs)
    else if c == 100 then option_map (λ w. name.Draining w.0 w.1) (worker_name_of cs)
    else if c == 109 then option_map (λ i. name.Master i) (number_in cs)
    else None

abbrev pub is_fate : List ℕ → Fate → Bool
is_fate text f = bytes_eq (fate_text f) text

-- the fate with a word
abbrev pub fate_of : List ℕ → Option Fate
fate_of text = find (is_fate text) all_fates
