-- What reading a call gives, part by part.
use Rattle.std.specs.Prelude.{ℕ, ◌==◌, nat_le, nat_lt, Bool, ◌&&◌, List, [], ◌∷◌, Option, Some, None, option_map, find, bytes_eq, codes, if◌then◌else◌}
use Rattle.std.specs.List.{list_all}
use Rattle.plain_text.specs.NumberText.{number_in}
use Rattle.listener_set.specs.declared.generation.Generation.{Generation}
use Rattle.vocabulary.specs.declared.calls.Call.{Call}
use Rattle.vocabulary.specs.declared.calls.Call.TheVariants as call
use Rattle.call_text.specs.declared.verbs.Verb.{Verb}
use Rattle.call_text.specs.declared.verbs.Verb.TheVariants as verb
use Rattle.plain_text.specs.Cuts.{cut}
use Rattle.call_text.specs.Reading.{◌>>=◌, some_if, both_of, behind, worker_number, generation_of, worker_of, address_of, path_of, paths_of}
use Rattle.call_text.specs.SetReading.{set_of}

abbrev pub verb_text : Verb → List ℕ
verb_text verb.Open = codes "open"
verb_text verb.Close = codes "close"
verb_text verb.Fork = codes "fork"
verb_text verb.AwaitReady = codes "await-ready"
verb_text verb.Quit = codes "quit"
verb_text verb.Kill = codes "kill"
verb_text verb.Census = codes "census"
verb_text verb.AwaitGone = codes "await-gone"
verb_text verb.SpawnMaster = codes "spawn-master"
verb_text verb.WritePid = codes "write-pid"
verb_text verb.MovePid = codes "move-pid"
verb_text verb.RemovePid = codes "remove-pid"
verb_text verb.Alive = codes "alive"
verb_text verb.Usr1 = codes "usr1"
verb_text verb.TermMaster = codes "term-master"
verb_text verb.Ask = codes "ask"

abbrev pub is_verb : List ℕ → Verb → Bool
is_verb text v = bytes_eq (verb_text v) text

abbrev pub all_verbs : List Verb
all_verbs =
    verb.Open ∷ verb.Close ∷ verb.Fork ∷ verb.AwaitReady ∷ verb.Quit ∷ verb.Kill ∷ verb.Census ∷ verb.AwaitGone ∷ verb.SpawnMaster ∷ verb.WritePid
    ∷ verb.MovePid ∷ verb.RemovePid ∷ verb.Alive ∷ verb.Usr1 ∷ verb.TermMaster ∷ verb.Ask ∷ []

abbrev pub verb_of : List ℕ → Option Verb
verb_of text = find (is_verb text) all_verbs

---- Forks

abbrev pub is_descriptor : ℕ → Bool
is_descriptor n = nat_le 3 n && nat_lt n 67

-- numbers, where all of them are descriptors
abbrev pub all_descriptors : List ℕ → Option (List ℕ)
all_descriptors ns = some_if (list_all is_descriptor ns) ns

-- a set of descriptors, which may have none
abbrev pub descriptors_of : List ℕ → Option (List ℕ)
descriptors_of text = set_of text >>= all_descriptors

-- the number of a new worker, and the descriptors that it gets, where they are named behind it
abbrev pub named_from : List ℕ → Option (List ℕ × List ℕ) → Option (ℕ × Option (List ℕ))
named_from text None = option_map (λ nr. (nr, None)) (worker_number text)
named_from text (Some parts) = do
  nr ← worker_number parts.0
  rest ← behind (codes "fds") parts.1
  fds ← descriptors_of rest
  Some (nr, Some fds)

abbrev pub named_of : List ℕ → Option (ℕ × Option (List ℕ))
named_of text = named_from text (cut 32 text)

abbrev pub fork_from : Generation × (ℕ × Option (List ℕ)) → Call
fork_from p = call.Fork p.0 p.1.0 p.1.1

abbrev pub fork_in : List ℕ → Option Call
fork_in text = option_map fork_from (both_of 32 generation_of named_of text)

---- Calls

-- a call by its verb and what follows it
abbrev pub about : Verb → List ℕ → Option Call
about verb.Open rest = option_map (λ a. call.OpenAt a) (address_of rest)
about verb.Close rest = option_map (λ a. call.CloseAt a) (address_of rest)
about verb.Fork rest = fork_in rest
about verb.AwaitReady rest = option_map (λ w. call.AwaitReady w.0 w.1) (worker_of rest)
about verb.Quit rest = option_map (λ w. call.Quit w.0 w.1) (worker_of rest)
about verb.Kill rest = option_map (λ w. call.Kill w.0 w.1) (worker_of rest)
about verb.Census rest = option_map (λ g. call.Census g) (generation_of rest)
about verb.AwaitGone rest = option_map (λ w. call.AwaitGone w.0 w.1) (worker_of rest)
about verb.SpawnMaster rest = option_map (λ i. call.SpawnMaster i) (number_in rest)
about verb.WritePid rest = option_map (λ p. call.WritePid p) (path_of rest)
about verb.MovePid rest = option_map (λ p. call.MovePid p.0 p.1) (paths_of rest)
about verb.RemovePid rest = option_map (λ p. call.RemovePid p) (path_of rest)
about verb.Alive rest = option_map (λ i. call.Alive i) (number_in rest)
about verb.Usr1 rest = option_map (λ w. call.Usr1 w.0 w.1) (worker_of rest)
about verb.TermMaster rest = option_map (λ i. call.TermMaster i) (number_in rest)
about verb.Ask rest = option_map (λ i. call.Ask i) (number_in rest)

-- a call of one word
abbrev pub bare_of : List ℕ → Option Call
bare_of text = if bytes_eq text (codes "adopt") then Some call.Adopt else if bytes_eq text (codes "leave") then Some call.Leave else None

abbrev pub call_from : List ℕ → Option (List ℕ × List ℕ) → Option Call
call_from text None = bare_of text
call_from text (Some parts) = verb_of parts.0 >>= (λ v. about v parts.1)

abbrev pub call_in : List ℕ → Option Call
call_in text = call_from text (cut 32 text)

abbrev pub master_in : List ℕ → Option ℕ
master_in [] = None
master_in (c ∷ cs) = if c == 109 then number_in cs else None

abbrev pub line_of : List ℕ → Option (ℕ × Call)
line_of text = both_of 32 master_in call_in text
