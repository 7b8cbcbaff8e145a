-- Sections on one line, by whether there are turns.
use Rattle.std.proofs.Common.{◌≡◌, ◌≢◌, ℕ, List, [], ◌∷◌, ◌++◌, Option, Some, None, refl, ap, sym}
use Rattle.std.specs.Prelude.{codes, unwrap_or, slice_get}
use Rattle.std.proofs.lemmas.List.{append_assoc}
use Rattle.definitions.specs.Plans.{Turn}
use Rattle.pattern_text.specs.TurnsText.{letters, turns_text}
use Rattle.explorer.specs.declared.events.Event.{Event}
use Rattle.explorer.specs.declared.events.Tried.{Tried}
use Rattle.explorer.specs.declared.events.Tried.TheVariants.{Nothing, One, Two}
use Rattle.exploration_text.specs.SummaryText.{tried_text, order_text, section_text, turns_at}

pub turns_line : (turns : List Turn) → turns ≢ [] → turns_text turns ≡ order_text turns ++ 10 ∷ []
turns_line [] some = absurd (some refl)
turns_line (turn ∷ turns) some = sym (append_assoc (codes "turns ") (letters (turn ∷ turns)) (10 ∷ []))

pub without_turns : (turns : List Turn) (tried : Tried) → turns ≡ [] → section_text turns tried ≡ tried_text tried
without_turns [] tried none = refl
without_turns (turn ∷ turns) tried none = cc

pub turns_alone : (turns : List Turn) → turns ≢ [] → section_text turns Nothing ≡ order_text turns
turns_alone [] some = absurd (some refl)
turns_alone (turn ∷ turns) some = refl

pub turns_with_one : (turns : List Turn) (e : Event) → turns ≢ [] → section_text turns (One e) ≡ order_text turns ++ codes ", " ++ tried_text (One e)
turns_with_one [] e some = absurd (some refl)
turns_with_one (turn ∷ turns) e some = refl

pub turns_with_two : (turns : List Turn) (e f : Event) → turns ≢ [] → section_text turns (Two e f) ≡ order_text turns ++ codes ", " ++ tried_text (Two e f)
turns_with_two [] e f some = absurd (some refl)
turns_with_two (turn ∷ turns) e f some = refl

pub section_of_order : (orders : List (List Turn)) (n : ℕ) (turns : List Turn) (tried : Tried) →
    slice_get orders n ≡ Some turns → section_text (turns_at orders n) tried ≡ section_text turns tried
section_of_order orders n turns tried is = ap (λ (found : Option (List Turn)). section_text (unwrap_or found []) tried) is

pub section_of_none : (orders : List (List Turn)) (n : ℕ) (tried : Tried) → slice_get orders n ≡ None →
    section_text (turns_at orders n) tried ≡ tried_text tried
section_of_none orders n tried is = ap (λ (found : Option (List Turn)). section_text (unwrap_or found []) tried) is
