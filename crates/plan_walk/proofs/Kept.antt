-- What is kept in slots, one entry longer.
use Rattle.std.proofs.Common.{◌≡◌, ℕ, ◌+◌, ◌<◌, true, List, [], ◌∷◌, ◌++◌, length, get_or, slice_get, Some, option_map, refl, ◌∙◌, ap, arith}
use Rattle.std.proofs.lemmas.Bool.Decides.{nat_tests}
use Rattle.std.proofs.Math.Seq.{get_or-append_seam}
use Rattle.std.proofs.lemmas.Bool.{and_parts, and_from, lt-ltb, ltb-true}
use Rattle.std.proofs.lemmas.Option.{slice_get_read, slice_get-map, get_or_from_slice_get}
use Rattle.std.proofs.lemmas.List.Folds.{list_all-append}
use Rattle.std.proofs.lemmas.List.{get_or_append_left, map-append}
use Rattle.plan_steps.proofs.Numbers.{all_at}
use Rattle.plan_steps.proofs.StepTrees.{all_weaker}
use Rattle.vocabulary.specs.declared.reports.Entry.{Entry}
use Rattle.plan_walk.specs.declared.slot.Slot.{Slot}
use Rattle.plan_walk.specs.declared.slot.Slot.TheVariants.{Worker, Whole}
use Rattle.plan_walk.specs.Slots.{no_entry, entry_in, entries_in, is_kept, are_kept}

-- one more that is kept whole changes none before it
same-entry : (whole : List Entry) (e : Entry) (s : Slot) → is_kept (length whole) s ≡ true → entry_in (whole ++ e ∷ []) s ≡ entry_in whole s
same-entry whole e (Worker w) h = refl
same-entry whole e (Whole place) h = let lt : place < length whole = grind (arith, nat_tests) in get_or_append_left whole (e ∷ []) no_entry place lt

pub same-entries : (whole : List Entry) (e : Entry) (slots : List Slot) → are_kept (length whole) slots ≡ true →
    entries_in (whole ++ e ∷ []) slots ≡ entries_in whole slots
same-entries whole e [] h = refl
same-entries whole e (s ∷ slots) h =
    let parts = and_parts (is_kept (length whole) s) (are_kept (length whole) slots) h in
    let here = same-entry whole e s parts.0 in
    let more = same-entries whole e slots parts.1 in
    λ i. here i ∷ more i

-- as many more may be kept whole
kept-one : (n : ℕ) (s : Slot) → is_kept n s ≡ true → is_kept (n + 1) s ≡ true
kept-one n (Worker w) h = refl
kept-one n (Whole place) h = grind (arith, nat_tests)

pub kept-more : (n : ℕ) (slots : List Slot) → are_kept n slots ≡ true → are_kept (n + 1) slots ≡ true
kept-more n slots h = all_weaker (is_kept n) (is_kept (n + 1)) (kept-one n) slots h

-- one more that is kept whole
pub kept-pushed : (n place more : ℕ) (slots longer : List Slot) → place ≡ n → more ≡ n + 1 →
    longer ≡ slots ++ Whole place ∷ [] → are_kept n slots ≡ true → are_kept more longer ≡ true
kept-pushed n place more slots longer at is pushed h =
    let last : is_kept (n + 1) (Whole n) ≡ true = lt-ltb n (n + 1) (omega arith) in
    ap (λ k. are_kept k longer) is
    ∙ (ap (are_kept (n + 1)) (pushed ∙ ap (λ k. slots ++ Whole k ∷ []) at)
    ∙ (list_all-append (is_kept (n + 1)) slots (Whole n ∷ []) ∙ and_from (are_kept (n + 1) slots) _ (kept-more n slots h) (and_from (is_kept (n + 1) (Whole n)) true last refl)))

pub pushed-whole : (whole longer : List Entry) (e : Entry) (slots more : List Slot) (place : ℕ) → place ≡ length whole →
    longer ≡ whole ++ e ∷ [] → more ≡ slots ++ Whole place ∷ [] → are_kept (length whole) slots ≡ true →
    entries_in longer more ≡ entries_in whole slots ++ e ∷ []
pushed-whole whole longer e slots more place at is pushed h =
    (λ i. entries_in (is i) ((pushed ∙ ap (λ k. slots ++ Whole k ∷ []) at) i))
    ∙ (map-append (entry_in (whole ++ e ∷ [])) slots (Whole (length whole) ∷ [])
    ∙ (λ i. same-entries whole e slots h i ++ get_or-append_seam whole e [] no_entry i ∷ []))

---- One that is looked up

-- a slot that says a place says one at which an entry is kept
at-kept : (n : ℕ) (slots : List Slot) (i at : ℕ) → are_kept n slots ≡ true → slice_get slots i ≡ Some (Whole at) → at < n
at-kept n slots i at kept is = ltb-true at n (all_at (is_kept n) slots i (Whole at) kept is)

pub whole-at : (whole : List Entry) (slots : List Slot) (n i at : ℕ) (s : Slot) (e : Entry) → i < length slots →
    s ≡ get_or slots i s → s ≡ Whole at → are_kept n slots ≡ true → n ≡ length whole → e ≡ get_or whole at e →
    slice_get (entries_in whole slots) i ≡ Some e
whole-at whole slots n i at s e within here says kept count found =
    let slot : slice_get slots i ≡ Some (Whole at) = slice_get_read slots (length slots) i s refl within here ∙ ap Some says in
    let below : at < n = at-kept n slots i at kept slot in
    let entry = get_or_from_slice_get whole at e no_entry (slice_get_read whole n at e count below found) in
    slice_get-map (entry_in whole) slots i ∙ (ap (option_map (entry_in whole)) slot ∙ ap Some entry)
