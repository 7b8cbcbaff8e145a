-- The workers that a run started, gathered entry by entry.
use Rattle.std.proofs.Common.{◌≡◌, ℕ, ◌+◌, ◌<◌, ◌≤◌, nat_eq, ◌||◌, Bool, true, false, cond, List, [], ◌∷◌, length, drop}
use Rattle.std.proofs.Common.{get_or, Option, Some, None, refl, sym, ◌∙◌, ap, subst, arith}
use Rattle.std.proofs.lemmas.Bool.Decides.{nat_tests}
use Rattle.std.specs.List.{cons_option}
use Rattle.std.proofs.lemmas.List.{at_drop_more, drop_all}
use Rattle.definitions.specs.Table.{Generation}
use Rattle.vocabulary.specs.declared.reports.Entry.{Entry}
use Rattle.listener_set.specs.Numbers.{is_in, with_number, AreBelow}
use Rattle.listener_set.proofs.Rising.{is_in-with_number}
use Rattle.worker_table.specs.Beats.{Workers, followed, last_beat}
use Rattle.word_runner.specs.Started.{start_of, started_in}

-- the same of the numbers below the limit
abbrev pub IsLike : List ℕ → List ℕ → Type 0
IsLike ns others = (k : ℕ) → k < 1024 → is_in ns k ≡ is_in others k

-- a table follows as much as it can tell apart
pub followed-like : (ws : Workers) (ready started others : List ℕ) → AreBelow 1024 ready → IsLike started others →
    followed ws ready started ≡ followed ws ready others
followed-like ws [] started others below like = refl
followed-like ws (k ∷ ks) started others below like =
    let here = ap (λ b. cond b None (last_beat ws k)) (like k below.0) in
    let more = followed-like ws ks started others below.1 like in
    λ i. (k, here i) ∷ more i

---- Entry by entry

-- the numbers so far, and those behind so many entries
abbrev pub IsGathered : Generation → List Entry → List ℕ → ℕ → Type 0
IsGathered g entries ns i = (k : ℕ) → k < 1024 → (is_in ns k || is_in (started_in g (drop i entries)) k) ≡ is_in (started_in g entries) k

-- the numbers with that of an entry, if it started one
abbrev pub HasTaken : Option ℕ → List ℕ → List ℕ → Type 0
HasTaken None ns more = more ≡ ns
HasTaken (Some nr) ns more = IsLike more (with_number ns nr)

pub gathered-none : (g : Generation) (entries : List Entry) → IsGathered g entries [] 0
gathered-none g entries k lt = refl

turned : (a b c : Bool) → ((a || b) || c) ≡ (b || (a || c))
turned true true c = refl
turned true false c = refl
turned false b c = refl

taken : (o : Option ℕ) (ns more rest : List ℕ) (k : ℕ) → k < 1024 → HasTaken o ns more →
    (is_in more k || is_in rest k) ≡ (is_in ns k || is_in (cons_option o rest) k)
taken None ns more rest k lt h = ap (λ xs. is_in xs k || is_in rest k) h
taken (Some nr) ns more rest k lt h = ap (λ b. b || is_in rest k) (h k lt ∙ is_in-with_number ns nr k) ∙ turned (nat_eq nr k) (is_in ns k) (is_in rest k)

pub gathered-more : (g : Generation) (entries : List Entry) (ns more : List ℕ) (i : ℕ) (d : Entry) →
    i < length entries → HasTaken (start_of g (get_or entries i d)) ns more → IsGathered g entries ns i →
    IsGathered g entries more (i + 1)
gathered-more g entries ns more i d lt takes h k below =
    taken (start_of g (get_or entries i d)) ns more (started_in g (drop (i + 1) entries)) k below takes
    ∙ (ap (λ b. is_in ns k || b) (sym (at_drop_more (λ xs. is_in (started_in g xs) k) entries i d lt)) ∙ h k below)

-- the same of an entry that was looked at
pub gathered-by : (g : Generation) (entries : List Entry) (ns more : List ℕ) (i : ℕ) (e : Entry) (o : Option ℕ) →
    i < length entries → e ≡ get_or entries i e → o ≡ start_of g e → HasTaken o ns more → IsGathered g entries ns i →
    IsGathered g entries more (i + 1)
gathered-by g entries ns more i e o lt is starts takes h = gathered-more g entries ns more i e lt (subst (λ x. HasTaken x ns more) (starts ∙ ap (start_of g) is) takes) h

-- a number from the limit on is none of those that count
pub taken-above : (ns : List ℕ) (nr : ℕ) → 1024 ≤ nr → HasTaken (Some nr) ns ns
taken-above ns nr le k lt = let other : nat_eq nr k ≡ false = grind (arith, nat_tests) in sym (is_in-with_number ns nr k ∙ ap (λ b. b || is_in ns k) other)

or-false : (b : Bool) → (b || false) ≡ b
or-false true = refl
or-false false = refl

pub gathered-all : (g : Generation) (entries : List Entry) (ns : List ℕ) (i : ℕ) → length entries ≤ i →
    IsGathered g entries ns i → IsLike ns (started_in g entries)
gathered-all g entries ns i le h k lt = sym (or-false (is_in ns k)) ∙ (ap (λ xs. is_in ns k || is_in (started_in g xs) k) (sym (drop_all i entries le)) ∙ h k lt)
