-- How many numbers of each group there are, counted one after another.
use Rattle.std.proofs.Common.{◌≡◌, ℕ, zero, suc, ◌+◌, ◌-◌, ◌<◌, ◌≤◌, ◌==◌, ◌≢◌, nat_lt, Bool, true, false, cond, List, [], ◌∷◌, ◌++◌, get_or, set, map, length, take, replicate, refl, sym, ap, ◌∙◌, inl, inr, arith}
use Rattle.std.specs.Prelude.{if◌then◌else◌}
use Rattle.std.specs.List.{count_by}
use Rattle.std.proofs.lemmas.Bool.{cases_lt}
use Rattle.std.proofs.lemmas.Bool.Decides.{nat_tests}
use Rattle.std.proofs.lemmas.List.{length-map, length-append, length-set, map-append, set-append_left, set-append_right, drop-set-lt, get_or-take, take-replicate, replicate_more}
use Rattle.std.proofs.lemmas.List.Sums.{sum_by_push, count_by-le-length}
use Rattle.std.proofs.Math.Seq.{take-set-lt, get_or-append_right}
use Rattle.std.proofs.Math.ListN.{get_or-append}
use Rattle.worker_groups.specs.declared.groups.Group.{Group}
use Rattle.worker_groups.specs.Groups.{part_of, group_of}
use Rattle.listener_set.specs.Numbers.{numbers_below}
use Rattle.listener_set.specs.Padded.{IsPadded}
use Rattle.worker_groups.specs.Crews.{shortfalls_of}

-- ---- a number's group is there

later : (b : Bool) (part count : ℕ) → part < count → (if b then 0 else part + 1) < suc count
later true part count lt = omega arith
later false part count lt = omega (arith, lt)

part-within : (sizes : List ℕ) (n : ℕ) → 1 ≤ length sizes → part_of sizes n < length sizes
part-within [] n some = absurd (omega (arith, some))
part-within (size ∷ []) n some = omega arith
part-within (size ∷ next ∷ sizes) n some =
    later (nat_lt n size) (part_of (next ∷ sizes) (n - size)) (length (next ∷ sizes)) (part-within (next ∷ sizes) (n - size) (omega arith))

pub group-within : (gs : List Group) (number : ℕ) → 1 ≤ length gs → group_of gs number < length gs
group-within gs number some =
    let sizes = map (λ (g : Group). g.workers) gs in
    let same : length sizes ≡ length gs = length-map gs (λ g. g.workers) in
    omega (arith, same, part-within sizes number (omega (arith, same, some)))

-- ---- a function of each number below another

length-below : (f : ℕ → ℕ) (n : ℕ) → length (map f (numbers_below n)) ≡ n
length-below f zero = refl
length-below f (suc n) = ap length (map-append f (numbers_below n) (n ∷ [])) ∙ length-append (map f (numbers_below n)) (f n ∷ []) ∙ omega (arith, length-below f n)

get_or-below : (f : ℕ → ℕ) (n j : ℕ) → j < n → get_or (map f (numbers_below n)) j 0 ≡ f j
get_or-below f zero j lt = absurd (omega (arith, lt))
get_or-below f (suc n) j lt = ap (λ xs. get_or xs j 0) (map-append f (numbers_below n) (n ∷ [])) ∙ elim (cases_lt j n) [
  | inl low ↦ get_or-append (map f (numbers_below n)) (f n ∷ []) 0 j (omega (arith, low, length-below f n)) ∙ get_or-below f n j low
  | inr high ↦
      let last : j ≡ n = omega (arith, lt, high) in
      let first : j - length (map f (numbers_below n)) ≡ 0 = omega (arith, last, length-below f n) in
      get_or-append_right (map f (numbers_below n)) (f n ∷ []) j 0 (omega (arith, high, length-below f n))
      ∙ ap (λ k. get_or (f n ∷ []) k 0) first ∙ ap f (sym last)
]

same-below : (f g : ℕ → ℕ) (n : ℕ) → ((k : ℕ) → k < n → f k ≡ g k) → map f (numbers_below n) ≡ map g (numbers_below n)
same-below f g zero same = refl
same-below f g (suc n) same =
    map-append f (numbers_below n) (n ∷ [])
    ∙ ap (λ xs. xs ++ f n ∷ []) (same-below f g n (λ k lt. same k (omega (arith, lt))))
    ∙ ap (λ x. map g (numbers_below n) ++ x ∷ []) (same n (omega arith))
    ∙ sym (map-append g (numbers_below n) (n ∷ []))

-- one more at one of the numbers
abbrev one_more : (ℕ → ℕ) → ℕ → ℕ → ℕ
one_more f j k = f k + cond (j == k) 1 0

not-here : (f : ℕ → ℕ) (j k : ℕ) → j ≢ k → f k ≡ one_more f j k
not-here f j k apart = let other : (j == k) ≡ false = grind (arith, nat_tests) in rw other (omega arith)

here : (f : ℕ → ℕ) (j k : ℕ) → j ≡ k → f j + 1 ≡ one_more f j k
here f j k is = let same : (j == k) ≡ true = grind (arith, nat_tests) in rw same (ap (λ x. f x + 1) is)

more-at : (f : ℕ → ℕ) (n j : ℕ) → j < n → set (map f (numbers_below n)) j (f j + 1) ≡ map (one_more f j) (numbers_below n)
more-at f zero j lt = absurd (omega (arith, lt))
more-at f (suc n) j lt =
    ap (λ xs. set xs j (f j + 1)) (map-append f (numbers_below n) (n ∷ []))
    ∙ elim (cases_lt j n) [
      | inl low ↦
          set-append_left (map f (numbers_below n)) (f n ∷ []) j (f j + 1) (omega (arith, low, length-below f n))
          ∙ ap (λ xs. xs ++ f n ∷ []) (more-at f n j low)
          ∙ ap (λ x. map (one_more f j) (numbers_below n) ++ x ∷ []) (not-here f j n (λ is. absurd (omega (arith, low, is))))
      | inr high ↦
          let last : j ≡ n = omega (arith, lt, high) in
          let first : j - n ≡ 0 = omega (arith, last) in
          set-append_right (map f (numbers_below n)) (f n ∷ []) n j (f j + 1) (length-below f n) high
          ∙ ap (λ k. map f (numbers_below n) ++ set (f n ∷ []) k (f j + 1)) first
          ∙ ap (λ xs. xs ++ (f j + 1) ∷ []) (same-below f (one_more f j) n (λ k below. not-here f j k (λ is. absurd (omega (arith, below, is, high)))))
          ∙ ap (λ x. map (one_more f j) (numbers_below n) ++ x ∷ []) (here f j n last)
    ]
    ∙ sym (map-append (one_more f j) (numbers_below n) (n ∷ []))

-- ---- the counts

abbrev count_at : List Group → List ℕ → ℕ → ℕ
count_at gs numbers place = count_by (λ number. group_of gs number == place) numbers

pub zeros-counted : (gs : List Group) (len : ℕ) → length gs ≡ len → len ≤ 16 → take len (replicate 16 0) ≡ shortfalls_of gs []
zeros-counted gs len long most =
    take-replicate len 16 0 most ∙ ap (λ k. replicate k 0) (sym long) ∙ zeros (length gs)
  where
    longer : (n : ℕ) → suc n ≡ n + 1
    longer n = omega arith

    zeros : (n : ℕ) → replicate n 0 ≡ map (count_at gs []) (numbers_below n)
    zeros zero = refl
    zeros (suc n) = ap (λ k. replicate k 0) (longer n) ∙ sym (replicate_more n 0) ∙ ap (λ xs. xs ++ 0 ∷ []) (zeros n) ∙ sym (map-append (count_at gs []) (numbers_below n) (n ∷ []))

pub count-there : (gs : List Group) (numbers counts : List ℕ) (len place : ℕ) → length gs ≡ len → place < len → take len counts ≡ shortfalls_of gs numbers
    → get_or counts place 0 ≡ count_at gs numbers place
count-there gs numbers counts len place long within counted =
    sym (get_or-take len counts place 0 within)
    ∙ ap (λ xs. get_or xs place 0) counted
    ∙ get_or-below (count_at gs numbers) (length gs) place (omega (arith, long, within))

pub count-few : (gs : List Group) (numbers : List ℕ) (place : ℕ) → count_at gs numbers place ≤ length numbers
count-few gs numbers place = count_by-le-length (λ number. group_of gs number == place) numbers

-- one number more is counted at its group
pub counted-more : (gs : List Group) (numbers counts : List ℕ) (len number more : ℕ) → length gs ≡ len → group_of gs number < len → take len counts ≡ shortfalls_of gs numbers
    → more ≡ get_or counts (group_of gs number) 0 + 1 → take len (set counts (group_of gs number) more) ≡ shortfalls_of gs (numbers ++ number ∷ [])
counted-more gs numbers counts len number more long within counted is =
    let place : ℕ = group_of gs number in
    let there = count-there gs numbers counts len place long within counted in
    take-set-lt len counts place more within
    ∙ ap (λ xs. set xs place more) counted
    ∙ ap (set (shortfalls_of gs numbers) place) (is ∙ ap (λ n. n + 1) there)
    ∙ more-at (count_at gs numbers) (length gs) place (omega (arith, long, within))
    ∙ same-below (one_more (count_at gs numbers) place) (count_at gs (numbers ++ number ∷ [])) (length gs)
    (λ k _. sym (sum_by_push (λ n. cond (group_of gs n == k) 1 0) numbers number))

-- what is put in one of the places leaves the zeros behind them
pub set-padded : {n len : ℕ} {items : List ℕ} (i x : ℕ) → IsPadded n 0 items len → i < len → IsPadded n 0 (set items i x) len
set-padded {n} {len} {items} i x h lt = record {
  size = length-set items i x ∙ h.size;
  fits = h.fits;
  blanks = drop-set-lt len items i x lt ∙ h.blanks;
}
