-- Ready workers, counted generation by generation.
use Rattle.std.proofs.Common.{◌≡◌, ℕ, ◌+◌, Bool, true, false, cond, not, ◌&&◌, count_by, List, [], ◌∷◌, None, refl, sym, ap, subst, ◌∙◌, arith}
use Rattle.std.specs.Prelude.{unwrap_or, Some}
use Rattle.std.specs.declared.cmp.Ordering.{Ordering}
use Rattle.std.specs.declared.cmp.Ordering.TheVariants.{Less, Equal, Greater}
use Rattle.std.specs.Ordering.{is_lt, is_eq}
use Rattle.std.specs.List.{filter, sum_by}
use Rattle.std.specs.FinMap.{find, is_sorted}
use Rattle.std.specs.FinMap.Entries.{below_all}
use Rattle.std.proofs.lemmas.Bool.{false≢true}
use Rattle.std.proofs.lemmas.Bool.Decides.{nat_tests}
use Rattle.std.proofs.lemmas.List.Sums.{sum_by-cons}
use Rattle.definitions.specs.Table.{Address, Generation, same_generation, Process, Master, Worker, Foreign, has_address}
use Rattle.call_laws.specs.Pieces.{is_ready, is_serving_as}
use Rattle.kernel_service.specs.Services.{Counts, generation_cmp, count_at}
use Rattle.kernel_service.proofs.Services.{tied-same, same-generation}
use Rattle.explorer.specs.Readiness.{is_ready_at}

---- Lists that are counted in two parts

module _ {X : Type 0} where
  counts : (f : X → Bool) (x : X) (xs : List X) → count_by f (x ∷ xs) ≡ cond (f x) 1 0 + count_by f xs
  counts f x xs = sum_by-cons (λ y. cond (f y) 1 0) x xs

  abbrev others : (X → Bool) → List X → List X
  others d xs = filter (λ x. not (d x)) xs

  none-among : (d : X → Bool) (xs : List X) → count_by d (others d xs) ≡ 0
  none-among d [] = refl
  none-among d (x ∷ xs) = at (d x) refl (none-among d xs)
    where
      at : (b : Bool) → d x ≡ b → count_by d (others d xs) ≡ 0 → count_by d (cond (not b) (x ∷ others d xs) (others d xs)) ≡ 0
      at true e rest = rest
      at false e rest = omega (arith, counts d x (others d xs) ∙ ap (λ b. cond b 1 0 + count_by d (others d xs)) e, rest)

  same-among : (d f : X → Bool) → ((x : X) → f x ≡ true → d x ≡ false) → (xs : List X) → count_by f (others d xs) ≡ count_by f xs
  same-among d f apart [] = refl
  same-among d f apart (x ∷ xs) = at (d x) (f x) refl refl (same-among d f apart xs)
    where
      at : (b c : Bool) → d x ≡ b → f x ≡ c → count_by f (others d xs) ≡ count_by f xs →
          count_by f (cond (not b) (x ∷ others d xs) (others d xs)) ≡ count_by f (x ∷ xs)
      at true true e is rest = absurd (false≢true (sym (apart x is) ∙ e))
      at true false e is rest = omega (arith, rest, counts f x xs ∙ ap (λ b. cond b 1 0 + count_by f xs) is)
      at false c e is rest = omega (arith, counts f x (others d xs), rest, counts f x xs)

  both-parts : (d r : X → Bool) → ((x : X) → d x ≡ true → r x ≡ true) → (xs : List X) → count_by r xs ≡ count_by d xs + count_by r (others d xs)
  both-parts d r within [] = refl
  both-parts d r within (x ∷ xs) = at (d x) refl (both-parts d r within xs)
    where
      at : (b : Bool) → d x ≡ b → count_by r xs ≡ count_by d xs + count_by r (others d xs) →
          count_by r (x ∷ xs) ≡ count_by d (x ∷ xs) + count_by r (cond (not b) (x ∷ others d xs) (others d xs))
      at true e rest =
          let one = counts r x xs ∙ ap (λ b. cond b 1 0 + count_by r xs) (within x e) in
          let other = counts d x xs ∙ ap (λ b. cond b 1 0 + count_by d xs) e in
          omega (arith, one, other, rest)
      at false e rest =
          let one = counts r x xs in
          let other = counts d x xs ∙ ap (λ b. cond b 1 0 + count_by d xs) e in
          omega (arith, one, other, rest, counts r x (others d xs))

---- Rows

same-itself : (g : Generation) → same_generation g g ≡ true
same-itself g = grind (arith, nat_tests)

turned-round : (g h : Generation) → same_generation g h ≡ same_generation h g
turned-round g h = grind (arith, nat_tests)

never : (b : Bool) → (b && false) ≡ false
never true = refl
never false = refl

of-both : (a b : Bool) → (a && b) ≡ true → (a ≡ true) × (b ≡ true)
of-both true b e = (refl, e)
of-both false b e = absurd (false≢true e)

module _ (a : Address) where
  serves-ready : (g : Generation) (p : Process) → is_serving_as a g p ≡ true → is_ready_at a p ≡ true
  serves-ready g (Worker n q h k s hs) e =
      let one = of-both (is_ready s) (same_generation h g && has_address a hs) e in
      let two = of-both (same_generation h g) (has_address a hs) one.1 in
      ap (λ b. b && has_address a hs) one.0 ∙ two.1
  serves-ready g (Master n q i live hs) e = e
  serves-ready g (Foreign n hs) e = e

  serves-one : (g h : Generation) → same_generation g h ≡ false → (p : Process) → is_serving_as a h p ≡ true → is_serving_as a g p ≡ false
  serves-one g h apart (Worker n q j k s hs) e =
      let one = of-both (is_ready s) (same_generation j h && has_address a hs) e in
      let two = of-both (same_generation j h) (has_address a hs) one.1 in
      let same : j ≡ h = same-generation j h two.0 in
      let other : same_generation j g ≡ false = ap (λ x. same_generation x g) same ∙ turned-round h g ∙ apart in
      ap (λ b. is_ready s && (b && has_address a hs)) other ∙ never (is_ready s)
  serves-one g h apart (Master n q i live hs) e = absurd (false≢true e)
  serves-one g h apart (Foreign n hs) e = absurd (false≢true e)

  none-ready : (rows : List Process) → ((g : Generation) → count_by (is_serving_as a g) rows ≡ 0) → count_by (is_ready_at a) rows ≡ 0
  none-ready [] none = refl
  none-ready (Worker n q g k s hs ∷ rows) none =
      let p = Worker n q g k s hs in
      let own : is_serving_as a g p ≡ is_ready_at a p = ap (λ b. is_ready s && (b && has_address a hs)) (same-itself g) in
      let here = ap (λ b. cond b 1 0 + count_by (is_serving_as a g) rows) (sym own) ∙ sym (counts (is_serving_as a g) p rows) ∙ none g in
      let rest = none-ready rows (λ h. omega (arith, counts (is_serving_as a h) p rows, none h)) in
      omega (arith, counts (is_ready_at a) p rows, here, rest)
  none-ready (Master n q i live hs ∷ rows) none =
      omega (
        arith,
        counts (is_ready_at a) (Master n q i live hs) rows,
        none-ready rows
            (λ h. omega (arith, counts (is_serving_as a h) (Master n q i live hs) rows, none h)),
      )
  none-ready (Foreign n hs ∷ rows) none =
      omega (arith, counts (is_ready_at a) (Foreign n hs) rows, none-ready rows (λ h. omega (arith, counts (is_serving_as a h) (Foreign n hs) rows, none h)))

  ---- The list of a service

  not-less : (r : Ordering) → is_lt r ≡ true → is_eq r ≡ false
  not-less Less e = refl
  not-less Equal e = absurd (false≢true e)
  not-less Greater e = refl

  absent : (g : Generation) (cs : Counts) → below_all generation_cmp g cs ≡ true → find generation_cmp g cs ≡ None
  absent g [] below = refl
  absent g (c ∷ cs) below =
      let parts = of-both (is_lt (generation_cmp g c.0)) (below_all generation_cmp g cs) below in
      ap (λ b. cond b (Some c.1) (find generation_cmp g cs)) (not-less (generation_cmp g c.0) parts.0) ∙ absent g cs parts.1

  -- The counts of all generations are all Ready workers.
  pub total : (cs : Counts) (rows : List Process) → is_sorted generation_cmp cs ≡ true →
      ((g : Generation) → count_at cs g ≡ count_by (is_serving_as a g) rows) →
      sum_by (λ c. c.1) cs ≡ count_by (is_ready_at a) rows
  total [] rows sorted counted = sym (none-ready rows (λ g. sym (counted g)))
  total (c ∷ cs) rows sorted counted =
      let g = c.0 in
      let parts = of-both (below_all generation_cmp g cs) (is_sorted generation_cmp cs) sorted in
      let own : c.1 ≡ count_by (is_serving_as a g) rows =
      sym (ap (λ b. unwrap_or (cond b (Some c.1) (find generation_cmp g cs)) 0) (tied-same g g ∙ same-itself g)) ∙ counted g in
      let rest = total cs (others (is_serving_as a g) rows) parts.1 (λ h. left h (is_eq (generation_cmp h g)) refl parts.0) in
      omega (arith, sum_by-cons (λ (x : Generation × ℕ). x.1) c cs, own, rest, both-parts (is_serving_as a g) (is_ready_at a) (serves-ready g) rows) where
        left : (h : Generation) (b : Bool) → is_eq (generation_cmp h c.0) ≡ b → below_all generation_cmp c.0 cs ≡ true →
            count_at cs h ≡ count_by (is_serving_as a h) (others (is_serving_as a c.0) rows)
        left h true e below =
            let same : c.0 ≡ h = same-generation c.0 h (sym (tied-same h c.0) ∙ e) in
            subst (λ (x : Generation). count_at cs x ≡ count_by (is_serving_as a x) (others (is_serving_as a c.0) rows)) same
            (ap (λ o. unwrap_or o 0) (absent c.0 cs below) ∙ sym (none-among (is_serving_as a c.0) rows))
        left h false e below =
            sym (ap (λ b. unwrap_or (cond b (Some c.1) (find generation_cmp h cs)) 0) e)
            ∙ counted h
            ∙ sym (same-among (is_serving_as a c.0) (is_serving_as a h) (serves-one c.0 h (sym (tied-same h c.0) ∙ e)) rows)
