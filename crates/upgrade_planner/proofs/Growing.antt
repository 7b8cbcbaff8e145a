-- What is added to a draft, one piece after another.
use Rattle.std.proofs.Common.{◌≡◌, ℕ, ◌+◌, ◌≤◌, Result, Ok, Err, IsErrAnd, IsErrOf, OnOk, length, arith}
use Rattle.rollback_plan.specs.declared.draft.Draft.{Draft}
use Rattle.rollback_plan.specs.declared.draft.DraftRefusal.{DraftRefusal}
use Rattle.rollback_plan.specs.declared.draft.DraftRefusal.TheVariants.{TooLarge}
use Rattle.rollback_plan.specs.Drafts.{trees_of, Keeps, Grows, GrowsWithin}
use Rattle.rollback_plan.proofs.DraftTrees.{keeps_on}

-- at most so many steps were added
pub record Grown (old new : Draft) (most : ℕ) : Type 0 where
  pub keeps : Keeps old new
  pub count : length (trees_of new) ≤ length (trees_of old) + most

pub grown : {T : Type 0} (old new : Draft) (x : T) (n : ℕ) → GrowsWithin {T = T} old new (Ok x) n → Grown old new n
grown old new x n grows =
    record {
      keeps = grows.keeps;
      count = grows.count;
    }

-- a piece more
pub grown_on : (old mid new : Draft) (m n : ℕ) → Grown old mid m → Grown mid new n → Grown old new (m + n)
grown_on old mid new m n first more =
    record {
      keeps = keeps_on old mid new first.keeps more.keeps;
      count = omega (arith, first.count, more.count);
    }

-- all pieces are added
pub all_grown : {T : Type 0} (old new : Draft) (x : T) (n most : ℕ) → Grown old new n → n ≤ most → GrowsWithin {T = T} old new (Ok x) most
all_grown old new x n most whole low =
    record {
      count = omega (arith, whole.count, low);
      keeps = whole.keeps;
      too_large = λ is. cc;
    }

-- the last piece is added, or refused
pub last_grown : {T : Type 0} (old mid new : Draft) (result : Result T DraftRefusal) (m n most : ℕ) → Grown old mid m →
    GrowsWithin mid new result n → m + n ≤ most → GrowsWithin old new result most
last_grown {T} old mid new result m n most before grows low =
    record {
      count = counted result grows.count;
      keeps = keeps_on old mid new before.keeps grows.keeps;
      too_large = λ full. omega (arith, grows.too_large full, before.count, low);
    }
  where
    counted : (r : Result T DraftRefusal) → OnOk r (length (trees_of new) ≤ length (trees_of mid) + n) →
        OnOk r (length (trees_of new) ≤ length (trees_of old) + most)
    counted (Ok x) h = omega (arith, h, before.count, low)
    counted (Err e) h = tt

-- a piece is refused, and so the whole
pub refused_grown : {S T : Type 0} (old mid new : Draft) (e : DraftRefusal) (result : Result T DraftRefusal)
    (m n most : ℕ) → Grown old mid m → GrowsWithin {T = S} mid new (Err e) n → IsErrAnd result (λ d. d ≡ e) →
    m + n ≤ most
    → GrowsWithin old new result most
refused_grown {S} {T} old mid new e (Ok x) m n most before grows none low = absurd none
refused_grown {S} {T} old mid new e (Err d) m n most before grows same low =
    record {
      count = tt;
      keeps = keeps_on old mid new before.keeps grows.keeps;
      too_large = λ full.
          let is : d ≡ TooLarge = cc in
          let too : IsErrOf {T = S} (Err e) TooLarge = cc in
          omega (arith, grows.too_large too, before.count, low);
    }

-- a piece of so many steps is one of at most so many
pub within : {T : Type 0} (old new : Draft) (result : Result T DraftRefusal) (n : ℕ) → Grows old new result n → GrowsWithin old new result n
within {T} old new result n grows =
    record {
      count = counted result grows.count;
      keeps = grows.keeps;
      too_large = grows.too_large;
    }
  where
    counted : (r : Result T DraftRefusal) → OnOk r (length (trees_of new) ≡ length (trees_of old) + n) →
        OnOk r (length (trees_of new) ≤ length (trees_of old) + n)
    counted (Ok x) h = omega (arith, h)
    counted (Err e) h = tt
