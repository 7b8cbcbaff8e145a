-- Lists of turns, and the trails that they lead along.
use Rattle.std.proofs.Common.{◌≡◌, ℕ, zero, suc, ◌-◌, ◌<◌, ◌≤◌, List, [], ◌∷◌, ◌++◌, length, replicate, refl, sym, ◌∙◌, ap, arith, append_assoc}
use Rattle.definitions.specs.Plans.{Turn, New, Old}
use Rattle.theorems.specs.Apart.{Plays}
use Rattle.certifier.specs.Turns.{IsTrimmed}

-- one of those that are only counted is told
pub told-one : (turns : List Turn) (n : ℕ) → 0 < n → (turns ++ New ∷ []) ++ replicate (n - 1) New ≡ turns ++ replicate n New
told-one turns zero some = absurd (omega (arith, some))
told-one turns (suc n) some = append_assoc turns (New ∷ []) (replicate (suc n - 1) New) ∙ ap (λ (k : ℕ). turns ++ New ∷ replicate k New) (let e : suc n - 1 ≡ n = omega arith in e)

pub append-none : {T : Type 0} (xs : List T) → xs ++ [] ≡ xs
append-none [] = refl
append-none (x ∷ xs) = ap (λ ys. x ∷ ys) (append-none xs)

---- Lists that say the same

-- the last of a list
last_or : Turn → List Turn → Turn
last_or turn [] = turn
last_or turn (one ∷ turns) = last_or one turns

last-is : (turn one : Turn) (turns : List Turn) → last_or turn (turns ++ one ∷ []) ≡ one
unfolding last_or
last-is turn one [] = refl
last-is turn one (other ∷ turns) = last-is other one turns

-- behind a turn of the old master nothing is to be left out
pub trimmed-old : (turns : List Turn) → IsTrimmed (turns ++ Old ∷ [])
trimmed-old turns front same =
    let e : Old ≡ New = sym (last-is New Old turns) ∙ (ap (last_or New) same ∙ last-is New New front) in
    cc

-- those of the new master behind the end of a list are its last
ends-new : (u : Turn) (us : List Turn) → Plays [] (u ∷ us) → (front : List Turn) × (u ∷ us ≡ front ++ New ∷ [])
ends-new u [] plays = ([], ap (λ (turn : Turn). turn ∷ []) plays.0)
ends-new u (v ∷ vs) plays = let it = ends-new v vs plays.1 in (u ∷ it.0, ap (λ (turns : List Turn). u ∷ turns) it.1)

-- a list that is played, and ends with no turn of the new master, is no longer
pub trimmed-fewest : (turns used : List Turn) → Plays turns used → IsTrimmed used → length used ≤ length turns
trimmed-fewest turns [] plays trimmed = omega arith
trimmed-fewest [] (u ∷ us) plays trimmed = let it = ends-new u us plays in absurd (trimmed it.0 it.1)
trimmed-fewest (turn ∷ turns) (u ∷ us) plays trimmed =
    omega (arith, trimmed-fewest turns us plays.1 (λ front same. trimmed (u ∷ front) (ap (λ (turns : List Turn). u ∷ turns) same)))

-- the first of turns that are played are played
pub plays-first : (turns used more : List Turn) → Plays turns (used ++ more) → Plays turns used
plays-first turns [] more plays = tt
plays-first [] (u ∷ us) more plays = (plays.0, plays-first [] us more plays.1)
plays-first (turn ∷ turns) (u ∷ us) more plays = (plays.0, plays-first turns us more plays.1)

pub plays-itself : (turns more : List Turn) → Plays (turns ++ more) turns
plays-itself [] more = tt
plays-itself (turn ∷ turns) more = (refl, plays-itself turns more)

---- Trails, or whatever turns lead to

-- a turn of New behind the others changes nothing
abbrev pub Steady : {T : Type 0} → (List Turn → T) → Type 0
Steady f = (turns : List Turn) → f (turns ++ New ∷ []) ≡ f turns

-- nor do several
pub steady-news : {T : Type 0} (f : List Turn → T) → Steady f → (turns : List Turn) (n : ℕ) → f (turns ++ replicate n New) ≡ f turns
steady-news f steady turns zero = ap f (append-none turns)
steady-news f steady turns (suc n) = ap f (sym (append_assoc turns (New ∷ []) (replicate n New))) ∙ (steady-news f steady (turns ++ New ∷ []) n ∙ steady turns)

-- Turns by which others are played go on behind them with one at least: what they lead to, the others lead to with these.
pub record GoesOn {T : Type 0} (f : List Turn → T) (turns used : List Turn) : Type 0 where
  pub one : Turn
  pub rest : List Turn
  pub same : f turns ≡ f (used ++ one ∷ rest)
  pub more : (us : List Turn) → Plays (one ∷ rest) us → Plays turns (used ++ us)

pub goes-on : {T : Type 0} (f : List Turn → T) → Steady f → (turns used : List Turn) → Plays turns used → GoesOn f turns used
goes-on f steady [] [] plays = record { one = New; rest = []; same = sym (steady []); more = more }
  where
    more : (us : List Turn) → Plays (New ∷ []) us → Plays [] us
    more [] h = tt
    more (u ∷ us) h = h
goes-on f steady (turn ∷ turns) [] plays = record { one = turn; rest = turns; same = refl; more = λ us h. h }
goes-on f steady [] (u ∷ us) plays =
    let it = goes-on (λ ts. f (New ∷ ts)) (λ ts. steady (New ∷ ts)) [] us plays.1 in
    record {
      one = it.one;
      rest = it.rest;
      same = sym (steady []) ∙ (it.same ∙ ap (λ (turn : Turn). f (turn ∷ (us ++ it.one ∷ it.rest))) (sym plays.0));
      more = λ vs h. (plays.0, it.more vs h);
    }
goes-on f steady (turn ∷ turns) (u ∷ us) plays =
    let it = goes-on (λ ts. f (turn ∷ ts)) (λ ts. steady (turn ∷ ts)) turns us plays.1 in
    record {
      one = it.one;
      rest = it.rest;
      same = it.same ∙ ap (λ (first : Turn). f (first ∷ (us ++ it.one ∷ it.rest))) (sym plays.0);
      more = λ vs h. (plays.0, it.more vs h);
    }
