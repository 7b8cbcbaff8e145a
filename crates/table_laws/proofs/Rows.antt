-- Weights of rows, and what a change of each row does to them.
use Rattle.std.proofs.Common.{◌≡◌, ℕ, ◌+◌, ◌≤◌, Bool, true, false, cond, List, [], ◌∷◌, ◌++◌, Option, Some, None, refl, ap, ◌∙◌, arith}
use Rattle.std.specs.List.{filter_map, AllByRecursion, cons_option, list_any}
use Rattle.std.specs.Prelude.{◌||◌, count_by, ◌&&◌, ⊤}
use Rattle.std.proofs.lemmas.List.Sums.{sum_by-cons}
pub use Rattle.call_laws.proofs.Choices.{pick, and-left, and-right}

abbrev pub one : Bool → ℕ
one true = 1
one false = 0

pub one-le : (b : Bool) → one b ≤ 1
one-le true = omega arith
one-le false = omega arith

abbrev pub weigh : {X : Type 0} → (X → ℕ) → List X → ℕ
weigh w [] = 0
weigh w (p ∷ ps) = w p + weigh w ps

abbrev pub worth : {X : Type 0} → (X → ℕ) → Option X → ℕ
worth w None = 0
worth w (Some p) = w p

abbrev pub FitsIn : {X : Type 0} → (X → Type 0) → Option X → Type 0
FitsIn Q None = ⊤
FitsIn Q (Some p) = Q p

weigh-cons_option : {X : Type 0} (w : X → ℕ) (o : Option X) (ps : List X) → weigh w (cons_option o ps) ≡ worth w o + weigh w ps
weigh-cons_option w None ps = omega arith
weigh-cons_option w (Some p) ps = refl

pub weigh-filter_map : {X : Type 0} (w : X → ℕ) (f : X → Option X) (ps : List X) → weigh w (filter_map f ps) ≡ weigh (λ p. worth w (f p)) ps
weigh-filter_map w f [] = refl
weigh-filter_map w f (p ∷ ps) = weigh-cons_option w (f p) (filter_map f ps) ∙ ap (λ n. worth w (f p) + n) (weigh-filter_map w f ps)

pub weigh-append : {X : Type 0} (w : X → ℕ) (ps qs : List X) → weigh w (ps ++ qs) ≡ weigh w ps + weigh w qs
weigh-append w [] qs = omega arith
weigh-append w (p ∷ ps) qs = omega (arith, weigh-append w ps qs)

-- what holds of each row, held against the weights of each row
pub weigh-le : {X : Type 0} (P : X → Type 0) (u v : X → ℕ) → ((p : X) → P p → u p ≤ v p) → (ps : List X) → AllByRecursion P ps → weigh u ps ≤ weigh v ps
weigh-le P u v h [] all = omega arith
weigh-le P u v h (p ∷ ps) all = omega (arith, h p all.0, weigh-le P u v h ps all.1)

pub weigh-le-all : {X : Type 0} (u v : X → ℕ) → ((p : X) → u p ≤ v p) → (ps : List X) → weigh u ps ≤ weigh v ps
weigh-le-all u v h [] = omega arith
weigh-le-all u v h (p ∷ ps) = omega (arith, h p, weigh-le-all u v h ps)

pub weigh-add : {X : Type 0} (u v : X → ℕ) (ps : List X) → weigh (λ p. u p + v p) ps ≡ weigh u ps + weigh v ps
weigh-add u v [] = refl
weigh-add u v (p ∷ ps) = omega (arith, weigh-add u v ps)

pub weigh-same : {X : Type 0} (P : X → Type 0) (u v : X → ℕ) → ((p : X) → P p → u p ≡ v p) → (ps : List X) → AllByRecursion P ps → weigh u ps ≡ weigh v ps
weigh-same P u v h [] all = refl
weigh-same P u v h (p ∷ ps) all = omega (arith, h p all.0, weigh-same P u v h ps all.1)

-- after a change of each row: no heavier
pub change-le :
    {X : Type 0} (P : X → Type 0) (u : X → ℕ) (f : X → Option X) → ((p : X) → P p → worth u (f p) ≤ u p) →
    (ps : List X) → AllByRecursion P ps → weigh u (filter_map f ps) ≤ weigh u ps
change-le P u f h ps all = omega (arith, weigh-filter_map u f ps, weigh-le P (λ p. worth u (f p)) u h ps all)

pub change-same :
    {X : Type 0} (P : X → Type 0) (u : X → ℕ) (f : X → Option X) → ((p : X) → P p → worth u (f p) ≡ u p) →
    (ps : List X) → AllByRecursion P ps → weigh u (filter_map f ps) ≡ weigh u ps
change-same P u f h ps all = omega (arith, weigh-filter_map u f ps, weigh-same P (λ p. worth u (f p)) u h ps all)

-- u falls by no more than v
pub change-falls :
    {X : Type 0} (P : X → Type 0) (u v : X → ℕ) (f : X → Option X) →
    ((p : X) → P p → u p + worth v (f p) ≤ worth u (f p) + v p) → (ps : List X) → AllByRecursion P ps →
    weigh u ps + weigh v (filter_map f ps) ≤ weigh u (filter_map f ps) + weigh v ps
change-falls P u v f h ps all =
    let le = weigh-le P (λ p. u p + worth v (f p)) (λ p. worth u (f p) + v p) h ps all in
    omega (arith, le, weigh-filter_map u f ps, weigh-filter_map v f ps, weigh-add u (λ p. worth v (f p)) ps, weigh-add (λ p. worth u (f p)) v ps)

every-cons_option : {X : Type 0} (Q : X → Type 0) (o : Option X) (ps : List X) → FitsIn Q o → AllByRecursion Q ps → AllByRecursion Q (cons_option o ps)
every-cons_option Q None ps h all = all
every-cons_option Q (Some p) ps h all = (h, all)

pub every-filter_map :
    {X : Type 0} (P Q : X → Type 0) (f : X → Option X) → ((p : X) → P p → FitsIn Q (f p)) → (ps : List X) →
    AllByRecursion P ps → AllByRecursion Q (filter_map f ps)
every-filter_map P Q f h [] all = tt
every-filter_map P Q f h (p ∷ ps) all = every-cons_option Q (f p) (filter_map f ps) (h p all.0) (every-filter_map P Q f h ps all.1)

pub every-append : {X : Type 0} (P : X → Type 0) (ps : List X) (q : X) → AllByRecursion P ps → P q → AllByRecursion P (ps ++ q ∷ [])
every-append P [] q all h = (h, tt)
every-append P (p ∷ ps) q all h = (all.0, every-append P ps q all.1 h)

pub every-more : {X : Type 0} (P Q : X → Type 0) → ((p : X) → P p → Q p) → (ps : List X) → AllByRecursion P ps → AllByRecursion Q ps
every-more P Q h [] all = tt
every-more P Q h (p ∷ ps) all = (h p all.0, every-more P Q h ps all.1)

pub every-both : {X : Type 0} (P Q : X → Type 0) (ps : List X) → AllByRecursion P ps → AllByRecursion Q ps → AllByRecursion (λ p. P p × Q p) ps
every-both P Q [] a b = tt
every-both P Q (p ∷ ps) a b = ((a.0, b.0), every-both P Q ps a.1 b.1)

pub every-any : {X : Type 0} (ps : List X) → AllByRecursion (λ p. ⊤) ps
every-any [] = tt
every-any (p ∷ ps) = (tt, every-any ps)

pub count-weigh : {X : Type 0} (test : X → Bool) (ps : List X) → count_by test ps ≡ weigh (λ p. one (test p)) ps
count-weigh test [] = refl
count-weigh test (p ∷ ps) = sum_by-cons (λ x. cond (test x) 1 0) p ps ∙ go (test p) (count-weigh test ps)
  where
    go : (b : Bool) → count_by test ps ≡ weigh (λ p. one (test p)) ps → cond b 1 0 + count_by test ps ≡ one b + weigh (λ p. one (test p)) ps
    go true e = omega arith
    go false e = omega arith

-- none passes a test, or some do
pub any-none : {X : Type 0} (test : X → Bool) (ps : List X) → list_any test ps ≡ false → weigh (λ p. one (test p)) ps ≡ 0
any-none test [] e = refl
any-none {X} test (p ∷ ps) e = go (test p) e (any-none test ps)
  where
    go : (b : Bool) → (b || list_any test ps) ≡ false → (list_any test ps ≡ false → weigh (λ p. one (test p)) ps ≡ 0) → one b + weigh (λ p. one (test p)) ps ≡ 0
    go true e ih = cc
    go false e ih = omega (arith, ih e)

pub any-some : {X : Type 0} (test : X → Bool) (ps : List X) → list_any test ps ≡ true → 1 ≤ weigh (λ p. one (test p)) ps
any-some test [] e = cc
any-some {X} test (p ∷ ps) e = go (test p) e (any-some test ps)
  where
    go : (b : Bool) → (b || list_any test ps) ≡ true → (list_any test ps ≡ true → 1 ≤ weigh (λ p. one (test p)) ps) → 1 ≤ one b + weigh (λ p. one (test p)) ps
    go true e ih = omega arith
    go false e ih = omega (arith, ih e)

pub both-true : (a b : Bool) → a ≡ true → b ≡ true → (a && b) ≡ true
both-true true b e f = f
both-true false b e f = e

pub or-left : (a b : Bool) → a ≡ true → (a || b) ≡ true
or-left true b e = refl
or-left false b e = absurd (cc)

pub or-right : (a b : Bool) → b ≡ true → (a || b) ≡ true
or-right true b e = refl
or-right false b e = e
