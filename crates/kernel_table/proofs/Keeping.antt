-- Rows that change or leave one by one keep what every table keeps.
use Rattle.std.proofs.Common.{◌≡◌, ℕ, ◌+◌, ◌≤◌, Bool, true, false, cond, List, [], ◌∷◌, Option, Some, None, count_by, refl, sym, subst, arith}
use Rattle.std.specs.List.{AllByRecursion, filter_map, cons_option}
use Rattle.std.specs.Prelude.{IfSome}
use Rattle.std.proofs.lemmas.Bool.{false≢true}
use Rattle.std.proofs.lemmas.List.Sums.{sum_by-cons}
use Rattle.definitions.specs.Table.{Generation, Process, number_of, is_active, is_worker, IsQuiet, HasParent}
use Rattle.definitions.specs.Table.{IsAscending}
use Rattle.definitions.specs.Calls.{change, first_changed, drop_where, is_image}
use Rattle.kernel_table.specs.Room.{HasSockets}

-- Rows of a table, with the next process and the next socket number.
pub record AreKept (rows : List Process) (next socket : ℕ) : Type 0 where
  pub once : (q : ℕ) (g : Generation) (k : ℕ) → count_by (is_worker is_active q g k) rows ≤ 1
  pub masters : (image : ℕ) → count_by (is_image image) rows ≤ 1
  pub quiet : AllByRecursion IsQuiet rows
  pub parents : AllByRecursion (HasParent rows) rows
  pub ascending : IsAscending 0 rows next
  pub sockets : AllByRecursion (HasSockets socket) rows

-- What a row may become, where the rows before and after are these and the next socket number rises from one to the other.
pub record Follows (rows rows' : List Process) (socket socket' : ℕ) (p p' : Process) : Type 0 where
  pub number : number_of p' ≡ number_of p
  pub quiet : IsQuiet p → IsQuiet p'
  pub active : (q : ℕ) (g : Generation) (k : ℕ) → is_worker is_active q g k p' ≡ true → is_worker is_active q g k p ≡ true
  pub image : (i : ℕ) → is_image i p' ≡ true → is_image i p ≡ true
  pub parent : HasParent rows p → HasParent rows' p'
  pub sockets : HasSockets socket p → HasSockets socket' p'

-- Each row leaves, or becomes one that is so related to it.
pub data Becomes (R : Process → Process → Type 0) : List Process → List Process → Type 0 where
  over : Becomes R [] []
  leaves : {p : Process} {ps qs : List Process} → Becomes R ps qs → Becomes R (p ∷ ps) qs
  stays : {p p' : Process} {ps qs : List Process} → R p p' → Becomes R ps qs → Becomes R (p ∷ ps) (p' ∷ qs)

-- ---- the facts, one by one
IsAscending-lower : (rows : List Process) (a b next : ℕ) → a ≤ b → IsAscending b rows next → IsAscending a rows next
IsAscending-lower [] a b next le h = omega (arith, h)
IsAscending-lower (p ∷ rows) a b next le h = (omega (arith, h.0), h.1)

module _ (rows rows' : List Process) (socket socket' : ℕ) where
  ascending : {ps qs : List Process} → Becomes (Follows rows rows' socket socket') ps qs → (a next : ℕ) → IsAscending a ps next → IsAscending a qs next
  ascending over a next h = h
  ascending (leaves {p} {ps} {qs} r) a next h = IsAscending-lower qs a (number_of p + 1) next (omega (arith, h.0)) (ascending r (number_of p + 1) next h.1)
  ascending (stays {p} {p'} {ps} {qs} f r) a next h =
      let same = f.number in
      (omega (arith, h.0, same), subst (λ n. IsAscending (n + 1) qs next) (sym same) (ascending r (number_of p + 1) next h.1))

  quiet : {ps qs : List Process} → Becomes (Follows rows rows' socket socket') ps qs → AllByRecursion IsQuiet ps → AllByRecursion IsQuiet qs
  quiet over h = tt
  quiet (leaves r) h = quiet r h.1
  quiet (stays f r) h = (f.quiet h.0, quiet r h.1)

  parents : {ps qs : List Process} → Becomes (Follows rows rows' socket socket') ps qs →
      AllByRecursion (HasParent rows) ps → AllByRecursion (HasParent rows') qs
  parents over h = tt
  parents (leaves r) h = parents r h.1
  parents (stays f r) h = (f.parent h.0, parents r h.1)

  sockets : {ps qs : List Process} → Becomes (Follows rows rows' socket socket') ps qs →
      AllByRecursion (HasSockets socket) ps → AllByRecursion (HasSockets socket') qs
  sockets over h = tt
  sockets (leaves r) h = sockets r h.1
  sockets (stays f r) h = (f.sockets h.0, sockets r h.1)

  count-stays : (b b' : Bool) (m n : ℕ) → (b' ≡ true → b ≡ true) → m ≤ n → cond b' 1 0 + m ≤ cond b 1 0 + n
  count-stays true true m n h le = omega arith
  count-stays true false m n h le = omega arith
  count-stays false true m n h le = absurd (false≢true (h refl))
  count-stays false false m n h le = omega arith

  count : (test : Process → Bool) →
      ((p p' : Process) → Follows rows rows' socket socket' p p' → test p' ≡ true → test p ≡ true) →
      {ps qs : List Process} → Becomes (Follows rows rows' socket socket') ps qs → count_by test qs ≤ count_by test ps
  count test up over = omega arith
  count test up (leaves {p} {ps} {qs} r) =
      let rest = count test up r in
      let first = sum_by-cons (λ (x : Process). cond (test x) 1 0) p ps in
      omega (arith, rest, first)
  count test up (stays {p} {p'} {ps} {qs} f r) =
      rw (sum_by-cons (λ (x : Process). cond (test x) 1 0) p ps, sum_by-cons (λ (x : Process). cond (test x) 1 0) p' qs)
      (count-stays (test p) (test p') _ _ (up p p' f) (count test up r))

pub AreKept-becomes : (rows rows' : List Process) (next socket socket' : ℕ) →
    Becomes (Follows rows rows' socket socket') rows rows' → AreKept rows next socket → AreKept rows' next socket'
AreKept-becomes rows rows' next socket socket' r h = record {
  once = λ q g k. (let most = h.once q g k in let less = count rows rows' socket socket' (is_worker is_active q g k) (λ p p' (f : Follows rows rows' socket socket' p p'). f.active q g k) r in omega arith);
  masters = λ i. (let most = h.masters i in let less = count rows rows' socket socket' (is_image i) (λ p p' (f : Follows rows rows' socket socket' p p'). f.image i) r in omega arith);
  quiet = quiet rows rows' socket socket' r h.quiet;
  parents = parents rows rows' socket socket' r h.parents;
  ascending = ascending rows rows' socket socket' r 0 next h.ascending;
  sockets = sockets rows rows' socket socket' r h.sockets;
}

-- ---- ways to become
module _ (R : Process → Process → Type 0) (f : Process → Option Process) (says : (p : Process) → IfSome (f p) (R p)) where
  one : (o : Option Process) (p : Process) (ps qs : List Process) → IfSome o (R p) → Becomes R ps qs → Becomes R (p ∷ ps) (cons_option o qs)
  one None p ps qs h r = leaves r
  one (Some p') p ps qs h r = stays h r

  pub Becomes-filter_map : (ps : List Process) → Becomes R ps (filter_map f ps)
  Becomes-filter_map [] = over
  Becomes-filter_map (p ∷ ps) = one (f p) p ps (filter_map f ps) (says p) (Becomes-filter_map ps)

module _ (R : Process → Process → Type 0) (same : (p : Process) → R p p) (test : Process → Bool) (f : Process → Process)
    (says : (p : Process) → test p ≡ true → R p (f p)) where
  Becomes-same : (ps : List Process) → Becomes R ps ps
  Becomes-same [] = over
  Becomes-same (p ∷ ps) = stays (same p) (Becomes-same ps)

  pub Becomes-first_changed : (ps : List Process) → Becomes R ps (first_changed test f ps)
  Becomes-first_changed [] = over
  Becomes-first_changed (p ∷ ps) = at (test p) (says p) (Becomes-first_changed ps) (Becomes-same ps)
    where
      at : (b : Bool) → (b ≡ true → R p (f p)) → Becomes R ps (first_changed test f ps) → Becomes R ps ps →
          Becomes R (p ∷ ps) (cond b (f p ∷ ps) (p ∷ first_changed test f ps))
      at true h r rest = stays (h refl) rest
      at false h r rest = stays (same p) r

  -- a row that passes the test changes
  pub says-change : (p : Process) → IfSome (change test f p) (R p)
  says-change p = at (test p) (says p)
    where
      at : (b : Bool) → (b ≡ true → R p (f p)) → R p (cond b (f p) p)
      at true h = h refl
      at false h = same p

-- a row that passes the test leaves
pub says-dropped : (R : Process → Process → Type 0) (same : (p : Process) → R p p) (test : Process → Bool) (p : Process) → IfSome (drop_where test p) (R p)
says-dropped R same test p = at (test p)
  where
    at : (b : Bool) → IfSome (cond b None (Some p)) (R p)
    at true = tt
    at false = same p
