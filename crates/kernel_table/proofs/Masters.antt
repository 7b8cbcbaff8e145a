-- Live masters among the rows.
use Rattle.std.proofs.Common.{◌≡◌, ℕ, suc, zero, ◌+◌, ◌<◌, ◌≤◌, Bool, true, false, cond, nat_eq, List, [], ◌∷◌, length}
use Rattle.std.proofs.Common.{get_or, count_by, Option, Some, None, is_some, ◌&&◌, ◌||◌, refl, sym, ap, ◌∙◌, arith}
use Rattle.std.specs.List.{AllByRecursion, filter_map, list_any}
use Rattle.std.proofs.lemmas.Bool.{false≢true}
use Rattle.std.proofs.lemmas.Bool.Decides.{nat_tests}
use Rattle.definitions.specs.Table.{Address, Hold, Process, Master, Worker, Foreign, Caller, live_master, number_of}
use Rattle.definitions.specs.Table.{holds_of, IsAscending}
use Rattle.call_laws.specs.Pieces.{caller_if, is_row}
use Rattle.definitions.specs.Calls.{change, without_exited, is_image, with_holds, put_hold}
use Rattle.std.specs.Bool.{then_some}
use Rattle.kernel_rows.specs.declared.process.Holder.{Holder}
use Rattle.kernel_rows.specs.Seen.{seen_holder, seen_rows}
use Rattle.kernel_rows.proofs.Lone.{more, passing, failing}

-- ---- a number is one row's
above : (rows : List Process) (least next n : ℕ) (p : Process) → IsAscending least rows next → n < least → AllByRecursion (λ x. number_of x ≡ n → x ≡ p) rows
above [] least next n p h lt = tt
above (x ∷ rows) least next n p h lt = (λ e. absurd (omega (arith, h.0, e)), above rows (number_of x + 1) next n p h.1 (omega (arith, h.0)))

number-at : (rows : List Process) (least next : ℕ) (k : ℕ) (p : Process) → IsAscending least rows next →
    k < length rows → get_or rows k p ≡ p → least ≤ number_of p
number-at [] least next k p h lt e = absurd (omega arith)
number-at (x ∷ rows) least next zero p h lt e = let same : number_of x ≡ number_of p = ap number_of e in omega (arith, h.0)
number-at (x ∷ rows) least next (suc k) p h lt e = let later : number_of x + 1 ≤ number_of p = number-at rows (number_of x + 1) next k p h.1 (omega arith) e in omega (arith, h.0)

-- A row with the number of another is that row.
abbrev pub IsOnly : Process → List Process → Type 0
IsOnly p rows = AllByRecursion (λ x. number_of x ≡ number_of p → x ≡ p) rows

pub IsOnly-from : (rows : List Process) (least next : ℕ) (p : Process) (k : ℕ) → IsAscending least rows next →
    k < length rows → get_or rows k p ≡ p → IsOnly p rows
IsOnly-from [] least next p k h lt e = tt
IsOnly-from (x ∷ rows) least next p zero h lt e = (λ _. e, above rows (number_of x + 1) next (number_of p) p h.1 (let same : number_of x ≡ number_of p = ap number_of e in omega arith))
IsOnly-from (x ∷ rows) least next p (suc k) h lt e =
    let later : number_of x + 1 ≤ number_of p = number-at rows (number_of x + 1) next k p h.1 (omega arith) e in
    (λ same. absurd (omega (arith, same)), IsOnly-from rows (number_of x + 1) next p k h.1 (omega arith) e)

-- ---- the same for all rows
pub filter_map-same : {X Y : Type 0} (f g : X → Option Y) (xs : List X) → AllByRecursion (λ x. f x ≡ g x) xs → filter_map f xs ≡ filter_map g xs
filter_map-same f g [] h = refl
filter_map-same f g (x ∷ xs) h = rw (h.0, filter_map-same f g xs h.1) refl

module _ (n q i : ℕ) (hs : List Hold) where
  held : (new : List Hold) (h : Hold) → new ≡ put_hold h hs → (x : Process) →
      (number_of x ≡ n → x ≡ Master n q i true hs) →
      change (is_row n) (with_holds (λ old. new)) x ≡ change (is_row n) (with_holds (put_hold h)) x
  held new h e (Master m q' i' live old) only = at (nat_eq m n) (λ t. only (grind (arith, nat_tests)))
    where
      at : (b : Bool) → (b ≡ true → Master m q' i' live old ≡ Master n q i true hs) →
          Some (cond b (Master m q' i' live new) (Master m q' i' live old))
          ≡ Some (cond b (Master m q' i' live (put_hold h old)) (Master m q' i' live old))
      at true same = let is : old ≡ hs = ap holds_of (same refl) in ap (λ z. Some (Master m q' i' live z)) (e ∙ ap (put_hold h) (sym is))
      at false same = refl
  held new h e (Worker m q' g k s old) only = refl
  held new h e (Foreign m old) only = refl

  -- the master's new holds are its old ones with one more
  pub held-all : (new : List Hold) (h : Hold) → new ≡ put_hold h hs → (rows : List Process) →
      IsOnly (Master n q i true hs) rows →
      filter_map (change (is_row n) (with_holds (λ old. new))) rows
      ≡ filter_map (change (is_row n) (with_holds (put_hold h))) rows
  held-all new h e rows only = filter_map-same _ _ rows (each rows only)
    where
      each : (ps : List Process) → IsOnly (Master n q i true hs) ps →
          AllByRecursion (λ x. change (is_row n) (with_holds (λ old. new)) x
          ≡ change (is_row n) (with_holds (put_hold h)) x) ps
      each [] o = tt
      each (p ∷ ps) o = (held new h e p o.0, each ps o.1)

  exited_alike : (lives : ℕ → Bool) (x : Process) → (number_of x ≡ n → x ≡ Master n q i true hs) → without_exited n (λ p. lives q) x ≡ without_exited n lives x
  exited_alike lives (Master m q' i' live old) only = at (nat_eq m n) (λ t. only (grind (arith, nat_tests)))
    where
      at : (b : Bool) → (b ≡ true → Master m q' i' live old ≡ Master n q i true hs)
          → cond b (then_some (lives q) (Master m q' i' false []))
          (Some (Master m (cond (nat_eq q' n) 1 q') i' live old))
          ≡ cond b (then_some (lives q') (Master m q' i' false []))
          (Some (Master m (cond (nat_eq q' n) 1 q') i' live old))
      at true same = let whole = same refl in let is : q' ≡ q = cc in rw is refl
      at false same = refl
  exited_alike lives (Worker m q' g k s old) only = refl
  exited_alike lives (Foreign m old) only = refl

  -- only the master's own parent matters where it exits
  pub exited_alike-all : (lives : ℕ → Bool) (rows : List Process) → IsOnly (Master n q i true hs) rows →
      filter_map (without_exited n (λ p. lives q)) rows ≡ filter_map (without_exited n lives) rows
  exited_alike-all lives rows only = filter_map-same _ _ rows (each rows only)
    where
      each : (ps : List Process) → IsOnly (Master n q i true hs) ps → AllByRecursion (λ x. without_exited n (λ p. lives q) x ≡ without_exited n lives x) ps
      each [] o = tt
      each (p ∷ ps) o = (exited_alike lives p o.0, each ps o.1)

-- ---- the only master of an image
none_some : {X : Type 0} {x : X} → None ≡ Some x → ⊥
none_some e = cc

module _ (image : ℕ) where
  first-found : (p : Process) (ps : List Process) (c : Caller) → live_master image (p ∷ []) ≡ Some c → live_master image (p ∷ ps) ≡ Some c
  first-found (Master n q i live hs) ps c e = at (live && nat_eq i image) e
    where
      at : (b : Bool) → caller_if b n hs None ≡ Some c → caller_if b n hs (live_master image ps) ≡ Some c
      at true e = e
      at false e = absurd (none_some e)
  first-found (Worker n q g k s hs) ps c e = absurd (none_some e)
  first-found (Foreign n hs) ps c e = absurd (none_some e)

  of-image : (p : Process) (c : Caller) → live_master image (p ∷ []) ≡ Some c → is_image image p ≡ true
  of-image (Master n q i live hs) c e = at live (nat_eq i image) e
    where
      at : (a b : Bool) → caller_if (a && b) n hs None ≡ Some c → b ≡ true
      at a true e = refl
      at true false e = absurd (none_some e)
      at false false e = absurd (none_some e)
  of-image (Worker n q g k s hs) c e = absurd (none_some e)
  of-image (Foreign n hs) c e = absurd (none_some e)

  passed-over : (p : Process) (ps : List Process) → is_image image p ≡ false → live_master image (p ∷ ps) ≡ live_master image ps
  passed-over (Master n q i live hs) ps e = at live (nat_eq i image) e
    where
      at : (a b : Bool) → b ≡ false → caller_if (a && b) n hs (live_master image ps) ≡ live_master image ps
      at true true e = absurd (false≢true (sym e))
      at false true e = refl
      at true false e = refl
      at false false e = refl
  passed-over (Worker n q g k s hs) ps e = refl
  passed-over (Foreign n hs) ps e = refl

  counted : (ps : List Process) (k : ℕ) (d : Process) → k < length ps → is_image image (get_or ps k d) ≡ true → 1 ≤ count_by (is_image image) ps
  counted [] k d lt e = absurd (omega arith)
  counted (p ∷ ps) zero d lt e = (let m = passing (is_image image p) e (more (is_image image) p ps) in omega (arith, m))
  counted (p ∷ ps) (suc k) d lt e =
      let m = more (is_image image) p ps in
      let rest = counted ps k d (omega arith) e in
      omega (arith, m, rest)

  pub only-master : (ps : List Process) (k : ℕ) (d : Process) (c : Caller) → k < length ps →
      count_by (is_image image) ps ≤ 1 → live_master image (get_or ps k d ∷ []) ≡ Some c → live_master image ps ≡ Some c
  only-master [] k d c lt le e = absurd (omega arith)
  only-master (p ∷ ps) zero d c lt le e = first-found p ps c e
  only-master (p ∷ ps) (suc k) d c lt le e =
      let m = more (is_image image) p ps in
      let one = counted ps k d (omega arith) (of-image (get_or ps k d) c e) in
      passed-over p ps (failing (is_image image p) m (omega (arith, one, le))) ∙ only-master ps k d c (omega arith) (omega (arith, m, le)) e

  pub only-found : (ps : List Process) (k : ℕ) (d : Process) → k < length ps → count_by (is_image image) ps ≤ 1 →
      is_some (live_master image (get_or ps k d ∷ [])) ≡ true →
      live_master image (get_or ps k d ∷ []) ≡ live_master image ps
  only-found ps k d lt le found = at (live_master image (get_or ps k d ∷ [])) refl found
    where
      at : (o : Option Caller) → live_master image (get_or ps k d ∷ []) ≡ o → is_some o ≡ true → live_master image (get_or ps k d ∷ []) ≡ live_master image ps
      at None e is = absurd (false≢true is)
      at (Some c) e is = e ∙ sym (only-master ps k d c lt le e)

  not-first : (p : Process) (ps : List Process) → is_some (live_master image (p ∷ [])) ≡ false → live_master image (p ∷ ps) ≡ live_master image ps
  not-first (Master n q i live hs) ps e = at (live && nat_eq i image) e
    where
      at : (b : Bool) → is_some (caller_if b n hs None) ≡ false → caller_if b n hs (live_master image ps) ≡ live_master image ps
      at true e = absurd (false≢true (sym e))
      at false e = refl
  not-first (Worker n q g k s hs) ps e = refl
  not-first (Foreign n hs) ps e = refl

  pub none-lives : (addresses : List Address) (holders : List Holder) →
      list_any (λ h. is_some (live_master image (seen_holder addresses h ∷ []))) holders ≡ false →
      live_master image (seen_rows addresses holders) ≡ None
  none-lives addresses [] e = refl
  none-lives addresses (h ∷ holders) e =
      let parts = or_false (is_some (live_master image (seen_holder addresses h ∷ []))) (list_any (λ x. is_some (live_master image (seen_holder addresses x ∷ []))) holders) e in
      not-first (seen_holder addresses h) (seen_rows addresses holders) parts.0 ∙ none-lives addresses holders parts.1
    where
      or_false : (a b : Bool) → (a || b) ≡ false → (a ≡ false) × (b ≡ false)
      or_false true b z = absurd (false≢true (sym z))
      or_false false b z = (refl, z)
