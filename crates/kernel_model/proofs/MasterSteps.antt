-- Masters that are started, leave or are ended keep what every table keeps.
use Rattle.std.proofs.Common.{◌≡◌, ℕ, ◌+◌, ◌≤◌, Bool, true, false, cond, ◌&&◌, ◌||◌, not, nat_eq, List, [], ◌∷◌, ◌++◌}
use Rattle.std.proofs.Common.{Some, None, count_by, refl, ap, subst, ◌∙◌, arith}
use Rattle.std.specs.List.{filter_map, cons_option, list_any}
use Rattle.std.specs.Prelude.{IfSome}
use Rattle.std.proofs.lemmas.Bool.{true≢false}
use Rattle.std.proofs.lemmas.Bool.Decides.{nat_tests}
use Rattle.std.proofs.lemmas.List.Folds.{list_any-append}
use Rattle.definitions.specs.Table.{Hold, Process, Master, Worker, Foreign, is_active, is_worker, live_master, IsQuiet}
use Rattle.definitions.specs.Table.{HasParent}
use Rattle.call_laws.specs.Pieces.{is_live_master, caller_if, is_image_row, without_master}
use Rattle.definitions.specs.Calls.{without_exited, drop_where, is_image, is_of_image}
use Rattle.std.specs.Bool.{then_some}
use Rattle.kernel_table.specs.Room.{HasSockets}
use Rattle.kernel_table.proofs.Keeping.{AreKept, Follows, AreKept-becomes, Becomes-filter_map}
use Rattle.kernel_model.proofs.Steps.{KeepsMasters, HasParent-up, kept-without, exit_says}
use Rattle.kernel_model.proofs.CallSteps.{AreWithin, all-append, all-up, ascending-append, count-append, count-none}

-- ---- a new master
abbrev master_at : ℕ → ℕ → ℕ → List Hold → Process
master_at n m image hs = Master n m image true hs

module _ (rows : List Process) (next socket : ℕ) (h : AreKept rows next socket) (m image : ℕ) (hs : List Hold) where
  one-master : list_any (is_image image) rows ≡ false → (i : ℕ) → count_by (is_image i) (rows ++ master_at next m image hs ∷ []) ≤ 1
  one-master free i = at (nat_eq image i) (λ e. grind (arith, nat_tests)) (count-append (is_image i) rows (master_at next m image hs)) (h.masters i)
    where
      at : (b : Bool) → (b ≡ true → image ≡ i) →
          count_by (is_image i) (rows ++ master_at next m image hs ∷ []) ≡ count_by (is_image i) rows + cond b 1 0 →
          count_by (is_image i) rows ≤ 1 → count_by (is_image i) (rows ++ master_at next m image hs ∷ []) ≤ 1
      at true same counted most =
          let none : list_any (is_image i) rows ≡ false = subst (λ j. list_any (is_image j) rows ≡ false) (same refl) free in
          let zero_ = count-none (is_image i) rows none in
          omega arith
      at false same counted most = omega arith

  pub kept-spawn : list_any (is_image image) rows ≡ false → AreWithin socket hs → AreKept (rows ++ master_at next m image hs ∷ []) (next + 1) socket
  kept-spawn free sockets =
      let p = master_at next m image hs in
      let up : KeepsMasters rows (rows ++ p ∷ []) = λ q e. list_any-append (is_live_master q) rows (p ∷ []) ∙ ap (λ b. b || list_any (is_live_master q) (p ∷ [])) e in
      record {
        once = λ q g k. (let most = h.once q g k in let same = count-append (is_worker is_active q g k) rows p in omega arith);
        masters = one-master free;
        quiet = all-append IsQuiet rows p h.quiet tt;
        parents = all-append (HasParent (rows ++ p ∷ [])) rows p (all-up (HasParent rows) (HasParent (rows ++ p ∷ [])) (HasParent-up rows (rows ++ p ∷ []) up) rows h.parents) tt;
        ascending = ascending-append rows 0 next p refl h.ascending;
        sockets = all-append (HasSockets socket) rows p h.sockets sockets;
      }

-- ---- a master that has exited leaves
module _ (image : ℕ) where
  live-reaped : (q : ℕ) (rows : List Process) → live_master image rows ≡ None →
      list_any (is_live_master q) rows ≡ true →
      list_any (is_live_master q) (filter_map (drop_where (is_image image)) rows) ≡ true
  live-reaped q [] none e = e
  live-reaped q (Worker n q' g k s hs ∷ rows) none e = live-reaped q rows none e
  live-reaped q (Foreign n hs ∷ rows) none e = live-reaped q rows none e
  live-reaped q (Master n q' i live hs ∷ rows) none e = at (nat_eq i image) live (nat_eq n q) refl none e (live-reaped q rows)
    where
      rest : List Process
      rest = filter_map (drop_where (is_image image)) rows

      at : (same live is : Bool) → nat_eq n q ≡ is → caller_if (live && same) n hs (live_master image rows) ≡ None →
          ((live && is) || list_any (is_live_master q) rows) ≡ true
          → (live_master image rows ≡ None → list_any (is_live_master q) rows ≡ true → list_any (is_live_master q) rest ≡ true)
          → list_any (is_live_master q) (cons_option (cond same None (Some (Master n q' i live hs))) rest) ≡ true
      at true true is eq none e ih = cc
      at true false is eq none e ih = ih none e
      at false true true eq none e ih = ap (λ b. b || list_any (is_live_master q) rest) eq
      at false true false eq none e ih = ap (λ b. b || list_any (is_live_master q) rest) eq ∙ ih none e
      at false false is eq none e ih = ih none e

  pub kept-reaped : (next socket : ℕ) (rows : List Process) → AreKept rows next socket → live_master image rows ≡ None →
      AreKept (filter_map (drop_where (is_image image)) rows) next socket
  kept-reaped next socket rows h none = kept-without next socket rows h (is_image image) (λ q e. live-reaped q rows none e)

-- ---- a master leaves
pub kept-left : (next socket : ℕ) (rows : List Process) → AreKept rows next socket → (m : ℕ) → AreKept (filter_map (without_master m) rows) next socket
kept-left next socket rows h m =
    AreKept-becomes rows _ next socket socket (Becomes-filter_map _ (without_exited m (λ q. false)) (exit_says m (λ q. false) rows socket) rows) h

-- ---- a master is ended
module _ (image : ℕ) (all : List Process) where
  live-ended : (q : ℕ) (rows : List Process) → list_any (is_image_row image q) rows ≡ false →
      list_any (is_live_master q) rows ≡ true →
      list_any (is_live_master q) (filter_map (drop_where (is_of_image image all)) rows) ≡ true
  live-ended q [] other e = e
  live-ended q (Worker n q' g k s hs ∷ rows) other e = at (list_any (is_image_row image q') all) (live-ended q rows other e)
    where
      at : (b : Bool) → list_any (is_live_master q) (filter_map (drop_where (is_of_image image all)) rows) ≡ true →
          list_any (is_live_master q)
          (cons_option (cond b None (Some (Worker n q' g k s hs)))
          (filter_map (drop_where (is_of_image image all)) rows)) ≡ true
      at true ih = ih
      at false ih = ih
  live-ended q (Foreign n hs ∷ rows) other e = live-ended q rows other e
  live-ended q (Master n q' i live hs ∷ rows) other e = at (nat_eq i image) live (nat_eq n q) refl other e (live-ended q rows)
    where
      rest : List Process
      rest = filter_map (drop_where (is_of_image image all)) rows

      at : (same live is : Bool) → nat_eq n q ≡ is → ((same && is) || list_any (is_image_row image q) rows) ≡ false →
          ((live && is) || list_any (is_live_master q) rows) ≡ true
          → (list_any (is_image_row image q) rows ≡ false → list_any (is_live_master q) rows ≡ true → list_any (is_live_master q) rest ≡ true)
          → list_any (is_live_master q) (cons_option (cond same None (Some (Master n q' i live hs))) rest) ≡ true
      at true live true eq other e ih = absurd (true≢false other)
      at true true false eq other e ih = ih other e
      at true false false eq other e ih = ih other e
      at false true true eq other e ih = ap (λ b. b || list_any (is_live_master q) rest) eq
      at false true false eq other e ih = ap (λ b. b || list_any (is_live_master q) rest) eq ∙ ih other e
      at false false is eq other e ih = ih other e

pub kept-terminated : (next socket : ℕ) (rows : List Process) → AreKept rows next socket → (image : ℕ) →
    AreKept (filter_map (drop_where (is_of_image image rows)) rows) next socket
kept-terminated next socket rows h image =
    AreKept-becomes rows _ next socket socket (Becomes-filter_map _ (drop_where (is_of_image image rows)) says rows) h
  where
    says : (p : Process) → IfSome (drop_where (is_of_image image rows) p) (Follows rows (filter_map (drop_where (is_of_image image rows)) rows) socket socket p)
    says (Worker n q g k s hs) = at (list_any (is_image_row image q) rows) refl
      where
        at : (b : Bool) → list_any (is_image_row image q) rows ≡ b →
            IfSome (cond b None (Some (Worker n q g k s hs)))
            (Follows rows (filter_map (drop_where (is_of_image image rows)) rows) socket socket (Worker n q g k s hs))
        at true e = tt
        at false e = record { number = refl; quiet = λ x. x; active = λ q' g' k' f. f; image = λ i f. f; parent = λ x. live-ended image rows q rows e x; sockets = λ x. x }
    says (Foreign n hs) = record { number = refl; quiet = λ x. x; active = λ q' g' k' f. f; image = λ i f. f; parent = λ x. x; sockets = λ x. x }
    says (Master n q i live hs) = at (nat_eq i image)
      where
        at : (b : Bool) → IfSome (cond b None (Some (Master n q i live hs)))
            (Follows rows (filter_map (drop_where (is_of_image image rows)) rows) socket socket (Master n q i live hs))
        at true = tt
        at false = record { number = refl; quiet = λ x. x; active = λ q' g' k' f. f; image = λ j f. f; parent = λ x. x; sockets = λ x. x }
