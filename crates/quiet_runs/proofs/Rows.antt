-- What tests of rows say after rows change, leave or come.
use Rattle.std.proofs.Common.{◌≡◌, ◌≢◌, ℕ, ◌+◌, ◌≤◌, Bool, true, false, cond, List, [], ◌∷◌, ◌++◌, length, Option, Some}
use Rattle.std.proofs.Common.{None, refl, sym, ap, ◌∙◌, subst, arith, option_map, filter, count_by, nat_lt}
use Rattle.std.specs.Prelude.{◌&&◌, ◌||◌, ◌==◌, if◌then◌else◌, bytes_eq}
use Rattle.std.specs.List.{list_any, filter_map, cons_option}
use Rattle.std.proofs.lemmas.List.Sums.{sum_by-cons}
use Rattle.listener_set.specs.declared.generation.Generation.{Generation}
use Rattle.vocabulary.specs.declared.table.Stance.{Stance}
use Rattle.vocabulary.specs.declared.table.Stance.TheVariants.{Starting, Ready, Draining, Exited}
use Rattle.definitions.specs.Table.{Hold, Process, Master, Worker, Foreign, Caller, Address, is_own, is_master}
use Rattle.definitions.specs.Table.{is_worker}
use Rattle.definitions.specs.Table.{is_active, live_master, has_address, holds_of, is_held, same_generation}
use Rattle.definitions.specs.Calls.{change, drop_where, with_stance, with_holds, shared, put_hold, is_image}
use Rattle.call_laws.specs.Pieces.{caller_if, without_master, is_starting, made_ready, made_draining, is_any}
use Rattle.call_laws.proofs.Choices.{and-right}
use Rattle.table_laws.proofs.Views.{eqb-is, eqb-off, eqb-refl}
use Rattle.table_laws.proofs.Addresses.{any-put}

pub or-off : (a b : Bool) → (a || b) ≡ false → (a ≡ false) × (b ≡ false)
or-off true b e = absurd (cc)
or-off false b e = (refl, e)

pub both-off : (a b : Bool) → a ≡ false → b ≡ false → (a || b) ≡ false
both-off true b e f = e
both-off false b e f = f

if-off : {X : Type 0} (test : X → Bool) (b : Bool) (x y : X) → test x ≡ false → test y ≡ false → test
    (if b then x else y) ≡ false
if-off test true x y e f = e
if-off test false x y e f = f

---- A test of all rows, after some change

pub same-change :
    (T : Process → Bool) (f : Process → Process) (test : Process → Bool) → ((p : Process) → T p ≡ true → test
    (f p) ≡ test p) →
    (rows : List Process) → list_any test (filter_map (change T f) rows) ≡ list_any test rows
same-change T f test h [] = refl
same-change T f test h (p ∷ ps) = go (T p) refl (same-change T f test h ps)
  where
    go :
        (b : Bool) → T p ≡ b → list_any test (filter_map (change T f) ps) ≡ list_any test ps →
        (test (if b then f p else p) || list_any test (filter_map (change T f) ps)) ≡ (test p || list_any test ps)
    go true e ih = ap (λ c. c || list_any test (filter_map (change T f) ps)) (h p e) ∙ ap (λ c. test p || c) ih
    go false e ih = ap (λ c. test p || c) ih

pub off-change :
    (T : Process → Bool) (f : Process → Process) (test : Process → Bool) → ((p : Process) → test p ≡ false → test
    (f p) ≡ false) →
    (rows : List Process) → list_any test rows ≡ false → list_any test (filter_map (change T f) rows) ≡ false
off-change T f test h [] e = refl
off-change T f test h (p ∷ ps) e =
    let off = or-off (test p) (list_any test ps) e in
    both-off (test (if T p then f p else p)) (list_any test (filter_map (change T f) ps))
    (if-off test (T p) (f p) p (h p off.0) off.0) (off-change T f test h ps off.1)

-- each that passes the first test fails the other one once it is changed
pub gone-change :
    (T : Process → Bool) (f : Process → Process) (test : Process → Bool) → ((p : Process) → T p ≡ true → test
    (f p) ≡ false) →
    ((p : Process) → T p ≡ false → test p ≡ false) → (rows : List Process) → list_any test (filter_map
    (change T f) rows) ≡ false
gone-change T f test h k [] = refl
gone-change T f test h k (p ∷ ps) = go (T p) refl (gone-change T f test h k ps)
  where
    go :
        (b : Bool) → T p ≡ b → list_any test (filter_map (change T f) ps) ≡ false →
        (test (if b then f p else p) || list_any test (filter_map (change T f) ps)) ≡ false
    go true e ih = both-off (test (f p)) _ (h p e) ih
    go false e ih = both-off (test p) _ (k p e) ih

---- After some leave

pub same-drop :
    (T test : Process → Bool) → ((p : Process) → T p ≡ true → test p ≡ false) → (rows : List Process) →
    list_any test (filter_map (drop_where T) rows) ≡ list_any test rows
same-drop T test h [] = refl
same-drop T test h (p ∷ ps) = go (T p) refl (same-drop T test h ps)
  where
    go :
        (b : Bool) → T p ≡ b → list_any test (filter_map (drop_where T) ps) ≡ list_any test ps →
        list_any test (cons_option (if b then None else Some p) (filter_map (drop_where T) ps)) ≡
        (test p || list_any test ps)
    go true e ih = ih ∙ sym (ap (λ c. c || list_any test ps) (h p e))
    go false e ih = ap (λ c. test p || c) ih

pub off-drop : (T test : Process → Bool) (rows : List Process) → list_any test rows ≡ false → list_any test (filter_map
    (drop_where T) rows) ≡ false
off-drop T test [] e = refl
off-drop T test (p ∷ ps) e = let off = or-off (test p) (list_any test ps) e in go (T p) off.0 (off-drop T test ps off.1)
  where
    go :
        (b : Bool) → test p ≡ false → list_any test (filter_map (drop_where T) ps) ≡ false →
        list_any test (cons_option (if b then None else Some p) (filter_map (drop_where T) ps)) ≡ false
    go true e ih = ih
    go false e ih = both-off (test p) _ e ih

pub gone-drop :
    (T test : Process → Bool) → ((p : Process) → T p ≡ false → test p ≡ false) → (rows : List Process) →
    list_any test (filter_map (drop_where T) rows) ≡ false
gone-drop T test h [] = refl
gone-drop T test h (p ∷ ps) = go (T p) refl (gone-drop T test h ps)
  where
    go :
        (b : Bool) → T p ≡ b → list_any test (filter_map (drop_where T) ps) ≡ false →
        list_any test (cons_option (if b then None else Some p) (filter_map (drop_where T) ps)) ≡ false
    go true e ih = ih
    go false e ih = both-off (test p) _ (h p e) ih

---- After one came

pub any-app : (test : Process → Bool) (rows : List Process) (q : Process) → list_any test (rows ++ q ∷ []) ≡
    (list_any test rows || test q)
any-app test [] q = go (test q)
  where
    go : (b : Bool) → (b || false) ≡ b
    go true = refl
    go false = refl
any-app test (p ∷ ps) q = go (test p) (any-app test ps q)
  where
    go : (b : Bool) → list_any test (ps ++ q ∷ []) ≡ (list_any test ps || test q) → (b || list_any test
        (ps ++ q ∷ [])) ≡ ((b || list_any test ps) || test q)
    go true ih = refl
    go false ih = ih

---- How many are own

abbrev weight : Bool → ℕ
weight b = cond b 1 0

own-cons : (p : Process) (ps : List Process) → count_by is_own (p ∷ ps) ≡ weight (is_own p) + count_by is_own ps
own-cons p ps = sum_by-cons (λ (p : Process). weight (is_own p)) p ps

pub own-drop : (T : Process → Bool) (rows : List Process) → count_by is_own (filter_map
    (drop_where T) rows) ≤ count_by is_own rows
own-drop T [] = omega arith
own-drop T (p ∷ ps) = go (T p) (own-drop T ps)
  where
    go :
        (b : Bool) → count_by is_own (filter_map (drop_where T) ps) ≤ count_by is_own ps →
        count_by is_own (cons_option (if b then None else Some p) (filter_map (drop_where T) ps)) ≤ count_by is_own
        (p ∷ ps)
    go true ih = omega (arith, ih, own-cons p ps)
    go false ih = omega (arith, ih, own-cons p ps, own-cons p (filter_map (drop_where T) ps))

pub own-change :
    (T : Process → Bool) (f : Process → Process) → ((p : Process) → is_own (f p) ≡ is_own p) → (rows : List Process) →
    count_by is_own (filter_map (change T f) rows) ≡ count_by is_own rows
own-change T f h [] = refl
own-change T f h (p ∷ ps) = go (T p) (own-change T f h ps)
  where
    go :
        (b : Bool) → count_by is_own (filter_map (change T f) ps) ≡ count_by is_own ps →
        count_by is_own ((if b then f p else p) ∷ filter_map (change T f) ps) ≡ count_by is_own (p ∷ ps)
    go true ih = own-cons (f p) (filter_map (change T f) ps) ∙ (omega (arith, ap weight (h p), ih, own-cons p ps))
    go false ih = own-cons p (filter_map (change T f) ps) ∙ (omega (arith, ih, own-cons p ps))

pub own-app : (rows : List Process) (q : Process) → is_own q ≡ true → count_by is_own
    (rows ++ q ∷ []) ≡ count_by is_own rows + 1
own-app [] q e = let a = own-cons q [] in let b : weight (is_own q) ≡ 1 = ap weight e in omega (arith, a, b)
own-app (p ∷ ps) q e = omega (arith, own-cons p ps, own-cons p (ps ++ q ∷ []), own-app ps q e)

pub own-stance : (s : Stance) (p : Process) → is_own (with_stance s p) ≡ is_own p
own-stance s (Master n q i live hs) = refl
own-stance s (Worker n q g k st hs) = refl
own-stance s (Foreign n hs) = refl

pub own-holds : (f : List Hold → List Hold) (p : Process) → is_own (with_holds f p) ≡ is_own p
own-holds f (Master n q i live hs) = refl
own-holds f (Worker n q g k st hs) = refl
own-holds f (Foreign n hs) = refl

---- The live master of an image

pub live-drop :
    (T : Process → Bool) → ((p : Process) → T p ≡ true → is_master p ≡ false) → (i : ℕ) (rows : List Process) →
    live_master i (filter_map (drop_where T) rows) ≡ live_master i rows
live-drop T h i [] = refl
live-drop T h i (Master n q j live hs ∷ ps) = go (T (Master n q j live hs)) refl (live-drop T h i ps)
  where
    go :
        (b : Bool) → T (Master n q j live hs) ≡ b → live_master i (filter_map (drop_where T) ps) ≡ live_master i ps →
        live_master i (cons_option (if b then None else Some (Master n q j live hs)) (filter_map (drop_where T) ps)) ≡
        caller_if (live && (j == i)) n hs (live_master i ps)
    go true e ih = absurd (let m = h _ e in cc)
    go false e ih = ap (λ o. caller_if (live && (j == i)) n hs o) ih
live-drop T h i (Worker n q g k s hs ∷ ps) = go (T (Worker n q g k s hs)) (live-drop T h i ps)
  where
    go :
        (b : Bool) → live_master i (filter_map (drop_where T) ps) ≡ live_master i ps →
        live_master i (cons_option (if b then None else Some (Worker n q g k s hs)) (filter_map
        (drop_where T) ps)) ≡ live_master i ps
    go true ih = ih
    go false ih = ih
live-drop T h i (Foreign n hs ∷ ps) = go (T (Foreign n hs)) (live-drop T h i ps)
  where
    go :
        (b : Bool) → live_master i (filter_map (drop_where T) ps) ≡ live_master i ps →
        live_master i (cons_option (if b then None else Some (Foreign n hs)) (filter_map
        (drop_where T) ps)) ≡ live_master i ps
    go true ih = ih
    go false ih = ih

pub live-stance : (T : Process → Bool) (s : Stance) (i : ℕ) (rows : List Process) → live_master i (filter_map (change T
    (with_stance s)) rows) ≡ live_master i rows
live-stance T s i [] = refl
live-stance T s i (Master n q j live hs ∷ ps) = go (T (Master n q j live hs)) (live-stance T s i ps)
  where
    go :
        (b : Bool) → live_master i (filter_map (change T (with_stance s)) ps) ≡ live_master i ps →
        live_master i ((if b then Master n q j live hs else Master n q j live hs) ∷ filter_map (change T
        (with_stance s)) ps) ≡
        caller_if (live && (j == i)) n hs (live_master i ps)
    go true ih = ap (λ o. caller_if (live && (j == i)) n hs o) ih
    go false ih = ap (λ o. caller_if (live && (j == i)) n hs o) ih
live-stance T s i (Worker n q g k st hs ∷ ps) = go (T (Worker n q g k st hs)) (live-stance T s i ps)
  where
    go :
        (b : Bool) → live_master i (filter_map (change T (with_stance s)) ps) ≡ live_master i ps →
        live_master i ((if b then with_stance s (Worker n q g k st hs) else Worker n q g k st hs) ∷ filter_map
        (change T (with_stance s)) ps) ≡ live_master i ps
    go true ih = ih
    go false ih = ih
live-stance T s i (Foreign n hs ∷ ps) = go (T (Foreign n hs)) (live-stance T s i ps)
  where
    go :
        (b : Bool) → live_master i (filter_map (change T (with_stance s)) ps) ≡ live_master i ps →
        live_master i ((if b then Foreign n hs else Foreign n hs) ∷ filter_map (change T
        (with_stance s)) ps) ≡ live_master i ps
    go true ih = ih
    go false ih = ih

-- the holds of the master with the number change
abbrev pub with_f : ℕ → (List Hold → List Hold) → Caller → Caller
with_f m f c = record { number = c.number; holds = if c.number == m then f c.holds else c.holds }

pub live-holds :
    (T : Process → Bool) (f : List Hold → List Hold) (m : ℕ) →
    ((n q j : ℕ) (live : Bool) (hs : List Hold) → T (Master n q j live hs) ≡ (n == m)) → (i : ℕ) (rows : List Process) →
    live_master i (filter_map (change T (with_holds f)) rows) ≡ option_map (with_f m f) (live_master i rows)
live-holds T f m h i [] = refl
live-holds T f m h i (Master n q j live hs ∷ ps) =
    go (T (Master n q j live hs)) (n == m) (h n q j live hs) refl (live && (j == i)) refl (live-holds T f m h i ps)
  where
    rest : Option Caller
    rest = live_master i (filter_map (change T (with_holds f)) ps)

    go :
        (b d : Bool) → b ≡ d → (n == m) ≡ d → (c : Bool) → (live && (j == i)) ≡ c → rest ≡ option_map (with_f m f)
        (live_master i ps) →
        live_master i ((if b then Master n q j live (f hs) else Master n q j live hs) ∷ filter_map (change T
        (with_holds f)) ps) ≡
        option_map (with_f m f) (caller_if c n hs (live_master i ps))
    go true true e nd true is ih =
        ap (λ x. caller_if x n (f hs) rest) is ∙ sym (ap (λ x. Some (record {
          number = n;
          holds = if x then f hs else hs;
        })) nd)
    go true true e nd false is ih = ap (λ x. caller_if x n (f hs) rest) is ∙ ih
    go false false e nd true is ih =
        ap (λ x. caller_if x n hs rest) is ∙ sym (ap (λ x. Some (record {
          number = n;
          holds = if x then f hs else hs;
        })) nd)
    go false false e nd false is ih = ap (λ x. caller_if x n hs rest) is ∙ ih
    go true false e nd c is ih = absurd (cc)
    go false true e nd c is ih = absurd (cc)
live-holds T f m h i (Worker n q g k st hs ∷ ps) = go (T (Worker n q g k st hs)) (live-holds T f m h i ps)
  where
    go :
        (b : Bool) → live_master i (filter_map (change T (with_holds f)) ps) ≡ option_map (with_f m f)
        (live_master i ps) →
        live_master i ((if b then with_holds f (Worker n q g k st hs) else Worker n q g k st hs) ∷ filter_map (change T
        (with_holds f)) ps) ≡
        option_map (with_f m f) (live_master i ps)
    go true ih = ih
    go false ih = ih
live-holds T f m h i (Foreign n hs ∷ ps) = go (T (Foreign n hs)) (live-holds T f m h i ps)
  where
    go :
        (b : Bool) → live_master i (filter_map (change T (with_holds f)) ps) ≡ option_map (with_f m f)
        (live_master i ps) →
        live_master i ((if b then with_holds f (Foreign n hs) else Foreign n hs) ∷ filter_map (change T
        (with_holds f)) ps) ≡
        option_map (with_f m f) (live_master i ps)
    go true ih = ih
    go false ih = ih

pub live-app : (i : ℕ) (c : Caller) (rows more : List Process) → live_master i rows ≡ Some c → live_master i
    (rows ++ more) ≡ Some c
live-app i c [] more e = absurd (cc)
live-app i c (Master n q j live hs ∷ ps) more e = go (live && (j == i)) e (live-app i c ps more)
  where
    go :
        (b : Bool) → caller_if b n hs (live_master i ps) ≡ Some c → (live_master i ps ≡ Some c → live_master i
        (ps ++ more) ≡ Some c) →
        caller_if b n hs (live_master i (ps ++ more)) ≡ Some c
    go true e ih = e
    go false e ih = ih e
live-app i c (Worker n q g k s hs ∷ ps) more e = live-app i c ps more e
live-app i c (Foreign n hs ∷ ps) more e = live-app i c ps more e

pub live-new :
    (i n q : ℕ) (hs : List Hold) (rows : List Process) → list_any (is_image i) rows ≡ false →
    live_master i (rows ++ Master n q i true hs ∷ []) ≡ Some (record { number = n; holds = hs })
live-new i n q hs [] e = ap (λ b. caller_if b n hs None) (eqb-refl i i refl)
live-new i n q hs (Master n' q' j live hs' ∷ ps) e =
    let off = or-off (j == i) (list_any (is_image i) ps) e in
    go live (j == i) off.0 (live-new i n q hs ps off.1)
  where
    go :
        (a b : Bool) → b ≡ false → live_master i (ps ++ Master n q i true hs ∷ []) ≡ Some (record {
          number = n;
          holds = hs;
        }) →
        caller_if (a && b) n' hs' (live_master i (ps ++ Master n q i true hs ∷ [])) ≡ Some (record {
          number = n;
          holds = hs;
        })
    go a true e ih = absurd (cc)
    go true false e ih = ih
    go false false e ih = ih
live-new i n q hs (Worker n' q' g k s hs' ∷ ps) e = live-new i n q hs ps e
live-new i n q hs (Foreign n' hs' ∷ ps) e = live-new i n q hs ps e

-- another master leaves
pub live-leave :
    (m i : ℕ) (c : Caller) (rows : List Process) → c.number ≢ m → live_master i rows ≡ Some c →
    live_master i (filter_map (without_master m) rows) ≡ Some c
live-leave m i c [] ne e = absurd (cc)
live-leave m i c (Master n q j live hs ∷ ps) ne e = go (n == m) refl (live && (j == i)) refl e (live-leave m i c ps ne)
  where
    go :
        (d : Bool) → (n == m) ≡ d → (b : Bool) → (live && (j == i)) ≡ b → caller_if b n hs (live_master i ps) ≡ Some c →
        (live_master i ps ≡ Some c → live_master i (filter_map (without_master m) ps) ≡ Some c) →
        live_master i (cons_option (if d then None else Some (Master n (if q == m then 1 else q) j live hs))
        (filter_map (without_master m) ps)) ≡ Some c
    go true is true on e ih = let same : record { number = n; holds = hs } ≡ c = cc in absurd (ne (sym (ap (λ
        (x : Caller). x.number) same) ∙ eqb-is n m is))
    go true is false on e ih = ih e
    go false is true on e ih = ap (λ b. caller_if b n hs (live_master i (filter_map (without_master m) ps))) on ∙ e
    go false is false on e ih = ap (λ b. caller_if b n hs (live_master i (filter_map (without_master m) ps))) on ∙ ih e
live-leave m i c (Worker n q g k s hs ∷ ps) ne e = go (q == m) (live-leave m i c ps ne e)
  where
    go :
        (b : Bool) → live_master i (filter_map (without_master m) ps) ≡ Some c →
        live_master i (cons_option (if b then None else Some (Worker n q g k s hs)) (filter_map
        (without_master m) ps)) ≡ Some c
    go true ih = ih
    go false ih = ih
live-leave m i c (Foreign n hs ∷ ps) ne e = live-leave m i c ps ne e

---- What is held

abbrev pub holds_it : Address → Process → Bool
holds_it a p = has_address a (holds_of p)

pub held-off : (a : Address) (i : ℕ) (c : Caller) (rows : List Process) → live_master i rows ≡ Some c →
    is_held a rows ≡ false → has_address a c.holds ≡ false
held-off a i c [] e f = absurd (cc)
held-off a i c (Master n q j live hs ∷ ps) e f =
    let off = or-off (has_address a hs) (is_held a ps) f in
    go (live && (j == i)) e off.0 (λ e. held-off a i c ps e off.1)
  where
    go :
        (b : Bool) → caller_if b n hs (live_master i ps) ≡ Some c → has_address a hs ≡ false →
        (live_master i ps ≡ Some c → has_address a c.holds ≡ false) → has_address a c.holds ≡ false
    go true e off ih = let same : record { number = n; holds = hs } ≡ c = cc in subst (λ
        (x : Caller). has_address a x.holds ≡ false) same off
    go false e off ih = ih e
held-off a i c (Worker n q g k s hs ∷ ps) e f = held-off a i c ps e (or-off (has_address a hs) (is_held a ps) f).1
held-off a i c (Foreign n hs ∷ ps) e f = held-off a i c ps e (or-off (has_address a hs) (is_held a ps) f).1

pub filter-off : (a : Address) (t : Hold → Bool) (hs : List Hold) → has_address a hs ≡ false → has_address a
    (filter t hs) ≡ false
filter-off a t [] e = refl
filter-off a t (h ∷ hs) e = let off = or-off (bytes_eq h.address a) (has_address a hs) e in go (t h) off.0
    (filter-off a t hs off.1)
  where
    go : (b : Bool) → bytes_eq h.address a ≡ false → has_address a (filter t hs) ≡ false → has_address a (cond b
        (h ∷ filter t hs) (filter t hs)) ≡ false
    go true e ih = both-off (bytes_eq h.address a) _ e ih
    go false e ih = ih

pub shared-off : (a : Address) (fds : Option (List ℕ)) (hs : List Hold) → has_address a hs ≡ false → has_address a
    (shared fds hs) ≡ false
shared-off a None hs e = e
shared-off a (Some fds) hs e = filter-off a _ hs e

pub put-off : (a : Address) (h : Hold) (hs : List Hold) → bytes_eq h.address a ≡ false → has_address a hs ≡ false →
    has_address a (put_hold h hs) ≡ false
put-off a h hs e f = any-put (λ x. bytes_eq x.address a) h hs ∙ both-off (bytes_eq h.address a) (has_address a hs) e f

pub stance-off : (a : Address) (s : Stance) (p : Process) → holds_it a p ≡ false → holds_it a (with_stance s p) ≡ false
stance-off a s (Master n q i live hs) e = e
stance-off a s (Worker n q g k st hs) e = go (is_active s)
  where
    go : (b : Bool) → has_address a (if b then hs else []) ≡ false
    go true = e
    go false = refl
stance-off a s (Foreign n hs) e = e

pub holds-off :
    (a : Address) (f : List Hold → List Hold) → ((hs : List Hold) → has_address a hs ≡ false → has_address a
    (f hs) ≡ false) →
    (p : Process) → holds_it a p ≡ false → holds_it a (with_holds f p) ≡ false
holds-off a f h (Master n q i live hs) e = h hs e
holds-off a f h (Worker n q g k st hs) e = h hs e
holds-off a f h (Foreign n hs) e = h hs e

pub filter-le : (t : Hold → Bool) (hs : List Hold) → length (filter t hs) ≤ length hs
filter-le t [] = omega arith
filter-le t (h ∷ hs) = go (t h) (filter-le t hs)
  where
    go : (b : Bool) → length (filter t hs) ≤ length hs → length (cond b (h ∷ filter t hs) (filter t hs)) ≤ length
        (h ∷ hs)
    go true ih = omega (arith, ih)
    go false ih = omega (arith, ih)

pub put-length : (h : Hold) (hs : List Hold) → length (put_hold h hs) ≡ length hs + 1
put-length h [] = refl
put-length h (x ∷ hs) = go (nat_lt h.fd x.fd) (put-length h hs)
  where
    go : (b : Bool) → length (put_hold h hs) ≡ length hs + 1 → length
        (if b then h ∷ x ∷ hs else x ∷ put_hold h hs) ≡ length (x ∷ hs) + 1
    go true ih = omega arith
    go false ih = omega (arith, ih)

---- Names

and-off : (x y z b : Bool) → b ≡ false → (x && (y && (z && b))) ≡ false
and-off true true true b e = e
and-off true true false b e = refl
and-off true false z b e = refl
and-off false y z b e = refl

-- a worker with one number has no other
pub other-name :
    (st st' : Stance → Bool) (m : ℕ) (g : Generation) (j k : ℕ) → j ≢ k → (p : Process) → is_worker st m g k p ≡ true →
    is_worker st' m g j p ≡ false
other-name st st' m g j k ne (Master n q i live hs) e = refl
other-name st st' m g j k ne (Foreign n hs) e = refl
other-name st st' m g j k ne (Worker n q h x s hs) e =
    let is : x ≡ k = eqb-is x k (and-right (same_generation h g) (x == k) (and-right (q == m) _ (and-right
    (st s) _ e))) in
    and-off (st' s) (q == m) (same_generation h g) (x == j) (eqb-off x j (λ f. ne (sym f ∙ is)))

-- one of the name in no stance has it in none
pub no-name : (st : Stance → Bool) (m : ℕ) (g : Generation) (k : ℕ) (p : Process) → is_worker is_any m g k p ≡ false →
    is_worker st m g k p ≡ false
no-name st m g k (Master n q i live hs) e = refl
no-name st m g k (Foreign n hs) e = refl
no-name st m g k (Worker n q h x s hs) e = go (st s)
  where
    go : (b : Bool) → (b && ((q == m) && (same_generation h g && (x == k)))) ≡ false
    go true = e
    go false = refl

-- a worker that becomes Ready was as active before
pub active-ready : (m : ℕ) (g : Generation) (j k : ℕ) (p : Process) → is_worker is_starting m g k p ≡ true →
    is_worker is_active m g j (made_ready p) ≡ is_worker is_active m g j p
active-ready m g j k (Master n q i live hs) e = refl
active-ready m g j k (Foreign n hs) e = refl
active-ready m g j k (Worker n q h x Starting hs) e = refl
active-ready m g j k (Worker n q h x Ready hs) e = refl
active-ready m g j k (Worker n q h x Draining hs) e = absurd (cc)
active-ready m g j k (Worker n q h x Exited hs) e = absurd (cc)

pub drained : (m : ℕ) (g : Generation) (k : ℕ) (p : Process) → is_worker is_active m g k p ≡ true →
    is_worker is_active m g k (made_draining p) ≡ false
drained m g k (Master n q i live hs) e = refl
drained m g k (Foreign n hs) e = refl
drained m g k (Worker n q h x s hs) e = refl

-- one that drains is active under no name
pub drained-off : (m : ℕ) (g : Generation) (k : ℕ) (p : Process) → is_worker is_active m g k p ≡ false →
    is_worker is_active m g k (made_draining p) ≡ false
drained-off m g k (Master n q i live hs) e = refl
drained-off m g k (Foreign n hs) e = refl
drained-off m g k (Worker n q h x s hs) e = refl

pub holds-active : (f : List Hold → List Hold) (m : ℕ) (g : Generation) (k : ℕ) (p : Process) →
    is_worker is_active m g k (with_holds f p) ≡ is_worker is_active m g k p
holds-active f m g k (Master n q i live hs) = refl
holds-active f m g k (Worker n q h x s hs) = refl
holds-active f m g k (Foreign n hs) = refl

pub no-master : (st : Stance → Bool) (m : ℕ) (g : Generation) (k : ℕ) (p : Process) → is_worker st m g k p ≡ true →
    is_master p ≡ false
no-master st m g k (Master n q i live hs) e = absurd (cc)
no-master st m g k (Worker n q h x s hs) e = refl
no-master st m g k (Foreign n hs) e = refl
