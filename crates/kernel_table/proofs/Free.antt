-- No exit and no call but a fork makes a worker Starting or Ready, so that names that are free stay so.
use Rattle.std.proofs.Common.{◌≡◌, ℕ, ◌<◌, ◌≤◌, Bool, true, false, cond, ◌&&◌, ◌||◌, not, nat_eq, List, [], ◌∷◌, ◌++◌}
use Rattle.std.proofs.Common.{Option, Some, None, refl, sym, ap, subst, ◌∙◌, arith}
use Rattle.std.specs.Prelude.{IfSome}
use Rattle.std.specs.List.{list_any, filter_map}
use Rattle.std.proofs.lemmas.Bool.{false≢true}
use Rattle.std.proofs.lemmas.Bool.Decides.{nat_tests}
use Rattle.std.proofs.lemmas.List.Folds.{list_any-append}
use Rattle.vocabulary.specs.declared.table.Stance.TheVariants.{Starting, Ready, Draining, Exited}
use Rattle.definitions.specs.Table.{Address, Generation, Hold, Process, Master, Worker, Foreign, is_active, is_worker, same_generation}
use Rattle.call_laws.specs.Pieces.{is_named, is_starting, is_exited, is_any, is_draining, made_exited, is_row}
use Rattle.call_laws.specs.Pieces.{lacks_address, made_ready, made_draining}
use Rattle.definitions.specs.Calls.{without_exited, first_changed, is_image, is_of, is_exited_of, with_holds}
use Rattle.std.specs.Bool.{then_some}
use Rattle.kernel_rows.specs.declared.edits.Edit.{Edit}
use Rattle.kernel_rows.specs.declared.edits.Edit.TheVariants.{ExitWorker, ExitMaster, MakeReady, Drain, Reap, Kill}
use Rattle.kernel_rows.specs.declared.edits.Edit.TheVariants.{ReapAll, Hold as HoldAs, Close, ReapMaster, Terminate}
use Rattle.kernel_table.specs.declared.free_names.FreeNames.{FreeNames}
use Rattle.kernel_rows.specs.declared.process.Holder.{Holder}
use Rattle.kernel_rows.specs.declared.process.WorkerName.{WorkerName}
use Rattle.kernel_rows.specs.declared.process.Row.{Row}
use Rattle.kernel_rows.specs.declared.process.Row.TheVariants as row
use Rattle.kernel_rows.specs.Holds.{seen_holds}
use Rattle.kernel_rows.specs.Edits.{edited, is_of_either}
use Rattle.kernel_rows.specs.Seen.{is_number, process_of, seen_holder, seen_rows}
use Rattle.kernel_rows.proofs.Lists.{map-push}
use Rattle.kernel_table.specs.Free.{AreFree, IsAmong}
use Rattle.kernel_rows.proofs.Passing.{any-more}
use Rattle.kernel_table.proofs.Keeping.{Becomes, Becomes-filter_map, Becomes-first_changed, says-change, says-dropped}

-- The worker is Starting or Ready after only where it was before.
module _ (q : ℕ) (g : Generation) (k : ℕ) where
  abbrev active : Process → Bool
  active = is_worker is_active q g k

  abbrev Stays : Process → Process → Type 0
  Stays p p' = active p' ≡ true → active p ≡ true

  same : (p : Process) → Stays p p
  same p e = e

  exits : (p : Process) → Stays p (made_exited p)
  exits (Worker n q' g' k' s hs) e = absurd (false≢true e)
  exits (Master n q' i live hs) e = e
  exits (Foreign n hs) e = e

  drains : (p : Process) → Stays p (made_draining p)
  drains (Worker n q' g' k' s hs) e = absurd (false≢true e)
  drains (Master n q' i live hs) e = e
  drains (Foreign n hs) e = e

  becomes-ready : (a : ℕ) (b : Generation) (c : ℕ) (p : Process) → is_worker is_starting a b c p ≡ true → Stays p (made_ready p)
  becomes-ready a b c (Worker n q' g' k' Starting hs) t e = e
  becomes-ready a b c (Worker n q' g' k' Ready hs) t e = e
  becomes-ready a b c (Worker n q' g' k' Draining hs) t e = absurd (false≢true t)
  becomes-ready a b c (Worker n q' g' k' Exited hs) t e = absurd (false≢true t)
  becomes-ready a b c (Master n q' i live hs) t e = e
  becomes-ready a b c (Foreign n hs) t e = e

  holds : (f : List Hold → List Hold) (p : Process) → Stays p (with_holds f p)
  holds f (Worker n q' g' k' s hs) e = e
  holds f (Master n q' i live hs) e = e
  holds f (Foreign n hs) e = e

  master-exits : (gone : ℕ) (stays : Bool) (p : Process) → IfSome (without_exited gone (λ a. stays) p) (Stays p)
  master-exits gone stays (Worker n q' g' k' s hs) = at (nat_eq q' gone)
    where
      at : (b : Bool) → IfSome (cond b None (Some (Worker n q' g' k' s hs))) (Stays (Worker n q' g' k' s hs))
      at true = tt
      at false = λ e. e
  master-exits gone stays (Master n q' i live hs) = at (nat_eq n gone) stays
    where
      at : (b s : Bool) → IfSome
          (cond b (then_some s (Master n q' i false [])) (Some (Master n (cond (nat_eq q' gone) 1 q') i live hs)))
          (Stays (Master n q' i live hs))
      at true true = λ e. e
      at true false = tt
      at false s = λ e. e
  master-exits gone stays (Foreign n hs) = λ e. e

  edits : (addresses : List Address) (edit : Edit) (p : Process) → IfSome (edited addresses edit p) (Stays p)
  edits addresses (ExitWorker h j) p = says-change Stays same (is_named is_active h j) made_exited (λ x t. exits x) p
  edits addresses (ExitMaster n stays) p = master-exits n stays p
  edits addresses (MakeReady name) p = says-change Stays same (is_worker is_starting name.parent name.generation name.nr) made_ready (becomes-ready name.parent name.generation name.nr) p
  edits addresses (Drain name) p = says-change Stays same (is_worker is_active name.parent name.generation name.nr) made_draining (λ x t. drains x) p
  edits addresses (Reap name) p = says-dropped Stays same (is_worker is_exited name.parent name.generation name.nr) p
  edits addresses (Kill name) p = says-dropped Stays same (is_worker is_any name.parent name.generation name.nr) p
  edits addresses (ReapAll c) p = says-dropped Stays same (is_exited_of c) p
  edits addresses (HoldAs n hs) p = says-change Stays same (is_row n) (with_holds (λ old. seen_holds addresses hs)) (λ x t. holds (λ old. seen_holds addresses hs) x) p
  edits addresses (Close n a) p = says-change Stays same (is_of n) (with_holds (lacks_address a)) (λ x t. holds (lacks_address a) x) p
  edits addresses (ReapMaster i) p = says-dropped Stays same (is_image i) p
  edits addresses (Terminate i m) p = says-dropped Stays same (is_of_either i m) p

  still-free : {ps qs : List Process} → Becomes Stays ps qs → list_any active ps ≡ false → list_any active qs ≡ false
  still-free Becomes.over e = refl
  still-free (Becomes.leaves {p} {ps} {qs} r) e = at (active p) (still-free r) e
    where
      at : (b : Bool) → (list_any active ps ≡ false → list_any active qs ≡ false) → (b || list_any active ps) ≡ false → list_any active qs ≡ false
      at true rest f = absurd (false≢true (sym f))
      at false rest f = rest f
  still-free (Becomes.stays {p} {p'} {ps} {qs} f r) e = at (active p) (active p') f (still-free r) e
    where
      at : (b b' : Bool) → (b' ≡ true → b ≡ true) → (list_any active ps ≡ false → list_any active qs ≡ false) →
          (b || list_any active ps) ≡ false → (b' || list_any active qs) ≡ false
      at true b' h rest z = absurd (false≢true (sym z))
      at false true h rest z = absurd (false≢true (h refl))
      at false false h rest z = rest z

-- ---- names that are free
module _ (free : FreeNames) (rows : List Process) (known : AreFree free rows) where
  pub AreFree-edited : (addresses : List Address) (edit : Edit) → AreFree free (filter_map (edited addresses edit) rows)
  AreFree-edited addresses edit k le =
      let stays = Stays free.parent free.generation k in
      still-free free.parent free.generation k
      (Becomes-filter_map stays (edited addresses edit) (edits free.parent free.generation k addresses edit) rows)
      (known k le)

  pub AreFree-draining : (g : Generation) (nr : ℕ) → AreFree free (first_changed (is_named is_draining g nr) made_exited rows)
  AreFree-draining g nr k le =
      let stays = Stays free.parent free.generation k in
      still-free free.parent free.generation k (Becomes-first_changed stays (same free.parent free.generation k) (is_named is_draining g nr) made_exited (λ p t. exits free.parent free.generation k p) rows) (known k le)

  -- one row more, which is no Starting or Ready worker of them
  pub AreFree-more : (p : Process) → ((k : ℕ) → free.first ≤ k → is_worker is_active free.parent free.generation k p ≡ false) → AreFree free (rows ++ p ∷ [])
  AreFree-more p other k le =
      let test = is_worker is_active free.parent free.generation k in
      list_any-append test rows (p ∷ []) ∙ ap (λ b. b || (test p || false)) (known k le) ∙ ap (λ b. b || false) (other k le)

pub unborne-among : (free : FreeNames) (name : WorkerName) (rows : List Process) → AreFree free rows →
    IsAmong name free → list_any (is_worker is_active name.parent name.generation name.nr) rows ≡ false
unborne-among free name rows known is =
    ap (λ q. list_any (is_worker is_active q name.generation name.nr) rows) (sym is.0)
    ∙ ap (λ g. list_any (is_worker is_active free.parent g name.nr) rows) (sym is.1)
    ∙ known name.nr is.2

-- ---- one row more of a table that is looked through
module _ (q : ℕ) (g : Generation) (addresses : List Address) (rows : List Holder) (h : Holder) (before : ℕ)
    (known : (k : ℕ) → before ≤ k → list_any (is_worker is_active q g k) (seen_rows addresses rows) ≡ false) where
  -- the numbers above are free of a worker with that number, if there is one
  pub free-after : (nr : Option ℕ) (first : ℕ) →
      ((k : ℕ) → is_worker is_active q g k (seen_holder addresses h) ≡ is_number nr k) → before ≤ first →
      IfSome nr (λ n. n < first) → (k : ℕ) → first ≤ k →
      list_any (is_worker is_active q g k) (seen_rows addresses (rows ++ h ∷ [])) ≡ false
  free-after nr first here le above k at =
      any-more (is_worker is_active q g k) addresses rows h
      ∙ ap (λ b. b || is_worker is_active q g k (seen_holder addresses h)) (known k (omega (arith, le, at)))
      ∙ ap (λ b. false || b) (here k) ∙ other nr above
    where
      other : (n : Option ℕ) → IfSome n (λ m. m < first) → is_number n k ≡ false
      other None h = refl
      other (Some m) h = grind (arith, nat_tests)

-- ---- a fork of one of them
unborne : (a b c : Bool) → c ≡ false → (a && (b && c)) ≡ false
unborne true true c e = e
unborne true false c e = refl
unborne false b c e = refl

pub free-forked : (free : FreeNames) (rows rows' : List Process) (n q : ℕ) (g : Generation) (nr first : ℕ)
    (hs : List Hold) → AreFree free rows → rows' ≡ rows ++ Worker n q g nr Starting hs ∷ [] → free.first ≤ first →
    nr < first
    → (k : ℕ) → first ≤ k → list_any (is_worker is_active free.parent free.generation k) rows' ≡ false
free-forked free rows rows' n q g nr first hs known more le above k at =
    let test = is_worker is_active free.parent free.generation k in
    let other : nat_eq nr k ≡ false = grind (arith, nat_tests) in
    ap (list_any test) more ∙ list_any-append test rows (Worker n q g nr Starting hs ∷ [])
    ∙ ap (λ b. b || (test (Worker n q g nr Starting hs) || false)) (known k (omega (arith, le, at)))
    ∙ ap (λ b. false || (b || false)) (unborne (nat_eq q free.parent) (same_generation g free.generation) (nat_eq nr k) other)

-- ---- what a process holds is no matter
same-worker : (q : ℕ) (g : Generation) (k : ℕ) (r : Row) (hs hs' : List Hold) →
    is_worker is_active q g k (process_of r hs') ≡ is_worker is_active q g k (process_of r hs)
same-worker q g k (row.Master n q' i live) hs hs' = refl
same-worker q g k (row.Worker n q' g' k' s) hs hs' = refl
same-worker q g k (row.Foreign n) hs hs' = refl

same-any : (q : ℕ) (g : Generation) (k : ℕ) (a b : List Address) (holders : List Holder) →
    list_any (is_worker is_active q g k) (seen_rows b holders)
    ≡ list_any (is_worker is_active q g k) (seen_rows a holders)
same-any q g k a b [] = refl
same-any q g k a b (h ∷ holders) = λ i. same-worker q g k h.row (seen_holds a h.holds) (seen_holds b h.holds) i || same-any q g k a b holders i

pub AreFree-addresses : (free : FreeNames) (a b : List Address) (holders : List Holder) →
    AreFree free (seen_rows a holders) → AreFree free (seen_rows b holders)
AreFree-addresses free a b holders known k le = same-any free.parent free.generation k a b holders ∙ known k le

-- ---- another row for no worker of them
pub AreFree-pushed : (free : FreeNames) (a b : List Address) (holders holders' : List Holder) (h : Holder) →
    holders' ≡ holders ++ h ∷ [] →
    ((k : ℕ) → is_worker is_active free.parent free.generation k (seen_holder b h) ≡ false) →
    AreFree free (seen_rows a holders) → AreFree free (seen_rows b holders')
AreFree-pushed free a b holders holders' h pushed other known =
    subst (AreFree free) (sym (ap (seen_rows b) pushed ∙ map-push (seen_holder b) holders h)) (AreFree-more free (seen_rows b holders) (AreFree-addresses free a b holders known) (seen_holder b h) (λ k le. other k))
