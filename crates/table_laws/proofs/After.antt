-- The record after a run agrees with the table.
use Rattle.std.proofs.Common.{◌≡◌, ℕ, ◌<◌, ◌≤◌, Bool, true, false, List, [], ◌∷◌, Some, None, refl, sym, ap, ◌∙◌, subst, arith}
use Rattle.std.specs.List.{filter_map, AllByRecursion, list_any}
use Rattle.std.specs.Prelude.{◌||◌, map, nat_lt, ◌&&◌, if◌then◌else◌}
use Rattle.std.proofs.lemmas.Bool.Decides.{nat_tests}
use Rattle.definitions.specs.Table.{Process, Master, Worker, Foreign, Table, is_worker, is_master}
use Rattle.call_laws.specs.Pieces.{is_ready, listener_of}
use Rattle.vocabulary.specs.declared.table.Stance.TheVariants.{Starting, Ready, Draining, Exited}
use Rattle.listener_set.specs.declared.generation.Generation.{Generation}
use Rattle.definitions.specs.Calls.{is_exited_of, drop_where, census_of}
use Rattle.listener_set.specs.Numbers.{is_in}
use Rattle.definitions.specs.Master.{Crew, Record, Agrees, FilesAre, IsRunning, crew_of}
use Rattle.table_laws.proofs.Rows.{one, weigh-same, every-more, count-weigh}
use Rattle.table_laws.proofs.Views.{HoldsShare, View, Fine, Row, Looks, masters, master_at, finds, eqb-refl}
use Rattle.table_laws.proofs.Effects.{idle}
use Rattle.table_laws.proofs.Counts.{census-in, census-all, ready-row}
use Rattle.table_laws.proofs.Services.{Sole, sole-fine}

-- what is dropped passes no test that fails on it
any-dropped :
    (test drop : Process → Bool) → ((p : Process) → drop p ≡ true → test p ≡ false) → (rows : List Process) →
    list_any test (filter_map (drop_where drop) rows) ≡ list_any test rows
any-dropped test drop h [] = refl
any-dropped test drop h (p ∷ rows) = go (drop p) refl (any-dropped test drop h rows)
  where
    go :
        (b : Bool) → drop p ≡ b → list_any test (filter_map (drop_where drop) rows) ≡ list_any test rows → list_any test
        (Rattle.std.specs.List.cons_option (if b then None else Some p) (filter_map (drop_where drop) rows)) ≡
        (test p || list_any test rows)
    go true e ih = rw (h p e) ih
    go false e ih = ap (λ z. test p || z) ih

exited-not-ready : (m : ℕ) (g : Generation) (k : ℕ) (p : Process) → is_exited_of m p ≡ true → is_worker is_ready m g k p ≡ false
exited-not-ready m g k (Master n q i live hs) e = refl
exited-not-ready m g k (Worker n q g' k' Starting hs) e = refl
exited-not-ready m g k (Worker n q g' k' Ready hs) e = absurd (cc e)
exited-not-ready m g k (Worker n q g' k' Draining hs) e = refl
exited-not-ready m g k (Worker n q g' k' Exited hs) e = refl
exited-not-ready m g k (Foreign n hs) e = refl

none-of :
    (test : Process → Bool) (P : Process → Type 0) → ((p : Process) → P p → test p ≡ true → ⊥) → (rows : List Process) →
    AllByRecursion P rows → list_any test rows ≡ false
none-of test P h [] all = refl
none-of test P h (p ∷ rows) all = go (test p) refl (none-of test P h rows all.1)
  where
    go : (b : Bool) → test p ≡ b → list_any test rows ≡ false → (b || list_any test rows) ≡ false
    go true e ih = absurd (h p all.0 e)
    go false e ih = ih

-- after a census its answer is exactly what is Ready
pub census-exact :
    (v : View) (g : Generation) (rows : List Process) → ((k : ℕ) → v.ready g k ≡ true → k < 1024) → Looks (idle v) rows
    → (k : ℕ) → list_any (is_worker is_ready v.number g k) (filter_map (drop_where (is_exited_of v.number)) rows) ≡
    is_in (census_of v.number g rows) k
census-exact v g rows bound looks k =
    any-dropped (is_worker is_ready v.number g k) (is_exited_of v.number) (exited-not-ready v.number g k) rows ∙ go (nat_lt k 1024) refl
  where
    go : (b : Bool) → nat_lt k 1024 ≡ b → list_any (is_worker is_ready v.number g k) rows ≡ is_in (census_of v.number g rows) k
    go true e = let lt : k < 1024 = grind (arith, nat_tests) in sym (census-in v.number g rows k lt)
    go false e =
        let ge : 1024 ≤ k = grind (arith, nat_tests) in
        none-of (is_worker is_ready v.number g k) (Row (idle v))
        (λ p h on. let lt = ready-row v g 1024 bound p h k on in absurd (omega arith)) rows looks.fine ∙ sym (beyond e)
      where
        beyond : nat_lt k 1024 ≡ false → is_in (census_of v.number g rows) k ≡ false
        beyond off = census-all v.number g rows k ∙ ap (λ z. z && list_any (is_worker is_ready v.number g k) rows) off

running-row :
    (v : View) (crew : Crew) → HoldsShare v crew →
    ((h : Generation) (k : ℕ) → v.ready h k ≡ true → h ≡ crew.generation) → (p : Process) → Fine (idle v) p →
    IsRunning v.number crew v.holds p
running-row v crew same only (Master n q i live hs) h = tt
running-row v crew same only (Worker n q g' k Starting hs) h = absurd (cc (h.1.0))
running-row v crew same only (Worker n q g' k Ready hs) h = λ e. let is = only g' k h.1.0 in (is, h.1.1 ∙ ap (λ f. v.held f k) is ∙ same k)
running-row v crew same only (Worker n q g' k Draining hs) h = tt
running-row v crew same only (Worker n q g' k Exited hs) h = tt
running-row v crew same only (Foreign n hs) h = tt

one-row : (v : View) (p : Process) → Fine v p → masters p ≡ master_at v.number p
one-row v (Master n q i live hs) h = sym (ap one (eqb-refl n v.number h.0))
one-row v (Worker n q g k s hs) h = refl
one-row v (Foreign n hs) h = refl

-- a table without Starting workers, whose Ready ones are of one crew and are what the census gave
pub agrees-after :
    (v : View) (crew : Crew) (t : Table) (r : Record) → Sole v → HoldsShare v crew →
    ((h : Generation) (k : ℕ) → v.ready h k ≡ true → h ≡ crew.generation) → Looks (idle v) t.rows →
    ((k : ℕ) → list_any (is_worker is_ready v.number crew.generation k) t.rows ≡ is_in r.ready k) → crew_of r ≡ crew →
    v.image ≡ crew.generation.image → r.pid ≡ v.number → map listener_of v.holds ≡ r.listeners →
    FilesAre r.note r.pid_path r.pid t.files → Agrees t r
agrees-after v crew t r sole same only looks exact is_crew is_image is_pid listeners files =
    let fine = sole-fine (idle v) sole t.rows looks.fine in
    record {
      holds = v.holds;
      lives =
          subst (λ i. live i r.pid) (is_image ∙ sym (ap (λ (x : Crew). x.generation.image) is_crew))
          (subst (λ n. live v.image n) (sym is_pid) (finds (idle v) t.rows looks));
      alone = count-weigh is_master t.rows ∙ weigh-same (Fine (idle v)) masters (master_at v.number) (one-row (idle v)) t.rows fine ∙ looks.alone;
      listeners = listeners;
      running =
          subst (λ n. AllByRecursion (IsRunning n (crew_of r) v.holds) t.rows) (sym is_pid)
          (subst (λ c. AllByRecursion (IsRunning v.number c v.holds) t.rows) (sym is_crew) (every-more (Fine (idle v)) (IsRunning v.number crew v.holds) (running-row v crew same only) t.rows fine));
      ready =
          λ k. subst (λ n. list_any (is_worker is_ready n r.generation k) t.rows ≡ is_in r.ready k) (sym is_pid)
          (subst (λ (c : Crew). list_any (is_worker is_ready v.number c.generation k) t.rows ≡ is_in r.ready k) (sym is_crew) (exact k));
      files = files;
    }
  where
    live : ℕ → ℕ → Type 0
    live i n = Rattle.definitions.specs.Table.live_master i t.rows ≡ Some (record { number = n; holds = v.holds })
