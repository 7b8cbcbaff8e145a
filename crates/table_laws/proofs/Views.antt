-- What is known of a table while one master acts: a view, and how exits change it.
use Rattle.std.proofs.Common.{ap, ⊎_elim, ◌⊎◌, ◌≡◌, ◌≢◌, ℕ, ◌≤◌, Bool, true, false, List, [], ◌∷◌, Option, Some, refl, sym, ◌∙◌, arith}
use Rattle.std.specs.Prelude.{◌&&◌, ◌==◌, ⊤}
use Rattle.std.specs.List.{AllByRecursion}
use Rattle.std.proofs.lemmas.Bool.Decides.{nat_tests}
use Rattle.definitions.specs.Table.{same_generation, Hold, Process, Master, Worker, Foreign, Caller, live_master}
use Rattle.definitions.specs.Table.{is_worker, is_active, is_master}
use Rattle.call_laws.specs.Pieces.{caller_if, is_ready, share}
use Rattle.vocabulary.specs.declared.table.Stance.{Stance}
use Rattle.vocabulary.specs.declared.table.Stance.TheVariants.{Starting, Ready, Draining, Exited}
use Rattle.listener_set.specs.declared.generation.Generation.{Generation}
use Rattle.definitions.specs.Calls.{is_active_worker}
use Rattle.definitions.specs.Master.{Crew}
use Rattle.table_laws.proofs.Rows.{one, weigh}

-- names of workers of a master
abbrev pub Names : Type 0
Names = Generation → ℕ → Bool

-- these numbers of a generation
abbrev pub named : Generation → (ℕ → Bool) → Names
named g test h k = same_generation h g && test k

-- a master with its image and holds, which of its workers may be Starting and which Ready, and what those hold
pub record View : Type 0 where
  pub number : ℕ
  -- the process numbers of the other masters that may be there
  pub others : ℕ → Bool
  pub image : ℕ
  pub holds : List Hold
  pub starting : Names
  pub ready : Names
  -- what a worker of a name holds
  pub held : Generation → ℕ → List Hold

-- each worker of the crew holds its share of what the master holds
abbrev pub HoldsShare : View → Crew → Type 0
HoldsShare v crew = (k : ℕ) → v.held crew.generation k ≡ share crew.posts k v.holds

abbrev pub FineLive : View → Stance → Generation → ℕ → List Hold → Type 0
FineLive v Starting g k hs = (v.starting g k ≡ true) × (hs ≡ v.held g k)
FineLive v Ready g k hs = (v.ready g k ≡ true) × (hs ≡ v.held g k)
FineLive v Draining g k hs = hs ≡ []
FineLive v Exited g k hs = hs ≡ []

-- a row of the master, its own or a worker's, or a foreign one
abbrev pub Fine : View → Process → Type 0
Fine v (Master n q i live hs) = (n ≡ v.number) × (i ≡ v.image) × (live ≡ true) × (hs ≡ v.holds)
Fine v (Worker n q g k s hs) = (q ≡ v.number) × FineLive v s g k hs
Fine v (Foreign n hs) = ⊤

-- a row of another master, of which nothing else is known
abbrev pub Other : View → Process → Type 0
Other v (Master n q i live hs) = (n ≢ v.number) × (v.others n ≡ true) × ((live ≡ false) ⊎ (i ≢ v.image))
Other v (Worker n q g k s hs) = (q ≢ v.number) × (v.others q ≡ true)
Other v (Foreign n hs) = ⊥

abbrev pub Row : View → Process → Type 0
Row v p = Fine v p ⊎ Other v p

-- the weights: live workers of a name, Ready ones whose names pass, live ones, masters
abbrev pub live_named : ℕ → Generation → ℕ → Process → ℕ
live_named m g k p = one (is_worker is_active m g k p)

abbrev pub ready_in : ℕ → Names → Process → ℕ
ready_in m test (Worker n q g k s hs) = one (is_ready s && ((q == m) && test g k))
ready_in m test (Master n q i live hs) = 0
ready_in m test (Foreign n hs) = 0

abbrev pub live_any : Process → ℕ
live_any p = one (is_active_worker p)

abbrev pub master_at : ℕ → Process → ℕ
master_at m (Master n q i live hs) = one (n == m)
master_at m (Worker n q g k s hs) = 0
master_at m (Foreign n hs) = 0

abbrev pub masters : Process → ℕ
masters p = one (is_master p)

-- no two active workers of the master bear one name
abbrev pub Once : ℕ → List Process → Type 0
Once m rows = (g : Generation) (k : ℕ) → weigh (live_named m g k) rows ≤ 1

pub record Looks (v : View) (rows : List Process) : Type 0 where
  pub fine : AllByRecursion (Row v) rows
  pub alone : weigh (master_at v.number) rows ≡ 1
  pub once : Once v.number rows

-- The master is found by its image.
found_if :
    (v : View) (b : Bool) (n : ℕ) (hs : List Hold) (rest : Option Caller) → b ≡ true → n ≡ v.number → hs ≡ v.holds →
    caller_if b n hs rest ≡ Some (record { number = v.number; holds = v.holds })
found_if v true n hs rest e en eh = λ i. Some (record { number = en i; holds = eh i })
found_if v false n hs rest e en eh = cc

skip_if : (b : Bool) (n : ℕ) (hs : List Hold) (rest o : Option Caller) → b ≡ false → rest ≡ o → caller_if b n hs rest ≡ o
skip_if true n hs rest o e f = cc
skip_if false n hs rest o e f = f

pub eqb-refl : (n k : ℕ) → n ≡ k → (n == k) ≡ true
eqb-refl n k e = grind (arith, nat_tests)

pub eqb-off : (n k : ℕ) → n ≢ k → (n == k) ≡ false
eqb-off n k e = grind (arith, nat_tests)

pub eqb-is : (n k : ℕ) → (n == k) ≡ true → n ≡ k
eqb-is n k e = grind (arith, nat_tests)

finds-in :
    (v : View) (rows : List Process) → AllByRecursion (Row v) rows → 1 ≤ weigh (master_at v.number) rows →
    live_master v.image rows ≡ Some (record { number = v.number; holds = v.holds })
finds-in v [] fine some = absurd (omega arith)
finds-in v (Master n q i true hs ∷ rows) fine some =
    ⊎_elim (λ f. found_if v (i == v.image) n hs _ (eqb-refl i v.image f.1) f.0 f.3)
    (λ o. ⊎_elim (λ e. absurd (cc e)) (λ ne. skip_if (i == v.image) n hs _ _ (eqb-off i v.image ne) (finds-in v rows fine.1 (omega (arith, ap one (eqb-off n v.number o.0))))) o.2)
    fine.0
finds-in v (Master n q i false hs ∷ rows) fine some =
    ⊎_elim (λ f. absurd (cc (f.2))) (λ o. finds-in v rows fine.1 (omega (arith, ap one (eqb-off n v.number o.0)))) fine.0
finds-in v (Worker n q g k s hs ∷ rows) fine some = finds-in v rows fine.1 (omega arith)
finds-in v (Foreign n hs ∷ rows) fine some = finds-in v rows fine.1 (omega arith)

pub finds : (v : View) (rows : List Process) → Looks v rows → live_master v.image rows ≡ Some (record { number = v.number; holds = v.holds })
finds v rows looks = finds-in v rows looks.fine (omega (arith, looks.alone))

-- a live master of another image has another number
pub finds-other :
    (v : View) (i : ℕ) (rows : List Process) → i ≢ v.image → AllByRecursion (Row v) rows → (c : Caller) →
    live_master i rows ≡ Some c → v.number ≢ c.number
finds-other v i [] ne fine c e = absurd (cc)
finds-other v i (Master n q j true hs ∷ rows) ne fine c e = go (j == i) refl e (finds-other v i rows ne fine.1 c)
  where
    go : (b : Bool) → (j == i) ≡ b → caller_if b n hs (live_master i rows) ≡ Some c → (live_master i rows ≡ Some c → v.number ≢ c.number) → v.number ≢ c.number
    go true is e ih =
        let same : record { number = n; holds = hs } ≡ c = cc in
        ⊎_elim (λ f. absurd (ne (sym (eqb-is j i is) ∙ f.1))) (λ o is_c. o.0 (ap (λ (x : Caller). x.number) same ∙ sym is_c)) fine.0
    go false is e ih = ih e
finds-other v i (Master n q j false hs ∷ rows) ne fine c e = finds-other v i rows ne fine.1 c e
finds-other v i (Worker n q g k s hs ∷ rows) ne fine c e = finds-other v i rows ne fine.1 c e
finds-other v i (Foreign n hs ∷ rows) ne fine c e = finds-other v i rows ne fine.1 c e
