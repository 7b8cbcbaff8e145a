-- Calls in a row that are answered plainly, and the pieces of plans that make them.
use Rattle.std.proofs.Common.{◌≡◌, ℕ, zero, suc, true, false, List, [], ◌∷◌, ◌++◌, Option}
use Rattle.std.proofs.Common.{None, refl, sym, ap, subst, map, ⊎_elim}
use Rattle.std.specs.Prelude.{◌||◌}
use Rattle.std.specs.List.{AllByRecursion}
use denote.Enum.Bare.{true_same}
use Rattle.vocabulary.specs.contracts.calls.Reply.{the_type}
use Rattle.listener_set.specs.declared.generation.Generation.{Generation}
use Rattle.listener_set.specs.Numbers.{is_in}
use Rattle.vocabulary.specs.declared.calls.Reply.TheVariants as reply
use Rattle.vocabulary.specs.declared.plans.Side.{Side}
use Rattle.vocabulary.specs.declared.plans.Turn.{Turn}
use Rattle.vocabulary.specs.declared.plans.Turn.TheVariants.{New, Old}
use Rattle.vocabulary.specs.declared.plans.PidNote.{PidNote}
use Rattle.definitions.specs.Table.{Table, Address}
use Rattle.definitions.specs.Calls.{Call, OpenAt, CloseAt, Fork, AwaitReady, Quit, Kill, Census, AwaitGone, Usr1}
use Rattle.definitions.specs.Calls.{Handed, step_with}
use Rattle.definitions.specs.Master.{Crew, fork_of, fds_of}
use Rattle.definitions.specs.Run.{Tree, Branches, Ends, Nothing, Branch, Reply, plain_reply, JoinReady, JoinBack, Join}
use Rattle.definitions.specs.Plans.{tells, then_edge, forks, awaits, opens, forks_any, awaits_any, awaits_gone, settle}
use Rattle.definitions.specs.Plans.{tries_all}
use Rattle.definitions.specs.Plans.{weave, weave_all, joined, old_part, on, failed_replies}
use Rattle.call_laws.specs.Pieces.{among}
use Rattle.table_laws.proofs.Counts.{Distinct}
use Rattle.table_laws.proofs.Sets.{in-here, in-there, in-cases}
use Rattle.quiet_runs.proofs.Ways.{Goes, Follows}
use Rattle.quiet_runs.proofs.Stands.{Spot, State, At, Step, step-fork, step-await, step-quit, step-kill}
use Rattle.quiet_runs.proofs.Stands.{step-gone, step-census, other-census, step-usr1, step-close, step-open}

-- numbers on a pile, one after another
abbrev pub piled : List ℕ → List ℕ → List ℕ
piled [] pile = pile
piled (k ∷ ks) pile = piled ks (k ∷ pile)

pub in-pile : (ks pile : List ℕ) (k : ℕ) → is_in pile k ≡ true → is_in (piled ks pile) k ≡ true
in-pile [] pile k e = e
in-pile (x ∷ ks) pile k e = in-pile ks (x ∷ pile) k (in-there x k pile e)

pub in-piled : (ks pile : List ℕ) (k : ℕ) → is_in ks k ≡ true → is_in (piled ks pile) k ≡ true
in-piled [] pile k e = absurd (cc)
in-piled (x ∷ ks) pile k e =
    ⊎_elim (λ same. in-pile ks (x ∷ pile) k (in-here x k pile same)) (λ more. in-piled ks (x ∷ pile) k more)
    (in-cases x k ks e)

among-itself : (r : Reply) → among (r ∷ []) r ≡ true
among-itself r = ap (λ b. b || false) (true_same the_type r r refl)

-- the first edge has the reply
pub follows-first :
    (handed : Handed) (r : Reply) (said : Option PidNote) (rest : Tree) (more : Branches) (t : Table) →
    Goes handed rest t →
    Follows handed (Branch (r ∷ []) said rest more) r t
follows-first handed r said rest more t h =
    subst (λ b. elim b as (λ c. Type 0) [ true ↦ Goes handed rest t | false ↦ Follows handed more r t ]) (sym
    (among-itself r)) h

module _ (handed : Handed) (sp : Spot) (g : Generation) where
  -- Calls of the master in a row, from one state to another.
  abbrev pub Chain : State → List Call → State → Type 0
  Chain x [] y = x ≡ y
  Chain x (call ∷ calls) y = (z : State) × Step handed sp g x call z × Chain z calls y

  pub both : (calls more : List Call) (x z y : State) → Chain x calls z → Chain z more y → Chain x (calls ++ more) y
  both [] more x z y a b = subst (λ w. Chain w more y) (sym a) b
  both (call ∷ calls) more x z y a b = (a.0, a.1, both calls more a.0 z y a.2 b)

  -- What follows goes well wherever this is known.
  abbrev pub Onward : State → Tree → Type 0
  Onward y rest = (t : Table) → At handed sp g y t → Goes handed rest t

  ---- Chains

  pub chain-forks :
      (crew : Crew) (ks busy : List ℕ) (unheld : List Address) → crew.generation ≡ g → Distinct ks →
      Chain (record { busy = busy; idle = ks; room = ks; unheld = unheld; fresh = false }) (map (fork_of crew) ks)
      (record { busy = piled ks busy; idle = []; room = []; unheld = unheld; fresh = false })
  chain-forks crew [] busy unheld same d = refl
  chain-forks crew (k ∷ ks) busy unheld same d = (
    _,
    subst
        (λ h. Step handed sp g (record { busy = busy; idle = k ∷ ks; room = k ∷ ks; unheld = unheld; fresh = false })
        (Fork h k (fds_of crew.posts k)) (record {
          busy = k ∷ busy;
          idle = ks;
          room = ks;
          unheld = unheld;
          fresh = false;
        })) (sym same)
        (step-fork handed sp g k (fds_of crew.posts k) k busy ks ks unheld false d.0),
    chain-forks crew ks (k ∷ busy) unheld same d.1,
  )

  -- and numbers that are started later
  pub chain-forks-first :
      (crew : Crew) (ks more busy : List ℕ) → crew.generation ≡ g → Distinct (ks ++ more) →
      Chain (record { busy = busy; idle = ks ++ more; room = ks ++ more; unheld = []; fresh = false }) (map (fork_of crew) ks)
      (record { busy = piled ks busy; idle = more; room = more; unheld = []; fresh = false })
  chain-forks-first crew [] more busy same d = refl
  chain-forks-first crew (k ∷ ks) more busy same d = (
    _,
    subst
        (λ h. Step handed sp g (record { busy = busy; idle = k ∷ ks ++ more; room = k ∷ ks ++ more; unheld = []; fresh = false })
        (Fork h k (fds_of crew.posts k)) (record {
          busy = k ∷ busy;
          idle = ks ++ more;
          room = ks ++ more;
          unheld = [];
          fresh = false;
        })) (sym same)
        (step-fork handed sp g k (fds_of crew.posts k) k busy (ks ++ more) (ks ++ more) [] false d.0),
    chain-forks-first crew ks more (k ∷ busy) same d.1,
  )

  pub chain-awaits : (ks : List ℕ) (x : State) → ((k : ℕ) → is_in ks k ≡ true → is_in x.busy k ≡ true) → Chain x (map
      (AwaitReady g) ks) x
  chain-awaits [] x on = refl
  chain-awaits (k ∷ ks) x on = (
    x,
    step-await handed sp g k x (on k (in-here k k ks refl)),
    chain-awaits ks x
        (λ i e. on i (in-there k i ks e)),
  )

  pub chain-quits : (ks : List ℕ) (x : State) → x.busy ≡ [] → Chain x (map (Quit g) ks) (record x {
    busy = [];
    idle = piled ks x.idle;
  })
  chain-quits [] x none = λ i. record x { busy = none i }
  chain-quits (k ∷ ks) x none = (
    record x { busy = []; idle = k ∷ x.idle },
    step-quit handed sp g k x,
    chain-quits ks (record x {
      busy = [];
      idle = k ∷ x.idle;
    }) refl,
  )

  pub chain-kills : (ks : List ℕ) (x : State) → x.busy ≡ [] → Chain x (map (Kill g) ks) (record x {
    busy = [];
    idle = piled ks x.idle;
  })
  chain-kills [] x none = λ i. record x { busy = none i }
  chain-kills (k ∷ ks) x none = (
    record x { busy = []; idle = k ∷ x.idle },
    step-kill handed sp g k x,
    chain-kills ks (record x {
      busy = [];
      idle = k ∷ x.idle;
    }) refl,
  )

  pub chain-gone :
      (ks : List ℕ) (x : State) → x.busy ≡ [] → ((k : ℕ) → is_in ks k ≡ true → is_in x.idle k ≡ true) →
      Chain x (map (AwaitGone g) ks) (record x { busy = [] })
  chain-gone [] x none off = λ i. record x { busy = none i }
  chain-gone (k ∷ ks) x none off = (
    record x { busy = [] },
    step-gone handed sp g k x (off k (in-here k k ks refl)),
    chain-gone ks
        (record x { busy = [] }) refl (λ i e. off i (in-there k i ks e)),
  )

  pub chain-usr1s : (h : Generation) (ks : List ℕ) (x : State) → Chain x (map (Usr1 h) ks) x
  chain-usr1s h [] x = refl
  chain-usr1s h (k ∷ ks) x = (x, step-usr1 handed sp g h k x, chain-usr1s h ks x)

  pub chain-closes :
      (l : List Address) (busy idle room : List ℕ) (unheld : List Address) →
      let x : State = record { busy = busy; idle = idle; room = room; unheld = unheld; fresh = false } in Chain x
      (map CloseAt l) x
  chain-closes [] busy idle room unheld = refl
  chain-closes (a ∷ l) busy idle room unheld =
      (_, step-close handed sp g a busy idle room unheld, chain-closes l busy idle room unheld)

  pub chain-opens :
      (l : List Address) (busy idle room : List ℕ) →
      Chain (record { busy = busy; idle = idle; room = room; unheld = l; fresh = false }) (map OpenAt l)
      (record { busy = busy; idle = idle; room = room; unheld = []; fresh = false })
  chain-opens [] busy idle room = refl
  chain-opens (a ∷ l) busy idle room = (_, step-open handed sp g a busy idle room l, chain-opens l busy idle room)

  ---- The pieces of plans that make them

  abbrev AreFine : List Call → Type 0
  AreFine calls = AllByRecursion (λ call. plain_reply call ≡ reply.Fine) calls

  pub go-tells : (calls : List Call) (rest : Tree) (x y : State) → AreFine calls → Chain x calls y → Onward y rest →
      Onward x (tells sp.image calls rest)
  go-tells [] rest x y fine chain go t s = go t (subst (λ z. At handed sp g z t) chain s)
  go-tells (call ∷ calls) rest x y fine chain go t s =
      let now = chain.1 t s in (
        now.0,
        subst (λ r. Follows handed (then_edge (tells sp.image calls rest)) r
            (step_with handed sp.image call None t).table) (sym fine.0)
            (go-tells calls rest chain.0 y fine.1 chain.2 go (step_with handed sp.image call None t).table now.1),
      )

  pub fine-map : (f : ℕ → Call) → ((k : ℕ) → plain_reply (f k) ≡ reply.Fine) → (ks : List ℕ) → AreFine (map f ks)
  fine-map f h [] = tt
  fine-map f h (k ∷ ks) = (h k, fine-map f h ks)

  pub fine-closes : (l : List Address) → AreFine (map CloseAt l)
  fine-closes [] = tt
  fine-closes (a ∷ l) = (refl, fine-closes l)

  pub go-forks :
      (crew : Crew) (ks done : List ℕ) (ok bad : List ℕ → Tree) (x y : State) → Chain x (map (fork_of crew) ks) y →
      ((forked : List ℕ) → Onward y (ok forked)) → Onward x (forks sp.image crew ks done ok bad)
  go-forks crew [] done ok bad x y chain go t s = go done t (subst (λ z. At handed sp g z t) chain s)
  go-forks crew (k ∷ ks) done ok bad x y chain go t s =
      let now = chain.1 t s in (now.0, go-forks crew ks (k ∷ done) ok bad chain.0 y chain.2 go _ now.1)

  pub go-awaits :
      (h : Generation) (ks : List ℕ) (ok bad : Tree) (x y : State) → Chain x (map (AwaitReady h) ks) y → Onward y ok →
      Onward x (awaits sp.image h ks ok bad)
  go-awaits h [] ok bad x y chain go t s = go t (subst (λ z. At handed sp g z t) chain s)
  go-awaits h (k ∷ ks) ok bad x y chain go t s = let now = chain.1 t s in
      (now.0, go-awaits h ks ok bad chain.0 y chain.2 go _ now.1)

  pub go-forks-any :
      (crew : Crew) (ks : List ℕ) (rest : Tree) (x y : State) → Chain x (map (fork_of crew) ks) y → Onward y rest →
      Onward x (forks_any sp.image crew ks rest)
  go-forks-any crew [] rest x y chain go t s = go t (subst (λ z. At handed sp g z t) chain s)
  go-forks-any crew (k ∷ ks) rest x y chain go t s = let now = chain.1 t s in
      (now.0, go-forks-any crew ks rest chain.0 y chain.2 go _ now.1)

  pub go-awaits-any :
      (h : Generation) (ks : List ℕ) (rest : Tree) (x y : State) → Chain x (map (AwaitReady h) ks) y → Onward y rest →
      Onward x (awaits_any sp.image h ks rest)
  go-awaits-any h [] rest x y chain go t s = go t (subst (λ z. At handed sp g z t) chain s)
  go-awaits-any h (k ∷ ks) rest x y chain go t s = let now = chain.1 t s in
      (now.0, go-awaits-any h ks rest chain.0 y chain.2 go _ now.1)

  pub go-awaits-gone :
      (h : Generation) (ks : List ℕ) (rest : Tree) (x y : State) → Chain x (map (AwaitGone h) ks) y → Onward y rest →
      Onward x (awaits_gone sp.image h ks rest)
  go-awaits-gone h [] rest x y chain go t s = go t (subst (λ z. At handed sp g z t) chain s)
  go-awaits-gone h (k ∷ ks) rest x y chain go t s = let now = chain.1 t s in
      (now.0, go-awaits-gone h ks rest chain.0 y chain.2 go _ now.1)

  pub go-opens :
      (l done : List Address) (ok bad : List Address → Tree) (x y : State) → Chain x (map OpenAt l) y →
      ((opened : List Address) → Onward y (ok opened)) → Onward x (opens sp.image l done ok bad)
  go-opens [] done ok bad x y chain go t s = go done t (subst (λ z. At handed sp g z t) chain s)
  go-opens (a ∷ l) done ok bad x y chain go t s = let now = chain.1 t s in (
    now.0,
    go-opens l
        (a ∷ done) ok bad chain.0 y chain.2 go _ now.1,
  )

  -- a settle: its first count is full, and nothing more is made
  pub go-settle : (crew : Crew) (S : List ℕ) (side : Side) (rounds : ℕ) (x : State) → Onward x
      (settle sp.image crew S side rounds)
  go-settle crew S side zero x t s = ((step-census handed sp g crew.generation x t s).0, tt)
  go-settle crew S side (suc rounds) x t s = ((step-census handed sp g crew.generation x t s).0, tt)

  -- the edges of a step of the new master but the first
  abbrev pub else_back : Call → Tree → Branches
  else_back call back = on (failed_replies call ++ reply.MasterGone ∷ []) back Nothing

  pub go-tries-all :
      (calls : List Call) (rest back : Tree) (x y : State) → Chain x calls y → Onward y rest →
      Onward x (tries_all sp.image calls rest back)
  go-tries-all [] rest back x y chain go t s = go t (subst (λ z. At handed sp g z t) chain s)
  go-tries-all (call ∷ calls) rest back x y chain go t s =
      let now = chain.1 t s in (
        now.0,
        follows-first handed (plain_reply call) None (tries_all sp.image calls rest back) (else_back call back)
            (step_with handed sp.image call None t).table (go-tries-all calls rest back chain.0 y chain.2 go
            (step_with handed sp.image call None t).table now.1),
      )

  ---- Two parts side by side

  module _ (ready back : Tree) (y : State) (go : Onward y ready) where
    abbrev part : List Call → Tree
    part calls = tries_all sp.image calls (Ends JoinReady) (Ends JoinBack)

    -- a plain step of the new part
    goes-on :
        (call : Call) (calls : List Call) (turns : List Turn) (old : Tree) (t : Table) →
        Goes handed (weave (joined ready back) (part calls) turns old) (step_with handed sp.image call None t).table →
        Follows handed (weave_all (joined ready back) (on (plain_reply call ∷ []) (part calls) (else_back call
        (Ends JoinBack))) turns old)
        (plain_reply call) (step_with handed sp.image call None t).table
    goes-on call calls turns old t h =
        follows-first handed (plain_reply call) None (weave (joined ready back) (part calls) turns old)
        (weave_all (joined ready back) (else_back call (Ends JoinBack)) turns old)
        (step_with handed sp.image call None t).table h

    -- the old part has ended
    alone : (calls : List Call) (turns : List Turn) (x : State) → Chain x calls y → Onward x (weave (joined ready back)
        (part calls) turns (Ends Join))
    alone [] turns x chain t s = go t (subst (λ z. At handed sp g z t) chain s)
    alone (call ∷ calls) turns x chain t s =
        let now = chain.1 t s in (
          now.0,
          goes-on call calls turns (Ends Join) t (alone calls turns chain.0 chain.2
              (step_with handed sp.image call None t).table now.1),
        )

    -- the old part has yet to count
    pub go-weave :
        (crew : Crew) (S : List ℕ) (rounds : ℕ) (calls : List Call) (turns : List Turn) (x : State) → Chain x calls y →
        Onward x (weave (joined ready back) (part calls) turns (old_part sp.other crew S rounds))
    go-weave crew S zero [] turns x chain t s =
        let now = other-census handed sp g crew.generation x t s in (
          now.0,
          go (step_with handed sp.other
              (Census crew.generation) None t).table (subst (λ z. At handed sp g z (step_with handed sp.other
              (Census crew.generation) None t).table) chain now.1),
        )
    go-weave crew S (suc rounds) [] turns x chain t s =
        let now = other-census handed sp g crew.generation x t s in (
          now.0,
          go (step_with handed sp.other
              (Census crew.generation) None t).table (subst (λ z. At handed sp g z (step_with handed sp.other
              (Census crew.generation) None t).table) chain now.1),
        )
    go-weave crew S zero (call ∷ calls) [] x chain t s =
        let now = chain.1 t s in (
          now.0,
          goes-on call calls [] (old_part sp.other crew S zero) t
              (go-weave crew S zero calls [] chain.0 chain.2 (step_with handed sp.image call None t).table now.1),
        )
    go-weave crew S zero (call ∷ calls) (New ∷ turns) x chain t s =
        let now = chain.1 t s in (
          now.0,
          goes-on call calls turns (old_part sp.other crew S zero) t
              (go-weave crew S zero calls turns chain.0 chain.2 (step_with handed sp.image call None t).table now.1),
        )
    go-weave crew S zero (call ∷ calls) (Old ∷ turns) x chain t s =
        let now = other-census handed sp g crew.generation x t s in (now.0, alone (call ∷ calls) turns x chain _ now.1)
    go-weave crew S (suc rounds) (call ∷ calls) [] x chain t s =
        let now = chain.1 t s in (
          now.0,
          goes-on call calls [] (old_part sp.other crew S (suc rounds)) t
              (go-weave crew S (suc rounds) calls [] chain.0 chain.2 (step_with handed sp.image call None t).table now.1),
        )
    go-weave crew S (suc rounds) (call ∷ calls) (New ∷ turns) x chain t s =
        let now = chain.1 t s in (
          now.0,
          goes-on call calls turns (old_part sp.other crew S (suc rounds)) t
              (go-weave crew S (suc rounds) calls turns chain.0 chain.2
              (step_with handed sp.image call None t).table now.1),
        )
    go-weave crew S (suc rounds) (call ∷ calls) (Old ∷ turns) x chain t s =
        let now = other-census handed sp g crew.generation x t s in (now.0, alone (call ∷ calls) turns x chain _ now.1)
