-- The plans of one master go well under no event.
use Rattle.std.proofs.Common.{◌≡◌, ℕ, ◌+◌, ◌≤◌, Bool, true, false, not, List, [], length, Option, Some, None, refl, sym}
use Rattle.std.proofs.Common.{ap, subst, arith, map, filter, reverse, count_by}
use Rattle.std.specs.Prelude.{◌&&◌, ◌||◌}
use Rattle.std.specs.List.{list_any, AllByRecursion}
use Rattle.vocabulary.specs.Settings.{Settings}
use Rattle.listener_set.specs.declared.generation.Generation.{Generation}
use Rattle.listener_set.specs.Numbers.{is_in, numbers_below}
use Rattle.vocabulary.specs.declared.table.Limits.{Limits}
use Rattle.vocabulary.specs.declared.plans.Side.TheVariants as side
use Rattle.vocabulary.specs.declared.plans.Turn.{Turn}
use Rattle.definitions.specs.Table.{Process, Table, Address, FilePath, is_own}
use Rattle.definitions.specs.Calls.{CloseAt, Quit, Kill, Census, Usr1, Leave, Handed}
use Rattle.definitions.specs.Master.{Record, Workers, Mend, Reopen, Reload, Stop, crew_of, reload_generation, oldbin}
use Rattle.definitions.specs.Master.{addresses_of}
use Rattle.definitions.specs.Run.{Tree}
use Rattle.definitions.specs.Plans.{plan_tree, settle, tells, starts, starts_any, forks, either, removes}
use Rattle.definitions.specs.Plans.{remove_oldbin_too, stopped}
use Rattle.definitions.specs.Plans.{has_oldbin, only_in}
use Rattle.vocabulary.specs.declared.plans.PidNote.{PidNote}
use Rattle.definitions.specs.After.{crew_wanted}
use Rattle.definitions.specs.Claims.{IsStart}
use Rattle.table_laws.proofs.Counts.{Distinct, filter-distinct}
use Rattle.table_laws.proofs.Sets.{in-filter-of, in-filter-on, below-distinct, below-length}
use Rattle.quiet_runs.specs.Quiet.{HasResources}
use Rattle.quiet_runs.proofs.Ways.{Goes}
use Rattle.quiet_runs.proofs.Stands.{Spot, State, Stands, forget, none-in, step-census, step-remove, by-own}
use Rattle.quiet_runs.proofs.Chains.{piled, in-pile, in-piled, Onward, chain-forks, chain-awaits, chain-quits}
use Rattle.quiet_runs.proofs.Chains.{chain-kills}
use Rattle.quiet_runs.proofs.Chains.{chain-gone, chain-usr1s, chain-closes, chain-opens, go-tells, fine-map}
use Rattle.quiet_runs.proofs.Chains.{fine-closes, go-forks}
use Rattle.quiet_runs.proofs.Chains.{go-awaits, go-forks-any, go-awaits-any, go-awaits-gone, go-opens, go-settle}
use Rattle.quiet_runs.proofs.Starts.{lone, begins, idle-number, idle-reload}

-- nothing is known but that the masters live
abbrev pub bare : State
bare = record { busy = []; idle = []; room = []; unheld = []; fresh = false }

-- these are idle, and no more is known
abbrev pub idling : List ℕ → State
idling ks = record { busy = []; idle = ks; room = []; unheld = []; fresh = false }

not-true : (b : Bool) → not b ≡ true → b ≡ false
not-true true e = sym e
not-true false e = refl

true-or-false : (b : Bool) (X : Type 0) → (b ≡ true → X) → (b ≡ false → X) → X
true-or-false true X f g = f refl
true-or-false false X f g = g refl

module _ (handed : Handed) where
  -- of no generation where nothing is known of workers
  pub regard : (sp : Spot) (g h : Generation) (rows : List Process) (limits : Limits) →
      Stands handed sp g bare rows limits → Stands handed sp h bare rows limits
  regard sp g h rows limits s = record {
    holds = s.holds;
    lives = s.lives;
    told = s.told;
    beside = s.beside;
    busy = λ k e. absurd (none-in k e);
    idle = λ k e. absurd (none-in k e);
    room = s.room;
    unheld = tt;
    apart = tt;
    limit = s.limit;
  }

  -- fewer numbers that are idle
  narrow :
      (sp : Spot) (g : Generation) (idle idle' room : List ℕ) (rows : List Process) (limits : Limits) →
      ((k : ℕ) → is_in idle' k ≡ true → is_in idle k ≡ true) →
      Stands handed sp g (record { busy = []; idle = idle; room = room; unheld = []; fresh = false }) rows limits →
      Stands handed sp g (record { busy = []; idle = idle'; room = room; unheld = []; fresh = false }) rows limits
  narrow sp g idle idle' room rows limits off s = record {
    holds = s.holds;
    lives = s.lives;
    told = s.told;
    beside = s.beside;
    busy = s.busy;
    idle = λ k e. s.idle k (off k e);
    room = s.room;
    unheld = tt;
    apart = tt;
    limit = s.limit;
  }

  module _ (sp : Spot) (g : Generation) where
    -- what goes well from any state goes well from one of which more is known
    pub from-bare : (busy idle room : List ℕ) (unheld : List Address) (fresh : Bool) (rest : Tree) →
        Onward handed sp g bare rest →
        Onward handed sp g (record { busy = busy; idle = idle; room = room; unheld = unheld; fresh = fresh }) rest
    from-bare busy idle room unheld fresh rest on t s =
        on t (forget handed sp g busy idle [] [] room unheld fresh t.rows t.limits (λ k e. absurd (none-in k e))
        (λ k e. absurd (none-in k e)) s)

    pub go-quits : (h : Generation) (ks : List ℕ) (rest : Tree) → Onward handed sp g bare rest →
        Onward handed sp g bare (tells sp.image (map (Quit h) ks) rest)
    go-quits h ks rest on t s =
        let away =
        go-tells handed sp h (map (Quit h) ks) rest bare (record bare { busy = []; idle = piled ks [] })
        (fine-map handed sp h (Quit h) (λ k. refl) ks)
        (chain-quits handed sp h ks bare refl)
        (λ t s. on t (regard sp h g t.rows t.limits (forget handed sp h []
        (piled ks []) [] [] [] [] false t.rows t.limits (λ k e. e) (λ k e. absurd (none-in k e)) s))) in
        away t (regard sp g h t.rows t.limits s)

    pub go-closes : (l : List Address) (rest : Tree) → Onward handed sp g bare rest → Onward handed sp g bare
        (tells sp.image (map CloseAt l) rest)
    go-closes l rest on = go-tells handed sp g (map CloseAt l) rest bare bare (fine-closes handed sp g l)
        (chain-closes handed sp g l [] [] [] []) on

    pub go-count : (h : Generation) (S : List ℕ) (ok bad : Tree) (x : State) → Onward handed sp g x ok →
        Onward handed sp g x (either sp.image (Census h) S ok bad)
    go-count h S ok bad x on t s = let now = step-census handed sp g h x t s in (now.0, on _ now.1)

    pub go-starts :
        (crew : Rattle.definitions.specs.Master.Crew) (ks : List ℕ) (ok : Tree) (bad : List ℕ → Tree) →
        crew.generation ≡ g → Distinct ks → Onward handed sp g bare ok →
        Onward handed sp g (record { busy = []; idle = ks; room = ks; unheld = []; fresh = false })
        (starts sp.image crew ks ok bad)
    go-starts crew ks ok bad same d on =
        let x1 : State = record { busy = piled ks []; idle = []; room = []; unheld = []; fresh = false } in
        go-forks handed sp g crew ks [] _ bad _ x1 (chain-forks handed sp g crew ks [] [] same d)
        (λ forked. subst (λ h. Onward handed sp g x1 (Rattle.definitions.specs.Plans.awaits sp.image h ks ok
        (bad forked))) (sym same)
        (go-awaits handed sp g g ks ok (bad forked) x1 x1 (chain-awaits handed sp g ks x1 (λ k e. in-piled ks [] k e))
        (from-bare (piled ks []) [] [] [] false ok on)))

    pub go-starts-any :
        (crew : Rattle.definitions.specs.Master.Crew) (ks : List ℕ) (rest : Tree) → crew.generation ≡ g → Distinct ks →
        Onward handed sp g bare rest →
        Onward handed sp g (record { busy = []; idle = ks; room = ks; unheld = []; fresh = false })
        (starts_any sp.image crew ks rest)
    go-starts-any crew ks rest same d on =
        let x1 : State = record { busy = piled ks []; idle = []; room = []; unheld = []; fresh = false } in
        go-forks-any handed sp g crew ks _ _ x1 (chain-forks handed sp g crew ks [] [] same d)
        (subst (λ h. Onward handed sp g x1 (Rattle.definitions.specs.Plans.awaits_any sp.image h ks rest)) (sym same)
        (go-awaits-any handed sp g g ks rest x1 x1 (chain-awaits handed sp g ks x1 (λ k e. in-piled ks [] k e))
        (from-bare (piled ks []) [] [] [] false rest on)))

    pub go-leave : Onward handed sp g bare (stopped sp.image)
    go-leave t s =
        by-own handed sp g t Leave (record { number = sp.number; holds = s.holds })
        (λ st. (Rattle.quiet_runs.proofs.Ways.IsPlain Leave st.answer) × Rattle.std.specs.Prelude.⊤) s.lives (refl, tt)

    pub go-removes : (path : Option FilePath) (note : PidNote) (rest : Tree) → Onward handed sp g bare rest →
        Onward handed sp g bare (removes sp.image path note rest)
    go-removes None note rest on t s = on t s
    go-removes (Some path) note rest on t s =
        let now = step-remove handed sp g path bare t s in (now.0, second (has_oldbin note) _ now.1)
      where
        second : (b : Bool) → Onward handed sp g bare (remove_oldbin_too sp.image path b rest)
        second true t s = let now = step-remove handed sp g (oldbin path) bare t s in (now.0, on _ now.1)
        second false t s = on t s

---- Target by target

module _ (t : Table) (r : Record) (start : IsStart t r) (handed : Handed) where
  abbrev g : Generation
  g = r.generation

  -- where nothing is to be started or opened
  plainly : (n : ℕ) → count_by is_own t.rows + n ≤ t.limits.processes → Stands handed (lone r) g bare t.rows t.limits
  plainly n fits = record {
    holds = start.agrees.holds;
    lives = start.agrees.lives;
    told = λ e. absurd (cc);
    beside = (start.agrees.holds, start.agrees.lives);
    busy = λ k e. absurd (none-in k e);
    idle = λ k e. absurd (none-in k e);
    room = omega (arith, fits);
    unheld = tt;
    apart = tt;
    limit = λ e. absurd (omega (arith, e));
  }

  -- where workers are started, of numbers that are not ready
  starting :
      (idle room : List ℕ) → count_by is_own t.rows + length room ≤ t.limits.processes →
      ((k : ℕ) → is_in idle k ≡ true → is_in r.ready k ≡ false) →
      Stands handed (lone r) g (record {
        busy = [];
        idle = idle;
        room = room;
        unheld = [];
        fresh = false;
      }) t.rows t.limits
  starting idle room fits off = record {
    holds = start.agrees.holds;
    lives = start.agrees.lives;
    told = λ e. absurd (cc);
    beside = (start.agrees.holds, start.agrees.lives);
    busy = λ k e. absurd (none-in k e);
    idle = λ k e. idle-number t r start k (off k e);
    room = fits;
    unheld = tt;
    apart = tt;
    limit = λ e. absurd (omega (arith, e));
  }

  missing : (n k : ℕ) → is_in (filter (λ k. not (is_in r.ready k)) (numbers_below n)) k ≡ true → is_in r.ready k ≡ false
  missing n k e = not-true (is_in r.ready k) (in-filter-of (λ k. not (is_in r.ready k)) (numbers_below n) k e).1

  pub go-workers : (n : ℕ) (turns : List Turn) → HasResources t r (Workers n) → Goes handed (plan_tree r
      (Workers n) turns) t
  go-workers n turns res =
      let ks = filter (λ k. not (is_in r.ready k)) (numbers_below n) in
      go-starts handed (lone r) g (crew_of r) ks _ _ refl (filter-distinct (λ k. not (is_in r.ready k))
      (numbers_below n) (below-distinct n))
      (go-quits handed (lone r) g g (reverse (filter (λ k. not (Rattle.std.specs.Prelude.nat_lt k n)) r.ready)) _
      (go-settle handed (lone r) g (crew_of r) (numbers_below n) side.Target r.retries bare))
      t (starting ks ks res.processes (missing n))

  pub go-mend : (overdue : List ℕ) (turns : List Turn) → HasResources t r (Mend overdue) → Goes handed (plan_tree r
      (Mend overdue) turns) t
  go-mend overdue turns res =
      let test : ℕ → Bool = λ k. not (is_in r.ready k) || is_in overdue k in
      let ks = filter test (numbers_below r.wanted) in
      let idle = filter (λ k. not (is_in r.ready k)) (numbers_below r.wanted) in
      let gone = filter (is_in r.ready) overdue in
      let x : State = record { busy = []; idle = idle; room = ks; unheld = []; fresh = false } in
      let rest = starts_any r.generation.image (crew_of r) ks (settle r.generation.image (crew_of r)
      (numbers_below r.wanted) side.Target r.retries) in
      go-tells handed (lone r) g (map (Kill g) gone) rest x (record x { busy = []; idle = piled gone idle })
      (fine-map handed (lone r) g (Kill g) (λ k. refl) gone)
      (chain-kills handed (lone r) g gone x refl)
      (λ t s. go-starts-any handed (lone r) g (crew_of r) ks _ refl (filter-distinct test (numbers_below r.wanted)
      (below-distinct r.wanted))
      (go-settle handed (lone r) g (crew_of r) (numbers_below r.wanted) side.Target r.retries bare) t
      (narrow handed (lone r) g (piled gone idle) ks ks t.rows t.limits (all overdue) s))
      t (starting idle ks res.processes (missing r.wanted))
    where
      or-right-of : (a b : Bool) → a ≡ true → (not a || b) ≡ true → b ≡ true
      or-right-of true b e f = f
      or-right-of false b e f = absurd (cc)

      all : (overdue : List ℕ) (k : ℕ) → is_in (filter (λ k. not (is_in r.ready k) || is_in overdue k)
          (numbers_below r.wanted)) k ≡ true →
          is_in (piled (filter (is_in r.ready) overdue) (filter (λ k. not (is_in r.ready k))
          (numbers_below r.wanted))) k ≡ true
      all overdue k e =
          let of = in-filter-of (λ k. not (is_in r.ready k) || is_in overdue k) (numbers_below r.wanted) k e in
          let gone = filter (is_in r.ready) overdue in
          let idle = filter (λ k. not (is_in r.ready k)) (numbers_below r.wanted) in
          true-or-false (is_in r.ready k) (is_in (piled gone idle) k ≡ true)
          (λ on. in-piled gone idle k (in-filter-on (is_in r.ready) overdue k (or-right-of _ _ on of.1) on))
          (λ off. in-pile gone idle k (in-filter-on (λ k. not (is_in r.ready k)) (numbers_below r.wanted) k of.0
          (ap not off)))

  pub go-reopen : (turns : List Turn) → HasResources t r Reopen → Goes handed (plan_tree r Reopen turns) t
  go-reopen turns res =
      go-tells handed (lone r) g (map (Usr1 g) r.ready) _ bare bare (fine-map handed (lone r) g (Usr1 g)
      (λ k. refl) r.ready) (chain-usr1s handed (lone r) g g r.ready bare)
      (go-settle handed (lone r) g (crew_of r) r.ready side.Target r.retries bare) t (plainly 0 res.processes)

  pub go-stop : (quick : Bool) (turns : List Turn) → HasResources t r (Stop quick) → Goes handed (plan_tree r
      (Stop quick) turns) t
  go-stop true turns res =
      go-tells handed (lone r) g (map (Kill g) r.ready) _ bare (record bare { busy = []; idle = piled r.ready [] })
      (fine-map handed (lone r) g (Kill g) (λ k. refl) r.ready)
      (chain-kills handed (lone r) g r.ready bare refl)
      (from-bare handed (lone r) g [] (piled r.ready []) [] [] false _ (go-removes handed
      (lone r) g r.pid_path r.note _ (go-leave handed (lone r) g)))
      t (plainly 0 res.processes)
  go-stop false turns res =
      let qs = reverse r.ready in
      let x : State = record bare { busy = []; idle = piled qs [] } in
      go-tells handed (lone r) g (map (Quit g) qs) _ bare x (fine-map handed (lone r) g (Quit g) (λ k. refl) qs)
      (chain-quits handed (lone r) g qs bare refl)
      (go-awaits-gone handed (lone r) g g qs _ x x (chain-gone handed (lone r) g qs x refl (λ k e. in-piled qs [] k e))
      (from-bare handed (lone r) g [] (piled qs []) [] [] false _ (go-removes handed (lone r) g r.pid_path r.note _
      (go-leave handed (lone r) g))))
      t (plainly 0 res.processes)
