-- What holds of each step of a plan and of each end, piece by piece.
use Rattle.std.proofs.Common.{◌≡◌, ℕ, zero, suc, Bool, true, false, not, List, [], ◌∷◌, refl, map, reverse}
use Rattle.std.specs.Prelude.{⊤, ◌&&◌, if◌then◌else◌}
use Rattle.std.specs.List.{AllByRecursion}
use Rattle.listener_set.specs.declared.generation.Generation.{Generation}
use Rattle.vocabulary.specs.declared.plans.Side.{Side}
use Rattle.vocabulary.specs.declared.plans.Turn.{Turn}
use Rattle.vocabulary.specs.declared.plans.Turn.TheVariants.{New, Old}
use Rattle.definitions.specs.Table.{Address}
use Rattle.definitions.specs.Calls.{Call, OpenAt, AwaitReady, Quit, Kill, Census, AwaitGone, Ask}
use Rattle.definitions.specs.Master.{Crew, fork_of}
use Rattle.definitions.specs.Run.{Tree, Branches, Ends, Does, Nothing, Branch, Order, Make, ForkLacking, AwaitLacking}
use Rattle.definitions.specs.Run.{KillLacking, End}
use Rattle.definitions.specs.Plans.{tells, round, settle, full_end, short_end, forks, awaits, starts, forks_any}
use Rattle.definitions.specs.Plans.{awaits_any, starts_any}
use Rattle.definitions.specs.Plans.{awaits_gone, opens, graft, graft_all, beside, beside_all, weave, weave_all}
use Rattle.definitions.specs.Plans.{tries_all, asks, Step, Rollout, quits_new, taken_back, in_steps, last_step}
use Rattle.definitions.specs.Plans.{reload_on, closes_opened, only_in, stepped_tree}

-- each step passes, with its edges, and so does each end
abbrev mutual
  pub Nodes : (ℕ → Order → Branches → Type 0) → (End → Type 0) → Tree → Type 0
  Nodes P E (Ends end) = E end
  Nodes P E (Does by order set branches) = P by order branches × NodesAll P E branches

  pub NodesAll : (ℕ → Order → Branches → Type 0) → (End → Type 0) → Branches → Type 0
  NodesAll P E Nothing = ⊤
  NodesAll P E (Branch replies said rest more) = Nodes P E rest × NodesAll P E more

module _ (P : ℕ → Order → Branches → Type 0) (E : End → Type 0) where
  -- a step passes whatever its edges are
  abbrev pub Always : ℕ → Order → Type 0
  Always by order = (bs : Branches) → P by order bs

  -- all that a settle of a crew asks for
  pub record Settles (by : ℕ) (g : Generation) : Type 0 where
    pub forks : (crew : Crew) → crew.generation ≡ g → Always by (ForkLacking crew)
    pub awaits : Always by (AwaitLacking g)
    pub kills : Always by (KillLacking g)
    pub counts : Always by (Make (Census g))

  -- and starts and waits by number
  pub record Numbers (by : ℕ) (g : Generation) : Type 0 where
    pub forks : (crew : Crew) (k : ℕ) → crew.generation ≡ g → Always by (Make (fork_of crew k))
    pub awaits : (k : ℕ) → Always by (Make (AwaitReady g k))
    pub kills : (k : ℕ) → Always by (Make (Kill g k))
    pub gones : (k : ℕ) → Always by (Make (AwaitGone g k))

  pub n-tells : (by : ℕ) (calls : List Call) (rest : Tree) → AllByRecursion (λ c. Always by (Make c)) calls →
      Nodes P E rest → Nodes P E (tells by calls rest)
  n-tells by [] rest all h = h
  n-tells by (c ∷ cs) rest all h = (all.0 _, (n-tells by cs rest all.1 h, tt))

  pub n-map : {X : Type 0} (by : ℕ) (f : X → Call) (xs : List X) → ((x : X) → Always by (Make (f x))) → AllByRecursion
      (λ c. Always by (Make c)) (map f xs)
  n-map by f [] h = tt
  n-map by f (x ∷ xs) h = (h x, n-map by f xs h)

  n-round : (by : ℕ) (crew : Crew) (rest : Tree) → Settles by crew.generation → Nodes P E rest → Nodes P E
      (round by crew rest)
  n-round by crew rest s h = (s.forks crew refl _, ((s.awaits _, (h, ((s.kills _, (h, tt)), tt))), (h, tt)))

  pub n-settle :
      (by : ℕ) (crew : Crew) (set : List ℕ) (sd : Side) (rounds : ℕ) → Settles by crew.generation → E (full_end sd) → E
      (short_end sd) →
      Nodes P E (settle by crew set sd rounds)
  n-settle by crew set sd zero s full short = (s.counts _, (full, (short, tt)))
  n-settle by crew set sd (suc rounds) s full short = (
    s.counts _,
    (
      full,
      (
        n-round by crew (settle by crew set sd rounds) s
            (n-settle by crew set sd rounds s full short),
        tt,
      ),
    ),
  )

  n-forks :
      (by : ℕ) (crew : Crew) (ks done : List ℕ) (ok bad : List ℕ → Tree) → Numbers by crew.generation →
      ((l : List ℕ) → Nodes P E (ok l)) → ((l : List ℕ) → Nodes P E (bad l)) → Nodes P E (forks by crew ks done ok bad)
  n-forks by crew [] done ok bad s o b = o done
  n-forks by crew (k ∷ ks) done ok bad s o b = (
    s.forks crew k refl _,
    (
      n-forks by crew ks (k ∷ done) ok bad s o b,
      (b done, tt),
    ),
  )

  n-awaits : (by : ℕ) (g : Generation) (ks : List ℕ) (ok bad : Tree) → Numbers by g → Nodes P E ok → Nodes P E bad →
      Nodes P E (awaits by g ks ok bad)
  n-awaits by g [] ok bad s o b = o
  n-awaits by g (k ∷ ks) ok bad s o b = (
    s.awaits k _,
    (
      n-awaits by g ks ok bad s o b,
      (
        b,
        (
          (
            s.kills k _,
            (b, tt),
          ),
          tt,
        ),
      ),
    ),
  )

  pub n-starts :
      (by : ℕ) (crew : Crew) (ks : List ℕ) (ok : Tree) (bad : List ℕ → Tree) → Numbers by crew.generation →
      Nodes P E ok →
      ((l : List ℕ) → Nodes P E (bad l)) → Nodes P E (starts by crew ks ok bad)
  n-starts by crew ks ok bad s o b =
      n-forks by crew ks [] (λ forked. awaits by crew.generation ks ok (bad forked)) bad s
      (λ l. n-awaits by crew.generation ks ok (bad l) s o (b l)) b

  n-forks-any : (by : ℕ) (crew : Crew) (ks : List ℕ) (rest : Tree) → Numbers by crew.generation → Nodes P E rest →
      Nodes P E (forks_any by crew ks rest)
  n-forks-any by crew [] rest s h = h
  n-forks-any by crew (k ∷ ks) rest s h = (s.forks crew k refl _, (n-forks-any by crew ks rest s h, tt))

  n-awaits-any : (by : ℕ) (g : Generation) (ks : List ℕ) (rest : Tree) → Numbers by g → Nodes P E rest → Nodes P E
      (awaits_any by g ks rest)
  n-awaits-any by g [] rest s h = h
  n-awaits-any by g (k ∷ ks) rest s h =
      let more = n-awaits-any by g ks rest s h in (s.awaits k _, (more, ((s.kills k _, (more, tt)), tt)))

  pub n-starts-any : (by : ℕ) (crew : Crew) (ks : List ℕ) (rest : Tree) → Numbers by crew.generation → Nodes P E rest →
      Nodes P E (starts_any by crew ks rest)
  n-starts-any by crew ks rest s h = n-forks-any by crew ks (awaits_any by crew.generation ks rest) s
      (n-awaits-any by crew.generation ks rest s h)

  pub n-gone : (by : ℕ) (g : Generation) (ks : List ℕ) (rest : Tree) → Numbers by g → Nodes P E rest → Nodes P E
      (awaits_gone by g ks rest)
  n-gone by g [] rest s h = h
  n-gone by g (k ∷ ks) rest s h =
      let more = n-gone by g ks rest s h in (s.gones k _, (more, ((s.kills k _, (more, tt)), tt)))

  pub n-opens :
      (by : ℕ) (l done : List Address) (ok bad : List Address → Tree) → AllByRecursion (λ a. Always by (Make
      (OpenAt a))) l →
      (Q : Address → Type 0) → AllByRecursion Q l → AllByRecursion Q done → ((o : List Address) → AllByRecursion Q o →
      Nodes P E (ok o)) →
      ((o : List Address) → AllByRecursion Q o → Nodes P E (bad o)) → Nodes P E (opens by l done ok bad)
  n-opens by [] done ok bad all Q q d o b = o done d
  n-opens by (a ∷ l) done ok bad all Q q d o b = (
    all.0 _,
    (
      n-opens by l (a ∷ done) ok bad all.1 Q q.1 (q.0, d) o b,
      (b done d, tt),
    ),
  )

  pub n-tries-all : (by : ℕ) (calls : List Call) (rest back : Tree) → AllByRecursion (λ c. Always by (Make c)) calls →
      Nodes P E rest → Nodes P E back → Nodes P E (tries_all by calls rest back)
  n-tries-all by [] rest back all h b = h
  n-tries-all by (c ∷ cs) rest back all h b = (all.0 _, (n-tries-all by cs rest back all.1 h b, (b, tt)))

  ---- A reload in steps

  -- all that the steps of a reload ask for, beside the starts and waits by number
  pub record Renews (by : ℕ) (old new : Generation) : Type 0 where
    pub quits_old : (k : ℕ) → Always by (Make (Quit old k))
    pub quits_new : (k : ℕ) → Always by (Make (Quit new k))
    pub counts : Always by (Make (Census new))
    pub asks : Always by (Make (Ask 1))

  module _ (by : ℕ) (old new : Crew) (before : Numbers by old.generation) (after : Numbers by new.generation)
      (renews : Renews by old.generation new.generation) where
    n-quits-new : (waits : Bool) (numbers : List ℕ) (back : Tree) (forked : List ℕ) → Nodes P E back →
        Nodes P E (quits_new by new waits numbers back forked)
    n-quits-new waits numbers back forked h =
        n-tells by (map (Quit new.generation) forked) _ (n-map by (Quit new.generation) forked renews.quits_new)
        (waited waits)
      where
        waited : (b : Bool) →
            Nodes P E (if b then awaits_gone by new.generation (reverse numbers) back else back)
        waited true = n-gone by new.generation (reverse numbers) back after h
        waited false = h

    n-asks : (asked : Bool) (on_go on_back : Tree) → Nodes P E on_go → Nodes P E on_back → Nodes P E
        (asks asked by 1 on_go on_back)
    n-asks true on_go on_back h k = (renews.asks _, (h, (k, tt)))
    n-asks false on_go on_back h k = h

    n-in-steps :
        (asked first : Bool) (steps : List Step) (last : Bool → Tree → Tree) (back : Tree) →
        ((first : Bool) (back : Tree) → Nodes P E back → Nodes P E (last first back)) → Nodes P E back →
        Nodes P E (in_steps asked first by old new steps last back)
    n-in-steps asked first [] last back ending h = ending first back h
    n-in-steps asked first (step ∷ steps) last back ending h =
        n-starts by new step.starts _ (quits_new by new (not first) step.starts back) after
        (n-asks (asked && first) _ _
        (n-tells by (map (Quit old.generation) (reverse step.quits)) _
        (n-map by (Quit old.generation) (reverse step.quits) renews.quits_old)
        (n-gone by old.generation (reverse step.quits) _ before
        (n-in-steps asked false steps last (taken_back by old new (not first) step back) ending
        (n-starts-any by old step.quits _ before
        (n-quits-new (not first) step.starts back (reverse step.starts) h)))))
        (n-quits-new (not first) step.starts back (reverse step.starts) h))
        (λ forked. n-quits-new (not first) step.starts back forked h)

    n-last-step :
        (asked : Bool) (numbers left : List ℕ) (retries : ℕ) (dropped : List Address) (n : ℕ) (first : Bool)
        (back : Tree) → Nodes P E (reload_on by old new left retries dropped n) → Nodes P E back →
        Nodes P E (last_step asked by old new numbers left retries dropped n first back)
    n-last-step asked numbers left retries dropped n first back on h =
        let undone : (forked : List ℕ) → Nodes P E (quits_new by new (not first) numbers back forked) =
        λ forked. n-quits-new (not first) numbers back forked h in
        n-starts by new numbers _ (quits_new by new (not first) numbers back) after
        (renews.counts _, (n-asks (asked && first) _ _ on (undone (reverse numbers)), (undone (reverse numbers), tt)))
        undone

    pub n-stepped :
        (asked : Bool) (ready : List ℕ) (retries : ℕ) (held wanted : List Address) (n : ℕ) (rollout : Rollout) →
        AllByRecursion (λ a. Always by (Make (OpenAt a))) (only_in wanted held) → (Q : Address → Type 0) →
        AllByRecursion Q (only_in wanted held) →
        Nodes P E (reload_on by old new rollout.left retries (only_in held wanted) n) →
        ((opened : List Address) → AllByRecursion Q opened → Nodes P E (closes_opened by old ready retries opened)) →
        Nodes P E (stepped_tree asked by old new ready retries held wanted n rollout)
    n-stepped asked ready retries held wanted n rollout all Q q on back =
        n-opens by (only_in wanted held) []
        (λ opened. in_steps asked true by old new rollout.steps
        (last_step asked by old new rollout.last rollout.left retries (only_in held wanted) n)
        (closes_opened by old ready retries opened))
        (closes_opened by old ready retries) all Q q tt
        (λ opened o. n-in-steps asked true rollout.steps
        (last_step asked by old new rollout.last rollout.left retries (only_in held wanted) n)
        (closes_opened by old ready retries opened)
        (λ first back h. n-last-step asked rollout.last rollout.left retries (only_in held wanted) n first back on h)
        (back opened o))
        back

  ---- Two parts side by side, of which each step passes whatever its edges are

  abbrev pub PartNodes : Tree → Type 0
  PartNodes t = Nodes (λ by order bs. Always by order) (λ e. ⊤) t

  mutual
    n-graft : (join : End → Tree) → ((e : End) → Nodes P E (join e)) → (t : Tree) → PartNodes t → Nodes P E
        (graft join t)
    n-graft join j (Ends end) h = j end
    n-graft join j (Does by order set branches) h = (h.0 _, n-graft-all join j branches h.1)

    n-graft-all : (join : End → Tree) → ((e : End) → Nodes P E (join e)) → (bs : Branches) → NodesAll
        (λ by order bs. Always by order) (λ e. ⊤) bs → NodesAll P E (graft_all join bs)
    n-graft-all join j Nothing h = tt
    n-graft-all join j (Branch replies said rest more) h = (n-graft join j rest h.0, n-graft-all join j more h.1)

  mutual
    n-beside : (goes : List Turn → Tree → Tree) → ((turns : List Turn) (old : Tree) → PartNodes old → Nodes P E
        (goes turns old)) → (turns : List Turn) (old : Tree) → PartNodes old → Nodes P E (beside goes turns old)
    n-beside goes g turns (Ends end) h = g turns (Ends end) h
    n-beside goes g [] (Does by order set branches) h = g [] (Does by order set branches) h
    n-beside goes g (New ∷ turns) (Does by order set branches) h = g turns (Does by order set branches) h
    n-beside goes g (Old ∷ turns) (Does by order set branches) h = (h.0 _, n-beside-all goes g turns branches h.1)

    n-beside-all : (goes : List Turn → Tree → Tree) → ((turns : List Turn) (old : Tree) → PartNodes old → Nodes P E
        (goes turns old)) → (turns : List Turn) (bs : Branches) → NodesAll (λ by order bs. Always by order)
        (λ e. ⊤) bs → NodesAll P E (beside_all goes turns bs)
    n-beside-all goes g turns Nothing h = tt
    n-beside-all goes g turns (Branch replies said rest more) h =
        (n-beside goes g turns rest h.0, n-beside-all goes g turns more h.1)

  mutual
    pub n-weave : (join : End → Tree) → ((e : End) → Nodes P E (join e)) → (new : Tree) → PartNodes new →
        (turns : List Turn) (old : Tree) → PartNodes old → Nodes P E (weave join new turns old)
    n-weave join j (Ends end) n turns old o = n-graft (λ e. join end) (λ e. j end) old o
    n-weave join j (Does by order set branches) n turns old o =
        n-beside (λ later still. Does by order set (weave_all join branches later still))
        (λ later still h. (n.0 _, n-weave-all join j branches n.1 later still h)) turns old o

    n-weave-all : (join : End → Tree) → ((e : End) → Nodes P E (join e)) → (bs : Branches) → NodesAll
        (λ by order bs. Always by order) (λ e. ⊤) bs → (turns : List Turn) (old : Tree) → PartNodes old → NodesAll P E
        (weave_all join bs turns old)
    n-weave-all join j Nothing n turns old o = tt
    n-weave-all join j (Branch replies said rest more) n turns old o =
        (n-weave join j rest n.0 turns old o, n-weave-all join j more n.1 turns old o)
