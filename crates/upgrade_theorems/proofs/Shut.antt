-- What a plan asks for only after an answer that opens the way: piece by piece, and along a run.
use Rattle.std.proofs.Common.{◌≡◌, ℕ, ◌+◌, Bool, true, false, List, [], ◌∷◌}
use Rattle.std.proofs.Common.{map, Option, Some, None, inl, inr, refl}
use Rattle.std.specs.Prelude.{⊤, ◌⊎◌}
use Rattle.std.specs.List.{AllByRecursion}
use Rattle.listener_set.specs.declared.generation.Generation.{Generation}
use Rattle.vocabulary.specs.declared.plans.Turn.{Turn}
use Rattle.vocabulary.specs.declared.plans.Turn.TheVariants.{New, Old}
use Rattle.vocabulary.specs.declared.calls.Answer.{Answer}
use Rattle.vocabulary.specs.declared.reports.Entry.{Entry}
use Rattle.definitions.specs.Calls.{Call, Quit, Kill, AwaitGone, Handed}
use Rattle.definitions.specs.Run.{Tree, Branches, Ends, Does, Nothing, Branch, Order, Make, End, Pattern, Progress}
use Rattle.definitions.specs.Run.{Ran, run_with, goes_with, call_of, lacked_by, after_moment, after_call, reply_of}
use Rattle.definitions.specs.Plans.{tells, awaits_gone, graft, graft_all, beside, beside_all, weave, weave_all}
use Rattle.definitions.specs.Plans.{tries_all}
use Rattle.call_laws.specs.Pieces.{answered, noted, among}
use Rattle.further_theorems.proofs.Nodes.{Nodes, NodesAll}
use Rattle.upgrade_theorems.specs.First.{OnlyAfter}

module _ (bad : ℕ → Call → Bool) (opens : ℕ → Call → Answer → Bool) where
  -- a step that is none of those that have to wait
  abbrev pub Harmless : ℕ → Order → Branches → Type 0
  Harmless by order bs = (lacking : List ℕ) → bad by (call_of order lacking) ≡ false

  abbrev pub Any : End → Type 0
  Any e = ⊤

  abbrev pub Calm : Tree → Type 0
  Calm t = Nodes Harmless Any t

  -- each answer that takes these edges opens the way
  abbrev pub Opening : ℕ → Order → List ℕ → List Rattle.definitions.specs.Run.Reply → Type 0
  Opening by order set replies =
      (lacking : List ℕ) (a : Answer) → among replies (reply_of set a) ≡ true →
      opens by (call_of order lacking) a ≡ true

  abbrev mutual
    pub Shut : Tree → Type 0
    Shut (Ends end) = ⊤
    Shut (Does by order set bs) = Harmless by order bs × ShutAll by order set bs

    pub ShutAll : ℕ → Order → List ℕ → Branches → Type 0
    ShutAll by order set Nothing = ⊤
    ShutAll by order set (Branch replies said rest more) =
        (Shut rest ⊎ Opening by order set replies) × ShutAll by order set more

  mutual
    pub calm-shut : (t : Tree) → Calm t → Shut t
    calm-shut (Ends end) h = tt
    calm-shut (Does by order set bs) h = (h.0, calm-all by order set bs h.1)

    calm-all : (by : ℕ) (order : Order) (set : List ℕ) (bs : Branches) → NodesAll Harmless Any bs → ShutAll by order
        set bs
    calm-all by order set Nothing h = tt
    calm-all by order set (Branch replies said rest more) h = (inl (calm-shut rest h.0), calm-all by order set more h.1)

  ---- Pieces before what is shut

  pub shut-tells :
      (by : ℕ) (calls : List Call) (rest : Tree) → AllByRecursion (λ c. bad by c ≡ false) calls → Shut rest →
      Shut (tells by calls rest)
  shut-tells by [] rest all h = h
  shut-tells by (c ∷ cs) rest all h = ((λ lacking. all.0), (inl (shut-tells by cs rest all.1 h), tt))

  pub shut-gone :
      (by : ℕ) (g : Generation) (ks : List ℕ) (rest : Tree) → ((k : ℕ) → bad by (AwaitGone g k) ≡ false) →
      ((k : ℕ) → bad by (Kill g k) ≡ false) → Shut rest → Shut (awaits_gone by g ks rest)
  shut-gone by g [] rest w k h = h
  shut-gone by g (x ∷ xs) rest w k h =
      let more = shut-gone by g xs rest w k h in
      ((λ lacking. w x), (inl more, (inl ((λ lacking. k x), (inl more, tt)), tt)))

  pub shut-tries :
      (by : ℕ) (calls : List Call) (rest back : Tree) → AllByRecursion (λ c. bad by c ≡ false) calls → Shut rest →
      Shut back → Shut (tries_all by calls rest back)
  shut-tries by [] rest back all h b = h
  shut-tries by (c ∷ cs) rest back all h b = (
    (λ lacking. all.0),
    (inl (shut-tries by cs rest back all.1 h b), (inl b, tt)),
  )

  ---- Two parts side by side

  mutual
    pub shut-graft : (join : End → Tree) → ((e : End) → Shut (join e)) → (t : Tree) → Calm t → Shut (graft join t)
    shut-graft join j (Ends end) h = j end
    shut-graft join j (Does by order set bs) h = (h.0, shut-graft-all join j by order set bs h.1)

    shut-graft-all :
        (join : End → Tree) → ((e : End) → Shut (join e)) → (by : ℕ) (order : Order) (set : List ℕ) (bs : Branches) →
        NodesAll Harmless Any bs → ShutAll by order set (graft_all join bs)
    shut-graft-all join j by order set Nothing h = tt
    shut-graft-all join j by order set (Branch replies said rest more) h =
        (inl (shut-graft join j rest h.0), shut-graft-all join j by order set more h.1)

  mutual
    pub shut-beside :
        (goes : List Turn → Tree → Tree) → ((turns : List Turn) (old : Tree) → Calm old → Shut (goes turns old)) →
        (turns : List Turn) (old : Tree) → Calm old → Shut (beside goes turns old)
    shut-beside goes g turns (Ends end) h = g turns (Ends end) h
    shut-beside goes g [] (Does by order set bs) h = g [] (Does by order set bs) h
    shut-beside goes g (New ∷ turns) (Does by order set bs) h = g turns (Does by order set bs) h
    shut-beside goes g (Old ∷ turns) (Does by order set bs) h = (h.0, shut-beside-all goes g turns by order set bs h.1)

    shut-beside-all :
        (goes : List Turn → Tree → Tree) → ((turns : List Turn) (old : Tree) → Calm old → Shut (goes turns old)) →
        (turns : List Turn) (by : ℕ) (order : Order) (set : List ℕ) (bs : Branches) → NodesAll Harmless Any bs →
        ShutAll by order set (beside_all goes turns bs)
    shut-beside-all goes g turns by order set Nothing h = tt
    shut-beside-all goes g turns by order set (Branch replies said rest more) h =
        (inl (shut-beside goes g turns rest h.0), shut-beside-all goes g turns by order set more h.1)

  mutual
    pub shut-weave :
        (join : End → Tree) → ((e : End) → Shut (join e)) → (new : Tree) → Calm new → (turns : List Turn)
        (old : Tree) → Calm old → Shut (weave join new turns old)
    shut-weave join j (Ends end) n turns old o = shut-graft (λ e. join end) (λ e. j end) old o
    shut-weave join j (Does by order set bs) n turns old o =
        shut-beside (λ later still. Does by order set (weave_all join bs later still))
        (λ later still h. (n.0, shut-weave-all join j by order set bs n.1 later still h)) turns old o

    shut-weave-all :
        (join : End → Tree) → ((e : End) → Shut (join e)) → (by : ℕ) (order : Order) (set : List ℕ) (bs : Branches) →
        NodesAll Harmless Any bs → (turns : List Turn) (old : Tree) → Calm old →
        ShutAll by order set (weave_all join bs turns old)
    shut-weave-all join j by order set Nothing n turns old o = tt
    shut-weave-all join j by order set (Branch replies said rest more) n turns old o =
        (inl (shut-weave join j rest n.0 turns old o), shut-weave-all join j by order set more n.1 turns old o)

  ---- Along a run

  abbrev pub opened : Entry → Bool
  opened e = opens e.by e.call e.answer

  abbrev pub waits : Entry → Bool
  waits e = bad e.by e.call

  module _ (handed : Handed) (pattern : Pattern) where
    mutual
      pub shut-run : (t : Tree) (p : Progress) → Shut t → OnlyAfter opened waits (run_with handed t pattern p).entries
      shut-run (Ends end) p h = tt
      shut-run (Does by order set bs) p h =
          let middle = after_moment (pattern (p.calls + 1)).exits p in
          let s = answered handed by order (pattern (p.calls + 1)).fate middle in (
            h.0 (lacked_by by middle.lacked),
            λ closed. shut-behind by order set (lacked_by by middle.lacked) s.answer bs
                (after_call by order set s middle) h.1 closed,
          )

      shut-behind :
          (by : ℕ) (order : Order) (set lacking : List ℕ) (a : Answer) (bs : Branches) (p : Progress) →
          ShutAll by order set bs → opens by (call_of order lacking) a ≡ false →
          OnlyAfter opened waits (goes_with handed bs (reply_of set a) pattern p).entries
      shut-behind by order set lacking a Nothing p h closed = tt
      shut-behind by order set lacking a (Branch replies said rest more) p h closed =
          elim (among replies (reply_of set a)) as
          (λ b. (b ≡ true → Shut rest) → OnlyAfter opened waits (elim b as (λ c. Ran) [
            | true ↦ run_with handed rest pattern (noted said p)
            | false ↦ goes_with handed more (reply_of set a) pattern p
          ]).entries) [
            | true ↦ λ k. shut-run rest (noted said p) (k refl)
            | false ↦ λ k. shut-behind by order set lacking a more p h.1 closed
          ] (still h.0)
        where
          still : Shut rest ⊎ Opening by order set replies → among replies (reply_of set a) ≡ true → Shut rest
          still (inl shut) e = shut
          still (inr opening) e = absurd (let f : opens by (call_of order lacking) a ≡ true = opening lacking a e in cc)
