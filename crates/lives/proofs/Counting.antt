-- Every end of a plan but a stop's stands right behind a count of its side's set; and what that says of the workers that
-- are lacking then.
use Rattle.std.proofs.Common.{◌≡◌, ℕ, zero, suc, ◌+◌, Bool, true, false, not, List, [], ◌∷◌, ◌++◌, Option, Some, None, refl, sym, ap, ◌∙◌, subst}
use Rattle.std.specs.Prelude.{⊤, filter, map, reverse, nat_lt, ◌||◌, ◌&&◌, if◌then◌else◌}
use Rattle.listener_set.specs.Numbers.{numbers_below, is_in, lacks}
use Rattle.listener_set.specs.declared.generation.Generation.{Generation}
use Rattle.vocabulary.specs.declared.plans.PidNote.{PidNote}
use Rattle.vocabulary.specs.declared.plans.PidNote.TheVariants.{InPlace, AtOldbin, OldbinLeft, Left, NoFile}
use Rattle.vocabulary.specs.declared.plans.Turn.{Turn}
use Rattle.vocabulary.specs.declared.plans.Turn.TheVariants as turn
use Rattle.vocabulary.specs.declared.plans.Side.TheVariants as side
use Rattle.vocabulary.specs.declared.calls.Reply.TheVariants as reply
use Rattle.vocabulary.specs.declared.calls.Answer.TheVariants as answer
use Rattle.vocabulary.specs.declared.calls.Answer.{Answer}
use Rattle.vocabulary.specs.declared.calls.Reply.{Reply}
use Rattle.vocabulary.specs.declared.calls.Call.{Call}
use Rattle.vocabulary.specs.declared.calls.Call.TheVariants.{Quit, Kill, CloseAt, TermMaster, Leave, Census, WritePid, SpawnMaster, AwaitGone, OpenAt, Ask, MovePid, Alive, Usr1}
use Rattle.definitions.specs.Table.{Address, FilePath, Table}
use Rattle.definitions.specs.Calls.{Handed, gives}
use Rattle.definitions.specs.Master.{Crew, Record, Target, Workers, Mend, Reopen, Reload, Upgrade, Attended, Stop, crew_of, addresses_of, fork_of, oldbin}
use Rattle.definitions.specs.Master.{numbers_wanted}
use Rattle.definitions.specs.Run.{Tree, Branches, Ends, Does, Nothing, Branch, Order, End, Done, RolledBack, ShortOld, ShortTarget, Split, JoinReady, JoinBack, Join}
use Rattle.definitions.specs.Run.{Side, plain_reply, reply_of, Pattern, Progress, Ending, At, Lost, Ran, run_with, goes_with, after_moment, after_call}
use Rattle.definitions.specs.After.{crew_wanted}
use Rattle.definitions.specs.Plans.{plan_tree, full_end, short_end, round, settle, forks, awaits, starts, forks_any, awaits_any, starts_any}
use Rattle.definitions.specs.Plans.{awaits_gone, opens, either, tells, tries, tries_all, asks, reload_on, rollout_of, Step, Rollout}
use Rattle.definitions.specs.Plans.{quits_new, taken_back, in_steps, last_step, closes_opened, stepped_tree}
use Rattle.definitions.specs.Plans.{graft, graft_all, beside, beside_all, weave, weave_all, joined, move_aside, move_back, remove_oldbin, back_alone, back_from}
use Rattle.definitions.specs.Plans.{back_late, back_serving, hand_over, retire, relieve, taken_over, upgrade_tree, new_part, old_part, pid_calls}
use Rattle.definitions.specs.Plans.{only_in, failed_replies}
use Rattle.call_laws.specs.Pieces.{among, noted, answered, lacked_last, full_or_short}

module _ (old target : List ℕ) where
  -- what an end says of the set that the count before it was to contain
  abbrev pub IsCounted : List ℕ → List Reply → End → Type 0
  IsCounted set replies Done = (set ≡ target) × (replies ≡ reply.Full ∷ [])
  IsCounted set replies RolledBack = (set ≡ old) × (replies ≡ reply.Full ∷ [])
  IsCounted set replies ShortOld = (set ≡ old) × (replies ≡ reply.Short ∷ [])
  IsCounted set replies ShortTarget = (set ≡ target) × (replies ≡ reply.Short ∷ [])
  IsCounted set replies Split = ⊥
  IsCounted set replies JoinReady = ⊥
  IsCounted set replies JoinBack = ⊥
  IsCounted set replies Join = ⊥

  abbrev mutual
    pub AllCount : List ℕ → Branches → Type 0
    AllCount set Nothing = ⊤
    AllCount set (Branch replies said rest more) = EndsAfter set replies rest × AllCount set more

    pub EndsAfter : List ℕ → List Reply → Tree → Type 0
    EndsAfter set replies (Ends end) = IsCounted set replies end
    EndsAfter set replies (Does by order set' branches) = AllCount set' branches

  -- each end of the tree stands behind a count
  abbrev pub Counts : Tree → Type 0
  Counts (Ends end) = ⊥
  Counts (Does by order set branches) = AllCount set branches

  edge : (set : List ℕ) (replies : List Reply) (rest : Tree) → Counts rest → EndsAfter set replies rest
  edge set replies (Ends end) h = absurd h
  edge set replies (Does by order set' branches) h = h

  ---- The pieces of plans

  abbrev IsSideSet : List ℕ → Side → Type 0
  IsSideSet set side.Old = set ≡ old
  IsSideSet set side.Target = set ≡ target

  either-counts : (by : ℕ) (call : Call) (set : List ℕ) (ok bad : Tree) → Counts ok → Counts bad → Counts (either by call set ok bad)
  either-counts by call set ok bad h k = (edge set (plain_reply call ∷ []) ok h, (edge set (failed_replies call) bad k, tt))

  tells-counts : (by : ℕ) (calls : List Call) (rest : Tree) → Counts rest → Counts (tells by calls rest)
  tells-counts by [] rest h = h
  tells-counts by (call ∷ calls) rest h = (edge [] (reply.Fine ∷ []) (tells by calls rest) (tells-counts by calls rest h), tt)

  round-counts : (by : ℕ) (crew : Crew) (rest : Tree) → Counts rest → Counts (round by crew rest)
  round-counts by crew rest h = ((edge [] (reply.IsReady ∷ reply.Gone ∷ []) rest h, ((edge [] (reply.Fine ∷ []) rest h, tt), tt)), (edge [] (reply.Again ∷ reply.NoMemory ∷ []) rest h, tt))

  ends-counted : (set : List ℕ) (s : Side) → IsSideSet set s → IsCounted set (reply.Full ∷ []) (full_end s) × IsCounted set (reply.Short ∷ []) (short_end s)
  ends-counted set side.Old e = ((e, refl), (e, refl))
  ends-counted set side.Target e = ((e, refl), (e, refl))

  settle-counts : (by : ℕ) (crew : Crew) (set : List ℕ) (s : Side) (rounds : ℕ) → IsSideSet set s → Counts (settle by crew set s rounds)
  settle-counts by crew set s zero e = let c = ends-counted set s e in (c.0, (c.1, tt))
  settle-counts by crew set s (suc rounds) e =
      let c = ends-counted set s e in
      (c.0, (round-counts by crew (settle by crew set s rounds) (settle-counts by crew set s rounds e), tt))

  forks-counts :
      (by : ℕ) (crew : Crew) (ks done : List ℕ) (ok bad : List ℕ → Tree) → ((d : List ℕ) → Counts (ok d)) →
      ((d : List ℕ) → Counts (bad d)) → Counts (forks by crew ks done ok bad)
  forks-counts by crew [] done ok bad h k = h done
  forks-counts by crew (x ∷ ks) done ok bad h k =
      either-counts by (fork_of crew x) [] (forks by crew ks (x ∷ done) ok bad) (bad done) (forks-counts by crew ks (x ∷ done) ok bad h k) (k done)

  awaits-counts : (by : ℕ) (g : Generation) (ks : List ℕ) (ok bad : Tree) → Counts ok → Counts bad → Counts (awaits by g ks ok bad)
  awaits-counts by g [] ok bad h k = h
  awaits-counts by g (x ∷ ks) ok bad h k =
      (edge [] (reply.IsReady ∷ []) (awaits by g ks ok bad) (awaits-counts by g ks ok bad h k), (edge [] (reply.Gone ∷ []) bad k, ((edge [] (reply.Fine ∷ []) bad k, tt), tt)))

  starts-counts : (by : ℕ) (crew : Crew) (ks : List ℕ) (ok : Tree) (bad : List ℕ → Tree) → Counts ok → ((d : List ℕ) → Counts (bad d)) → Counts (starts by crew ks ok bad)
  starts-counts by crew ks ok bad h k =
      forks-counts by crew ks [] (λ forked. awaits by crew.generation ks ok (bad forked)) bad
      (λ d. awaits-counts by crew.generation ks ok (bad d) h (k d)) k

  forks-any-counts : (by : ℕ) (crew : Crew) (ks : List ℕ) (rest : Tree) → Counts rest → Counts (forks_any by crew ks rest)
  forks-any-counts by crew [] rest h = h
  forks-any-counts by crew (x ∷ ks) rest h = (edge [] (reply.Forked ∷ reply.Again ∷ reply.NoMemory ∷ []) (forks_any by crew ks rest) (forks-any-counts by crew ks rest h), tt)

  awaits-any-counts : (by : ℕ) (g : Generation) (ks : List ℕ) (rest : Tree) → Counts rest → Counts (awaits_any by g ks rest)
  awaits-any-counts by g [] rest h = h
  awaits-any-counts by g (x ∷ ks) rest h =
      let ih = awaits-any-counts by g ks rest h in
      (edge [] (reply.IsReady ∷ reply.Gone ∷ []) (awaits_any by g ks rest) ih, ((edge [] (reply.Fine ∷ []) (awaits_any by g ks rest) ih, tt), tt))

  starts-any-counts : (by : ℕ) (crew : Crew) (ks : List ℕ) (rest : Tree) → Counts rest → Counts (starts_any by crew ks rest)
  starts-any-counts by crew ks rest h =
      forks-any-counts by crew ks (awaits_any by crew.generation ks rest) (awaits-any-counts by crew.generation ks rest h)

  gone-counts : (by : ℕ) (g : Generation) (ks : List ℕ) (rest : Tree) → Counts rest → Counts (awaits_gone by g ks rest)
  gone-counts by g [] rest h = h
  gone-counts by g (x ∷ ks) rest h =
      let ih = gone-counts by g ks rest h in
      either-counts by (AwaitGone g x) [] (awaits_gone by g ks rest) (tells by (Kill g x ∷ []) (awaits_gone by g ks rest)) ih
      (tells-counts by (Kill g x ∷ []) (awaits_gone by g ks rest) ih)

  opens-counts :
      (by : ℕ) (l done : List Address) (ok bad : List Address → Tree) → ((d : List Address) → Counts (ok d)) →
      ((d : List Address) → Counts (bad d)) → Counts (opens by l done ok bad)
  opens-counts by [] done ok bad h k = h done
  opens-counts by (a ∷ l) done ok bad h k =
      either-counts by (OpenAt a) [] (opens by l (a ∷ done) ok bad) (bad done) (opens-counts by l (a ∷ done) ok bad h k) (k done)

  tries-counts : (by : ℕ) (call : Call) (set : List ℕ) (rest back : Tree) → Counts rest → Counts back → Counts (tries by call set rest back)
  tries-counts by call set rest back h k = (edge set (plain_reply call ∷ []) rest h, (edge set (failed_replies call ++ reply.MasterGone ∷ []) back k, tt))

  tries-all-counts : (by : ℕ) (calls : List Call) (rest back : Tree) → Counts rest → Counts back → Counts (tries_all by calls rest back)
  tries-all-counts by [] rest back h k = h
  tries-all-counts by (call ∷ calls) rest back h k = tries-counts by call [] (tries_all by calls rest back) back (tries-all-counts by calls rest back h k) k

  asks-counts : (attended : Bool) (by question : ℕ) (go back : Tree) → Counts go → Counts back → Counts (asks attended by question go back)
  asks-counts true by question go back h k = either-counts by (Ask question) [] go back h k
  asks-counts false by question go back h k = h

  aside-counts : (by : ℕ) (path : Option FilePath) (note : PidNote) (ok bad : Tree) → Counts ok → Counts bad → Counts (move_aside by path note ok bad)
  aside-counts by None note ok bad h k = h
  aside-counts by (Some path) AtOldbin ok bad h k = h
  aside-counts by (Some path) InPlace ok bad h k = either-counts by (MovePid path (oldbin path)) [] ok bad h k
  aside-counts by (Some path) OldbinLeft ok bad h k = either-counts by (MovePid path (oldbin path)) [] ok bad h k
  aside-counts by (Some path) Left ok bad h k = either-counts by (MovePid path (oldbin path)) [] ok bad h k
  aside-counts by (Some path) NoFile ok bad h k = either-counts by (MovePid path (oldbin path)) [] ok bad h k

  move-back-counts : (by : ℕ) (path : Option FilePath) (rest : Tree) → Counts rest → Counts (move_back by path rest)
  move-back-counts by None rest h = h
  move-back-counts by (Some path) rest h = (edge [] (reply.Fine ∷ []) rest h, (edge [] (reply.IoFault ∷ []) rest h, tt))

  remove-counts : (by : ℕ) (path : Option FilePath) (rest : Tree) → Counts rest → Counts (remove_oldbin by path rest)
  remove-counts by None rest h = h
  remove-counts by (Some path) rest h = (edge [] (reply.Fine ∷ []) rest h, (edge [] (reply.IoFault ∷ []) rest h, tt))

  ---- Two parts

  mutual
    graft-counts : (next : End → Tree) → ((e : End) → Counts (next e)) → (t : Tree) → Counts (graft next t)
    graft-counts next h (Ends end) = h end
    graft-counts next h (Does by order set branches) = graft-all-counts next h set branches

    graft-all-counts : (next : End → Tree) → ((e : End) → Counts (next e)) → (set : List ℕ) (bs : Branches) → AllCount set (graft_all next bs)
    graft-all-counts next h set Nothing = tt
    graft-all-counts next h set (Branch replies said rest more) =
        (edge set replies (graft next rest) (graft-counts next h rest), graft-all-counts next h set more)

  mutual
    beside-counts :
        (goes : List Turn → Tree → Tree) → ((turns : List Turn) (t : Tree) → Counts (goes turns t)) → (turns : List Turn)
        (t : Tree) → Counts (beside goes turns t)
    beside-counts goes h turns (Ends end) = h turns (Ends end)
    beside-counts goes h [] (Does by order set branches) = h [] (Does by order set branches)
    beside-counts goes h (turn.New ∷ turns) (Does by order set branches) = h turns (Does by order set branches)
    beside-counts goes h (turn.Old ∷ turns) (Does by order set branches) = beside-all-counts goes h turns set branches

    beside-all-counts :
        (goes : List Turn → Tree → Tree) → ((turns : List Turn) (t : Tree) → Counts (goes turns t)) → (turns : List Turn)
        (set : List ℕ) (bs : Branches) → AllCount set (beside_all goes turns bs)
    beside-all-counts goes h turns set Nothing = tt
    beside-all-counts goes h turns set (Branch replies said rest more) =
        (edge set replies (beside goes turns rest) (beside-counts goes h turns rest), beside-all-counts goes h turns set more)

  mutual
    weave-counts : (join : End → Tree) → ((e : End) → Counts (join e)) → (new : Tree) (turns : List Turn) (t : Tree) → Counts (weave join new turns t)
    weave-counts join h (Ends end) turns t = graft-counts (λ e. join end) (λ e. h end) t
    weave-counts join h (Does by order set branches) turns t =
        beside-counts (λ later still. Does by order set (weave_all join branches later still))
        (λ later still. weave-all-counts join h set branches later still) turns t

    weave-all-counts :
        (join : End → Tree) → ((e : End) → Counts (join e)) → (set : List ℕ) (bs : Branches) (turns : List Turn) (t : Tree) →
        AllCount set (weave_all join bs turns t)
    weave-all-counts join h set Nothing turns t = tt
    weave-all-counts join h set (Branch replies said rest more) turns t =
        (edge set replies (weave join rest turns t) (weave-counts join h rest turns t), weave-all-counts join h set more turns t)

  joined-counts : (ready back : Tree) → Counts ready → Counts back → (e : End) → Counts (joined ready back e)
  joined-counts ready back h k JoinReady = h
  joined-counts ready back h k Done = k
  joined-counts ready back h k RolledBack = k
  joined-counts ready back h k ShortOld = k
  joined-counts ready back h k ShortTarget = k
  joined-counts ready back h k Split = k
  joined-counts ready back h k JoinBack = k
  joined-counts ready back h k Join = k

  ---- What a run of such a tree ends with

  -- what the last count says, and what was lacking
  abbrev pub EndCount : Ending → Progress → Type 0
  EndCount (At Done) p = lacks target p.ready ≡ []
  EndCount (At RolledBack) p = lacks old p.ready ≡ []
  EndCount (At ShortOld) p = lacked_last p.lacked ≡ lacks old p.ready
  EndCount (At ShortTarget) p = lacked_last p.lacked ≡ lacks target p.ready
  EndCount (At Split) p = ⊥
  EndCount (At JoinReady) p = ⊥
  EndCount (At JoinBack) p = ⊥
  EndCount (At Join) p = ⊥
  EndCount Lost p = ⊤

  -- after an answer
  abbrev IsSeen : List ℕ → Answer → Progress → Type 0
  IsSeen set (answer.Counted ns) q = (q.ready ≡ ns) × (lacked_last q.lacked ≡ lacks set ns)
  IsSeen set _ q = ⊤

  seen : (by : ℕ) (order : Order) (set : List ℕ) (a : Answer) (t : Table) (p : Progress) → IsSeen set a (after_call by order set (gives a t) p)
  seen by order set (answer.Counted ns) t p = (refl, refl)
  seen by order set _ t p = tt

  seen-noted : (set : List ℕ) (a : Answer) (said : Option PidNote) (q : Progress) → IsSeen set a q → IsSeen set a (noted said q)
  seen-noted set (answer.Counted ns) said q s = s
  seen-noted set _ said q s = tt

  full-is : (set : List ℕ) (a : Answer) (q : Progress) → IsSeen set a q → among (reply.Full ∷ []) (reply_of set a) ≡ true → lacks set q.ready ≡ []
  full-is set (answer.Counted ns) q s e = ap (lacks set) s.0 ∙ go (lacks set ns) e
    where
      go : (l : List ℕ) → among (reply.Full ∷ []) (full_or_short l) ≡ true → l ≡ []
      go [] e = refl
      go (x ∷ l) e = absurd (cc e)
  full-is set _ q s e = absurd (cc e)

  short-is :
      (set : List ℕ) (a : Answer) (q : Progress) → IsSeen set a q → among (reply.Short ∷ []) (reply_of set a) ≡ true →
      lacked_last q.lacked ≡ lacks set q.ready
  short-is set (answer.Counted ns) q s e = s.1 ∙ ap (lacks set) (sym s.0)
  short-is set _ q s e = absurd (cc e)

  at-end :
      (end : End) (set : List ℕ) (replies : List Reply) (a : Answer) (q : Progress) → IsCounted set replies end → IsSeen set a q →
      among replies (reply_of set a) ≡ true → EndCount (At end) q
  at-end Done set replies a q c s e =
      subst (λ l. lacks l q.ready ≡ []) c.0 (full-is set a q s (subst (λ rs. among rs (reply_of set a) ≡ true) c.1 e))
  at-end RolledBack set replies a q c s e =
      subst (λ l. lacks l q.ready ≡ []) c.0 (full-is set a q s (subst (λ rs. among rs (reply_of set a) ≡ true) c.1 e))
  at-end ShortOld set replies a q c s e =
      subst (λ l. lacked_last q.lacked ≡ lacks l q.ready) c.0 (short-is set a q s (subst (λ rs. among rs (reply_of set a) ≡ true) c.1 e))
  at-end ShortTarget set replies a q c s e =
      subst (λ l. lacked_last q.lacked ≡ lacks l q.ready) c.0 (short-is set a q s (subst (λ rs. among rs (reply_of set a) ≡ true) c.1 e))
  at-end Split set replies a q c s e = absurd c
  at-end JoinReady set replies a q c s e = absurd c
  at-end JoinBack set replies a q c s e = absurd c
  at-end Join set replies a q c s e = absurd c

  mutual
    behind-counts :
        (handed : Handed) (set : List ℕ) (bs : Branches) (a : Answer) (pattern : Pattern) (q : Progress) → AllCount set bs →
        IsSeen set a q → (let ran = goes_with handed bs (reply_of set a) pattern q in EndCount ran.ending ran.last)
    behind-counts handed set Nothing a pattern q h s = tt
    behind-counts handed set (Branch replies said rest more) a pattern q h s =
        let there = behind-counts handed set more a pattern q h.1 s in
        elim (among replies (reply_of set a)) as
        (λ b. (among replies (reply_of set a) ≡ b) → (let ran = elim b as (λ c. Ran) [ true ↦ run_with handed rest pattern (noted said q) | false ↦ goes_with handed more (reply_of set a) pattern q ] in EndCount ran.ending ran.last)) [
          | true ↦ λ e. edge-counts handed set replies rest a pattern (noted said q) h.0 (seen-noted set a said q s) e
          | false ↦ λ e. there
        ] refl

    edge-counts :
        (handed : Handed) (set : List ℕ) (replies : List Reply) (rest : Tree) (a : Answer) (pattern : Pattern) (q : Progress) →
        EndsAfter set replies rest → IsSeen set a q → among replies (reply_of set a) ≡ true →
        (let ran = run_with handed rest pattern q in EndCount ran.ending ran.last)
    edge-counts handed set replies (Ends end) a pattern q h s e = at-end end set replies a q h s e
    edge-counts handed set replies (Does by order set' branches) a pattern q h s e =
        let moment = pattern (q.calls + 1) in
        let middle = after_moment moment.exits q in
        let st = answered handed by order moment.fate middle in
        behind-counts handed set' branches st.answer pattern (after_call by order set' st middle) h (seen by order set' st.answer st.table middle)

  pub run-counts : (handed : Handed) (tree : Tree) (pattern : Pattern) (p : Progress) → Counts tree → (let ran = run_with handed tree pattern p in EndCount ran.ending ran.last)
  run-counts handed (Ends end) pattern p h = absurd h
  run-counts handed (Does by order set branches) pattern p h =
      let moment = pattern (p.calls + 1) in
      let middle = after_moment moment.exits p in
      let s = answered handed by order moment.fate middle in
      behind-counts handed set branches s.answer pattern (after_call by order set s middle) h (seen by order set s.answer s.table middle)

---- Each plan but a stop's

module _ (r : Record) where
  back-alone-counts :
      (target : List ℕ) (by : ℕ) (crew : Crew) (path : Option FilePath) → Counts r.ready target (back_alone by crew r.ready r.retries path)
  back-alone-counts target by crew path =
      move-back-counts r.ready target by path (settle by crew r.ready side.Old r.retries) (settle-counts r.ready target by crew r.ready side.Old r.retries refl)

  back-from-counts :
      (target : List ℕ) (by heir : ℕ) (crew : Crew) (path : Option FilePath) → Counts r.ready target (back_from by heir crew r.ready r.retries path)
  back-from-counts target by heir crew path =
      tells-counts r.ready target by (TermMaster heir ∷ []) (back_alone by crew r.ready r.retries path) (back-alone-counts target by crew path)

  retire-counts :
      (by : ℕ) (old new : Crew) (path : Option FilePath) (n : ℕ) → Counts r.ready (numbers_below n) (retire by old new r.ready r.retries path n)
  retire-counts by old new path n =
      let target = numbers_below n in
      let heir = new.generation.image in
      either-counts r.ready target by (Alive heir) [] (hand_over by new r.retries path n) (back_late by heir old r.ready r.retries path)
      (tells-counts r.ready target by (Leave ∷ []) (remove_oldbin heir path (settle heir new target side.Target r.retries))
      (remove-counts r.ready target heir path (settle heir new target side.Target r.retries) (settle-counts r.ready target heir new target side.Target r.retries refl)))
      (tells-counts r.ready target by (TermMaster heir ∷ []) (starts_any by old r.ready (back_alone by old r.ready r.retries path))
      (starts-any-counts r.ready target by old r.ready (back_alone by old r.ready r.retries path) (back-alone-counts target by old path)))

  relieve-counts :
      (attended : Bool) (by : ℕ) (old new : Crew) (path : Option FilePath) (n : ℕ) →
      Counts r.ready (numbers_below n) (relieve attended by old new r.ready r.retries path n)
  relieve-counts attended by old new path n =
      let target = numbers_below n in
      let heir = new.generation.image in
      let after = asks attended by 2 (retire by old new r.ready r.retries path n) (back_serving by heir old r.ready r.retries path) in
      let waits = awaits_gone by old.generation (reverse r.ready) after in
      asks-counts r.ready target attended by 1 (tells by (map (Quit old.generation) (reverse r.ready)) waits) (back_from by heir old r.ready r.retries path)
      (tells-counts r.ready target by (map (Quit old.generation) (reverse r.ready)) waits
      (gone-counts r.ready target by old.generation (reverse r.ready) after
      (asks-counts r.ready target attended by 2 (retire by old new r.ready r.retries path n) (back_serving by heir old r.ready r.retries path)
      (retire-counts by old new path n)
      (starts-any-counts r.ready target by old r.ready (back_from by heir old r.ready r.retries path) (back-from-counts target by heir old path)))))
      (back-from-counts target by heir old path)

  upgrade-counts :
      (attended : Bool) (by : ℕ) (old new : Crew) (path : Option FilePath) (note : PidNote) (held wanted : List Address) (n : ℕ)
      (turns : List Turn) → Counts r.ready (numbers_below n) (upgrade_tree attended by old new r.ready r.retries path note held wanted n turns)
  upgrade-counts attended by old new path note held wanted n turns =
      let target = numbers_below n in
      let heir = new.generation.image in
      let back = back_from by heir old r.ready r.retries path in
      let ready = taken_over attended by old new r.ready r.retries path n back in
      let backs = back-from-counts target by heir old path in
      let relieves = relieve attended by old new r.ready r.retries path n in
      let counted = tries heir (Census new.generation) target relieves back in
      let over =
      tries-all-counts r.ready target heir (pid_calls path WritePid) counted back
      (tries-counts r.ready target heir (Census new.generation) target relieves back (relieve-counts attended by old new path n) backs) backs in
      let bad = settle by old r.ready side.Old r.retries in
      let bads = settle-counts r.ready target by old r.ready side.Old r.retries refl in
      let woven = weave (joined ready back) (new_part new held wanted n) turns (old_part by old r.ready r.retries) in
      let alone = back_alone by old r.ready r.retries path in
      aside-counts r.ready target by path note (either by (SpawnMaster heir) [] woven alone) bad
      (either-counts r.ready target by (SpawnMaster heir) [] woven alone
      (weave-counts r.ready target (joined ready back) (joined-counts r.ready target ready back over backs) (new_part new held wanted n) turns (old_part by old r.ready r.retries))
      (back-alone-counts target by old path)) bads

  module _ (by : ℕ) (old new : Crew) (target : List ℕ) where
    quits-new-counts :
        (waits : Bool) (numbers : List ℕ) (back : Tree) (forked : List ℕ) → Counts r.ready target back →
        Counts r.ready target (quits_new by new waits numbers back forked)
    quits-new-counts waits numbers back forked h =
        tells-counts r.ready target by (map (Quit new.generation) forked) (if waits then awaits_gone by new.generation (reverse numbers) back else back)
        (waited waits)
      where
        waited : (b : Bool) → Counts r.ready target (if b then awaits_gone by new.generation (reverse numbers) back else back)
        waited true = gone-counts r.ready target by new.generation (reverse numbers) back h
        waited false = h

    steps-counts :
        (asked first : Bool) (steps : List Step) (last : Bool → Tree → Tree) (back : Tree) →
        ((first : Bool) (back : Tree) → Counts r.ready target back → Counts r.ready target (last first back)) →
        Counts r.ready target back → Counts r.ready target (in_steps asked first by old new steps last back)
    steps-counts asked first [] last back ending h = ending first back h
    steps-counts asked first (step ∷ steps) last back ending h =
        let undone : Tree = quits_new by new (not first) step.starts back (reverse step.starts) in
        let undoes : Counts r.ready target undone = quits-new-counts (not first) step.starts back (reverse step.starts) h in
        let taken : Tree = taken_back by old new (not first) step back in
        let rest : Tree = in_steps asked false by old new steps last taken in
        let waits : Tree = awaits_gone by old.generation (reverse step.quits) rest in
        let quitting : Tree = tells by (map (Quit old.generation) (reverse step.quits)) waits in
        starts-counts r.ready target by new step.starts (asks (asked && first) by 1 quitting undone) (quits_new by new (not first) step.starts back)
        (asks-counts r.ready target (asked && first) by 1 quitting undone
        (tells-counts r.ready target by (map (Quit old.generation) (reverse step.quits)) waits
        (gone-counts r.ready target by old.generation (reverse step.quits) rest
        (steps-counts asked false steps last taken ending (starts-any-counts r.ready target by old step.quits undone undoes))))
        undoes)
        (λ forked. quits-new-counts (not first) step.starts back forked h)

    last-counts :
        (asked : Bool) (numbers left : List ℕ) (dropped : List Address) (n : ℕ) (first : Bool) (back : Tree) →
        Counts r.ready target (reload_on by old new left r.retries dropped n) → Counts r.ready target back →
        Counts r.ready target (last_step asked by old new numbers left r.retries dropped n first back)
    last-counts asked numbers left dropped n first back on h =
        let undone : Tree = quits_new by new (not first) numbers back (reverse numbers) in
        let undoes : Counts r.ready target undone = quits-new-counts (not first) numbers back (reverse numbers) h in
        let going : Tree = asks (asked && first) by 1 (reload_on by old new left r.retries dropped n) undone in
        starts-counts r.ready target by new numbers (either by (Census new.generation) (numbers_below n) going undone)
        (quits_new by new (not first) numbers back)
        (either-counts r.ready target by (Census new.generation) (numbers_below n) going undone
        (asks-counts r.ready target (asked && first) by 1 (reload_on by old new left r.retries dropped n) undone on undoes) undoes)
        (λ forked. quits-new-counts (not first) numbers back forked h)

  reload-counts :
      (asked : Bool) (by : ℕ) (old new : Crew) (held wanted : List Address) (n : ℕ) (rollout : Rollout) →
      Counts r.ready (numbers_below n) (stepped_tree asked by old new r.ready r.retries held wanted n rollout)
  reload-counts asked by old new held wanted n rollout =
      let target = numbers_below n in
      let dropped = only_in held wanted in
      let closes = tells by (map CloseAt dropped) (settle by new target side.Target r.retries) in
      let on : Counts r.ready target (reload_on by old new rollout.left r.retries dropped n) =
      tells-counts r.ready target by (map (Quit old.generation) (reverse rollout.left)) closes
      (tells-counts r.ready target by (map CloseAt dropped) (settle by new target side.Target r.retries) (settle-counts r.ready target by new target side.Target r.retries refl)) in
      let last : Bool → Tree → Tree = last_step asked by old new rollout.last rollout.left r.retries dropped n in
      let back : List Address → Tree = closes_opened by old r.ready r.retries in
      let backs : (opened : List Address) → Counts r.ready target (back opened) =
      λ opened. tells-counts r.ready target by (map CloseAt opened) (settle by old r.ready side.Old r.retries) (settle-counts r.ready target by old r.ready side.Old r.retries refl) in
      opens-counts r.ready target by (only_in wanted held) [] (λ opened. in_steps asked true by old new rollout.steps last (back opened)) back
      (λ opened. steps-counts by old new target asked true rollout.steps last (back opened)
      (λ first b h. last-counts by old new target asked rollout.last rollout.left dropped n first b on h) (backs opened))
      backs

-- a stop counts nobody
abbrev pub IsStop : Target → Type 0
IsStop (Stop quick) = ⊤
IsStop (Workers n) = ⊥
IsStop (Mend overdue) = ⊥
IsStop Reopen = ⊥
IsStop (Reload s) = ⊥
IsStop (Upgrade s) = ⊥
IsStop (Attended s) = ⊥

pub plan-counts : (r : Record) (target : Target) (turns : List Turn) → (IsStop target → ⊥) → Counts r.ready (numbers_wanted r target) (plan_tree r target turns)
plan-counts r (Workers n) turns no_stop =
    let by = r.generation.image in
    let crew = crew_of r in
    let target = numbers_below n in
    let ending = settle by crew target side.Target r.retries in
    let quits = map (Quit crew.generation) (reverse (filter (λ k. not (nat_lt k n)) r.ready)) in
    let back : List ℕ → Tree = λ forked. tells by (map (Quit crew.generation) forked) (settle by crew r.ready side.Old r.retries) in
    starts-counts r.ready target by crew (filter (λ k. not (is_in r.ready k)) target) (tells by quits ending) back
    (tells-counts r.ready target by quits ending (settle-counts r.ready target by crew target side.Target r.retries refl))
    (λ forked. tells-counts r.ready target by (map (Quit crew.generation) forked) (settle by crew r.ready side.Old r.retries) (settle-counts r.ready target by crew r.ready side.Old r.retries refl))
plan-counts r (Mend overdue) turns no_stop =
    let by = r.generation.image in
    let crew = crew_of r in
    let target = numbers_below r.wanted in
    let ending = settle by crew target side.Target r.retries in
    let missing = filter (λ k. not (is_in r.ready k) || is_in overdue k) target in
    tells-counts r.ready target by (map (Kill crew.generation) (filter (is_in r.ready) overdue)) (starts_any by crew missing ending)
    (starts-any-counts r.ready target by crew missing ending (settle-counts r.ready target by crew target side.Target r.retries refl))
plan-counts r Reopen turns no_stop =
    let by = r.generation.image in
    let crew = crew_of r in
    tells-counts r.ready r.ready by (map (Usr1 crew.generation) r.ready) (settle by crew r.ready side.Target r.retries)
    (settle-counts r.ready r.ready by crew r.ready side.Target r.retries refl)
plan-counts r (Reload s) turns no_stop =
    reload-counts r false r.generation.image (crew_of r) (crew_wanted r (Reload s)) (addresses_of r) s.listeners s.workers
    (rollout_of r s s.surge)
plan-counts r (Upgrade s) turns no_stop =
    upgrade-counts r false r.generation.image (crew_of r) (crew_wanted r (Upgrade s)) r.pid_path r.note (addresses_of r) s.listeners s.workers turns
plan-counts r (Attended s) turns no_stop =
    upgrade-counts r true r.generation.image (crew_of r) (crew_wanted r (Attended s)) r.pid_path r.note (addresses_of r) s.listeners s.workers turns
plan-counts r (Stop quick) turns no_stop = absurd (no_stop tt)
