-- A run that ends on the old side keeps every address of the old master open, in each table that it passes: no step that
-- leads there closes one.
use Rattle.std.proofs.Common.{◌≡◌, ℕ, zero, suc, ◌+◌, Bool, true, false, cond, not, List, [], ◌∷◌, ◌++◌, Option, Some, None, refl, sym, ap, ◌∙◌, arith, ◌⊎◌, inl, inr}
use Rattle.std.specs.Prelude.{⊤, filter, map, reverse, nat_lt, bytes_eq, ◌||◌, ◌&&◌, ◌==◌, if◌then◌else◌}
use Rattle.std.specs.List.{AllByRecursion}
use Rattle.std.proofs.lemmas.Option.{none-some}
use Rattle.listener_set.specs.Numbers.{numbers_below, is_in}
use Rattle.listener_set.specs.AddressList.{has}
use Rattle.listener_set.specs.declared.generation.Generation.{Generation}
use Rattle.vocabulary.specs.declared.plans.PidNote.{PidNote}
use Rattle.vocabulary.specs.declared.plans.PidNote.TheVariants.{InPlace, AtOldbin, OldbinLeft, Left, NoFile}
use Rattle.vocabulary.specs.declared.plans.Turn.{Turn}
use Rattle.vocabulary.specs.declared.plans.Turn.TheVariants as turn
use Rattle.vocabulary.specs.declared.plans.Side.TheVariants as side
use Rattle.vocabulary.specs.declared.calls.Reply.{Reply}
use Rattle.vocabulary.specs.declared.calls.Call.{Call}
use Rattle.vocabulary.specs.declared.calls.Call.TheVariants.{OpenAt, CloseAt, AwaitReady, Quit, Kill, Census, AwaitGone, SpawnMaster, WritePid, MovePid, Alive, Leave, Usr1, Ask}
use Rattle.vocabulary.specs.declared.names.Name.{Name}
use Rattle.definitions.specs.Table.{Address, FilePath}
use Rattle.definitions.specs.Calls.{Handed}
use Rattle.definitions.specs.Master.{Crew, Record, Target, Workers, Mend, Reopen, Reload, Upgrade, Attended, Stop, crew_of, addresses_of, fork_of, oldbin, upgrade_generation}
use Rattle.definitions.specs.Run.{Tree, Branches, Ends, Does, Nothing, Branch, Order, Make, ForkLacking, AwaitLacking, KillLacking, End, Done, RolledBack, ShortOld, ShortTarget, Split, JoinReady, JoinBack, Join}
use Rattle.definitions.specs.Run.{Side, reply_of, call_of, lacked_by, Pattern, Progress, Ending, At, Lost, Ran, run_with, goes_with, after_moment, after_call}
use Rattle.definitions.specs.After.{crew_wanted}
use Rattle.definitions.specs.Plans.{plan_tree, settle, forks, awaits, starts, forks_any, awaits_any, starts_any}
use Rattle.definitions.specs.Plans.{awaits_gone, opens, either, tells, tries, tries_all, asks, reload_on, rollout_of, Step, Rollout}
use Rattle.definitions.specs.Plans.{quits_new, taken_back, in_steps, last_step, closes_opened, stepped_tree}
use Rattle.definitions.specs.Plans.{graft, graft_all, beside, beside_all, weave, weave_all, joined, move_aside, move_back, remove_oldbin, back_alone, back_from}
use Rattle.definitions.specs.Plans.{back_late, back_serving, hand_over, retire, relieve, taken_over, upgrade_tree, new_part, new_calls, old_part, pid_calls, only_in}
use Rattle.definitions.specs.Claims.{names_any, refused_among, is_leave_call}
use Rattle.call_laws.specs.Pieces.{among, noted, answered}
use Rattle.table_laws.proofs.Addresses.{same-address}
use Rattle.table_laws.proofs.Views.{eqb-off}
use Rattle.kernel_table.specs.Room.{IsKept}
use Rattle.kernel_model.proofs.CallsKept.{IsKept-exits, IsKept-step}
use Rattle.lives.proofs.Counting.{IsStop}
use Rattle.lives.proofs.Clinging.{Harmless, Clings, exits-cling, step-clings}

---- Ends of the target's side alone

abbrev pub IsTargetEnd : End → Type 0
IsTargetEnd Done = ⊤
IsTargetEnd ShortTarget = ⊤
IsTargetEnd RolledBack = ⊥
IsTargetEnd ShortOld = ⊥
IsTargetEnd Split = ⊥
IsTargetEnd JoinReady = ⊥
IsTargetEnd JoinBack = ⊥
IsTargetEnd Join = ⊥

abbrev mutual
  pub OnlyTarget : Tree → Type 0
  OnlyTarget (Ends end) = IsTargetEnd end
  OnlyTarget (Does by order set branches) = AllTarget branches

  pub AllTarget : Branches → Type 0
  AllTarget Nothing = ⊤
  AllTarget (Branch replies said rest more) = OnlyTarget rest × AllTarget more

-- an end of the old side
abbrev pub IsOldEnding : Ending → Type 0
IsOldEnding (At RolledBack) = ⊤
IsOldEnding (At ShortOld) = ⊤
IsOldEnding (At Done) = ⊥
IsOldEnding (At ShortTarget) = ⊥
IsOldEnding (At Split) = ⊥
IsOldEnding (At JoinReady) = ⊥
IsOldEnding (At JoinBack) = ⊥
IsOldEnding (At Join) = ⊥
IsOldEnding Lost = ⊥

target-end : (end : End) → IsTargetEnd end → IsOldEnding (At end) → ⊥
target-end Done h e = e
target-end ShortTarget h e = e
target-end RolledBack h e = h
target-end ShortOld h e = h
target-end Split h e = h
target-end JoinReady h e = h
target-end JoinBack h e = h
target-end Join h e = h

mutual
  only-run : (handed : Handed) (tree : Tree) (pattern : Pattern) (p : Progress) → OnlyTarget tree → IsOldEnding (run_with handed tree pattern p).ending → ⊥
  only-run handed (Ends end) pattern p h e = target-end end h e
  only-run handed (Does by order set branches) pattern p h e =
      let moment = pattern (p.calls + 1) in
      let middle = after_moment moment.exits p in
      let s = answered handed by order moment.fate middle in
      only-behind handed branches (reply_of set s.answer) pattern (after_call by order set s middle) h e

  only-behind : (handed : Handed) (bs : Branches) (r : Reply) (pattern : Pattern) (p : Progress) → AllTarget bs → IsOldEnding (goes_with handed bs r pattern p).ending → ⊥
  only-behind handed Nothing r pattern p h e = e
  only-behind handed (Branch replies said rest more) r pattern p h e =
      let here = only-run handed rest pattern (noted said p) h.0 in
      let there = only-behind handed more r pattern p h.1 in
      elim (among replies r) as
      (λ b. (let ran = elim b as (λ c. Ran) [ true ↦ run_with handed rest pattern (noted said p) | false ↦ goes_with handed more r pattern p ] in IsOldEnding ran.ending → ⊥)) [
        | true ↦ here
        | false ↦ there
      ] e

tells-only : (by : ℕ) (calls : List Call) (rest : Tree) → OnlyTarget rest → OnlyTarget (tells by calls rest)
tells-only by [] rest h = h
tells-only by (call ∷ calls) rest h = (tells-only by calls rest h, tt)

settle-only : (by : ℕ) (crew : Crew) (set : List ℕ) (rounds : ℕ) → OnlyTarget (settle by crew set side.Target rounds)
settle-only by crew set zero = (tt, (tt, tt))
settle-only by crew set (suc rounds) =
    let rest = settle-only by crew set rounds in (tt, (((rest, ((rest, tt), tt)), (rest, tt)), tt))

remove-only : (by : ℕ) (path : Option FilePath) (rest : Tree) → OnlyTarget rest → OnlyTarget (remove_oldbin by path rest)
remove-only by None rest h = h
remove-only by (Some path) rest h = (h, (h, tt))

---- Steps that leave an address alone

module _ (i : ℕ) (a : Address) where
  abbrev IsHarmless : ℕ → Order → Type 0
  IsHarmless by (Make call) = Harmless i a by call
  IsHarmless by (ForkLacking crew) = ⊤
  IsHarmless by (AwaitLacking g) = ⊤
  IsHarmless by (KillLacking g) = ⊤

  -- each step is harmless, or leads to the target's side alone
  abbrev mutual
    pub Holds : Tree → Type 0
    Holds (Ends end) = ⊤
    Holds (Does by order set branches) = AllTarget branches ⊎ (IsHarmless by order × AllHold branches)

    pub AllHold : Branches → Type 0
    AllHold Nothing = ⊤
    AllHold (Branch replies said rest more) = Holds rest × AllHold more

  only-holds : (tree : Tree) → OnlyTarget tree → Holds tree
  only-holds (Ends end) h = tt
  only-holds (Does by order set branches) h = inl h

  ---- What a run of such a tree keeps

  not-leave : (by : ℕ) (order : Order) (lacking : List ℕ) → IsHarmless by order → (Harmless i a by (call_of order lacking)) × (is_leave_call (call_of order lacking) ≡ false)
  not-leave by (Make call) lacking h = (h, go call h)
    where
      go : (call : Call) → Harmless i a by call → is_leave_call call ≡ false
      go Leave h = absurd h
      go _ h = refl
  not-leave by (ForkLacking crew) lacking h = (tt, refl)
  not-leave by (AwaitLacking g) lacking h = (tt, refl)
  not-leave by (KillLacking g) lacking h = (tt, refl)

  module _ (socket m : ℕ) (heirs : List ℕ) where
    abbrev Held : Progress → Type 0
    Held p = Clings a socket m i p.table.rows

    -- the moment spares the master, and so do the others
    spares :
        (leaves : Bool) → leaves ≡ false → (es : List Name) (later later' : Option ℕ) → later ≡ later' → (n : ℕ) →
        (if names_any (if leaves then (i ∷ []) ++ heirs else i ∷ []) es then Some n else later) ≡ None →
        (names_any (i ∷ []) es ≡ false) × (later' ≡ None)
    spares true off es later later' same n e = absurd (cc)
    spares false off es later later' same n e = go (names_any (i ∷ []) es) refl e
      where
        go : (b : Bool) → names_any (i ∷ []) es ≡ b → (if b then Some n else later) ≡ None → (names_any (i ∷ []) es ≡ false) × (later' ≡ None)
        go true is e = absurd (none-some n (sym e))
        go false is e = (is, sym same ∙ e)

    mutual
      pub run-holds :
          (handed : Handed) (tree : Tree) (pattern : Pattern) (p : Progress) → Holds tree → IsKept p.table → Held p →
          (let ran = run_with handed tree pattern p in refused_among (i ∷ []) heirs pattern p.calls ran.entries ≡ None → IsOldEnding ran.ending → AllByRecursion Held ran.passed)
      run-holds handed (Ends end) pattern p h kept on spared e = (on, tt)
      run-holds handed (Does by order set branches) pattern p (inl only) kept on spared e =
          absurd (only-run handed (Does by order set branches) pattern p only e)
      run-holds handed (Does by order set branches) pattern p (inr h) kept on spared e =
          let moment = pattern (p.calls + 1) in
          let middle = after_moment moment.exits p in
          let call = call_of order (lacked_by by middle.lacked) in
          let s = answered handed by order moment.fate middle in
          let next = after_call by order set s middle in
          let o = not-leave by order (lacked_by by middle.lacked) h.0 in
          let rest = goes_with handed branches (reply_of set s.answer) pattern next in
          let now =
          spares (is_leave_call call) o.1 (pattern (p.calls + 1)).exits
          (refused_among (if is_leave_call call then heirs else i ∷ []) heirs pattern (p.calls + 1) rest.entries)
          (refused_among (i ∷ []) heirs pattern (p.calls + 1) rest.entries)
          (ap (λ b. refused_among (if b then heirs else i ∷ []) heirs pattern (p.calls + 1) rest.entries) o.1) (p.calls + 1) spared in
          let kept_then = IsKept-exits moment.exits p.table kept in
          let then_on = exits-cling a socket m i moment.exits p.table kept now.0 on in (
            on,
            (
              then_on,
              behind-holds handed branches (reply_of set s.answer) pattern next h.1
                  (IsKept-step handed by call moment.fate middle.table kept_then)
                  (step-clings a socket m i handed by call moment.fate middle.table kept_then o.0 then_on) now.1 e,
            ),
          )

      behind-holds :
          (handed : Handed) (bs : Branches) (r : Reply) (pattern : Pattern) (p : Progress) → AllHold bs → IsKept p.table → Held p →
          (let ran = goes_with handed bs r pattern p in refused_among (i ∷ []) heirs pattern p.calls ran.entries ≡ None → IsOldEnding ran.ending → AllByRecursion Held ran.passed)
      behind-holds handed Nothing r pattern p h kept on spared e = (on, tt)
      behind-holds handed (Branch replies said rest more) r pattern p h kept on spared e =
          let here = run-holds handed rest pattern (noted said p) h.0 kept on in
          let there = behind-holds handed more r pattern p h.1 kept on in
          elim (among replies r) as
          (λ b. (let ran = elim b as (λ c. Ran) [ true ↦ run_with handed rest pattern (noted said p) | false ↦ goes_with handed more r pattern p ] in refused_among (i ∷ []) heirs pattern p.calls ran.entries ≡ None → IsOldEnding ran.ending → AllByRecursion Held ran.passed)) [
            | true ↦ here
            | false ↦ there
          ] spared e

  ---- The pieces of plans

  either-holds : (by : ℕ) (call : Call) (set : List ℕ) (ok bad : Tree) → Harmless i a by call → Holds ok → Holds bad → Holds (either by call set ok bad)
  either-holds by call set ok bad c h k = inr (c, (h, (k, tt)))

  tells-hold : (by : ℕ) (calls : List Call) (rest : Tree) → AllByRecursion (Harmless i a by) calls → Holds rest → Holds (tells by calls rest)
  tells-hold by [] rest all h = h
  tells-hold by (call ∷ calls) rest all h = inr (all.0, (tells-hold by calls rest all.1 h, tt))

  all-of : {X : Type 0} (by : ℕ) (call : X → Call) (xs : List X) → ((x : X) → Harmless i a by (call x)) → AllByRecursion (Harmless i a by) (map call xs)
  all-of by call [] h = tt
  all-of by call (x ∷ xs) h = (h x, all-of by call xs h)

  settle-holds : (by : ℕ) (crew : Crew) (set : List ℕ) (s : Side) (rounds : ℕ) → Holds (settle by crew set s rounds)
  settle-holds by crew set s zero = inr (tt, (tt, (tt, tt)))
  settle-holds by crew set s (suc rounds) =
      let rest = settle-holds by crew set s rounds in
      inr (tt, (tt, (inr (tt, (inr (tt, (rest, (inr (tt, (rest, tt)), tt))), (rest, tt))), tt)))

  forks-hold :
      (by : ℕ) (crew : Crew) (ks done : List ℕ) (ok bad : List ℕ → Tree) → ((d : List ℕ) → Holds (ok d)) → ((d : List ℕ) → Holds (bad d)) →
      Holds (forks by crew ks done ok bad)
  forks-hold by crew [] done ok bad h k = h done
  forks-hold by crew (x ∷ ks) done ok bad h k =
      either-holds by (fork_of crew x) [] (forks by crew ks (x ∷ done) ok bad) (bad done) tt (forks-hold by crew ks (x ∷ done) ok bad h k) (k done)

  awaits-hold : (by : ℕ) (g : Generation) (ks : List ℕ) (ok bad : Tree) → Holds ok → Holds bad → Holds (awaits by g ks ok bad)
  awaits-hold by g [] ok bad h k = h
  awaits-hold by g (x ∷ ks) ok bad h k = inr (tt, (awaits-hold by g ks ok bad h k, (k, (inr (tt, (k, tt)), tt))))

  starts-hold : (by : ℕ) (crew : Crew) (ks : List ℕ) (ok : Tree) (bad : List ℕ → Tree) → Holds ok → ((d : List ℕ) → Holds (bad d)) → Holds (starts by crew ks ok bad)
  starts-hold by crew ks ok bad h k =
      forks-hold by crew ks [] (λ forked. awaits by crew.generation ks ok (bad forked)) bad (λ d. awaits-hold by crew.generation ks ok (bad d) h (k d)) k

  forks-any-hold : (by : ℕ) (crew : Crew) (ks : List ℕ) (rest : Tree) → Holds rest → Holds (forks_any by crew ks rest)
  forks-any-hold by crew [] rest h = h
  forks-any-hold by crew (x ∷ ks) rest h = inr (tt, (forks-any-hold by crew ks rest h, tt))

  awaits-any-hold : (by : ℕ) (g : Generation) (ks : List ℕ) (rest : Tree) → Holds rest → Holds (awaits_any by g ks rest)
  awaits-any-hold by g [] rest h = h
  awaits-any-hold by g (x ∷ ks) rest h =
      let ih = awaits-any-hold by g ks rest h in inr (tt, (ih, (inr (tt, (ih, tt)), tt)))

  starts-any-hold : (by : ℕ) (crew : Crew) (ks : List ℕ) (rest : Tree) → Holds rest → Holds (starts_any by crew ks rest)
  starts-any-hold by crew ks rest h = forks-any-hold by crew ks (awaits_any by crew.generation ks rest) (awaits-any-hold by crew.generation ks rest h)

  gone-hold : (by : ℕ) (g : Generation) (ks : List ℕ) (rest : Tree) → Holds rest → Holds (awaits_gone by g ks rest)
  gone-hold by g [] rest h = h
  gone-hold by g (x ∷ ks) rest h =
      let ih = gone-hold by g ks rest h in
      either-holds by (AwaitGone g x) [] (awaits_gone by g ks rest) (tells by (Kill g x ∷ []) (awaits_gone by g ks rest)) tt ih (inr (tt, (ih, tt)))

  -- none of these is the address
  abbrev Differ : List Address → Type 0
  Differ l = AllByRecursion (λ b. bytes_eq b a ≡ false) l

  opens-hold :
      (by : ℕ) (l done : List Address) (ok bad : List Address → Tree) → Differ l → Differ done → ((d : List Address) → Differ d → Holds (ok d)) →
      ((d : List Address) → Differ d → Holds (bad d)) → Holds (opens by l done ok bad)
  opens-hold by [] done ok bad off was h k = h done was
  opens-hold by (x ∷ l) done ok bad off was h k =
      either-holds by (OpenAt x) [] (opens by l (x ∷ done) ok bad) (bad done) tt (opens-hold by l (x ∷ done) ok bad off.1 (off.0, was) h k) (k done was)

  closes-all : (by : ℕ) (l : List Address) → Differ l → AllByRecursion (Harmless i a by) (map CloseAt l)
  closes-all by [] off = tt
  closes-all by (x ∷ l) off = (inr off.0, closes-all by l off.1)

  tries-hold : (by : ℕ) (call : Call) (set : List ℕ) (rest back : Tree) → Harmless i a by call → Holds rest → Holds back → Holds (tries by call set rest back)
  tries-hold by call set rest back c h k = inr (c, (h, (k, tt)))

  tries-all-hold :
      (by : ℕ) (calls : List Call) (rest back : Tree) → AllByRecursion (Harmless i a by) calls → Holds rest → Holds back → Holds (tries_all by calls rest back)
  tries-all-hold by [] rest back all h k = h
  tries-all-hold by (call ∷ calls) rest back all h k = tries-hold by call [] (tries_all by calls rest back) back all.0 (tries-all-hold by calls rest back all.1 h k) k

  asks-hold : (attended : Bool) (by question : ℕ) (go back : Tree) → Holds go → Holds back → Holds (asks attended by question go back)
  asks-hold true by question go back h k = either-holds by (Ask question) [] go back tt h k
  asks-hold false by question go back h k = h

  aside-hold : (by : ℕ) (path : Option FilePath) (note : PidNote) (ok bad : Tree) → Holds ok → Holds bad → Holds (move_aside by path note ok bad)
  aside-hold by None note ok bad h k = h
  aside-hold by (Some path) AtOldbin ok bad h k = h
  aside-hold by (Some path) InPlace ok bad h k = either-holds by (MovePid path (oldbin path)) [] ok bad tt h k
  aside-hold by (Some path) OldbinLeft ok bad h k = either-holds by (MovePid path (oldbin path)) [] ok bad tt h k
  aside-hold by (Some path) Left ok bad h k = either-holds by (MovePid path (oldbin path)) [] ok bad tt h k
  aside-hold by (Some path) NoFile ok bad h k = either-holds by (MovePid path (oldbin path)) [] ok bad tt h k

  move-back-hold : (by : ℕ) (path : Option FilePath) (rest : Tree) → Holds rest → Holds (move_back by path rest)
  move-back-hold by None rest h = h
  move-back-hold by (Some path) rest h = inr (tt, (h, (h, tt)))

  ---- Two parts, all of whose steps are harmless

  abbrev mutual
    pub Free : Tree → Type 0
    Free (Ends end) = ⊤
    Free (Does by order set branches) = IsHarmless by order × AllFree branches

    pub AllFree : Branches → Type 0
    AllFree Nothing = ⊤
    AllFree (Branch replies said rest more) = Free rest × AllFree more

  mutual
    graft-holds : (on_end : End → Tree) → ((e : End) → Holds (on_end e)) → (t : Tree) → Free t → Holds (graft on_end t)
    graft-holds on_end h (Ends end) f = h end
    graft-holds on_end h (Does by order set branches) f = inr (f.0, graft-all-hold on_end h branches f.1)

    graft-all-hold : (on_end : End → Tree) → ((e : End) → Holds (on_end e)) → (bs : Branches) → AllFree bs → AllHold (graft_all on_end bs)
    graft-all-hold on_end h Nothing f = tt
    graft-all-hold on_end h (Branch replies said rest more) f = (graft-holds on_end h rest f.0, graft-all-hold on_end h more f.1)

  mutual
    beside-holds :
        (goes : List Turn → Tree → Tree) → ((turns : List Turn) (t : Tree) → Free t → Holds (goes turns t)) → (turns : List Turn)
        (t : Tree) → Free t → Holds (beside goes turns t)
    beside-holds goes h turns (Ends end) f = h turns (Ends end) f
    beside-holds goes h [] (Does by order set branches) f = h [] (Does by order set branches) f
    beside-holds goes h (turn.New ∷ turns) (Does by order set branches) f = h turns (Does by order set branches) f
    beside-holds goes h (turn.Old ∷ turns) (Does by order set branches) f = inr (f.0, beside-all-hold goes h turns branches f.1)

    beside-all-hold :
        (goes : List Turn → Tree → Tree) → ((turns : List Turn) (t : Tree) → Free t → Holds (goes turns t)) → (turns : List Turn)
        (bs : Branches) → AllFree bs → AllHold (beside_all goes turns bs)
    beside-all-hold goes h turns Nothing f = tt
    beside-all-hold goes h turns (Branch replies said rest more) f = (beside-holds goes h turns rest f.0, beside-all-hold goes h turns more f.1)

  mutual
    weave-holds : (join : End → Tree) → ((e : End) → Holds (join e)) → (new : Tree) → Free new → (turns : List Turn) (t : Tree) → Free t → Holds (weave join new turns t)
    weave-holds join h (Ends end) fn turns t f = graft-holds (λ e. join end) (λ e. h end) t f
    weave-holds join h (Does by order set branches) fn turns t f =
        beside-holds (λ later still. Does by order set (weave_all join branches later still))
        (λ later still g. inr (fn.0, weave-all-hold join h branches fn.1 later still g)) turns t f

    weave-all-hold :
        (join : End → Tree) → ((e : End) → Holds (join e)) → (bs : Branches) → AllFree bs → (turns : List Turn) (t : Tree) → Free t →
        AllHold (weave_all join bs turns t)
    weave-all-hold join h Nothing fn turns t f = tt
    weave-all-hold join h (Branch replies said rest more) fn turns t f = (weave-holds join h rest fn.0 turns t f, weave-all-hold join h more fn.1 turns t f)

  joined-holds : (ready back : Tree) → Holds ready → Holds back → (e : End) → Holds (joined ready back e)
  joined-holds ready back h k JoinReady = h
  joined-holds ready back h k Done = k
  joined-holds ready back h k RolledBack = k
  joined-holds ready back h k ShortOld = k
  joined-holds ready back h k ShortTarget = k
  joined-holds ready back h k Split = k
  joined-holds ready back h k JoinBack = k
  joined-holds ready back h k Join = k

  tries-all-free : (by : ℕ) (calls : List Call) (e f : End) → AllByRecursion (Harmless i a by) calls → Free (tries_all by calls (Ends e) (Ends f))
  tries-all-free by [] e f all = tt
  tries-all-free by (call ∷ calls) e f all = (all.0, (tries-all-free by calls e f all.1, (tt, tt)))

  old-free : (by : ℕ) (crew : Crew) (ready : List ℕ) (rounds : ℕ) → Free (old_part by crew ready rounds)
  old-free by crew ready zero = (tt, (tt, tt))
  old-free by crew ready (suc rounds) =
      let rest = old-free by crew ready rounds in
      (tt, (tt, ((tt, ((tt, (rest, ((tt, (rest, tt)), tt))), (rest, tt))), tt)))

  append-all : (by : ℕ) (xs ys : List Call) → AllByRecursion (Harmless i a by) xs → AllByRecursion (Harmless i a by) ys → AllByRecursion (Harmless i a by) (xs ++ ys)
  append-all by [] ys h k = k
  append-all by (x ∷ xs) ys h k = (h.0, append-all by xs ys h.1 k)

  new-free : (crew : Crew) (held wanted : List Address) (n : ℕ) → (crew.generation.image == i) ≡ false → Free (new_part crew held wanted n)
  new-free crew held wanted n off =
      let by = crew.generation.image in
      tries-all-free by (new_calls crew held wanted n) JoinReady JoinBack
      let closes = map CloseAt (only_in held wanted) in
      let opened = map OpenAt (only_in wanted held) in
      let forked = map (fork_of crew) (numbers_below n) in
      let awaited = map (AwaitReady crew.generation) (numbers_below n) in (
        tt,
        append-all by ((closes ++ opened) ++ forked) awaited
            (append-all by (closes ++ opened) forked
            (append-all by closes opened (all-of by CloseAt (only_in held wanted) (λ x. inl off)) (all-of by OpenAt (only_in wanted held) (λ x. tt)))
            (all-of by (fork_of crew) (numbers_below n) (λ x. tt)))
            (all-of by (AwaitReady crew.generation) (numbers_below n) (λ x. tt)),
      )

---- Each plan but a stop's

module _ (r : Record) (a : Address) (held_it : has (addresses_of r) a ≡ true) where
  abbrev i : ℕ
  i = r.generation.image

  -- what the old addresses lack is not the address
  added-differ : (l : List Address) → Differ i a (only_in l (addresses_of r))
  added-differ [] = tt
  added-differ (x ∷ l) = go (has (addresses_of r) x) refl (added-differ l)
    where
      go : (b : Bool) → has (addresses_of r) x ≡ b → Differ i a (only_in l (addresses_of r)) → Differ i a (cond (not b) (x ∷ only_in l (addresses_of r)) (only_in l (addresses_of r)))
      go true is ih = ih
      go false is ih = (other (bytes_eq x a) refl, ih)
        where
          other : (b : Bool) → bytes_eq x a ≡ b → bytes_eq x a ≡ false
          other true e = absurd (let same = same-address x a e in let z = ap (has (addresses_of r)) same in cc)
          other false e = e

  back-alone-holds : (by : ℕ) (crew : Crew) (path : Option FilePath) → Holds i a (back_alone by crew r.ready r.retries path)
  back-alone-holds by crew path = move-back-hold i a by path (settle by crew r.ready side.Old r.retries) (settle-holds i a by crew r.ready side.Old r.retries)

  back-from-holds : (by heir : ℕ) (crew : Crew) (path : Option FilePath) → heir == i ≡ false → Holds i a (back_from by heir crew r.ready r.retries path)
  back-from-holds by heir crew path off = inr (off, (back-alone-holds by crew path, tt))

  hand-over-only : (by : ℕ) (new : Crew) (path : Option FilePath) (n : ℕ) → OnlyTarget (hand_over by new r.retries path n)
  hand-over-only by new path n =
      let heir = new.generation.image in
      let ending = settle heir new (numbers_below n) side.Target r.retries in
      tells-only by (Leave ∷ []) (remove_oldbin heir path ending) (remove-only heir path ending (settle-only heir new (numbers_below n) r.retries))

  retire-holds : (by : ℕ) (old new : Crew) (path : Option FilePath) (n : ℕ) → new.generation.image == i ≡ false → Holds i a (retire by old new r.ready r.retries path n)
  retire-holds by old new path n off =
      let heir = new.generation.image in
      let alone = back_alone by old r.ready r.retries path in
      either-holds i a by (Alive heir) [] (hand_over by new r.retries path n) (back_late by heir old r.ready r.retries path) tt
      (only-holds i a (hand_over by new r.retries path n) (hand-over-only by new path n))
      (inr (off, (starts-any-hold i a by old r.ready alone (back-alone-holds by old path), tt)))

  relieve-holds :
      (attended : Bool) (by : ℕ) (old new : Crew) (path : Option FilePath) (n : ℕ) → new.generation.image == i ≡ false →
      Holds i a (relieve attended by old new r.ready r.retries path n)
  relieve-holds attended by old new path n off =
      let heir = new.generation.image in
      let late = retire by old new r.ready r.retries path n in
      let serving = back_serving by heir old r.ready r.retries path in
      let after = asks attended by 2 late serving in
      let waits = awaits_gone by old.generation (reverse r.ready) after in
      let back = back_from by heir old r.ready r.retries path in
      asks-hold i a attended by 1 (tells by (map (Quit old.generation) (reverse r.ready)) waits) back
      (tells-hold i a by (map (Quit old.generation) (reverse r.ready)) waits (all-of i a by (Quit old.generation) (reverse r.ready) (λ x. tt))
      (gone-hold i a by old.generation (reverse r.ready) after
      (asks-hold i a attended by 2 late serving (retire-holds by old new path n off)
      (starts-any-hold i a by old r.ready back (back-from-holds by heir old path off)))))
      (back-from-holds by heir old path off)

  pid-calls-all : (by : ℕ) (path : Option FilePath) → AllByRecursion (Harmless i a by) (pid_calls path WritePid)
  pid-calls-all by None = tt
  pid-calls-all by (Some path) = (tt, tt)

  upgrade-holds :
      (attended : Bool) (by : ℕ) (old new : Crew) (path : Option FilePath) (note : PidNote) (held wanted : List Address) (n : ℕ)
      (turns : List Turn) → new.generation.image == i ≡ false → Holds i a (upgrade_tree attended by old new r.ready r.retries path note held wanted n turns)
  upgrade-holds attended by old new path note held wanted n turns off =
      let heir = new.generation.image in
      let back = back_from by heir old r.ready r.retries path in
      let backs = back-from-holds by heir old path off in
      let ready = taken_over attended by old new r.ready r.retries path n back in
      let relieves = relieve attended by old new r.ready r.retries path n in
      let counted = tries heir (Census new.generation) (numbers_below n) relieves back in
      let over =
      tries-all-hold i a heir (pid_calls path WritePid) counted back (pid-calls-all heir path)
      (tries-hold i a heir (Census new.generation) (numbers_below n) relieves back tt (relieve-holds attended by old new path n off) backs) backs in
      let bad = settle by old r.ready side.Old r.retries in
      let woven = weave (joined ready back) (new_part new held wanted n) turns (old_part by old r.ready r.retries) in
      let alone = back_alone by old r.ready r.retries path in
      aside-hold i a by path note (either by (SpawnMaster heir) [] woven alone) bad
      (either-holds i a by (SpawnMaster heir) [] woven alone tt
      (weave-holds i a (joined ready back) (joined-holds i a ready back over backs) (new_part new held wanted n) (new-free i a new held wanted n off) turns
      (old_part by old r.ready r.retries) (old-free i a by old r.ready r.retries))
      (back-alone-holds by old path)) (settle-holds i a by old r.ready side.Old r.retries)

  module _ (by : ℕ) (old new : Crew) where
    quits-new-hold :
        (waits : Bool) (numbers : List ℕ) (back : Tree) (forked : List ℕ) → Holds i a back →
        Holds i a (quits_new by new waits numbers back forked)
    quits-new-hold waits numbers back forked h =
        tells-hold i a by (map (Quit new.generation) forked) (if waits then awaits_gone by new.generation (reverse numbers) back else back)
        (all-of i a by (Quit new.generation) forked (λ x. tt)) (waited waits)
      where
        waited : (b : Bool) → Holds i a (if b then awaits_gone by new.generation (reverse numbers) back else back)
        waited true = gone-hold i a by new.generation (reverse numbers) back h
        waited false = h

    steps-hold :
        (asked first : Bool) (steps : List Step) (last : Bool → Tree → Tree) (back : Tree) →
        ((first : Bool) (back : Tree) → Holds i a back → Holds i a (last first back)) → Holds i a back →
        Holds i a (in_steps asked first by old new steps last back)
    steps-hold asked first [] last back ending h = ending first back h
    steps-hold asked first (step ∷ steps) last back ending h =
        let undone : Tree = quits_new by new (not first) step.starts back (reverse step.starts) in
        let undoes : Holds i a undone = quits-new-hold (not first) step.starts back (reverse step.starts) h in
        let taken : Tree = taken_back by old new (not first) step back in
        let rest : Tree = in_steps asked false by old new steps last taken in
        let waits : Tree = awaits_gone by old.generation (reverse step.quits) rest in
        let quitting : Tree = tells by (map (Quit old.generation) (reverse step.quits)) waits in
        starts-hold i a by new step.starts (asks (asked && first) by 1 quitting undone) (quits_new by new (not first) step.starts back)
        (asks-hold i a (asked && first) by 1 quitting undone
        (tells-hold i a by (map (Quit old.generation) (reverse step.quits)) waits (all-of i a by (Quit old.generation) (reverse step.quits) (λ x. tt))
        (gone-hold i a by old.generation (reverse step.quits) rest
        (steps-hold asked false steps last taken ending (starts-any-hold i a by old step.quits undone undoes))))
        undoes)
        (λ forked. quits-new-hold (not first) step.starts back forked h)

    last-holds :
        (asked : Bool) (numbers left : List ℕ) (dropped : List Address) (n : ℕ) (first : Bool) (back : Tree) →
        Holds i a (reload_on by old new left r.retries dropped n) → Holds i a back →
        Holds i a (last_step asked by old new numbers left r.retries dropped n first back)
    last-holds asked numbers left dropped n first back on h =
        let undone : Tree = quits_new by new (not first) numbers back (reverse numbers) in
        let undoes : Holds i a undone = quits-new-hold (not first) numbers back (reverse numbers) h in
        let going : Tree = asks (asked && first) by 1 (reload_on by old new left r.retries dropped n) undone in
        starts-hold i a by new numbers (either by (Census new.generation) (numbers_below n) going undone)
        (quits_new by new (not first) numbers back)
        (either-holds i a by (Census new.generation) (numbers_below n) going undone tt
        (asks-hold i a (asked && first) by 1 (reload_on by old new left r.retries dropped n) undone on undoes) undoes)
        (λ forked. quits-new-hold (not first) numbers back forked h)

  reload-holds :
      (asked : Bool) (by : ℕ) (old new : Crew) (wanted : List Address) (n : ℕ) (rollout : Rollout) →
      Holds i a (stepped_tree asked by old new r.ready r.retries (addresses_of r) wanted n rollout)
  reload-holds asked by old new wanted n rollout =
      let held = addresses_of r in
      let target = numbers_below n in
      let ending = settle by old r.ready side.Old r.retries in
      let dropped = only_in held wanted in
      let closes = tells by (map CloseAt dropped) (settle by new target side.Target r.retries) in
      let ons : OnlyTarget (reload_on by old new rollout.left r.retries dropped n) =
      tells-only by (map (Quit old.generation) (reverse rollout.left)) closes
      (tells-only by (map CloseAt dropped) (settle by new target side.Target r.retries) (settle-only by new target r.retries)) in
      let last : Bool → Tree → Tree = last_step asked by old new rollout.last rollout.left r.retries dropped n in
      let back : List Address → Tree = closes_opened by old r.ready r.retries in
      let backs : (opened : List Address) → Differ i a opened → Holds i a (back opened) =
      λ opened off. tells-hold i a by (map CloseAt opened) ending (closes-all i a by opened off) (settle-holds i a by old r.ready side.Old r.retries) in
      opens-hold i a by (only_in wanted held) [] (λ opened. in_steps asked true by old new rollout.steps last (back opened)) back (added-differ wanted) tt
      (λ opened off. steps-hold by old new asked true rollout.steps last (back opened)
      (λ first b h. last-holds by old new asked rollout.last rollout.left dropped n first b
      (only-holds i a (reload_on by old new rollout.left r.retries dropped n) ons) h) (backs opened off))
      backs

  heir-other : (upgrade_generation r.generation).image == i ≡ false
  heir-other = eqb-off (r.generation.image + 1) r.generation.image (λ same. absurd (omega (arith, same)))

  pub plan-holds : (target : Target) (turns : List Turn) → (IsStop target → ⊥) → Holds i a (plan_tree r target turns)
  plan-holds (Workers n) turns no_stop =
      let by = r.generation.image in
      let crew = crew_of r in
      let target = numbers_below n in
      let ending = settle by crew target side.Target r.retries in
      let quitting = reverse (filter (λ k. not (nat_lt k n)) r.ready) in
      let back : List ℕ → Tree = λ forked. tells by (map (Quit crew.generation) forked) (settle by crew r.ready side.Old r.retries) in
      starts-hold i a by crew (filter (λ k. not (is_in r.ready k)) target) (tells by (map (Quit crew.generation) quitting) ending) back
      (tells-hold i a by (map (Quit crew.generation) quitting) ending (all-of i a by (Quit crew.generation) quitting (λ x. tt)) (settle-holds i a by crew target side.Target r.retries))
      (λ forked. tells-hold i a by (map (Quit crew.generation) forked) (settle by crew r.ready side.Old r.retries) (all-of i a by (Quit crew.generation) forked (λ x. tt)) (settle-holds i a by crew r.ready side.Old r.retries))
  plan-holds (Mend overdue) turns no_stop =
      let by = r.generation.image in
      let crew = crew_of r in
      let target = numbers_below r.wanted in
      let ending = settle by crew target side.Target r.retries in
      let missing = filter (λ k. not (is_in r.ready k) || is_in overdue k) target in
      let dead = filter (is_in r.ready) overdue in
      tells-hold i a by (map (Kill crew.generation) dead) (starts_any by crew missing ending) (all-of i a by (Kill crew.generation) dead (λ x. tt))
      (starts-any-hold i a by crew missing ending (settle-holds i a by crew target side.Target r.retries))
  plan-holds Reopen turns no_stop =
      let by = r.generation.image in
      let crew = crew_of r in
      tells-hold i a by (map (Usr1 crew.generation) r.ready) (settle by crew r.ready side.Target r.retries) (all-of i a by (Usr1 crew.generation) r.ready (λ x. tt))
      (settle-holds i a by crew r.ready side.Target r.retries)
  plan-holds (Reload s) turns no_stop =
      reload-holds false r.generation.image (crew_of r) (crew_wanted r (Reload s)) s.listeners s.workers (rollout_of r s s.surge)
  plan-holds (Upgrade s) turns no_stop =
      upgrade-holds false r.generation.image (crew_of r) (crew_wanted r (Upgrade s)) r.pid_path r.note (addresses_of r) s.listeners s.workers turns heir-other
  plan-holds (Attended s) turns no_stop =
      upgrade-holds true r.generation.image (crew_of r) (crew_wanted r (Attended s)) r.pid_path r.note (addresses_of r) s.listeners s.workers turns heir-other
  plan-holds (Stop quick) turns no_stop = absurd (no_stop tt)
