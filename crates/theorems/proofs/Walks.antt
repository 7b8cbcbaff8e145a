-- Pieces of plans as trees whose calls keep a fact on the table, with what was done before each call; and the walk of a reload in
-- steps by such pieces.
use Rattle.std.proofs.Common.{◌≡◌, ℕ, Bool, true, false, not, List, [], ◌∷◌, Option, refl, sym, ◌∙◌, subst}
use Rattle.std.specs.Prelude.{⊤, reverse, ◌&&◌}
use Rattle.listener_set.specs.Numbers.{is_in, numbers_below}
use Rattle.listener_set.specs.declared.generation.Generation.{Generation}
use Rattle.vocabulary.specs.declared.names.Name.{Name}
use Rattle.vocabulary.specs.declared.calls.Call.{Call}
use Rattle.vocabulary.specs.declared.calls.Call.TheVariants.{OpenAt, CloseAt, Fork, AwaitReady, Quit, Kill, Census, AwaitGone, Ask}
use Rattle.vocabulary.specs.declared.calls.Reply.TheVariants as reply
use Rattle.vocabulary.specs.declared.calls.Fate.{Fate}
use Rattle.vocabulary.specs.declared.plans.Order.TheVariants.{Make}
use Rattle.vocabulary.specs.declared.reports.Entry.{Entry}
use Rattle.definitions.specs.Table.{Address, Table}
use Rattle.definitions.specs.Calls.{after_exits, step_with, Handed}
use Rattle.definitions.specs.Master.{Crew, fork_of}
use Rattle.definitions.specs.Claims.{is_leave_call, names_any}
use Rattle.definitions.specs.Run.{Tree, Branches, Nothing, Does, Progress, Lost}
use Rattle.definitions.specs.Plans.{on, then_edge, await_any_edges, asks, awaits, awaits_any, awaits_gone, forks, forks_any, starts, starts_any}
use Rattle.definitions.specs.Plans.{opens, only_in, reload_on}
use Rattle.call_laws.specs.Pieces.{quits, closes, fork_edges, await_edges, census_edges, gone_edges}
use Rattle.table_laws.proofs.Sets.{in-here, in-there}
use Rattle.table_laws.proofs.Small.{in-reverse, true-false}
use Rattle.run_laws.proofs.Logic.{Exiting, Course}
use Rattle.run_laws.proofs.Traces.{Asking, Finally, Good, AllGood, good-call}
use Rattle.definitions.specs.Plans.{Step, Rollout, quits_new, taken_back, in_steps, last_step, closes_opened, stepped_tree}
use Rattle.theorems.proofs.Late.{Whatever}

-- Calls that keep what is known of a worker: those that are told to no worker, and those to workers of other names.
abbrev pub IsGentle : (Generation → ℕ → Type 0) → Call → Type 0
IsGentle free (OpenAt a) = ⊤
IsGentle free (CloseAt a) = ⊤
IsGentle free (Fork g x fds) = ⊤
IsGentle free (AwaitReady g x) = ⊤
IsGentle free (Quit g x) = free g x
IsGentle free (Kill g x) = free g x
IsGentle free (Census g) = ⊤
IsGentle free (AwaitGone g x) = free g x
IsGentle free (Ask q) = ⊤
IsGentle free _ = ⊥

gentle-stays : (free : Generation → ℕ → Type 0) (call : Call) → IsGentle free call → is_leave_call call ≡ false
gentle-stays free (OpenAt a) ok = refl
gentle-stays free (CloseAt a) ok = refl
gentle-stays free (Fork g x fds) ok = refl
gentle-stays free (AwaitReady g x) ok = refl
gentle-stays free (Quit g x) ok = refl
gentle-stays free (Kill g x) ok = refl
gentle-stays free (Census g) ok = refl
gentle-stays free (AwaitGone g x) ok = refl
gentle-stays free (Ask q) ok = refl
gentle-stays free _ ok = absurd ok

module _ (due : Asking) (post : Finally) (mild : Exiting) (co : Course)
    (lost : (past : List Entry) (p : Progress) → post past Lost p) (by : ℕ) (F : Table → Type 0)
    (exits : (es : List Name) (t : Table) → names_any co.executing es ≡ false → mild es t.rows → F t → F (after_exits es t))
    (free : Generation → ℕ → Type 0)
    (steps : (handed : Handed) (call : Call) (fate : Option Fate) (t : Table) → IsGentle free call → F t → F (step_with handed by call fate t).table)
    (owes : (past : List Entry) (call : Call) (t : Table) → IsGentle free call → F t → due past call t) where
  abbrev pub Goes : Tree → Type 0
  Goes t = Good due post mild co lost F Whatever t

  abbrev AllGo : Branches → Type 0
  AllGo bs = AllGood due post mild co lost F Whatever bs

  one-call : (call : Call) (set : List ℕ) (bs : Branches) → IsGentle free call → AllGo bs → Goes (Does by (Make call) set bs)
  one-call call set bs ok all =
      good-call due post mild co lost F Whatever by call set bs (gentle-stays free call ok) exits (λ past e k. tt)
      (λ past t k h. owes past call t ok h) (λ handed fate t h. steps handed call fate t ok h) all

  quits-go :
      (g : Generation) (ks : List ℕ) (rest : Tree) → ((x : ℕ) → is_in ks x ≡ true → free g x) → Goes rest → Goes (quits by g ks rest)
  quits-go g [] rest ok h = h
  quits-go g (x ∷ ks) rest ok h =
      one-call (Quit g x) [] (then_edge (quits by g ks rest)) (ok x (in-here x x ks refl))
      (quits-go g ks rest (λ j e. ok j (in-there x j ks e)) h, tt)

  pub closes-go : (addresses : List Address) (rest : Tree) → Goes rest → Goes (closes by addresses rest)
  closes-go [] rest h = h
  closes-go (a ∷ more) rest h = one-call (CloseAt a) [] (then_edge (closes by more rest)) tt (closes-go more rest h, tt)

  opens-go :
      (addresses done : List Address) (ok bad : List Address → Tree) → ((done : List Address) → Goes (ok done)) →
      ((done : List Address) → Goes (bad done)) → Goes (opens by addresses done ok bad)
  opens-go [] done ok bad on_ok on_bad = on_ok done
  opens-go (a ∷ more) done ok bad on_ok on_bad =
      one-call (OpenAt a) []
      (on (reply.Opened ∷ []) (opens by more (a ∷ done) ok bad)
      (on (reply.InUse ∷ reply.TooMany ∷ reply.Denied ∷ reply.NoMemory ∷ []) (bad done) Nothing)) tt
      (opens-go more (a ∷ done) ok bad on_ok on_bad, (on_bad done, tt))

  asks-go : (asked : Bool) (question : ℕ) (on_go on_back : Tree) → Goes on_go → Goes on_back → Goes (asks asked by question on_go on_back)
  asks-go true question on_go on_back h b =
      one-call (Ask question) [] (on (reply.Go ∷ []) on_go (on (reply.Back ∷ []) on_back Nothing)) tt (h, (b, tt))
  asks-go false question on_go on_back h b = h

  census-go :
      (g : Generation) (set : List ℕ) (full short : Tree) → Goes full → Goes short →
      Goes (Does by (Make (Census g)) set (census_edges full short))
  census-go g set full short f s = one-call (Census g) set (census_edges full short) tt (f, (s, tt))

  forks-go :
      (crew : Crew) (ks done : List ℕ) (ok bad : List ℕ → Tree) → ((done : List ℕ) → Goes (ok done)) →
      ((done : List ℕ) → Goes (bad done)) → Goes (forks by crew ks done ok bad)
  forks-go crew [] done ok bad on_ok on_bad = on_ok done
  forks-go crew (x ∷ ks) done ok bad on_ok on_bad =
      one-call (fork_of crew x) [] (fork_edges (forks by crew ks (x ∷ done) ok bad) (bad done)) tt
      (forks-go crew ks (x ∷ done) ok bad on_ok on_bad, (on_bad done, tt))

  awaits-go :
      (g : Generation) (ks : List ℕ) (ok bad : Tree) → ((x : ℕ) → free g x) → Goes ok → Goes bad → Goes (awaits by g ks ok bad)
  awaits-go g [] ok bad kills on_ok on_bad = on_ok
  awaits-go g (x ∷ ks) ok bad kills on_ok on_bad =
      one-call (AwaitReady g x) [] (await_edges (awaits by g ks ok bad) bad (Does by (Make (Kill g x)) [] (then_edge bad))) tt
      (awaits-go g ks ok bad kills on_ok on_bad, (on_bad, (one-call (Kill g x) [] (then_edge bad) (kills x) (on_bad, tt), tt)))

  starts-go :
      (crew : Crew) (ks : List ℕ) (ok : Tree) (bad : List ℕ → Tree) → ((x : ℕ) → free crew.generation x) → Goes ok →
      ((forked : List ℕ) → Goes (bad forked)) → Goes (starts by crew ks ok bad)
  starts-go crew ks ok bad kills on_ok on_bad =
      forks-go crew ks [] (λ forked. awaits by crew.generation ks ok (bad forked)) bad
      (λ forked. awaits-go crew.generation ks ok (bad forked) kills on_ok (on_bad forked)) on_bad

  forks-any-go : (crew : Crew) (ks : List ℕ) (rest : Tree) → Goes rest → Goes (forks_any by crew ks rest)
  forks-any-go crew [] rest h = h
  forks-any-go crew (x ∷ ks) rest h =
      one-call (fork_of crew x) [] (on (reply.Forked ∷ reply.Again ∷ reply.NoMemory ∷ []) (forks_any by crew ks rest) Nothing) tt
      (forks-any-go crew ks rest h, tt)

  awaits-any-go :
      (g : Generation) (ks : List ℕ) (rest : Tree) → ((x : ℕ) → is_in ks x ≡ true → free g x) → Goes rest →
      Goes (awaits_any by g ks rest)
  awaits-any-go g [] rest kills h = h
  awaits-any-go g (x ∷ ks) rest kills h =
      let more = awaits-any-go g ks rest (λ j e. kills j (in-there x j ks e)) h in
      one-call (AwaitReady g x) []
      (await_any_edges (awaits_any by g ks rest) (Does by (Make (Kill g x)) [] (then_edge (awaits_any by g ks rest)))) tt
      (more, (one-call (Kill g x) [] (then_edge (awaits_any by g ks rest)) (kills x (in-here x x ks refl)) (more, tt), tt))

  starts-any-go :
      (crew : Crew) (ks : List ℕ) (rest : Tree) → ((x : ℕ) → is_in ks x ≡ true → free crew.generation x) → Goes rest →
      Goes (starts_any by crew ks rest)
  starts-any-go crew ks rest kills h =
      forks-any-go crew ks (awaits_any by crew.generation ks rest) (awaits-any-go crew.generation ks rest kills h)

  gone-go :
      (g : Generation) (ks : List ℕ) (rest : Tree) → ((x : ℕ) → is_in ks x ≡ true → free g x) → Goes rest →
      Goes (awaits_gone by g ks rest)
  gone-go g [] rest ok h = h
  gone-go g (x ∷ ks) rest ok h =
      let more = gone-go g ks rest (λ j e. ok j (in-there x j ks e)) h in
      let x_ok = ok x (in-here x x ks refl) in
      one-call (AwaitGone g x) []
      (gone_edges (awaits_gone by g ks rest) (Does by (Make (Kill g x)) [] (then_edge (awaits_gone by g ks rest)))) x_ok
      (more, (one-call (Kill g x) [] (then_edge (awaits_gone by g ks rest)) x_ok (more, tt), tt))

  ---- A reload in steps

  -- For a worker that bears no new name, and its own number among the old: nothing more is asked once that quits and is waited for.
  module _ (old new : Crew) (k : ℕ) (news : (x : ℕ) → free new.generation x)
      (others : (x : ℕ) → (k ≡ x → ⊥) → free old.generation x)
      (relieved : (ks : List ℕ) (rest : Tree) → is_in ks k ≡ true → Goes (quits by old.generation ks (awaits_gone by old.generation ks rest))) where
    others-of : (ks : List ℕ) → is_in ks k ≡ false → (x : ℕ) → is_in ks x ≡ true → free old.generation x
    others-of ks off x e = others x (λ same. true-false (is_in ks k) (subst (λ z. is_in ks z ≡ true) (sym same) e) off)

    relieves :
        (ks : List ℕ) (rest : Tree) → (is_in ks k ≡ false → Goes rest) →
        Goes (quits by old.generation (reverse ks) (awaits_gone by old.generation (reverse ks) rest))
    relieves ks rest h = go (is_in ks k) refl
      where
        go : (b : Bool) → is_in ks k ≡ b → Goes (quits by old.generation (reverse ks) (awaits_gone by old.generation (reverse ks) rest))
        go true e = relieved (reverse ks) rest (in-reverse ks k ∙ e)
        go false e =
            let ok = others-of (reverse ks) (in-reverse ks k ∙ e) in
            quits-go old.generation (reverse ks) (awaits_gone by old.generation (reverse ks) rest) ok
            (gone-go old.generation (reverse ks) rest ok (h e))

    undoes : (waits : Bool) (numbers forked : List ℕ) (back : Tree) → Goes back → Goes (quits_new by new waits numbers back forked)
    undoes true numbers forked back h =
        quits-go new.generation forked (awaits_gone by new.generation (reverse numbers) back) (λ x e. news x)
        (gone-go new.generation (reverse numbers) back (λ x e. news x) h)
    undoes false numbers forked back h = quits-go new.generation forked back (λ x e. news x) h

    in-steps :
        (asked first : Bool) (steps : List Step) (last : Bool → Tree → Tree) (back : Tree) →
        ((first : Bool) (back : Tree) → Goes back → Goes (last first back)) → Goes back →
        Goes (in_steps asked first by old new steps last back)
    in-steps asked first [] last back ends h = ends first back h
    in-steps asked first (step ∷ steps) last back ends h =
        let undone = quits_new by new (not first) step.starts back (reverse step.starts) in
        let more = in_steps asked false by old new steps last (taken_back by old new (not first) step back) in
        let way = quits by old.generation (reverse step.quits) (awaits_gone by old.generation (reverse step.quits) more) in
        let undo = undoes (not first) step.starts (reverse step.starts) back h in
        starts-go new step.starts (asks (asked && first) by 1 way undone) (quits_new by new (not first) step.starts back) news
        (asks-go (asked && first) 1 way undone
        (relieves step.quits more
        (λ off. in-steps asked false steps last (taken_back by old new (not first) step back) ends
        (starts-any-go old step.quits undone (others-of step.quits off) undo)))
        undo)
        (λ forked. undoes (not first) step.starts forked back h)

    last-goes :
        (asked : Bool) (numbers left : List ℕ) (retries : ℕ) (dropped : List Address) (n : ℕ) (first : Bool) (back : Tree) →
        Goes (reload_on by old new left retries dropped n) → Goes back →
        Goes (last_step asked by old new numbers left retries dropped n first back)
    last-goes asked numbers left retries dropped n first back on_way h =
        let undone = quits_new by new (not first) numbers back (reverse numbers) in
        let undo = undoes (not first) numbers (reverse numbers) back h in
        let way = reload_on by old new left retries dropped n in
        let asking = asks (asked && first) by 1 way undone in
        starts-go new numbers (Does by (Make (Census new.generation)) (numbers_below n) (census_edges asking undone))
        (quits_new by new (not first) numbers back) news
        (census-go new.generation (numbers_below n) asking undone (asks-go (asked && first) 1 way undone on_way undo) undo)
        (λ forked. undoes (not first) numbers forked back h)

    pub stepped-goes :
        (asked : Bool) (ready : List ℕ) (retries : ℕ) (held wanted : List Address) (n : ℕ) (rollout : Rollout) →
        Goes (reload_on by old new rollout.left retries (only_in held wanted) n) →
        ((opened : List Address) → Goes (closes_opened by old ready retries opened)) →
        Goes (stepped_tree asked by old new ready retries held wanted n rollout)
    stepped-goes asked ready retries held wanted n rollout on_way closing =
        let last = last_step asked by old new rollout.last rollout.left retries (only_in held wanted) n in
        opens-go (only_in wanted held) []
        (λ opened. in_steps asked true by old new rollout.steps last (closes_opened by old ready retries opened))
        (closes_opened by old ready retries)
        (λ opened. in-steps asked true rollout.steps last (closes_opened by old ready retries opened)
        (λ first back h. last-goes asked rollout.last rollout.left retries (only_in held wanted) n first back on_way h)
        (closing opened))
        closing
