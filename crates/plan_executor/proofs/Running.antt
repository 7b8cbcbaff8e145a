-- Calls that follow a plan's tree, each answered as the kernel answers under a pattern, are the run of that tree.
use Rattle.std.proofs.Common.{◌≡◌, ℕ, ◌+◌, true, false, List, [], ◌∷◌, Option, Some, None, refl, sym, ◌∙◌, ap, subst}
use Rattle.definitions.specs.Table.{Table}
use Rattle.vocabulary.specs.declared.reports.Entry.{Entry}
use Rattle.vocabulary.specs.declared.calls.Reply.{Reply}
use Rattle.vocabulary.specs.declared.plans.PidNote.{PidNote}
use Rattle.vocabulary.specs.declared.plans.Order.{Order}
use Rattle.definitions.specs.Calls.{Stepped, step_with, Handed, after_exits}
use Rattle.call_laws.specs.Pieces.{branch, among, ends_at, noted, answered, with_entry}
use Rattle.definitions.specs.Run.{Tree, Ends, Does, Branches, Nothing, Branch, reply_of, call_of, lacked_by, Pattern}
use Rattle.definitions.specs.Run.{Progress, Lost, Ran, run_with, goes_with, after_moment, after_call}
use Rattle.plan_walk.specs.Path.{Trail, advance, trail_after, Follows, IsOver, rest_after, note_after}
use Rattle.plan_executor.specs.Replays.{Replays}
use Rattle.plan_executor.specs.Lawful.{trail_at, IsRun}

-- what is run behind the edge that was found
abbrev pub run_on : Handed → Option (Option PidNote × Tree) → Pattern → Progress → Ran
run_on handed None pattern p = ends_at Lost p
run_on handed (Some edge) pattern p = run_with handed edge.1 pattern (noted edge.0 p)

pub goes-branch : (handed : Handed) (bs : Branches) (r : Reply) (pattern : Pattern) (p : Progress) →
    goes_with handed bs r pattern p ≡ run_on handed (branch bs r) pattern p
goes-branch handed Nothing r pattern p = refl
goes-branch handed (Branch replies said rest more) r pattern p =
    elim (among replies r) as (λ b. elim b as (λ _. Ran) [ true ↦ run_with handed rest pattern (noted said p) | false ↦ goes_with handed more r pattern p ]
    ≡ run_on handed (elim b as (λ _. Option (Option PidNote × Tree)) [ true ↦ Some (said, rest) | false ↦ branch more r ]) pattern p) [
      | true ↦ refl
      | false ↦ goes-branch handed more r pattern p
    ]

-- one entry more in front
with-entry : (e : Entry) (before middle : Progress) (entries : List Entry) (last : Table) (t : Trail) (rest : Ran) →
    IsRun entries last t rest → IsRun (e ∷ entries) last t (with_entry e before middle rest)
with-entry e before middle entries last t rest h = record { entries_are = ap (λ es. e ∷ es) h.entries_are; table = h.table; ending = h.ending; trail = h.trail }

-- what holds of every tree's run by these entries
abbrev pub RunsAll : Handed → List Entry → Type 0
RunsAll handed entries =
    (tree : Tree) (pattern : Pattern) (p : Progress) (last : Table) → Follows (trail_at (Some tree) p) entries →
    IsOver (trail_after (trail_at (Some tree) p) entries).rest → Replays handed pattern p.calls p.table entries last →
    IsRun entries last (trail_after (trail_at (Some tree) p) entries) (run_with handed tree pattern p)

-- the trail behind an edge, or where there is none
abbrev pub behind : Option (Option PidNote × Tree) → Progress → Trail
behind found q = record { rest = rest_after found; ready = q.ready; lacked = q.lacked; note = note_after found q.note; cause = q.cause; made = q.calls }

runs-behind : (handed : Handed) (found : Option (Option PidNote × Tree)) (entries : List Entry) (pattern : Pattern)
    (q : Progress) (last : Table) → RunsAll handed entries → Follows (behind found q) entries →
    IsOver (trail_after (behind found q) entries).rest → Replays handed pattern q.calls q.table entries last →
    IsRun entries last (trail_after (behind found q) entries) (run_on handed found pattern q)
runs-behind handed None [] pattern q last all follows over replays = record { entries_are = refl; table = replays; ending = refl; trail = refl }
runs-behind handed None (e ∷ entries) pattern q last all follows over replays = absurd follows.0
runs-behind handed (Some (None, rest)) entries pattern q last all follows over replays = all rest pattern q last follows over replays
runs-behind handed (Some (Some n, rest)) entries pattern q last all follows over replays = all rest pattern (noted (Some n) q) last follows over replays

-- the entry that a step's run begins with
abbrev pub first_entry : Handed → ℕ → Order → Pattern → Progress → Entry
first_entry handed by order pattern p =
    let moment = pattern (p.calls + 1) in
    record { by = by; call = call_of order (lacked_by by p.lacked); answer = (answered handed by order moment.fate (after_moment moment.exits p)).answer }

runs-step : (handed : Handed) (entries : List Entry) (by : ℕ) (order : Order) (set : List ℕ) (branches : Branches)
    (pattern : Pattern) (p : Progress) (last : Table) → RunsAll handed entries →
    let moment = pattern (p.calls + 1) in
    let e = first_entry handed by order pattern p in
    let t = advance (trail_at (Some (Does by order set branches)) p) e in
    Follows t entries → IsOver (trail_after t entries).rest →
    Replays handed pattern (p.calls + 1)
    (answered handed by order moment.fate (after_moment moment.exits p)).table entries last →
    IsRun (e ∷ entries) last (trail_after t entries) (run_with handed (Does by order set branches) pattern p)
runs-step handed entries by order set branches pattern p last all follows over replays =
    let moment = pattern (p.calls + 1) in
    let middle = after_moment moment.exits p in
    let s = answered handed by order moment.fate middle in
    let q = after_call by order set s middle in
    let e = first_entry handed by order pattern p in
    let found = branch branches (reply_of set s.answer) in
    with-entry e p middle entries last (trail_after (behind found q) entries) _
    (subst (IsRun entries last (trail_after (behind found q) entries))
    (sym (goes-branch handed branches (reply_of set s.answer) pattern q))
    (runs-behind handed found entries pattern q last all follows over replays))

pub runs-as : (handed : Handed) (entries : List Entry) → RunsAll handed entries
runs-as handed [] (Ends end) pattern p last follows over replays = record { entries_are = refl; table = replays; ending = refl; trail = refl }
runs-as handed [] (Does by order set branches) pattern p last follows over replays = absurd over
runs-as handed (e ∷ entries) (Ends end) pattern p last follows over replays = absurd follows.0
runs-as handed (e ∷ entries) (Does by order set branches) pattern p last follows over replays =
    let moment = pattern (p.calls + 1) in
    let t = trail_at (Some (Does by order set branches)) p in
    let mine : step_with handed e.by e.call moment.fate (after_exits moment.exits p.table)
    ≡ answered handed by order moment.fate (after_moment moment.exits p) = λ i. step_with handed (follows.0.0 i)
    (follows.0.1 i) moment.fate (after_exits moment.exits p.table) in
    let same : e ≡ first_entry handed by order pattern p = λ i.
    record {
      by = follows.0.0 i;
      call = follows.0.1 i;
      answer = (sym replays.0 ∙ ap (λ (s : Stepped). s.answer) mine) i;
    } in
    subst (λ (x : Entry). IsRun (x ∷ entries) last (trail_after (advance t x) entries) (run_with handed (Does by order set branches) pattern p)) (sym same)
    (runs-step handed entries by order set branches pattern p last (runs-as handed entries)
    (subst (λ (x : Entry). Follows (advance t x) entries) same follows.1)
    (subst (λ (x : Entry). IsOver (trail_after (advance t x) entries).rest) same over)
    (subst (λ (s : Stepped). Replays handed pattern (p.calls + 1) s.table entries last) mine replays.1))
