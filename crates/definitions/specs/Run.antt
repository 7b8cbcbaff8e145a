-- Plans as trees, and the run of a tree on a table under a pattern.
--
-- Our own. Other masters go on after a failure as their code happens to; a plan has an edge for every reply. In one
-- moment some children exit, and then one call by one master takes effect.

use Rattle.vocabulary.specs as vocabulary
use Rattle.definitions.specs as above
use Rattle.std.specs.Prelude.{◌≡◌, ◌+◌, ◌-◌, ◌==◌, ◌∷◌, if◌then◌else◌}
use denote.Enum.Bare.{sameb}
use vocabulary.Words.{refl, ℕ, not, Bool, true, false, List, [], Option, None, map, get_or, list_any, lacks}
use vocabulary.Words.{shortfalls_of, then_some, option_or, unwrap_or}
use vocabulary.declared.calls.Answer.TheVariants as answer
use vocabulary.declared.calls.Reply.TheVariants as reply
use vocabulary.declared.reports.Outcome.TheVariants as outcome
use vocabulary.declared.plans.Side.TheVariants as side
use vocabulary.contracts.calls.Reply.{the_type}
use above.Table.{Table}
use above.Calls.{Name, after_exits, losses_of, Call, OpenAt, Fork, AwaitReady, Kill, Census, AwaitGone, SpawnMaster}
use above.Calls.{Adopt, Alive, Ask, Answer, Fate, Stepped, Handed, step_with}
use above.Master.{fork_of, PidNote, Sides}
pub use vocabulary.declared.calls.Reply.{Reply}
pub use vocabulary.declared.plans.Side.{Side}
pub use vocabulary.declared.plans.End.{End}
pub use vocabulary.declared.plans.End.TheVariants.{Done, RolledBack, ShortOld, ShortTarget, Split, JoinReady, JoinBack}
pub use vocabulary.declared.plans.End.TheVariants.{Join}
pub use vocabulary.declared.plans.Order.{Order}
pub use vocabulary.declared.plans.Order.TheVariants.{Make, ForkLacking, AwaitLacking, KillLacking}
pub use vocabulary.declared.reports.Entry.{Entry}
pub use vocabulary.declared.reports.Report.{Report}
pub use vocabulary.declared.reports.Outcome.{Outcome}
pub use vocabulary.declared.plans.Lack.{Lack}

---- Plans: steps, what follows each reply, ends

-- An end; or a step: its master, by the image; what it asks for; the set that its census must contain; and its edges.
-- An edge: the replies that lead to it, the note that it sets, if any, what follows, and the other edges.
mutual
  pub data Tree : Type 0 where
    Ends : End → Tree
    Does : ℕ → Order → List ℕ → Branches → Tree

  pub data Branches : Type 0 where
    Nothing : Branches
    Branch : List Reply → Option PidNote → Tree → Branches → Branches

-- whether two replies are one: the equality that the checker makes of the enum
abbrev pub same_reply : Reply → Reply → Bool
same_reply a b = sameb the_type a b

-- the reply that an answer is to a step with this set: a count that lacks no number of the set is full
abbrev pub reply_of : List ℕ → Answer → Reply
reply_of set (answer.Opened fd) = reply.Opened
reply_of set answer.InUse = reply.InUse
reply_of set answer.TooMany = reply.TooMany
reply_of set answer.Denied = reply.Denied
reply_of set answer.NoMemory = reply.NoMemory
reply_of set answer.Fine = reply.Fine
reply_of set answer.Forked = reply.Forked
reply_of set answer.Again = reply.Again
reply_of set answer.IsReady = reply.IsReady
reply_of set answer.Gone = reply.Gone
reply_of set answer.Late = reply.Late
reply_of set (answer.Counted ns) = if list_any (λ k. true) (lacks set ns) then reply.Short else reply.Full
reply_of set answer.Spawned = reply.Spawned
reply_of set answer.NoImage = reply.NoImage
reply_of set answer.Adopted = reply.Adopted
reply_of set answer.Refused = reply.Refused
reply_of set answer.IoFault = reply.IoFault
reply_of set answer.IsAlive = reply.IsAlive
reply_of set answer.Go = reply.Go
reply_of set answer.Back = reply.Back
reply_of set answer.MasterGone = reply.MasterGone

-- the plain reply to a call; of a census, a full one
abbrev pub plain_reply : Call → Reply
plain_reply (OpenAt a) = reply.Opened
plain_reply (Fork g k fds) = reply.Forked
plain_reply (AwaitReady g k) = reply.IsReady
plain_reply (Census g) = reply.Full
plain_reply (AwaitGone g k) = reply.Gone
plain_reply (SpawnMaster i) = reply.Spawned
plain_reply Adopt = reply.Adopted
plain_reply (Alive i) = reply.IsAlive
plain_reply (Ask n) = reply.Go
plain_reply _ = reply.Fine

-- The call that a step asks for. A settle's step names the lowest number that the last count lacked.
abbrev pub call_of : Order → List ℕ → Call
call_of (Make call) lacking = call
call_of (ForkLacking crew) lacking = fork_of crew (get_or lacking 0 0)
call_of (AwaitLacking g) lacking = AwaitReady g (get_or lacking 0 0)
call_of (KillLacking g) lacking = Kill g (get_or lacking 0 0)

---- Moments

-- What happens at one call: which processes exit before it, and how it is made to fail.
pub record Moment : Type 0 where
  pub exits : List Name
  pub fate : Option Fate

-- A pattern gives each call, counted from 1, its moment.
abbrev pub Pattern : Type 0
Pattern = ℕ → Moment

---- Runs, and what the answers tell

abbrev pub ready_after : Answer → List ℕ → List ℕ
ready_after (answer.Counted ns) ready = ns
ready_after _ ready = ready

-- what the last count of a master lacked
abbrev pub lacked_by : ℕ → List Lack → List ℕ
lacked_by by [] = []
lacked_by by (lack ∷ lacked) = if lack.by == by then lack.numbers else lacked_by by lacked

-- the newest count of another master
abbrev pub newest_of_others : ℕ → List Lack → List Lack
newest_of_others by [] = []
newest_of_others by (lack ∷ lacked) = if lack.by == by then newest_of_others by lacked else lack ∷ []

-- What the last counts lack, after an answer to a master. A plan has two masters at most: their last counts are kept,
-- the newest first.
abbrev pub lacked_after : ℕ → List ℕ → Answer → List Lack → List Lack
lacked_after by set (answer.Counted ns) lacked = record { by = by; numbers = lacks set ns } ∷ newest_of_others by lacked
lacked_after by set _ lacked = lacked

-- Whether an answer counts as a fault: each one that is not plain, except a count and that the operator goes back.
abbrev pub is_fault : Call → Answer → Bool
is_fault call (answer.Counted ns) = false
is_fault (Ask n) answer.Back = false
is_fault call a = not (same_reply (reply_of [] a) (plain_reply call))

-- The operator went back at a question: which one, and how many faults the run had before it.
pub record Return : Type 0 where
  pub question : ℕ
  pub faults : ℕ

-- the returns after one call more
abbrev pub returns_after : Call → Answer → ℕ → List Return → List Return
returns_after (Ask n) answer.Back faults returns = record { question = n; faults = faults } ∷ returns
returns_after _ _ faults returns = returns

-- The number of faults since the operator went back at a question; 0 where the operator did not.
abbrev pub faults_since : ℕ → List Return → ℕ → ℕ
faults_since question [] faults = 0
faults_since question (b ∷ returns) faults =
    if b.question == question then faults - b.faults else faults_since question returns faults

-- How far a run has come: its table, the number of calls made, the last count, what the last counts lacked, the
-- faults and losses so far, where the operator went back, the first call that went wrong, and the note.
pub record Progress : Type 0 where
  pub table : Table
  pub calls : ℕ
  pub ready : List ℕ
  pub lacked : List Lack
  pub faults : ℕ
  pub losses : ℕ
  pub returns : List Return
  pub cause : Option ℕ
  pub note : PidNote

abbrev pub start_at : Table → PidNote → Progress
start_at t note =
    record
    { table = t; calls = 0; ready = []; lacked = []; faults = 0; losses = 0; returns = []; cause = None; note = note }

-- the middle of a moment, after its exits
abbrev pub after_moment : List Name → Progress → Progress
after_moment es p = record p { table = after_exits es p.table; losses = p.losses + losses_of es p.table }

abbrev pub after_call : ℕ → Order → List ℕ → Stepped → Progress → Progress
after_call by order set s p =
    let call = call_of order (lacked_by by p.lacked) in
    let went_wrong = not (same_reply (reply_of set s.answer) (plain_reply call)) in
    record p {
      table = s.table;
      calls = p.calls + 1;
      ready = ready_after s.answer p.ready;
      lacked = lacked_after by set s.answer p.lacked;
      faults = if is_fault call s.answer then p.faults + 1 else p.faults;
      returns = returns_after call s.answer p.faults p.returns;
      cause = option_or p.cause (then_some went_wrong (p.calls + 1));
    }

-- how a run ends: at an end of the plan, or where a step has no edge for the answer
pub data Ending : Type 0 where
  At : (end : End) → Ending
  Lost : Ending

-- A whole run: its entries, each table that it passes with the counts up to it, middle tables too, and how it ends.
pub record Ran : Type 0 where
  pub entries : List Entry
  pub passed : List Progress
  pub ending : Ending
  pub last : Progress

-- `run_with` is the run of a tree; `goes_with` goes on after the first of these edges that has the reply. What a call
-- is handed is the same throughout.
abbrev mutual
  pub run_with : Handed → Tree → Pattern → Progress → Ran
  run_with handed (Ends end) pattern p = record { entries = []; passed = p ∷ []; ending = At end; last = p }
  run_with handed (Does by order set branches) pattern p =
      let moment = pattern (p.calls + 1) in
      let middle = after_moment moment.exits p in
      let call = call_of order (lacked_by by middle.lacked) in
      let s = step_with handed by call moment.fate middle.table in
      let rest = goes_with handed branches (reply_of set s.answer) pattern (after_call by order set s middle) in
      record rest {
        entries = record { by = by; call = call; answer = s.answer } ∷ rest.entries;
        passed = p ∷ middle ∷ rest.passed;
      }

  pub goes_with : Handed → Branches → Reply → Pattern → Progress → Ran
  goes_with handed Nothing r pattern p = record { entries = []; passed = p ∷ []; ending = Lost; last = p }
  goes_with handed (Branch replies said rest more) r pattern p =
      elim (list_any (λ x. same_reply x r) replies) as (λ b. Ran) [
        | true ↦ run_with handed rest pattern (record p { note = unwrap_or said p.note })
        | false ↦ goes_with handed more r pattern p
      ]

---- What is reported: what the calls and their answers tell, and nothing else

-- the outcome of a run with this ending, by the groups of its side and what the last count lacked
abbrev pub outcome_of : Sides → Ending → List ℕ → Outcome
outcome_of sides (At Done) lacking = outcome.Done
outcome_of sides (At RolledBack) lacking = outcome.RolledBack
outcome_of sides (At ShortOld) lacking = outcome.Degraded side.Old (shortfalls_of sides.old lacking)
outcome_of sides (At ShortTarget) lacking = outcome.Degraded side.Target (shortfalls_of sides.target lacking)
-- no run ends at a mark
outcome_of sides (At _) lacking = outcome.Done
outcome_of sides Lost lacking = outcome.Lost

-- What the report of a run says, by the groups of both sides and what the newest count lacked.
abbrev pub report_of : Sides → Ran → Report
report_of sides ran = record {
  outcome = outcome_of sides ran.ending (get_or (map (λ (lack : Lack). lack.numbers) ran.last.lacked) 0 []);
  cause = ran.last.cause;
  note = ran.last.note;
  ready = ran.last.ready;
}

---- An example: a census that lacks a number of its set is short

example : reply_of (0 ∷ 1 ∷ []) (answer.Counted (0 ∷ [])) ≡ reply.Short
example = refl
