use Rattle.std.proofs.Common.{◌≡◌, ◌+◌, ℕ, None}
use Rattle.std.specs.List.{AllByRecursion}
use Rattle.vocabulary.specs.declared.calls.Call.{Call}
use Rattle.definitions.specs.Run.{Progress}
use Rattle.plan_walk.specs.Fit.{height_next}
use Rattle.plan_walk.specs.Course.{turns_of, trail_on}
use Rattle.plan_walk.specs.Walk.{AsksFor}
use Rattle.explorer.specs.declared.events.Tried.TheVariants.{Nothing}
use Rattle.explorer.specs.Known.{IsKnownAt}
use Rattle.explorer.specs.Positions.{IsFit, IsAt}
use Rattle.explorer.proofs.Counted.{with-first, firsts-counting}
use Rattle.explorer.specs.declared.findings.Findings.{Findings}
use Rattle.explorer.specs.Explored.{each_with_pairs}
use Rattle.explorer.specs.Looking.{IsSeenIn}
use Rattle.explorer.specs.Searched.{subject_of, HasSeen, IsWider, IsSeenKnown}
use Rattle.explorer.proofs.Searching.{IsOnWay}
use Rattle.explorer.proofs.Turning.{Reaches}
use Rattle.explorer.proofs.exploring.count_events.Given as goal

abbrev pub invariant-loop-due : goal.invariant-loop-due
invariant-loop-due g l =
    let r = l.fn.run.state.now in
    let to = l.fn.run.target.now in
    let given = turns_of l.fn.run.course in
    let t = l.fn.run.first.now.table in
    record {
      fit : IsFit l.run;
      first : l.run.first.now ≡ l.fn.run.first.now;
      state : l.run.state.now ≡ r;
      target : l.run.target.now ≡ to;
      turns : turns_of l.run.course ≡ given;
      tried : l.run.tried ≡ Nothing;
      known : (p : Progress) → IsAt l.fn.run p → (by : ℕ) (call : Call) → AsksFor (trail_on l.run.course) by call →
          AllByRecursion (IsKnownAt l.run (l.run.made + 1)) l.known.items;
      searched : (p : Progress) → IsAt l.fn.run p → IsOnWay l.fn.run p None (λ es. each_with_pairs r to given t l.pairs es) l.fn.found l.run l.found;
      seen : (p : Progress) → IsAt l.fn.run p → HasSeen l.fn.run p l.fn.found → (by : ℕ) (call : Call) → AsksFor (trail_on l.run.course) by call →
          (later : Findings) → IsWider l.found later → IsSeenIn later l.run.kernel.table →
          AllByRecursion (IsSeenKnown (subject_of l.run) later (l.run.made + 1)) l.known.items;
      counts : Reaches l.fn.run None (with-first r to given t l.pairs) (firsts-counting r to given t l.pairs) l.run l.fn.found.tally l.found.tally;
    }

abbrev pub decreases-loop-due : goal.decreases-loop-due
decreases-loop-due g l = height_next (trail_on l.run.course).rest
