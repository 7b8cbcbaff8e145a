use Rattle.std.proofs.Common.{◌≡◌, ◌+◌, refl, ap, subst, ◌∙◌, arith}
use Rattle.plan_walk.specs.Path.{Reports}
use Rattle.call_laws.specs.Pieces.{quiet}
use Rattle.definitions.specs.Master.{sides_of, handover_for}
use Rattle.definitions.specs.Claims.{run_of}
use Rattle.plan_walk.specs.Course.{turns_of, trail_on}
use Rattle.explorer.specs.declared.events.Tried.{Tried}
use Rattle.explorer.specs.Events.{pattern_of}
use Rattle.explorer.specs.Explored.{report_under}
use Rattle.explorer.specs.Positions.{after_due}
use Rattle.explorer.proofs.Ending.{reports_it}
use Rattle.std.proofs.Common.{sym}
use Rattle.explorer.specs.Readiness.{HaveAtLeast}
use Rattle.explorer.specs.Searched.{subject_of}
use Rattle.explorer.proofs.Keeping.{none-needed}
use Rattle.explorer.proofs.Searching.{finish-begun, finish-turned, finished, low-turned}
use Rattle.explorer.proofs.position.Position.finish.Goals as goal

pub make-requires-clause-moment : goal.make-requires-clause-moment
make-requires-clause-moment c =
    ap (λ (x : Tried). pattern_of x (c.loop-due.self.made + 1)) c.loop-due.invariant.tried
    ∙ c.requires.quiet (c.loop-due.self.made + 1) (omega (arith, c.loop-due.invariant.made))

pub loop-due-preserved : goal.loop-due-preserved
loop-due-preserved c =
    let kept = c.loop-due.invariant in
    let is = c.make.ensures in
    let low : HaveAtLeast c.loop-due.found.common.items c.make.new.self.kernel.table c.low_after-after.result =
    subst (HaveAtLeast c.loop-due.found.common.items c.make.new.self.kernel.table) (sym c.low_after-after.ensures) (low-turned c.loop-due.self c.in-Some.due c.make.new.self c.loop-due.found c.loop-due.low is kept.low) in
    record {
      fit = is.fit;
      first = is.first ∙ kept.first;
      state = is.state ∙ kept.state;
      target = is.target ∙ kept.target;
      turns = is.turns ∙ kept.turns;
      tried = is.tried ∙ kept.tried;
      made = omega (arith, kept.made, is.made);
      found = c.look-in-Some.ensures.tally ∙ kept.found;
      at = λ p at. let q = kept.at p at in (after_due c.loop-due.self quiet q.0, is.at q.0 q.1);
      low = subst (λ v. HaveAtLeast v.items c.make.new.self.kernel.table c.in_ok-low-2.low) (sym c.look-in-Some.ensures.looked.common) (c.in_ok-low-2.ensures.low low);
      searched = λ p at.
          let run = c.loop-due.self in
          let start = c.args.self in
          let moment : pattern_of run.tried (run.made + 1) ≡ quiet = ap (λ (x : Tried). pattern_of x (run.made + 1)) kept.tried ∙ c.requires.quiet (run.made + 1) (omega (arith, kept.made)) in
          let subject : subject_of run ≡ subject_of start = λ i. record { state = kept.state i; target = kept.target i; turns = kept.turns i; table = (kept.first i).table } in
          finish-turned start p c.args.found.now run c.in-Some.due c.make.new.self c.loop-due.found c.look-in-Some.new.self is moment subject c.look-in-Some.ensures.looked (c.in_ok-low-2.ensures.seen low) (kept.searched p at);
    }

pub returns-in_err-low-2-clause-found : goal.returns-in_err-low-2-clause-found
returns-in_err-low-2-clause-found c = c.look-in-Some.ensures.tally ∙ c.loop-due.invariant.found

pub returns-clause-found : goal.returns-clause-found
returns-clause-found c = c.loop-due.invariant.found

pub returns-clause-report : goal.returns-clause-report
returns-clause-report c = λ p at.
    let kept = c.loop-due.invariant in
    let run = c.loop-due.self in
    let q = kept.at p at in
    let handed = handover_for run.state.now run.target.now in
    let over = c.in_default.ensures.none in
    let whole : c.report.result ≡ report_under run.state.now run.target.now (turns_of run.course) run.first.now.table run.tried =
    reports_it handed (sides_of run.state.now run.target.now) (trail_on run.course) (pattern_of run.tried) q.0 (run_of run.state.now run.target.now (turns_of run.course) (pattern_of run.tried) run.first.now.table) c.report.result over q.1.trail (q.1.come.ends (pattern_of run.tried) (λ m le. refl)) (subst (λ sides. Reports sides (trail_on run.course) c.report.result) q.1.sides c.report.ensures) in
    whole ∙ (λ i. report_under (kept.state i) (kept.target i) (kept.turns i) (kept.first i).table (kept.tried i))

pub loop-due-init : goal.loop-due-init
loop-due-init c = record {
  fit = c.requires.fit;
  first = refl;
  state = refl;
  target = refl;
  turns = refl;
  tried = refl;
  made = omega arith;
  found = c.look.ensures.tally;
  at = λ p at. (p, at);
  low = subst (λ v. HaveAtLeast v.items c.args.self.kernel.table c.in_ok-low.low) (sym c.look.ensures.looked.common) (c.in_ok-low.ensures.low (none-needed c.args.found.now.common.items c.args.self.kernel.table));
  searched = λ p at. finish-begun c.args.self p c.args.found.now c.look.new.self at c.look.ensures.looked (c.in_ok-low.ensures.seen (none-needed c.args.found.now.common.items c.args.self.kernel.table));
}

pub returns-clause-searched : goal.returns-clause-searched
returns-clause-searched c = λ p at.
    let kept = c.loop-due.invariant in
    let subject : subject_of c.loop-due.self ≡ subject_of c.args.self = λ i. record { state = kept.state i; target = kept.target i; turns = kept.turns i; table = (kept.first i).table } in
    finished c.args.self p c.args.found.now c.loop-due.self c.loop-due.found c.in_default.ensures.none subject kept.tried (kept.searched p at)
