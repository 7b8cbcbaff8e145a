use Rattle.std.proofs.Common.{◌≡◌, ◌+◌, ◌∷◌, [], OnOk, refl, subst, ap, ◌∙◌, arith}
use Rattle.vocabulary.specs.declared.calls.Answer.TheVariants.{MasterGone}
use Rattle.call_laws.specs.Pieces.{quiet}
use Rattle.plan_walk.specs.Course.{turns_of, trail_on}
use Rattle.plan_walk.proofs.Paths.{asks_height}
use Rattle.explorer.specs.declared.events.Tried.{Tried}
use Rattle.explorer.specs.declared.events.Tried.TheVariants.{One, Two}
use Rattle.explorer.specs.declared.tally.Tally.{Tally}
use Rattle.explorer.specs.Events.{pattern_of, event_at, with_mishap}
use Rattle.explorer.specs.Explored.{with_runs}
use Rattle.explorer.specs.Positions.{IsQuietFrom, IsSameUpTo}
use Rattle.explorer.proofs.Later.{elsewhere}
use Rattle.explorer.proofs.Meeting.{same-before, quiet-behind, at-event}
use Rattle.explorer.proofs.Searching.{branched}
use Rattle.std.proofs.lemmas.Result.{on_ok_weaker}
use Rattle.explorer.proofs.exploring.count_pair.Goals as goal

pub overflow_add-number : goal.overflow_add-number
overflow_add-number g c =
    let t = trail_on c.args.point.now.run.now.course in
    let left = asks_height t.rest t.lacked _ (c.requires.due MasterGone) in
    omega (arith, left, c.requires.fit.room, c.requires.fit.countable)

pub branch-point-requires-clause-moment : goal.branch-point-requires-clause-moment
branch-point-requires-clause-moment g c =
    let n = c.args.point.now.run.now.made + 1 in
    at-event (event_at n c.args.mishap) (pattern_of (One c.args.first)) n refl ∙ ap (with_mishap c.args.mishap) c.requires.moment

pub count_run-requires-clause-quiet : goal.count_run-requires-clause-quiet
count_run-requires-clause-quiet g c =
    let n = c.args.point.now.run.now.made + 1 in
    let is = c.in_ok-branch.ensures in
    let second = event_at n c.args.mishap in
    let both : IsQuietFrom n (pattern_of (Two c.args.first second)) =
    quiet-behind second (pattern_of (One c.args.first)) n (omega arith) (quiet-behind c.args.first (λ _. quiet) n c.requires.first (λ m lt. refl)) in
    λ m lt. ap (λ (x : Tried). pattern_of x m) is.tried ∙ both m (omega (arith, lt, is.made))

pub returns-clause-counted : goal.returns-clause-counted
returns-clause-counted g c = λ p at.
    let run = c.args.point.now.run.now in
    let n = run.made + 1 in
    let is = c.in_ok-branch.ensures in
    let second = event_at n c.args.mishap in
    let both : IsSameUpTo run.made (pattern_of run.tried) (pattern_of (Two c.args.first second)) =
    λ m le. same-before second (pattern_of (One c.args.first)) run.made (omega arith) m le ∙ c.requires.tried m le in
    let whole : with_runs c.in_ok-branch.branch.state.now c.in_ok-branch.branch.target.now (turns_of c.in_ok-branch.branch.course) c.in_ok-branch.branch.first.now.table (c.in_ok-branch.branch.tried ∷ []) c.look_between.new.found.tally
    ≡ with_runs run.state.now run.target.now (turns_of run.course) run.first.now.table (Two c.args.first second ∷ []) c.args.found.now.tally =
    λ i. with_runs (is.state i) (is.target i) (is.turns i) ((is.first i).table) (is.tried i ∷ []) (c.look_between.ensures.tally i) in
    subst (λ (x : Tally). OnOk c.count_run.result (c.count_run.new.found.tally ≡ x)) whole (c.count_run.ensures.counted _ (is.at p (elsewhere run p (Two c.args.first second) both at)))

pub returns-clause-searched : goal.returns-clause-searched
returns-clause-searched g c = λ p at.
    let point = c.args.point.now in
    let run = point.run.now in
    let n = run.made + 1 in
    let is = c.in_ok-branch.ensures in
    let second = event_at n c.args.mishap in
    let both : IsSameUpTo run.made (pattern_of run.tried) (pattern_of (Two c.args.first second)) =
    λ m le. same-before second (pattern_of (One c.args.first)) run.made (omega arith) m le ∙ c.requires.tried m le in
    let moment = at-event second (pattern_of (One c.args.first)) n refl ∙ ap (with_mishap c.args.mishap) c.requires.moment in
    on_ok_weaker c.count_run.result
    (branched point p c.args.gone c.args.mishap (Two c.args.first second) c.in_ok-branch.branch c.args.found.now c.look_between.new.found c.count_run.new.found at c.requires.due both moment is c.look_between.ensures.looked c.in_ok-look_between.ensures.seen)
    (c.count_run.ensures.searched _ (is.at p (elsewhere run p (Two c.args.first second) both at)))
