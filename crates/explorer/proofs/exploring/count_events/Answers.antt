use Rattle.std.proofs.Common.{◌≡◌, ◌+◌, None, map, sym, ap, subst, ◌∙◌}
use Rattle.std.specs.List.{AllByRecursion}
use Rattle.call_laws.specs.Pieces.{quiet}
use Rattle.table_laws.proofs.Rows.{every-more}
use Rattle.plan_executor.specs.Naming.{listed}
use Rattle.plan_walk.specs.Course.{turns_of}
use Rattle.explorer.specs.Events.{event_at, mishaps_at, waiting}
use Rattle.explorer.specs.Explored.{with_runs, each_with_pairs}
use Rattle.explorer.specs.Known.{IsKnownAt, IsPassed}
use Rattle.explorer.specs.Positions.{open_now}
use Rattle.explorer.proofs.Counted.{with-first, firsts-counting}
use Rattle.explorer.proofs.Moving.{known-later}
use Rattle.explorer.proofs.Turning.{turned, over}
use Rattle.std.proofs.Common.{◌∷◌, [], List, refl}
use Rattle.explorer.specs.declared.events.Mishap.TheVariants.{Exit}
use Rattle.explorer.specs.declared.events.Tried.TheVariants.{One}
use Rattle.explorer.specs.declared.events.Event.{Event}
use Rattle.explorer.specs.declared.events.Tried.{Tried}
use Rattle.explorer.specs.Branching.{runs_with_each}
use Rattle.explorer.specs.Events.{pattern_of}
use Rattle.explorer.specs.Looking.{IsSeenIn}
use Rattle.explorer.specs.Searched.{subject_of, AreSeen, IsSeenAt, IsSeenKnown, IsSeenPassed}
use Rattle.explorer.proofs.Counted.{each-append}
use Rattle.explorer.proofs.Keeping.{none-needed}
use Rattle.explorer.proofs.Moving.{seen-known-later}
use Rattle.explorer.proofs.Seeing.{widen, widen-runs, wider-on, wider-looked}
use Rattle.explorer.proofs.Searching.{way-turned, way-over, seen-wider, wider-itself}
use Rattle.explorer.proofs.exploring.count_events.Goals as goal

pub loop-due-preserved : goal.loop-due-preserved
loop-due-preserved g c =
    let run = c.loop-due.run in
    let due = c.in-Some.due in
    let kept = c.loop-due.invariant in
    let is = c.make.ensures in
    let start = c.args.run in
    let r = start.state.now in
    let to = start.target.now in
    let turns = turns_of start.course in
    let t = start.first.now.table in
    let pairs = c.args.pairs in
    record {
      fit = is.fit;
      first = is.first ∙ kept.first;
      state = is.state ∙ kept.state;
      target = is.target ∙ kept.target;
      turns = is.turns ∙ kept.turns;
      tried = is.tried ∙ kept.tried;
      known = λ p at by call asks.
          let q = kept.counts p at in
          let all = subst (AllByRecursion (IsKnownAt run (run.made + 1))) (sym c.deref.ensures.value) (kept.known p at due.by due.call c.in-Some.ensures.some) in
          every-more (IsPassed run due.call) (IsKnownAt c.make.new.self (c.make.new.self.made + 1)) (λ k is'. is'.1 ∙ known-later run due c.make.new.self q.0 by call k.name k.process q.1 c.in-Some.ensures.some kept.tried is asks is'.0) c.in_ok-known.known.items (c.in_ok-known.ensures.known q.0 q.1 all);
      searched = λ p at.
          let subject : subject_of run ≡ subject_of start = λ i. record { state = kept.state i; target = kept.target i; turns = kept.turns i; table = (kept.first i).table } in
          let moment : pattern_of run.tried (run.made + 1) ≡ quiet = ap (λ (x : Tried). pattern_of x (run.made + 1)) kept.tried in
          let looked = c.look.new.self in
          let table = c.in_ok-_ready.ensures.seen (none-needed c.loop-due.found.common.items run.kernel.table) in
          way-turned start None (λ es. each_with_pairs r to turns t pairs es) (each-append r to turns t pairs) run c.make.new.self due p c.args.found.now c.loop-due.found looked c.count_all_with_pairs.new.found is moment subject c.look.ensures.looked table (λ q come.
          let opened : map (event_at (run.made + 1)) c.deref-in-Some.result.now ≡ open_now run due quiet None =
          ap (map (event_at (run.made + 1))) (c.deref-in-Some.ensures.value ∙ c.in_ok-mishaps.ensures ∙ (λ i. mishaps_at (come.handed i) due.by due.call (waiting due.call (listed run.heir)) 0 run.kernel.table)) in
          let turn = c.in_ok-known.ensures.searched q come in
          record {
            onward = turn.onward;
            seen = λ first seen here.
                let known = kept.seen p at first due.by due.call c.in-Some.ensures.some looked (wider-looked run.kernel.table run.tried run.made c.loop-due.found looked c.look.ensures.looked) table in
                let known' = subst (AllByRecursion (IsSeenKnown (subject_of run) looked (run.made + 1))) (sym c.deref.ensures.value) known in
                subst (λ s. AreSeen (subject_of run) c.count_all_with_pairs.new.found (each_with_pairs s.state s.target s.turns s.table pairs (open_now run due quiet None))) subject
                (subst (λ (es : List Event). AreSeen (subject_of run) c.count_all_with_pairs.new.found (runs_with_each run pairs es)) opened (turn.seen seen here known'));
          }) (kept.searched p at);
      seen = λ p at first by call asks later wide there.
          let way = kept.searched p at in
          let q = way.here in
          let counted = c.count_all_with_pairs.new.found in
          let looked = c.look.new.self in
          let table = c.in_ok-_ready.ensures.seen (none-needed c.loop-due.found.common.items run.kernel.table) in
          let turn = c.in_ok-known.ensures.searched q way.at in
          let on = wider-looked run.kernel.table run.tried run.made c.loop-due.found looked c.look.ensures.looked in
          let here : IsSeenAt looked q = subst (IsSeenIn looked) (sym way.at.table) table in
          let seen = seen-wider run q c.loop-due.found looked on (way.seen first) in
          let known = kept.seen p at first due.by due.call c.in-Some.ensures.some looked on table in
          let known' = subst (AllByRecursion (IsSeenKnown (subject_of run) looked (run.made + 1))) (sym c.deref.ensures.value) known in
          let next = c.in_ok-known.ensures.passed q way.at seen here known' in
          let far = wider-on looked counted later turn.onward.wider wide in
          every-more (IsSeenPassed run due.call counted) (IsSeenKnown (subject_of c.make.new.self) later (c.make.new.self.made + 1)) (λ k so.
          seen-known-later run due c.make.new.self q by call k.name k.process later way.at c.in-Some.ensures.some kept.tried is asks so.0 (seen-wider run q looked later far seen) (widen looked later q.table far here) there (wider-itself later)
          (widen-runs (subject_of run) counted later (One (event_at (run.made + 1) (Exit k.name k.process)) ∷ []) wide so.1)) c.in_ok-known.known.items next;
      counts = turned start None (with-first r to turns t pairs) (firsts-counting r to turns t pairs) run c.make.new.self due c.args.found.now.tally c.loop-due.found.tally c.count_all_with_pairs.new.found.tally is (λ p q at come.
          let all = subst (AllByRecursion (IsKnownAt run (run.made + 1))) (sym c.deref.ensures.value) (kept.known p at due.by due.call c.in-Some.ensures.some) in
          let opened : map (event_at (run.made + 1)) c.deref-in-Some.result.now ≡ open_now run due quiet None =
          ap (map (event_at (run.made + 1))) (c.deref-in-Some.ensures.value ∙ c.in_ok-mishaps.ensures ∙ (λ i. mishaps_at (come.handed i) due.by due.call (waiting due.call (listed run.heir)) 0 run.kernel.table)) in
          c.in_ok-known.ensures.counted q come all ∙ (λ i. with_runs (kept.state i) (kept.target i) (kept.turns i) ((kept.first i).table) (each_with_pairs (kept.state i) (kept.target i) (kept.turns i) ((kept.first i).table) pairs (opened i)) (c.look.ensures.tally i))) kept.counts;
    }

pub returns-clause-counted : goal.returns-clause-counted
returns-clause-counted g c = λ p at.
    let start = c.args.run in
    let r = start.state.now in
    let to = start.target.now in
    let turns = turns_of start.course in
    let t = start.first.now.table in
    over start None (with-first r to turns t c.args.pairs) (firsts-counting r to turns t c.args.pairs) c.loop-due.run c.args.found.now.tally c.loop-due.found.tally c.in_default.ensures.none c.loop-due.invariant.counts p at

pub returns-clause-searched : goal.returns-clause-searched
returns-clause-searched g c = λ p at.
    let start = c.args.run in
    let r = start.state.now in
    let to = start.target.now in
    let turns = turns_of start.course in
    let t = start.first.now.table in
    way-over start None (λ es. each_with_pairs r to turns t c.args.pairs es) (each-append r to turns t c.args.pairs) c.loop-due.run p c.args.found.now c.loop-due.found c.in_default.ensures.none refl (c.loop-due.invariant.searched p at)
