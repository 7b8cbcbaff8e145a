-- A run, one call later.
use Rattle.std.proofs.Common.{◌≡◌, ◌≤◌, ◌+◌, ◌++◌, ◌∷◌, ℕ, List, Option, sym, ◌∙◌, ap, subst, arith, refl}
use Rattle.vocabulary.specs.declared.calls.Answer.{Answer}
use Rattle.vocabulary.specs.declared.reports.Entry.{Entry}
use Rattle.definitions.specs.Table.{Table}
use Rattle.definitions.specs.Calls.{Stepped, step_with, after_exits}
use Rattle.definitions.specs.Run.{Tree, Moment, Pattern, Progress, after_moment}
use Rattle.definitions.specs.Plans.{Turn}
use Rattle.plan_walk.specs.Path.{Trail, advance, Asks}
use Rattle.definitions.specs.Master.{handover_for}
use Rattle.handover_text.specs.Reading.{handed_by}
use Rattle.kernel_model.specs.State.{State}
use Rattle.plan_walk.specs.Fit.{height_next}
use Rattle.plan_walk.specs.Course.{turns_of, trail_on, sides_on}
use Rattle.plan_walk.specs.Walk.{AsksFor}
use Rattle.plan_walk.specs.declared.course.Course.{Course}
use Rattle.plan_walk.specs.declared.walk.Due.{Due}
use Rattle.plan_executor.specs.Lawful.{trail_at}
use Rattle.plan_executor.specs.Naming.{listed}
use Rattle.explorer.specs.declared.events.Tried.{Tried}
use Rattle.explorer.specs.declared.position.Position.{Position}
use Rattle.explorer.specs.Events.{pattern_of, met, waiting}
use Rattle.explorer.specs.Positions.{rest_run, HasCome, IsSameUpTo, IsFit, IsAt, IsLater, moved, open_now}
use Rattle.explorer.proofs.Coming.{GoesOn, goes, met-step}

-- the entry of the call that was due
abbrev pub entry_of : Due → Answer → Entry
entry_of due answer = record { by = due.by; call = due.call; answer = answer }

-- What making the call that is due gave.
pub record IsMade (before : Position) (due : Due) (m : Moment) (course : Course) (kernel : State) (waits : Option ℕ) (answer : Answer) : Type 0 where
  pub step : record { answer = answer; table = kernel.table }
      ≡ step_with (handed_by before.text.now) due.by due.call m.fate (after_exits m.exits before.kernel.table)
  pub room : kernel.room + 1 ≡ before.kernel.room
  pub trail : trail_on course ≡ advance (trail_on before.course) (entry_of due answer)
  pub sides : sides_on course ≡ sides_on before.course
  pub turns : turns_of course ≡ turns_of before.course
  pub lower : height_next (trail_on course).rest + 1 ≤ height_next (trail_on before.course).rest
  pub heir : listed waits ≡ waiting due.call (listed before.heir)

pub later : (before : Position) (due : Due) (m : Moment) (course : Course) (kernel : State) (waits : Option ℕ) (answer : Answer) →
    IsFit before → AsksFor (trail_on before.course) due.by due.call → pattern_of before.tried (before.made + 1) ≡ m →
    IsMade before due m course kernel waits answer →
    IsLater before due m (record before { made = before.made + 1; course = course; kernel = kernel; heir = waits })
later before due m course kernel waits answer fit asks moment is =
    let e = entry_of due answer in
    let T = trail_on before.course in
    let handed = handover_for before.state.now before.target.now in
    let stepped : (p : Progress) → IsAt before p → record { answer = answer; table = kernel.table } ≡ step_with handed due.by due.call m.fate (after_exits m.exits p.table) =
    λ p at. is.step ∙ (λ i. step_with (at.handed i) due.by due.call m.fate (after_exits m.exits (sym at.table i))) in
    let on : (p : Progress) → IsAt before p → GoesOn before.state.now before.target.now T.rest p m e =
    λ p at. goes before.state.now before.target.now T.rest p m e (subst (λ ks. Asks T.rest ks e) (sym (ap (λ (t : Trail). t.lacked) at.trail)) (asks answer)) (ap (λ (s : Stepped). s.answer) (stepped p at)) in
    let trails : (p : Progress) → IsAt before p → trail_on course ≡ advance (trail_at T.rest p) e =
    λ p at. is.trail ∙ ap (λ (t : Trail). advance t e) (sym at.trail) in
    record {
      first = refl;
      state = refl;
      target = refl;
      turns = is.turns;
      tried = refl;
      made = refl;
      fit = record { room = omega (arith, is.lower, fit.room, is.room); countable = omega (arith, is.room, fit.countable) };
      lower = is.lower;
      rest = λ p at. ap (λ (t : Trail). t.rest) (trails p at) ∙ (on p at).onto;
      at = λ p at.
          let g = on p at in
          let w = trails p at in
          record {
            trail = ap (λ (t : Trail). trail_at t.rest (moved handed T.rest m p)) w ∙ sym g.trail ∙ sym w;
            table = g.table ∙ sym (ap (λ (s : Stepped). s.table) (stepped p at));
            handed = at.handed;
            sides = is.sides ∙ at.sides;
            come =
                subst (λ (given : List Turn). HasCome before.state.now before.target.now given before.first.now.table (pattern_of before.tried) (before.made + 1) (trail_on course).rest (listed waits) (moved handed T.rest m p)) (sym is.turns)
                (subst (λ (rest : Option Tree). HasCome before.state.now before.target.now (turns_of before.course) before.first.now.table (pattern_of before.tried) (before.made + 1) rest (listed waits) (moved handed T.rest m p)) (sym (ap (λ (t : Trail). t.rest) w))
                (subst (λ (heirs : List ℕ). HasCome before.state.now before.target.now (turns_of before.course) before.first.now.table (pattern_of before.tried) (before.made + 1) (advance (trail_at T.rest p) e).rest heirs (moved handed T.rest m p)) (sym is.heir)
                (g.come (turns_of before.course) before.first.now.table (pattern_of before.tried) before.made (listed before.heir) at.come moment)));
          };
      table = ap (λ (s : Stepped). s.table) is.step;
      passes = λ p q at is'.
          let w = trails p at in
          (on p at).passed q (ap (λ k. q (k + 1)) at.come.calls ∙ is')
          ∙ (λ i. p ∷ after_moment m.exits p ∷ (rest_run handed ((sym (ap (λ (t : Trail). t.rest) w)) i) q (moved handed T.rest m p)).passed);
      left = λ p last at.
          let g = on p at in
          let w = trails p at in
          let pattern = pattern_of before.tried in
          let onto = moved handed T.rest m p in
          let tables : (step_with handed due.by due.call m.fate (after_exits m.exits before.kernel.table)).table ≡ kernel.table =
          ap (λ (t : Table). (step_with handed due.by due.call m.fate (after_exits m.exits t)).table) (sym at.table) ∙ sym (ap (λ (s : Stepped). s.table) (stepped p at)) in
          ap (λ es. met handed last pattern (listed before.heir) before.made before.kernel.table es) (g.entries pattern (ap (λ k. pattern (k + 1)) at.come.calls ∙ moment))
          ∙ met-step handed last pattern (listed before.heir) before.made before.kernel.table e _ m moment
          ∙ (λ i. open_now before due m last ++ met handed last pattern (sym is.heir i) (before.made + 1) (tables i) (rest_run handed ((sym (ap (λ (t : Trail). t.rest) w)) i) pattern onto).entries);
    }

-- Another run that is the same so far has come as far.
pub elsewhere : (run : Position) (p : Progress) (other : Tried) →
    IsSameUpTo run.made (pattern_of run.tried) (pattern_of other) → IsAt run p → IsAt (record run { tried = other }) p
elsewhere run p other same at =
    let onto : (q : Pattern) → IsSameUpTo run.made (pattern_of other) q → IsSameUpTo run.made (pattern_of run.tried) q = λ q is m le. is m le ∙ same m le in
    record {
      trail = at.trail;
      table = at.table;
      handed = at.handed;
      sides = at.sides;
      come = record { calls = at.come.calls; ends = λ q is. at.come.ends q (onto q is); meets = λ q e is before. at.come.meets q e (onto q is) before; passes = λ q is. at.come.passes q (onto q is) };
    }
