-- A replay before its first entry.
use Rattle.std.proofs.Common.{◌≡◌, ℕ, zero, suc, ◌≤◌, ◌<◌, ◌^◌, List, [], ◌∷◌, ◌++◌, replicate, Option, None, Some, refl, sym, ◌∙◌, ap, subst, arith}
use Rattle.definitions.specs.Run.{Tree, End}
use Rattle.call_laws.specs.Lengths.{height}
use Rattle.vocabulary.specs.declared.plans.End.TheVariants.{Done, RolledBack, ShortOld, ShortTarget, Split, JoinReady, JoinBack, Join}
use Rattle.definitions.specs.Plans.{Turn, New, graft, joined}
use Rattle.theorems.specs.Apart.{Plays}
use Rattle.plan_walk.specs.Path.{Trail, begin}
use Rattle.call_laws.specs.Pieces.{quiet}
use Rattle.handover_text.specs.Reading.{handed_by}
use Rattle.theorems.proofs.LastTurns.{weave-last}
use Rattle.plan_steps.specs.declared.parts.Parts.{Parts}
use Rattle.plan_steps.specs.declared.step.Step.{Step}
use Rattle.plan_steps.specs.declared.step.Next.TheVariants.{To}
use Rattle.plan_steps.specs.Steps.{tree_behind, first_tree}
use Rattle.plan_steps.specs.Woven.{part_end, woven}
use Rattle.rollback_plan.specs.declared.plan.Plan.{Plan}
use Rattle.rollback_plan.specs.Plans.{tree_under, note_of, length_of}
use Rattle.plan_walk.specs.Fit.{height_next}
use Rattle.plan_walk.specs.Walk.{trail_under, sides_in}
use Rattle.plan_executor.specs.Naming.{listed}
use Rattle.kernel_model.specs.Pattern.{moment_at}
use Rattle.certifier.specs.declared.replay.Replay.{Replay}
use Rattle.certifier.specs.Shown.{pattern_of}
use Rattle.certifier.specs.Turns.{IsTrimmed, used_in}
use Rattle.certifier.specs.Places.{place_at, start_of, HasTaken}

---- A turn of New at the end changes no plan

part-last : (ready back new old : Tree) (turns : List Turn) (end : End) →
    part_end ready back new old (turns ++ New ∷ []) end ≡ part_end ready back new old turns end
part-last ready back new old turns Split = weave-last (joined ready back) new turns old
part-last ready back new old turns Done = refl
part-last ready back new old turns RolledBack = refl
part-last ready back new old turns ShortOld = refl
part-last ready back new old turns ShortTarget = refl
part-last ready back new old turns JoinReady = refl
part-last ready back new old turns JoinBack = refl
part-last ready back new old turns Join = refl

woven-last : (steps : List Step) (parts : Option Parts) (turns : List Turn) → woven steps parts (turns ++ New ∷ []) ≡ woven steps parts turns
woven-last steps None turns = refl
woven-last steps (Some p) turns =
    let last = part-last (tree_behind steps (To p.ready)) (tree_behind steps (To p.back)) (tree_behind steps (To p.new)) (tree_behind steps (To p.old)) turns in
    λ i. graft (λ end. last end i) (first_tree steps)

---- Nothing was taken

-- no list that ends with a turn is none
none-trimmed : IsTrimmed []
none-trimmed [] same = cc
none-trimmed (turn ∷ front) same = cc

no-moments : (n : ℕ) → moment_at [] n ≡ pattern_of [] n
no-moments zero = refl
no-moments (suc n) = refl

-- A replay of a plan before its first entry.
pub record IsFresh (plan : Plan) (x : Replay) : Type 0 where
  pub trail : (turns : List Turn) → trail_under x.walk turns ≡ begin (tree_under plan turns) (note_of plan)
  pub longest : (turns : List Turn) → height (tree_under plan turns) ≤ length_of plan
  pub counted : length_of plan < 2 ^ 32
  pub room : x.kernel.room ≡ length_of plan
  pub number : x.number ≡ 0
  pub pattern : x.pattern ≡ []
  pub told : x.turns.told ≡ []
  pub late : x.turns.late ≡ 0

pub nothing-taken : (plan : Plan) (x : Replay) → IsFresh plan x → HasTaken (handed_by x.text.now) (listed x.heir) (sides_in x.walk) (start_of x) [] x
nothing-taken plan x fresh =
    let none : used_in x.turns ≡ [] = λ i. fresh.told i ++ replicate (fresh.late i) New in
    let quiets : (n : ℕ) → moment_at x.pattern n ≡ moment_at [] n = λ n. ap (λ p. moment_at p n) fresh.pattern in
    record {
      steady = λ turns. fresh.trail (turns ++ New ∷ []) ∙ (ap (λ (t : Tree). begin t (note_of plan)) (woven-last plan.steps.items plan.parts turns) ∙ sym (fresh.trail turns));
      room = record {
        calls = λ turns. subst (λ (t : Trail). height_next t.rest ≤ x.kernel.room) (sym (fresh.trail turns)) (omega (arith, fresh.longest turns, fresh.room));
        countable = omega (arith, fresh.counted, fresh.room, fresh.number);
        uncounted = omega (arith, fresh.late);
        later = λ n _. quiets n ∙ no-quiet n;
      };
      handed_is = refl;
      heirs_are = refl;
      sides_are = refl;
      number = fresh.number;
      trimmed = subst IsTrimmed (sym fresh.told) none-trimmed;
      next = λ turns. tt;
      only = λ turns path. subst (Plays turns) (sym none) tt;
      place = λ turns. ap (λ (used : List Turn). place_at (start_of x) (used ++ turns)) (sym none);
      pattern = λ n. quiets n ∙ no-moments n;
    }
  where
    no-quiet : (n : ℕ) → moment_at [] n ≡ quiet
    no-quiet zero = refl
    no-quiet (suc n) = refl
