-- The headline for a reopening.
use Rattle.table_laws.proofs.Rows.{every-more}
use Rattle.call_laws.proofs.Choices.{and-left, and-right}
use Rattle.table_laws.proofs.Begins.{rising-distinct}
use Rattle.table_laws.proofs.Views.{named}
use Rattle.table_laws.proofs.Effects.{none, same-is}
use Rattle.table_laws.proofs.Small.{every-is_in}
use Rattle.std.proofs.Common.{ℕ, ◌<◌, false, List, [], length, refl, arith}
use Rattle.listener_set.specs.Numbers.{is_in}
use Rattle.listener_set.specs.declared.generation.Generation.{Generation}
use Rattle.definitions.specs.Table.{same_generation, Table}
use Rattle.definitions.specs.Master.{Record, crew_of, layout_of, Crew, served}
use Rattle.vocabulary.specs.declared.targets.Target.TheVariants.{Reopen}
use Rattle.vocabulary.specs.declared.plans.Side.TheVariants.{Target}
use Rattle.definitions.specs.Plans.{plan_tree, reopen_tree, settle}
use Rattle.definitions.specs.Run.{Pattern, start_at}
use Rattle.definitions.specs.Claims.{IsStart, Floor, run_of}
use Rattle.theorems.proofs.Headlines.{ReopenHeadline, ReopenFloor}
use Rattle.theorems.proofs.Same.{Like, first, scene, Goes, Level, new-full, new-short, start-band, whole, ground}
use Rattle.run_laws.proofs.Rules.{rule-usr1s, rule-settle}

-- The target wants what there is.
abbrev like_reopen : (t : Table) (rec : Record) → IsStart t rec → Like rec Reopen
like_reopen t rec s = record {
  set = rec.ready;
  wanted = rec.wanted;
  floor = λ a. served (layout_of rec) rec.ready a;
  layout = refl;
  wants = refl;
  below = λ k e. every-is_in (λ j. j < rec.wanted) rec.ready s.record_in_range.ready k e;
  most = s.record_in_range.wanted;
  done = refl;
  short = λ m. refl;
  rolled_back = refl;
  short_old = λ m. refl;
  leaves = λ t ran h. h;
}

module _ (t : Table) (rec : Record) (pattern : Pattern) (s : IsStart t rec) where
  abbrev g : Generation
  g = rec.generation

  abbrev crew : Crew
  crew = crew_of rec

  abbrev R : List ℕ
  R = rec.ready

  abbrev like : Like rec Reopen
  like = like_reopen t rec s

  goes : Goes t rec Reopen pattern s like (reopen_tree g.image crew R rec.retries) (start_at t rec.note)
  goes =
      let u = first t rec Reopen pattern s like in
      let sc = scene t rec Reopen pattern s like in
      let G = ground t rec Reopen pattern s like in
      rule-usr1s u sc G (settle g.image crew R Target rec.retries) g R none u.ready (named g (is_in R)) (length R) 0 false [] (start_at t rec.note)
      (λ q b. rule-settle u sc G Target crew R (λ k. refl) (rising-distinct R s.rising) (λ k e. let lt = like.below k e in omega (arith, lt, s.record_in_range.wanted)) rec.retries false (new-full t rec Reopen pattern s like false) (new-short t rec Reopen pattern s like) rec.retries 0 (omega arith) false (λ e. e) u.ready [] q
      (λ h k e. (same-is h g (and-left _ _ e), and-right (same_generation h g) _ e)) b)
      (start-band t rec Reopen pattern s like (λ a. omega arith))

pub reopen_headline : ReopenHeadline
reopen_headline t rec turns pattern a =
    (whole t rec Reopen pattern a.start (like_reopen t rec a.start) (plan_tree rec Reopen []) (goes t rec pattern a.start) a.spared).0

pub reopen_floor : ReopenFloor
reopen_floor t rec turns pattern a =
    let like = like_reopen t rec a.start in
    let all = whole t rec Reopen pattern a.start like (plan_tree rec Reopen []) (goes t rec pattern a.start) a.spared in
    every-more (Level t rec Reopen pattern a.start like) (Floor (λ q. 0) t rec Reopen)
    (λ q h address common. omega (arith, h address common)) (run_of rec Reopen [] pattern t).passed all.1
