use Rattle.std.proofs.Common.{[], refl, sym, ◌∙◌, subst}
use Rattle.std.proofs.lemmas.Bool.{false≢true}
use Rattle.definitions.specs.Run.{Report}
use Rattle.plan_walk.specs.Path.{Reports}
use Rattle.plan_walk.specs.Walk.{trail_under, sides_in}
use Rattle.certifier.proofs.Asking.{one-report}
use Rattle.certifier.proofs.replay.Replay.end.Goals as goal

pub report-requires : goal.report-requires
report-requires c = record { turns = []; over = (c.is_over.ensures []).0 c.if-not-is_over.false }

pub returns-then-not-is_over-clause-err : goal.returns-then-not-is_over-clause-err
returns-then-not-is_over-clause-err c = λ turns over. false≢true (sym c.if-not-is_over.true ∙ (c.is_over.ensures turns).1 over)

pub returns-then-not-is_same_report-clause-err : goal.returns-then-not-is_same_report-clause-err
returns-then-not-is_same_report-clause-err c =
    let x = c.args.self in (
      λ turns. (c.is_over.ensures turns).0 c.if-not-is_over.false,
      λ turns reports. false≢true
          (sym c.if-not-is_same_report.true
          ∙ c.is_same_report.ensures.1 (one-report (sides_in x.walk) (trail_under x.walk turns) c.report.result c.args.report.now (c.report.ensures turns) reports)),
    )

pub returns-clause-ok : goal.returns-clause-ok
returns-clause-ok c = record {
  pattern = refl;
  turns = refl;
  over = λ turns. (c.is_over.ensures turns).0 c.if-not-is_over.false;
  reports = λ turns. subst (λ (report : Report). Reports (sides_in c.args.self.walk) (trail_under c.args.self.walk turns) report) (c.is_same_report.ensures.0 c.if-not-is_same_report.false) (c.report.ensures turns);
}
