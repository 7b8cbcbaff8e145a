-- What a certificate says of the kernel that it leaves.
use Rattle.std.proofs.Common.{List, Result, Ok, Err, refl, sym, subst}
use Rattle.std.specs.Prelude.{IfOk}
use Rattle.definitions.specs.Table.{Table}
use Rattle.definitions.specs.Master.{Record, handover_for, sides_of}
use Rattle.vocabulary.specs.declared.targets.Target.{Target}
use Rattle.call_laws.specs.Lengths.{plan_length}
use Rattle.definitions.specs.Run.{Entry, Report}
use Rattle.definitions.specs.Claims.{heirs_of}
use Rattle.kernel_model.specs.State.{State}
use Rattle.kernel_model.specs.Pattern.{moment_at}
use Rattle.plan_executor.specs.Lawful.{IsWholeRun}
use Rattle.plan_executor.specs.Merged.{ActsApart}
use Rattle.mismatches.specs.declared.Mismatch.{Mismatch}
use Rattle.certifier.specs.declared.replay.Certificate.{Certificate}
use Rattle.certifier.specs.Places.{Holds, IsLed}
use Rattle.certifier.specs.Explained.{IsReady}
use Rattle.certifier.specs.Certified.{HasEnacted}
use Rattle.certifier.proofs.Explaining.{origin, begins}
use Rattle.certifier.proofs.Complete.{IsDue}
use Rattle.certifier.proofs.Matching.{whole, spares, certified}

pub has-enacted : (first : State) (r : Record) (target : Target) (es : List Entry) (report : Report) →
    IsReady first.table r target → IsDue first.table r target → (result : Result Certificate Mismatch) →
    IfOk result (λ it. Holds (handover_for r target) (heirs_of r target) (sides_of r target) (origin first.table r target) es report it.section) →
    IfOk result (λ it. IsLed (handover_for r target) (heirs_of r target) (plan_length r target) (begins first.table r target it.section.turns) es it.kernel) →
    IfOk result (HasEnacted first r target es report)
has-enacted first r target es report ready due (Err why) holds led = tt
has-enacted first r target es report ready due (Ok it) holds led =
    let t = first.table in
    let turns = it.section.turns in
    let section = it.section in
    let run = whole t r target es report ready section holds in
    let spared = spares t r target es report ready section holds in
    let kept = due.ends t r turns (moment_at section.pattern) due.start due.descriptors due.has_plan spared in
    let apart : ActsApart r target turns es = subst (ActsApart r target turns) run.entries_are kept.apart in
    record {
      certified = certified t r target es report ready section holds apart;
      enacted = λ room. record {
        agrees = ready.agrees;
        has_plan = ready.has_plan;
        numbers = ready.numbers;
        spared = spared;
        is_run = subst (λ (last : Table). IsWholeRun r target turns (moment_at section.pattern) t es last report) (sym led.table) run;
        room = led.room;
        after = refl;
        headline = kept.promise;
        apart = apart;
      };
    }
