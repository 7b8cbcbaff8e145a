use Rattle.std.proofs.Common.{rules, ◌≡◌, ◌⊎◌, inl, [], ◌∷◌, Result, Err, refl, sym, ◌∙◌, ap, subst}
use Rattle.std.proofs.lemmas.Result.{err_from_is_err_and}
use mathlib.Core.Bool.{true≢false}
use Rattle.definitions.specs.Master.{Record, Agrees, handover_for, sides_of}
use Rattle.call_laws.specs.Lengths.{plan_length}
use Rattle.plan_walk.specs.Path.{begin}
use Rattle.definitions.specs.Claims.{heirs_of}
use Rattle.kernel_model.specs.Room.{LacksNumbers}
use Rattle.plan_executor.specs.Naming.{listed}
use Rattle.plan_executor.specs.declared.enactment.EnactRefusal.TheVariants.{Memory, NoNumbers}
use Rattle.plan_executor.proofs.Exact.{no_plan}
use Rattle.certifier.specs.declared.replay.Certificate.{Certificate}
use Rattle.mismatches.specs.declared.Mismatch.{Mismatch}
use Rattle.certifier.specs.Places.{planned_start, HasTaken, StopsBy}
use Rattle.certifier.specs.Explained.{IsReady, IsMismatch}
use Rattle.plan_executor.specs.Codes.{mismatch_of}
use Rattle.certifier.proofs.Explaining.{origin}
use Rattle.certifier.proofs.Holding.{ends-well, ends-badly, ends-led, stops-so}
use Rattle.certifier.proofs.Matching.{IsExact, plain-mismatches, exact-unready, exact-planless, exact-short, answered}
use Rattle.certifier.proofs.Complete.{IsDue, complete-by, unready-refused}
use Rattle.certifier.proofs.Certificates.{has-enacted}
use Rattle.certifier.proofs.certification.certificate.Goals as goal

pub returns-then-not-agrees-clause-exact : goal.returns-then-not-agrees-clause-exact
returns-then-not-agrees-clause-exact c =
    let t = c.args.kernel.now.table in
    let r = c.args.state.now in
    let target = c.args.target.now in
    let es = c.args.log.now.entries in
    let report = c.args.report.now in
    exact-unready t r target (IsMismatch t r target es report) (plain-mismatches t r target es report) _ refl
    (inl (λ h. let yes = c.agrees.ensures.agrees.1 h in absurd (true≢false (sym yes ∙ c.if-not-agrees.true))))

pub returns-in_err-plan-clause-exact : goal.returns-in_err-plan-clause-exact
returns-in_err-plan-clause-exact c =
    let p = err_from_is_err_and c.from_residual.result c.from_residual.ensures.1 in
    let why = c.in_err-plan.field-0.0 in
    let same : p.0 ≡ mismatch_of why = cc in
    let t = c.args.kernel.now.table in
    let r = c.args.state.now in
    let target = c.args.target.now in
    let es = c.args.log.now.entries in
    let report = c.args.report.now in
    exact-planless t r target (IsMismatch t r target es report) (plain-mismatches t r target es report) c.from_residual.result why (p.1 ∙ ap Err same) c.in_err-plan.ensures.refused

pub returns-in_err-copy-clause-exact : goal.returns-in_err-copy-clause-exact
returns-in_err-copy-clause-exact c =
    let p = err_from_is_err_and c.from_residual-in_err-copy.result c.from_residual-in_err-copy.ensures.1 in
    let why = c.in_err-copy.field-0.0 in
    let same : p.0 ≡ mismatch_of why = cc in
    let t = c.args.kernel.now.table in
    let r = c.args.state.now in
    let target = c.args.target.now in
    let es = c.args.log.now.entries in
    let report = c.args.report.now in
    exact-short t r target (IsMismatch t r target es report) (plain-mismatches t r target es report) c.from_residual-in_err-copy.result why (p.1 ∙ ap Err same)
    (subst (λ n. (why ≡ Memory) ⊎ ((why ≡ NoNumbers) × LacksNumbers c.args.kernel.now.table n)) (c.longest.ensures ∙ (c.in_ok-plan.ensures.longest)) c.in_err-copy.ensures.refused)

---- What comes of a run under faults alone

pub returns-then-not-agrees-clause-complete : goal.returns-then-not-agrees-clause-complete
returns-then-not-agrees-clause-complete c faulty = inl refl

pub returns-in_err-plan-clause-complete : goal.returns-in_err-plan-clause-complete
returns-in_err-plan-clause-complete c faulty =
    let p = err_from_is_err_and c.from_residual.result c.from_residual.ensures.1 in
    let why = c.in_err-plan.field-0.0 in
    let same : p.0 ≡ mismatch_of why = cc in
    unready-refused c.from_residual.result why (p.1 ∙ ap Err same)

pub returns-in_err-copy-clause-complete : goal.returns-in_err-copy-clause-complete
returns-in_err-copy-clause-complete c faulty =
    let p = err_from_is_err_and c.from_residual-in_err-copy.result c.from_residual-in_err-copy.ensures.1 in
    let why = c.in_err-copy.field-0.0 in
    let same : p.0 ≡ mismatch_of why = cc in
    unready-refused c.from_residual-in_err-copy.result why (p.1 ∙ ap Err same)

---- A target that could be carried out

pub returns-in_err-replay-clause-exact : goal.returns-in_err-replay-clause-exact
returns-in_err-replay-clause-exact c =
    let t = c.args.kernel.now.table in
    let r = c.args.state.now in
    let target = c.args.target.now in
    let es = c.args.log.now.entries in
    let report = c.args.report.now in
    let agrees : Agrees t r = c.agrees.ensures.agrees.0 (search rules) in
    let plan = c.in_ok-plan.ensures.planned in
    let longest : c.longest.result ≡ plan_length r target = c.longest.ensures ∙ (c.in_ok-plan.ensures.longest) in
    let ready : IsReady t r target = record { agrees = agrees; has_plan = plan; numbers = subst (λ n. LacksNumbers t n → ⊥) longest c.in_ok-copy.ensures.numbers } in
    let image : c.state.inside.generation.image ≡ r.generation.image = ap (λ (x : Record). x.generation.image) c.state.view_is in
    let same : listed c.heir_of-heir.result ≡ heirs_of r target = c.heir_of-heir.ensures in
    let start : planned_start c.in_ok-plan.plan c.in_ok-copy.copy.table c.state.inside.generation.image ≡ origin t r target =
    λ i. record { trail = λ turns. begin (c.in_ok-plan.ensures.tree turns i) (c.in_ok-plan.ensures.note i); table = (c.in_ok-copy.ensures.same i).table; executing = image i ∷ [] } in
    let p = err_from_is_err_and c.from_residual-in_err-replay.result c.from_residual-in_err-replay.ensures.1 in
    let why = c.in_err-replay.field-0.0 in
    let alike : p.0 ≡ why = cc in
    let stops = subst (λ (X : Type 0). X) (λ i. StopsBy (c.in_ok-plan.ensures.text.read i) (same i) (start i) es why) c.in_err-replay.ensures.err in
    let failed : Result Certificate Mismatch = Err why in
    subst (IsExact t r target es report) (sym (p.1 ∙ ap Err alike))
    (answered (λ (it : Certificate). it.section) t r target es report ready failed tt (stops-so (handover_for r target) (heirs_of r target) (sides_of r target) (origin t r target) es report why stops))

pub returns-in_err-replay-clause-complete : goal.returns-in_err-replay-clause-complete
returns-in_err-replay-clause-complete c =
    let t = c.args.kernel.now.table in
    let r = c.args.state.now in
    let target = c.args.target.now in
    let es = c.args.log.now.entries in
    let agrees : Agrees t r = c.agrees.ensures.agrees.0 (search rules) in
    let plan = c.in_ok-plan.ensures.planned in
    let due : IsDue t r target = record {
      start = record { formed = c.in_ok-copy.ensures.formed; agrees = agrees; record_in_range = c.agrees.ensures.in_range; rising = c.agrees.ensures.rising };
      descriptors = record { descriptors = c.agrees.ensures.descriptors; limit = c.in_ok-copy.ensures.descriptors };
      has_plan = plan;
      ends = c.ends_as_reported.ensures;
    } in
    complete-by t r target es c.args.report.now c.from_residual-in_err-replay.result (returns-in_err-replay-clause-exact c) due

pub returns : goal.returns
returns c =
    let t = c.args.kernel.now.table in
    let r = c.args.state.now in
    let target = c.args.target.now in
    let es = c.args.log.now.entries in
    let report = c.args.report.now in
    let agrees : Agrees t r = c.agrees.ensures.agrees.0 (search rules) in
    let plan = c.in_ok-plan.ensures.planned in
    let longest : c.longest.result ≡ plan_length r target = c.longest.ensures ∙ (c.in_ok-plan.ensures.longest) in
    let ready : IsReady t r target = record { agrees = agrees; has_plan = plan; numbers = subst (λ n. LacksNumbers t n → ⊥) longest c.in_ok-copy.ensures.numbers } in
    let due : IsDue t r target = record {
      start = record { formed = c.in_ok-copy.ensures.formed; agrees = agrees; record_in_range = c.agrees.ensures.in_range; rising = c.agrees.ensures.rising };
      descriptors = record { descriptors = c.agrees.ensures.descriptors; limit = c.in_ok-copy.ensures.descriptors };
      has_plan = plan;
      ends = c.ends_as_reported.ensures;
    } in
    let image : c.state.inside.generation.image ≡ r.generation.image = ap (λ (x : Record). x.generation.image) c.state.view_is in
    let same : listed c.heir_of-heir.result ≡ heirs_of r target = c.heir_of-heir.ensures in
    let start : planned_start c.in_ok-plan.plan c.in_ok-copy.copy.table c.state.inside.generation.image ≡ origin t r target =
    λ i. record { trail = λ turns. begin (c.in_ok-plan.ensures.tree turns i) (c.in_ok-plan.ensures.note i); table = (c.in_ok-copy.ensures.same i).table; executing = image i ∷ [] } in
    let handed = handover_for r target in
    let heirs = heirs_of r target in
    let sides = sides_of r target in
    let from = origin t r target in
    let x = c.in_ok-replay.replay in
    let taken : HasTaken handed heirs sides from es x =
    subst (λ (X : Type 0). X) (λ i. HasTaken (c.in_ok-plan.ensures.text.read i) (same i) (c.in_ok-plan.ensures.sides i) (start i) es x) c.in_ok-replay.ensures.ok in
    let holds = ends-well handed heirs sides from es x taken report c.end.result c.end.ensures.ok in
    let led = ends-led handed heirs sides from es x taken (plan_length r target) (c.in_ok-replay.ensures.left ∙ c.in_ok-plan.ensures.longest) report c.end.result c.end.ensures.ok c.end.ensures.kernel in
    let exact = answered (λ (it : Certificate). it.section) t r target es report ready c.end.result holds (ends-badly handed heirs sides from es x taken report c.end.result c.end.ensures.err) in
    record {
      ok = has-enacted c.args.kernel.now r target es report ready due c.end.result holds led;
      exact = exact;
      complete = complete-by t r target es report c.end.result exact due;
      memory = λ _. record { agrees = agrees; spared = λ p none. no_plan r target p none plan };
    }
