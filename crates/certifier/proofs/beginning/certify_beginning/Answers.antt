use Rattle.std.proofs.Common.{rules, ◌≡◌, ◌⊎◌, inl, [], ◌∷◌, Result, Ok, Err, refl, sym, ◌∙◌, ap, subst}
use Rattle.std.proofs.lemmas.Result.{err_from_is_err_and}
use mathlib.Core.Bool.{true≢false}
use Rattle.definitions.specs.Master.{Record, Agrees, handover_for, sides_of}
use Rattle.call_laws.specs.Lengths.{plan_length}
use Rattle.plan_walk.specs.Path.{begin}
use Rattle.definitions.specs.Claims.{heirs_of}
use Rattle.kernel_model.specs.Room.{LacksNumbers}
use Rattle.plan_executor.specs.Naming.{listed}
use Rattle.plan_executor.specs.declared.enactment.EnactRefusal.TheVariants.{Memory, NoNumbers}
use Rattle.plan_executor.proofs.Exact.{no_plan}
use Rattle.kernel_pattern.specs.declared.section.Section.{Section}
use Rattle.mismatches.specs.declared.Mismatch.{Mismatch}
use Rattle.certifier.specs.Places.{planned_start, HasTaken, StopsBy}
use Rattle.certifier.specs.Explained.{IsReady, IsNoBeginning}
use Rattle.plan_executor.specs.Codes.{mismatch_of}
use Rattle.certifier.proofs.Explaining.{origin}
use Rattle.certifier.proofs.Holding.{shows-all}
use Rattle.certifier.proofs.Matching.{IsExactly, plain-beginnings, exact-unready, exact-planless, exact-short, answered-beginning, complete-beginning}
use Rattle.certifier.proofs.beginning.certify_beginning.Goals as goal

pub returns-then-not-agrees-clause-exact : goal.returns-then-not-agrees-clause-exact
returns-then-not-agrees-clause-exact c =
    let t = c.args.kernel.now.table in
    let r = c.args.state.now in
    let target = c.args.target.now in
    let es = c.args.log.now.entries in
    exact-unready t r target (IsNoBeginning t r target es) (plain-beginnings t r target es) _ refl
    (inl (λ h. let yes = c.agrees.ensures.agrees.1 h in absurd (true≢false (sym yes ∙ c.if-not-agrees.true))))

pub returns-in_err-plan-clause-exact : goal.returns-in_err-plan-clause-exact
returns-in_err-plan-clause-exact c =
    let t = c.args.kernel.now.table in
    let r = c.args.state.now in
    let target = c.args.target.now in
    let es = c.args.log.now.entries in
    let p = err_from_is_err_and c.from_residual.result c.from_residual.ensures.1 in
    let why = c.in_err-plan.field-0.0 in
    let same : p.0 ≡ mismatch_of why = cc in
    exact-planless t r target (IsNoBeginning t r target es) (plain-beginnings t r target es) c.from_residual.result why (p.1 ∙ ap Err same) c.in_err-plan.ensures.refused

pub returns-in_err-copy-clause-exact : goal.returns-in_err-copy-clause-exact
returns-in_err-copy-clause-exact c =
    let t = c.args.kernel.now.table in
    let r = c.args.state.now in
    let target = c.args.target.now in
    let es = c.args.log.now.entries in
    let p = err_from_is_err_and c.from_residual-in_err-copy.result c.from_residual-in_err-copy.ensures.1 in
    let why = c.in_err-copy.field-0.0 in
    let same : p.0 ≡ mismatch_of why = cc in
    exact-short t r target (IsNoBeginning t r target es) (plain-beginnings t r target es) c.from_residual-in_err-copy.result why (p.1 ∙ ap Err same)
    (subst (λ n. (why ≡ Memory) ⊎ ((why ≡ NoNumbers) × LacksNumbers t n)) (c.longest.ensures ∙ (c.in_ok-plan.ensures.longest)) c.in_err-copy.ensures.refused)

---- What begins a run

pub returns-then-not-agrees-clause-complete : goal.returns-then-not-agrees-clause-complete
returns-then-not-agrees-clause-complete c section is =
    complete-beginning c.args.kernel.now.table c.args.state.now c.args.target.now c.args.log.now.entries section _ (returns-then-not-agrees-clause-exact c) is

pub returns-in_err-plan-clause-complete : goal.returns-in_err-plan-clause-complete
returns-in_err-plan-clause-complete c section is =
    complete-beginning c.args.kernel.now.table c.args.state.now c.args.target.now c.args.log.now.entries section c.from_residual.result (returns-in_err-plan-clause-exact c) is

pub returns-in_err-copy-clause-complete : goal.returns-in_err-copy-clause-complete
returns-in_err-copy-clause-complete c section is =
    complete-beginning c.args.kernel.now.table c.args.state.now c.args.target.now c.args.log.now.entries section c.from_residual-in_err-copy.result (returns-in_err-copy-clause-exact c) is

---- A target that could be carried out

pub returns-in_err-replay-clause-exact : goal.returns-in_err-replay-clause-exact
returns-in_err-replay-clause-exact c =
    let t = c.args.kernel.now.table in
    let r = c.args.state.now in
    let target = c.args.target.now in
    let es = c.args.log.now.entries in
    let agrees : Agrees t r = c.agrees.ensures.agrees.0 (search rules) in
    let plan = c.in_ok-plan.ensures.planned in
    let longest : c.longest.result ≡ plan_length r target = c.longest.ensures ∙ (c.in_ok-plan.ensures.longest) in
    let ready : IsReady t r target = record { agrees = agrees; has_plan = plan; numbers = subst (λ n. LacksNumbers t n → ⊥) longest c.in_ok-copy.ensures.numbers } in
    let image : c.state.inside.generation.image ≡ r.generation.image = ap (λ (x : Record). x.generation.image) c.state.view_is in
    let same : listed c.heir_of-heir.result ≡ heirs_of r target = c.heir_of-heir.ensures in
    let start : planned_start c.in_ok-plan.plan c.in_ok-copy.copy.table c.state.inside.generation.image ≡ origin t r target =
    λ i. record { trail = λ turns. begin (c.in_ok-plan.ensures.tree turns i) (c.in_ok-plan.ensures.note i); table = (c.in_ok-copy.ensures.same i).table; executing = image i ∷ [] } in
    let p = err_from_is_err_and c.from_residual-in_err-replay.result c.from_residual-in_err-replay.ensures.1 in
    let why = c.in_err-replay.field-0.0 in
    let alike : p.0 ≡ why = cc in
    let stops = subst (λ (X : Type 0). X) (λ i. StopsBy (c.in_ok-plan.ensures.text.read i) (same i) (start i) es why) c.in_err-replay.ensures.err in
    let failed : Result Section Mismatch = Err why in
    subst (IsExactly (IsNoBeginning t r target es)) (sym (p.1 ∙ ap Err alike)) (answered-beginning t r target es ready failed tt stops).1

pub returns-in_err-replay-clause-complete : goal.returns-in_err-replay-clause-complete
returns-in_err-replay-clause-complete c section is =
    complete-beginning c.args.kernel.now.table c.args.state.now c.args.target.now c.args.log.now.entries section c.from_residual-in_err-replay.result (returns-in_err-replay-clause-exact c) is

pub returns : goal.returns
returns c =
    let t = c.args.kernel.now.table in
    let r = c.args.state.now in
    let target = c.args.target.now in
    let es = c.args.log.now.entries in
    let agrees : Agrees t r = c.agrees.ensures.agrees.0 (search rules) in
    let plan = c.in_ok-plan.ensures.planned in
    let longest : c.longest.result ≡ plan_length r target = c.longest.ensures ∙ (c.in_ok-plan.ensures.longest) in
    let ready : IsReady t r target = record { agrees = agrees; has_plan = plan; numbers = subst (λ n. LacksNumbers t n → ⊥) longest c.in_ok-copy.ensures.numbers } in
    let image : c.state.inside.generation.image ≡ r.generation.image = ap (λ (x : Record). x.generation.image) c.state.view_is in
    let same : listed c.heir_of-heir.result ≡ heirs_of r target = c.heir_of-heir.ensures in
    let start : planned_start c.in_ok-plan.plan c.in_ok-copy.copy.table c.state.inside.generation.image ≡ origin t r target =
    λ i. record { trail = λ turns. begin (c.in_ok-plan.ensures.tree turns i) (c.in_ok-plan.ensures.note i); table = (c.in_ok-copy.ensures.same i).table; executing = image i ∷ [] } in
    let handed = handover_for r target in
    let heirs = heirs_of r target in
    let sides = sides_of r target in
    let from = origin t r target in
    let x = c.in_ok-replay.replay in
    let taken : HasTaken handed heirs sides from es x =
    subst (λ (X : Type 0). X) (λ i. HasTaken (c.in_ok-plan.ensures.text.read i) (same i) (c.in_ok-plan.ensures.sides i) (start i) es x) c.in_ok-replay.ensures.ok in
    let found : Result Section Mismatch = Ok c.shown.result in
    let all = answered-beginning t r target es ready found (shows-all handed heirs sides from es x taken c.shown.result c.shown.ensures.pattern c.shown.ensures.turns) tt in
    record { ok = all.0; exact = all.1; complete = λ section is. complete-beginning t r target es section found all.1 is; memory = λ _. record { agrees = agrees; spared = λ p none. no_plan r target p none plan } }
