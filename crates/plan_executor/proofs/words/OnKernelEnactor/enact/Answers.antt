use Rattle.std.proofs.Common.{Err, sym, subst}
use Rattle.kernel_model.specs.Pattern.{moment_at}
use Rattle.word_runner.specs.declared.enactor.TargetRefusal.{TargetRefusal}
use Rattle.word_runner.specs.Enactors.{HasCode}
use Rattle.kernel_pattern.specs.declared.section.Section.{Section}
use Rattle.plan_executor.specs.Words.{DeclinesAt}
use Rattle.plan_executor.proofs.Exact.{IsExact}
use Rattle.plan_executor.proofs.Truth.{declined-is}
use Rattle.plan_executor.proofs.words.OnKernelEnactor.enact.Goals as goal

pub returns-in-Err-clause-declined : goal.returns-in-Err-clause-declined
returns-in-Err-clause-declined c =
    let sections = c.args.self.now.sections.now in
    let first = c.args.world.now in
    let place = c.args.place in
    let r = c.args.state.now in
    let target = c.args.target.now in
    let exact = subst (λ (s : Section). IsExact first.table r target s.turns (moment_at s.pattern) (Err c.in-Err.refusal)) c.section_at-section.ensures c.in-Err.ensures.exact in
    subst (λ (t : TargetRefusal). HasCode (DeclinesAt sections first place r target) t) (sym c.from.ensures) (declined-is sections first place r target c.in-Err.refusal exact)
