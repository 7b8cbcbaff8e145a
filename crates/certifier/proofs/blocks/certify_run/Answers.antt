use Rattle.std.proofs.Common.{◌≡◌, Err, sym, ◌∙◌, ap, subst, option_copied}
use Rattle.std.proofs.lemmas.Result.{err_from_is_err_and}
use Rattle.certifier.proofs.Following.{leads-on, run-exact}
use Rattle.certifier.proofs.Matching.{IsExact, exact-of, exact-failed}
use Rattle.certifier.proofs.blocks.certify_run.Goals as goal

pub returns-in_err-certificate-clause-exact : goal.returns-in_err-certificate-clause-exact
returns-in_err-certificate-clause-exact c =
    let s = c.args.standing.now in
    let entries = c.args.log.now.entries in
    let p = err_from_is_err_and c.from_residual.result c.from_residual.ensures.1 in
    let why = c.in_err-certificate.field-0.0 in
    let same : p.0 ≡ why = cc in
    run-exact (option_copied c.args.settings) c.args.word s entries c.args.report.now c.args.standing.now.record c.in-Some.running c.in-Act.target c.from_residual.result c.in-Some.is
    (sym c.asked_by.ensures.exact ∙ c.in-Act.is)
    (subst (IsExact c.args.standing.now.world.table c.in-Some.running c.in-Act.target entries c.args.report.now) (sym (p.1 ∙ ap Err same))
    (exact-failed c.args.standing.now.world.table c.in-Some.running c.in-Act.target entries c.args.report.now why c.in_err-certificate.ensures.exact))

pub returns-clause-ok : goal.returns-clause-ok
returns-clause-ok c =
    let settings = option_copied c.args.settings in
    let s = c.args.standing.now in
    let it = c.in_ok-certificate.certificate in
    leads-on settings c.args.word c.args.log.now.entries c.args.report.now s c.in-Some.running c.in-Act.target it c.record_left-after.result c.follow.new.self c.in-Some.is
    (sym c.asked_by.ensures.exact ∙ c.in-Act.is) c.in_ok-certificate.ensures.ok c.record_left-after.ensures c.follow.ensures.world c.follow.ensures.record c.follow.ensures.workers

pub returns-clause-exact : goal.returns-clause-exact
returns-clause-exact c =
    let s = c.args.standing.now in
    let t = c.args.standing.now.world.table in
    let entries = c.args.log.now.entries in
    let it = c.in_ok-certificate.certificate in
    run-exact (option_copied c.args.settings) c.args.word s entries c.args.report.now c.args.standing.now.record c.in-Some.running c.in-Act.target _ c.in-Some.is
    (sym c.asked_by.ensures.exact ∙ c.in-Act.is)
    (exact-of t c.in-Some.running c.in-Act.target entries c.args.report.now it it.section c.in_ok-certificate.ensures.exact)
