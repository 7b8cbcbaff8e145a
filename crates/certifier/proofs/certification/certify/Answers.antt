use Rattle.certifier.proofs.Matching.{exact-of, exact-failed, enacts-so}
use Rattle.certifier.proofs.certification.certify.Goals as goal

pub returns-in-Ok-clause-exact : goal.returns-in-Ok-clause-exact
returns-in-Ok-clause-exact c =
    let it = c.in-Ok.certificate in
    exact-of c.args.kernel.now.table c.args.state.now c.args.target.now c.args.log.now.entries c.args.report.now it it.section c.in-Ok.ensures.exact

pub returns-in-Ok-clause-enacts : goal.returns-in-Ok-clause-enacts
returns-in-Ok-clause-enacts c = enacts-so c.args.kernel.now c.args.state.now c.args.target.now c.args.log.now.entries c.args.report.now c.in-Ok.certificate.section c.in-Ok.ensures.ok.certified

pub returns-in-Err-clause-exact : goal.returns-in-Err-clause-exact
returns-in-Err-clause-exact c = exact-failed c.args.kernel.now.table c.args.state.now c.args.target.now c.args.log.now.entries c.args.report.now c.in-Err.why c.in-Err.ensures.exact
