use Rattle.std.proofs.Common.{Ok, Err, None, Option, refl, subst, arith}
use Rattle.master_on_children.specs.Inbox.{ReadsMore}
use Rattle.master_on_children.specs.Typed.{Typed}
use Rattle.master_on_children.proofs.Answering.{goes_back, replies, waits, is_full}
use Rattle.master_on_children.proofs.inbox.Inbox.answer.Goals as goal

pub returns-in-Some-clause-answered : goal.returns-in-Some-clause-answered
returns-in-Some-clause-answered g c =
    let came = subst (λ (x : Option Typed). ReadsMore g.I.Read.remaining c.loop.self.ended c.loop.self (Ok x) c.read.new.self) c.in-Ok-Some.field-0-is c.in-Ok-Some.ensures in
    replies g.I.Read.remaining c.args.self.now c.loop.self c.read.new.self c.loop.counter c.loop.invariant (omega arith) c.in-Ok-Some.line came c.in-Some.answer c.in-Some.ensures.reply

pub loop-preserved : goal.loop-preserved
loop-preserved g c =
    let came = subst (λ (x : Option Typed). ReadsMore g.I.Read.remaining c.loop.self.ended c.loop.self (Ok x) c.read.new.self) c.in-Ok-Some.field-0-is c.in-Ok-Some.ensures in
    waits g.I.Read.remaining c.args.self.now c.loop.self c.read.new.self c.loop.counter c.loop.invariant (omega arith) c.in-Ok-Some.line came c.in_default.ensures.reply c.push.new.self c.push.ensures

pub returns-clause-answered : goal.returns-clause-answered
returns-clause-answered g c = is_full g.I.Read.remaining c.args.self.now c.loop.self c.loop.counter c.loop.invariant (omega arith)

pub returns-in-Ok-None-clause-answered : goal.returns-in-Ok-None-clause-answered
returns-in-Ok-None-clause-answered g c =
    let came = subst (λ (x : Option Typed). ReadsMore g.I.Read.remaining c.loop.self.ended c.loop.self (Ok x) c.read.new.self) c.in-Ok-None.field-0-is c.in-Ok-None.ensures in
    goes_back g.I.Read.remaining c.args.self.now c.loop.self c.read.new.self c.loop.counter c.loop.invariant (omega arith) c.loop.self.ended refl (Ok None) tt came

pub returns-in-Err-clause-answered : goal.returns-in-Err-clause-answered
returns-in-Err-clause-answered g c =
    goes_back g.I.Read.remaining c.args.self.now c.loop.self c.read.new.self c.loop.counter c.loop.invariant (omega arith) c.loop.self.ended refl (Err c.in-Err.field-0) tt c.in-Err.ensures
