use Rattle.std.proofs.Common.{sym, subst, IfOk}
use Rattle.std.specs.Prelude.{IfSome}
use Rattle.kernel_pattern.specs.Pattern.{seen_moment}
use Rattle.pattern_text.specs.Written.{IsNoted}
use Rattle.pattern_text.proofs.Noted.{event_there}
use Rattle.pattern_text.proofs.writing.write_event.Goals as goal

pub write_moment-requires : goal.write_moment-requires
write_moment-requires c =
    let there = event_there c.args.pattern.now 1 c.args.place (c.in-Some.number, seen_moment c.in-Some.moment) c.requires (sym c.in-Some.ensures) in
    record { number = there.0; within = there.1 }

pub returns-in-Some-clause-noted : goal.returns-in-Some-clause-noted
returns-in-Some-clause-noted c = subst (λ o. IfOk c.write_moment.result (λ _. IfSome o IsNoted)) c.in-Some.ensures c.write_moment.ensures.noted
