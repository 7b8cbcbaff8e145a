use Rattle.std.proofs.Common.{sym, ◌∙◌}
use Rattle.kernel_pattern.specs.Events.{IsListed, IsUnlisted}
use Rattle.kernel_pattern.proofs.Patterns.{moment-listed, moment-unlisted}
use Rattle.kernel_pattern.proofs.pattern.Pattern.moment.Goals as goal

pub returns-in-Ok : goal.returns-in-Ok
returns-in-Ok c =
    let h : IsListed c.self.inside.events.items c.args.n c.in-Ok.place = rw c.deref.ensures.value at c.in-Ok.ensures.listed in
    rw (← c.self.view_is) (c.moment.ensures ∙ sym (moment-listed c.self.inside.events.items c.args.n c.in-Ok.place c.self.invariant h c.index.result.now c.index.ensures))

pub returns-in-Err : goal.returns-in-Err
returns-in-Err c =
    let h : IsUnlisted c.self.inside.events.items c.args.n c.in-Err.field-0 = rw c.deref.ensures.value at c.in-Err.ensures.unlisted in
    rw (← c.self.view_is) (sym (moment-unlisted c.self.inside.events.items c.args.n c.in-Err.field-0 c.self.invariant h))
