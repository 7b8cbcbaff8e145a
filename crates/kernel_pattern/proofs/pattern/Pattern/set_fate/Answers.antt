use Rattle.std.proofs.Common.{map, set, refl, Some}
use Rattle.kernel_pattern.specs.Pattern.{moment_at, with_fate}
use Rattle.kernel_pattern.specs.Events.{seen_event}
use Rattle.kernel_pattern.proofs.PatternEdits.{Becomes, fate-replaced, fate-added}
use Rattle.kernel_pattern.proofs.pattern.Pattern.set_fate.Goals as goal
use Rattle.kernel_pattern.proofs.pattern.Pattern.set_fate.Goals.{In_ok-insert-in-Err}

replaced : (c : goal.After-self-1) →
    Becomes c.self.inside.events.items c.args.n
    (with_fate c.args.fate (moment_at (map seen_event c.self.inside.events.items) c.args.n))
    (set c.self.inside.events.items c.in-Ok.place
    (record {
      number = c.index_mut-event.result.now.number;
      exits = c.index_mut-event.result.now.exits;
      fate = Some c.args.fate;
    }))
replaced c =
    fate-replaced c.self.inside.events.items c.args.n c.in-Ok.place c.self.invariant (rw c.deref.ensures.value at c.in-Ok.ensures.listed) c.index_mut-event.result.now c.index_mut-event.ensures.value _ refl c.args.fate refl refl

added : (c : In_ok-insert-in-Err) →
    Becomes c.self.inside.events.items c.args.n
    (with_fate c.args.fate (moment_at (map seen_event c.self.inside.events.items) c.args.n)) c.insert.new.self.items
added c =
    rw c.in_ok-insert-in-Err.ensures.items
    (fate-added c.self.inside.events.items c.args.n c.in-Err.place c.self.invariant (rw c.deref.ensures.value at c.in-Err.ensures.unlisted) _ c.requires refl c.args.fate c.new.ensures.items refl)

pub invariant_of-self : goal.invariant_of-self
invariant_of-self c = (replaced c).pattern

pub returns-in-Ok-clause-ok : goal.returns-in-Ok-clause-ok
returns-in-Ok-clause-ok c = rw (← c.self.view_is) (replaced c).moments

pub invariant_of-self-in-Err : goal.invariant_of-self-in-Err
invariant_of-self-in-Err c = (added c).pattern

pub returns-in_ok-insert-in-Err-clause-ok : goal.returns-in_ok-insert-in-Err-clause-ok
returns-in_ok-insert-in-Err-clause-ok c = rw (← c.self.view_is) (added c).moments
