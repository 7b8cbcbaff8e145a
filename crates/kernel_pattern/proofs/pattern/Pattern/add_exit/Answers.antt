use Rattle.std.proofs.Common.{◌≡◌, Result, Ok, Err, OnErr, map, set, subst, [], ◌∷◌, ◌++◌, refl, sym, ◌∙◌, ap}
use Rattle.kernel_pattern.specs.Pattern.{IsPattern, moment_at, with_exit}
use Rattle.kernel_pattern.specs.Events.{seen_event}
use Rattle.kernel_pattern.proofs.PatternEdits.{Becomes, nothing-replaced, exit-replaced, exit-added}
use Rattle.kernel_pattern.proofs.pattern.Pattern.add_exit.Goals as goal
use Rattle.kernel_pattern.proofs.pattern.Pattern.add_exit.Goals.{In_ok-push-in-Ok, In_ok-insert-in-Err}

on_err : {T E P : Type 0} (r : Result T E) → P → OnErr r P
on_err (Ok x) p = tt
on_err (Err e) p = p

-- memory for the exit is refused
unchanged : (c : goal.After-from_residual) →
    map seen_event (set c.self.inside.events.items c.in-Ok.place
    (record {
      number = c.index_mut-event.result.now.number;
      exits = c.push.new.self;
      fate = c.index_mut-event.result.now.fate;
    })) ≡ map seen_event c.self.inside.events.items
unchanged c = nothing-replaced c.self.inside.events.items c.args.n c.in-Ok.place c.self.invariant (rw c.deref.ensures.value at c.in-Ok.ensures.listed) c.index_mut-event.result.now c.index_mut-event.ensures.value _ refl refl c.in_err-push-in-Ok.ensures.items

-- an exit more of an event
replaced : (c : In_ok-push-in-Ok) →
    Becomes c.self.inside.events.items c.args.n
    (with_exit c.args.name (moment_at (map seen_event c.self.inside.events.items) c.args.n))
    (set c.self.inside.events.items c.in-Ok.place
    (record {
      number = c.index_mut-event.result.now.number;
      exits = c.push.new.self;
      fate = c.index_mut-event.result.now.fate;
    }))
replaced c = exit-replaced c.self.inside.events.items c.args.n c.in-Ok.place c.self.invariant (rw c.deref.ensures.value at c.in-Ok.ensures.listed) c.index_mut-event.result.now c.index_mut-event.ensures.value _ refl c.args.name c.requires.within refl c.in_ok-push-in-Ok.ensures.items

-- an event more
added : (c : In_ok-insert-in-Err) →
    Becomes c.self.inside.events.items c.args.n
    (with_exit c.args.name (moment_at (map seen_event c.self.inside.events.items) c.args.n)) c.insert.new.self.items
added c =
    rw c.in_ok-insert-in-Err.ensures.items
    (exit-added c.self.inside.events.items c.args.n c.in-Err.place c.self.invariant (rw c.deref.ensures.value at c.in-Err.ensures.unlisted) _ c.requires.number refl c.args.name c.requires.within refl (c.in_ok-push-in-Err.ensures.items ∙ ap (λ xs. xs ++ c.args.name ∷ []) c.new-exits.ensures.items))

pub invariant_of-self : goal.invariant_of-self
invariant_of-self c = subst IsPattern (sym (unchanged c)) c.self.invariant

pub returns-in_err-push-in-Ok-clause-err : goal.returns-in_err-push-in-Ok-clause-err
returns-in_err-push-in-Ok-clause-err c = on_err c.from_residual.result (unchanged c ∙ c.self.view_is)

pub invariant_of-self-in-Ok : goal.invariant_of-self-in-Ok
invariant_of-self-in-Ok c = (replaced c).pattern

pub returns-in_ok-push-in-Ok-clause-ok : goal.returns-in_ok-push-in-Ok-clause-ok
returns-in_ok-push-in-Ok-clause-ok c = rw (← c.self.view_is) (replaced c).moments

pub invariant_of-self-in-Err : goal.invariant_of-self-in-Err
invariant_of-self-in-Err c = (added c).pattern

pub returns-in_ok-insert-in-Err-clause-ok : goal.returns-in_ok-insert-in-Err-clause-ok
returns-in_ok-insert-in-Err-clause-ok c = rw (← c.self.view_is) (added c).moments
