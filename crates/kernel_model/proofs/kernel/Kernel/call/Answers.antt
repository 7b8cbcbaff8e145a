use Rattle.std.proofs.Common.{ap, ◌∙◌, arith}
use Rattle.definitions.specs.Calls.{after_exits}
use Rattle.handover_text.specs.Reading.{handed_by}
use Rattle.kernel_model.specs.State.{State}
use Rattle.kernel_model.proofs.Alone.{step-alone}
use Rattle.kernel_model.proofs.Room.{HasRoomFor-exits, HasRoomFor-call, kept-middle, kept-after}
use Rattle.kernel_model.proofs.kernel.Kernel.call.Goals as goal

pub answered-requires-clause-kept : goal.answered-requires-clause-kept
answered-requires-clause-kept c =
    kept-middle c.self.inside.store c.exit_all.new.store c.args.moment.now.exits.now c.exit_all.ensures.table c.self.invariant.kept

pub invariant_of-self : goal.invariant_of-self
invariant_of-self c =
    let old = c.self.inside.store in
    let middle = c.exit_all.new.store in
    let same = ap (λ (s : State). s.room) c.self.view_is in
    record {
      room = HasRoomFor-call c.self.inside.room middle c.answered.new.store (omega (arith, c.requires, same)) (HasRoomFor-exits old middle c.exit_all.ensures.room c.self.inside.room c.self.invariant.room) c.answered.ensures.grows;
      kept = kept-after old middle c.args.moment.now.exits.now c.exit_all.ensures.table c.self.invariant.kept (handed_by c.args.text.now) c.by.inside.0 c.args.call.now c.args.moment.now.fate _ c.answered.ensures.outcome;
      names = c.answered.ensures.grows.names (c.exit_all.ensures.room.names c.self.invariant.names);
    }

pub returns-clause-formed : goal.returns-clause-formed
returns-clause-formed c =
    let kept = kept-after c.self.inside.store c.exit_all.new.store c.args.moment.now.exits.now c.exit_all.ensures.table c.self.invariant.kept (handed_by c.args.text.now) c.by.inside.0 c.args.call.now c.args.moment.now.fate _ c.answered.ensures.outcome in
    kept.formed

pub answered-requires-clause-names : goal.answered-requires-clause-names
answered-requires-clause-names c = c.exit_all.ensures.room.names c.self.invariant.names

pub returns-clause-alone : goal.returns-clause-alone
returns-clause-alone c =
    let exits = c.exit_all.ensures.table ∙ ap (λ (s : State). after_exits c.args.moment.now.exits.now s.table) c.self.view_is in
    step-alone (handed_by c.args.text.now) c.by.inside.0 c.args.by c.args.call.now c.args.moment.now.fate _ _ _ c.answered.ensures.outcome c.by.view_is exits
