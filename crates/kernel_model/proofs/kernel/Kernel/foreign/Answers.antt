use Rattle.std.proofs.Common.{◌≡◌, ◌+◌, sym, subst, ◌∙◌, rules}
use Rattle.std.proofs.lemmas.Bool.{false≢true}
use Rattle.kernel_table.specs.Room.{HasMemoryFor, IsKept}
use Rattle.kernel_model.proofs.Foreigners.{IsKept-foreign, sound-foreign}
use Rattle.kernel_table.specs.Seen.{seen}
use Rattle.kernel_model.proofs.Room.{sound-grown}
use Rattle.kernel_model.proofs.kernel.Kernel.foreign.Goals as goal

pub invariant_of-self : goal.invariant_of-self
invariant_of-self c = sound-grown c.self.inside.store c.grow.new.self c.self.inside.room c.grow.ensures.same c.grow.ensures.free c.grow.ensures.lone (c.grow.ensures.kept c.self.inside.room) c.self.invariant

pub invariant_of-self-2 : goal.invariant_of-self-2
invariant_of-self-2 c =
    let needed : c.in-Some.needed ≡ c.self.inside.room + 1 = search rules in
    let memory : HasMemoryFor c.in-Some.needed c.grow.new.self = search rules in
    sound-foreign c.self.inside.store c.grow.new.self c.add_foreign.new.self c.self.inside.room c.in-Some.needed c.args.address.now needed c.grow.ensures.same memory
    (λ lacks. false≢true (sym c.if-lacks_numbers.false ∙ c.lacks_numbers.ensures.1 lacks))
    c.self.invariant.kept c.add_foreign.ensures.table c.add_foreign.ensures.grows c.grow.ensures.free c.grow.ensures.lone c.self.invariant.names

pub returns-clause-formed : goal.returns-clause-formed
returns-clause-formed c =
    let kept = subst IsKept (sym c.add_foreign.ensures.table) (IsKept-foreign (seen c.grow.new.self) c.args.address.now (subst IsKept (sym c.grow.ensures.same) c.self.invariant.kept)) in
    kept.formed
