use Rattle.std.proofs.Common.{true≢false, ◌∙◌, sym, ap, subst, nat_eq, IsSome, refl}
use Rattle.std.specs.Map.{lookup}
use Rattle.worker_table.specs.Beats.{with_beat}
use Rattle.worker_table.proofs.PlaceLemmas.{in_order-set, has_room}
use Rattle.worker_table.proofs.workers.WorkerTable.set.Goals as goal

-- a number that is not there has room
pub unreachable-requires : goal.unreachable-requires
unreachable-requires c =
    let absent = rw c.get_mut.follows.holds-at-none at c.in-Err.ensures.absent in
    let roomy = rw c.get_mut.follows.holds-at-none at c.in-Err.ensures.succeeds in
    true≢false (sym (roomy (has_room c.self.inside.places c.args.nr c.self.invariant c.requires absent)))

pub returns-in-Some : goal.returns-in-Some
returns-in-Some c =
    let there : IsSome (lookup (nat_eq c.args.nr) c.self.inside.places.entries) = subst IsSome c.in-Some.ensures.value refl in
    in_order-set _ c.self.inside.places.entries c.args.nr c.args.beat ((c.get_mut.follows.holds c.args.beat).3 there).0 ∙ ap (λ ws. with_beat ws c.args.nr c.args.beat) c.self.view_is

pub returns-in-Ok : goal.returns-in-Ok
returns-in-Ok c =
    let updates = rw c.get_mut.follows.holds-at-none at c.in-Ok.ensures.updates in
    in_order-set _ c.self.inside.places.entries c.args.nr c.args.beat updates.0 ∙ ap (λ ws. with_beat ws c.args.nr c.args.beat) c.self.view_is
