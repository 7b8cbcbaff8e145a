use Rattle.std.proofs.Common.{◌≡◌, true, nat_eq, ◌&&◌, ap, sym, ◌∙◌}
use Rattle.std.proofs.lemmas.Bool.{and_parts, eqb-true}
use Rattle.worker_groups.specs.Crews.{Crew}
use Rattle.definitions.specs.Calls.{shared}
use Rattle.definitions.specs.Master.{fds_of}
use Rattle.definitions.specs.Table.{Generation}
use Rattle.kernel_rows.specs.Holds.{seen_holds}
use Rattle.kernel_agreement.proofs.Comparing.{same_sockets}
use Rattle.kernel_agreement.proofs.agreement.is_running.Goals as goal

same_generation : (g h : Generation) → (nat_eq g.image h.image && nat_eq g.config h.config) ≡ true → g ≡ h
same_generation g h e =
    let parts = and_parts (nat_eq g.image h.image) (nat_eq g.config h.config) e in
    let image = eqb-true g.image h.image parts.0 in
    let config = eqb-true g.config h.config parts.1 in
    (λ i. record { image = image i; config = config i })

pub returns-then-eq : goal.returns-then-eq
returns-then-eq c = λ addresses.
    let g = same_generation c.in-Worker.generation c.crew.inside.generation (sym c.if-eq.ensures) ∙ ap (λ (k : Crew). k.generation) c.crew.view_is in
    let given = c.given.ensures ∙ ap (λ (k : Crew). fds_of k.posts c.in-Worker.nr) c.crew.view_is in
    let held = c.shared-share.ensures addresses ∙ ap (λ fds. shared fds (seen_holds addresses c.args.master.now.holds)) given in
    rw (c.in-Worker.is, c.in-Ready.is) (
      (λ t q. (g, ap (seen_holds addresses) (c.same_holds.ensures.0 t) ∙ held)),
      (λ h. c.same_holds.ensures.1 (same_sockets addresses c.args.holder.now.holds c.shared-share.result ((h c.if-parent-master.true).1 ∙ sym held))),
    )
