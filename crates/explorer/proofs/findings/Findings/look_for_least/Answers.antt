use Rattle.std.proofs.Common.{◌≡◌, map, refl, List, Some, None, inl, inr, sym, ap, subst, ◌∙◌}
use Rattle.definitions.specs.Table.{Address}
use Rattle.kernel_service.specs.Served.{seen_served}
use Rattle.explorer.specs.declared.findings.Findings.{Findings}
use Rattle.explorer.specs.Least.{bound_of}
use Rattle.explorer.specs.Readiness.{fewest_from, HaveAtLeast}
use Rattle.explorer.proofs.Fewest.{fewest-none, fewest-at, fewer-needed, not-fewer, is-fewer}
use Rattle.explorer.proofs.findings.Findings.look_for_least.Goals as goal
use Rattle.explorer.proofs.findings.Findings.look_for_least.Goals.{then-may_have_fewer, else-may_have_fewer}

pub returns-then-not-may_have_fewer-clause-seen : goal.returns-then-not-may_have_fewer-clause-seen
returns-then-not-may_have_fewer-clause-seen c = λ has.
    let found = c.args.self.now in
    fewer-needed c.args.kernel.now.table c.args.low (bound_of found.least) found.common.items
    (not-fewer c.args.low (bound_of found.least) (sym c.may_have_fewer.ensures ∙ c.if-not-may_have_fewer.true)) has

pub returns-in_default-clause-seen : goal.returns-in_default-clause-seen
returns-in_default-clause-seen c = λ has.
    let found = c.args.self.now in
    let none = fewest-none (map seen_served c.entries.result.now) found.common.items (ap (fewest_from (map seen_served c.entries.result.now) None) (sym c.deref.ensures.value) ∙ sym c.fewest_at.ensures ∙ c.in_default.is) in
    subst (λ (xs : List Address). HaveAtLeast xs c.args.kernel.now.table (bound_of found.least)) (sym none) tt

pub returns-clause-least : goal.returns-clause-least
returns-clause-least c =
    let found = c.args.self.now in
    let t = c.args.kernel.now.table in
    let s = c.in_ok-service.service in
    let fewest = c.in-Some.fewest in
    let is : fewest_from s None found.common.items ≡ Some fewest =
    (λ i. fewest_from (sym c.entries.ensures.entries i) None (sym c.deref.ensures.value i)) ∙ sym c.fewest_at.ensures ∙ c.in-Some.is in
    let here = fewest-at t s c.entries.ensures.service c.in_ok-service.ensures fewest found.common.items is in
    elim c.if-may_have_fewer.branch [
      | then-may_have_fewer w ↦
          inr (_, ap (λ (x : Findings). x.least) w.self-is, record { address = here.one; ready = here.ready; fewer = is-fewer _ _ (sym c.may_have_fewer-2.ensures ∙ w.if-may_have_fewer.true); tried = refl; made = refl })
      | else-may_have_fewer w ↦ inl (ap (λ (x : Findings). x.least) w.self-is)
    ]

pub returns-clause-low : goal.returns-clause-low
returns-clause-low c = λ has.
    let found = c.args.self.now in
    let s = c.in_ok-service.service in
    let fewest = c.in-Some.fewest in
    let is : fewest_from s None found.common.items ≡ Some fewest =
    (λ i. fewest_from (sym c.entries.ensures.entries i) None (sym c.deref.ensures.value i)) ∙ sym c.fewest_at.ensures ∙ c.in-Some.is in
    (fewest-at c.args.kernel.now.table s c.entries.ensures.service c.in_ok-service.ensures fewest found.common.items is).all

pub returns-clause-seen : goal.returns-clause-seen
returns-clause-seen c = λ has.
    let found = c.args.self.now in
    let t = c.args.kernel.now.table in
    let s = c.in_ok-service.service in
    let fewest = c.in-Some.fewest in
    let is : fewest_from s None found.common.items ≡ Some fewest =
    (λ i. fewest_from (sym c.entries.ensures.entries i) None (sym c.deref.ensures.value i)) ∙ sym c.fewest_at.ensures ∙ c.in-Some.is in
    let all = (fewest-at t s c.entries.ensures.service c.in_ok-service.ensures fewest found.common.items is).all in
    elim c.if-may_have_fewer.branch [
      | then-may_have_fewer w ↦ subst (λ (x : Findings). HaveAtLeast x.common.items t (bound_of x.least)) (sym w.self-is) all
      | else-may_have_fewer w ↦
          subst (λ (x : Findings). HaveAtLeast x.common.items t (bound_of x.least)) (sym w.self-is)
          (fewer-needed t fewest.1 (bound_of found.least) found.common.items (not-fewer _ _ (sym c.may_have_fewer-2.ensures ∙ w.if-may_have_fewer.false)) all)
    ]
