use Rattle.std.proofs.Common.{◌≡◌, ◌∙◌, sym, ap, [], length, unwrap_or, arith}
use Rattle.worker_groups.specs.Groups.{addresses_in}
use Rattle.master_config.proofs.Rules.{some_addresses}
use Rattle.master_config.proofs.pools.Pools.settings.Goals as goal

pub invariant_of-result : goal.invariant_of-result
invariant_of-result c =
    let are = c.as_slice.ensures.groups in
    let sum : addresses_in c.in-Some.groups ≡ length c.self.inside.listeners = sym (ap (λ o. addresses_in (unwrap_or o [])) c.in-Some.is) ∙ c.self.invariant in
    record {
      listens = omega (arith, some_addresses c.in-Some.groups are, sum);
      workers = omega (arith, are.workers, c.workers.ensures);
      groups = are;
      addresses_add_up = sum;
      workers_add_up = sym c.workers.ensures;
      timeout_least = c.rest.invariant.3;
      timeout_most = c.rest.invariant.4;
      retries = c.rest.invariant.1;
      surge = c.rest.invariant.2;
      pid = c.rest.invariant.0;
    }
