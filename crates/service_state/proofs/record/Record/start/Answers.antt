use Rattle.std.proofs.Common.{length, ap, sym, subst, ◌∙◌, arith}
use Rattle.worker_groups.specs.Groups.{AreGroups}
use Rattle.worker_groups.specs.Crews.{Posts}
use Rattle.master_listeners.proofs.Listed.{length-listeners_from}
use Rattle.service_state.proofs.record.Record.start.Goals as goal

pub invariant_of-result : goal.invariant_of-result
invariant_of-result c =
    let n = ap length c.from_set.ensures ∙ length-listeners_from 3 c.settings.inside.listeners in
    record {
      listens = omega (arith, n, c.settings.invariant.listens);
      groups = subst (λ (p : Posts). AreGroups p.groups) (sym c.first.ensures.posts) c.first.ensures.groups;
      wanted = c.requires.wanted;
      ready = c.requires.ready;
      retries = c.settings.invariant.retries;
      timeout_least = c.settings.invariant.timeout_least;
      timeout_most = c.settings.invariant.timeout_most;
      pid_path = c.settings.invariant.pid;
      pid = c.requires.pid;
    }
