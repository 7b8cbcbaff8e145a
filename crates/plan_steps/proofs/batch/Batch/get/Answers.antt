use Rattle.std.proofs.Common.{◌<◌, ◌∙◌, Some, slice_get, option_map, subst, sym, ap}
use Rattle.std.proofs.lemmas.Option.{slice_get-map}
use Rattle.definitions.specs.Master.{fork_of}
use Rattle.plan_steps.specs.Batches.{asked_call, calls_of, size_of}
use Rattle.plan_steps.proofs.batch.Batch.get.Goals as goal

pub at-requires : goal.at-requires
at-requires c = subst (λ b. c.args.place < size_of b) c.in-Forks.is c.requires

pub returns-in-Forks : goal.returns-in-Forks
returns-in-Forks c =
    ap (λ b. slice_get (calls_of b) c.args.place) c.in-Forks.is
    ∙ (slice_get-map (fork_of c.in-Forks.crew.now) c.in-Forks.numbers.now c.args.place
    ∙ (ap (option_map (fork_of c.in-Forks.crew.now)) c.at.ensures ∙ ap Some (sym c.fork_of.ensures)))

pub at-requires-in-Workers : goal.at-requires-in-Workers
at-requires-in-Workers c = subst (λ b. c.args.place < size_of b) c.in-Workers.is c.requires

pub returns-in-Workers : goal.returns-in-Workers
returns-in-Workers c =
    ap (λ b. slice_get (calls_of b) c.args.place) c.in-Workers.is
    ∙ (slice_get-map (asked_call c.in-Workers.asked c.in-Workers.generation) c.in-Workers.numbers.now c.args.place
    ∙ (ap (option_map (asked_call c.in-Workers.asked c.in-Workers.generation)) c.at-in-Workers.ensures ∙ ap Some (sym c.call.ensures)))
