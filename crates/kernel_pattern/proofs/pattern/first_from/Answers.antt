use Rattle.std.proofs.Common.{ltb, rules, tests}
use Rattle.std.proofs.lemmas.List.Sorted.{IsPartitionedBy-ltb, IsPartitionPoint-from_clause}
use Rattle.kernel_pattern.specs.declared.pattern.PatternEvent.{PatternEvent}
use Rattle.kernel_pattern.proofs.Patterns.{place_is}
use Rattle.kernel_pattern.proofs.pattern.first_from.Goals as goal

pub returns-clause-place : goal.returns-clause-place
returns-clause-place c =
    let n = c.args.n in
    let es = c.args.events.now in
    let found = c.partition_point.ensures in
    place_is n es c.partition_point.result found.bound
    (IsPartitionPoint-from_clause (λ (e : PatternEvent). ltb e.number n) es c.partition_point.result found.partitioned (IsPartitionedBy-ltb (λ (e : PatternEvent). e.number) es n c.requires) (λ a r f k. search (rules, tests)))
