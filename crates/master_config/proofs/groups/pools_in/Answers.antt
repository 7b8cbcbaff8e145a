use Rattle.std.proofs.Common.{◌≡◌, ◌<◌, ◌≤◌, ◌∙◌, length, arith, false}
use Rattle.std.proofs.lemmas.Bool.Decides.{nat_tests}
use Rattle.toml.specs.View.{view, table_view, array_view}
use Rattle.master_config.specs.Values.{data_of}
use Rattle.master_config.specs.Groups.{is_mixed}
use Rattle.master_config.proofs.Trees.{length-data_of}
use Rattle.master_config.proofs.Rules.{pools_from, no_groups, many_groups, few_groups}
use Rattle.master_config.proofs.groups.pools_in.Goals as goal

pub returns-then-is_empty-clause-pools : goal.returns-then-is_empty-clause-pools
returns-then-is_empty-clause-pools c =
    let v = c.in_ok-items.items.now in
    let pure : is_mixed (table_view c.args.table.now) ≡ false = grind (arith, c.is_mixed.ensures, c.if-is_mixed.false) in
    let none : length (data_of (array_view v)) ≡ 0 = grind (arith, nat_tests, length-data_of v.items, v.ok.0) in
    no_groups (data_of (array_view v)) none ∙ pools_from (table_view c.args.table.now) (view c.args.value.now) (array_view v) c.in_ok-items.ensures pure

pub returns-then-len-gt-MOST_GROUPS-clause-pools : goal.returns-then-len-gt-MOST_GROUPS-clause-pools
returns-then-len-gt-MOST_GROUPS-clause-pools c =
    let v = c.in_ok-items.items.now in
    let pure : is_mixed (table_view c.args.table.now) ≡ false = grind (arith, c.is_mixed.ensures, c.if-is_mixed.false) in
    let many : 16 < length (data_of (array_view v)) = omega (arith, length-data_of v.items, v.ok.0) in
    many_groups (data_of (array_view v)) many ∙ pools_from (table_view c.args.table.now) (view c.args.value.now) (array_view v) c.in_ok-items.ensures pure

pub returns-clause-pools : goal.returns-clause-pools
returns-clause-pools c =
    let v = c.in_ok-items.items.now in
    let pure : is_mixed (table_view c.args.table.now) ≡ false = grind (arith, c.is_mixed.ensures, c.if-is_mixed.false) in
    let some : 0 < length (data_of (array_view v)) = grind (arith, nat_tests, length-data_of v.items, v.ok.0) in
    let few : length (data_of (array_view v)) ≤ 16 = omega (arith, length-data_of v.items, v.ok.0) in
    c.read_all.ensures.pools ∙ few_groups (data_of (array_view v)) some few ∙ pools_from (table_view c.args.table.now) (view c.args.value.now) (array_view v) c.in_ok-items.ensures pure
