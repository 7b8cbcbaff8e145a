use Rattle.std.proofs.Common.{sym, ◌∙◌, rules, tests, []}
use Rattle.std.proofs.lemmas.Iterator.{YieldsList-from_slice}
use Rattle.std.proofs.lemmas.Iterator.Search.{position_from_yields_List}
use Rattle.call_laws.specs.Pieces.{is_named, is_draining, made_exited}
use Rattle.kernel_rows.specs.declared.process.Row.TheVariants.{Foreign}
use Rattle.kernel_rows.specs.Seen.{seen_holder}
use Rattle.kernel_rows.proofs.First.{first_changed-Some, first_changed-None}
use Rattle.kernel_rows.proofs.holders.exit_first_draining.Goals as goal

pub returns-in-Some : goal.returns-in-Some
returns-in-Some c = λ addresses.
    let test = is_named is_draining c.args.generation c.args.nr in
    let found = position_from_yields_List (λ h. test (seen_holder addresses h)) _ _ _ c.in-Some.ensures.ran (YieldsList-from_slice c.args.slots.now cc) (λ x b q k. search (rules, tests)) in
    first_changed-Some (seen_holder addresses) test made_exited c.args.slots.now c.in-Some.place c.index-slots-place.result c.exit.new.self (sym found)
    (c.exit.ensures addresses)

pub returns-in_default : goal.returns-in_default
returns-in_default c = λ addresses.
    let test = is_named is_draining c.args.generation c.args.nr in
    let found = position_from_yields_List (λ h. test (seen_holder addresses h)) _ _ c.position-first.result c.position-first.ensures.ran (YieldsList-from_slice c.args.slots.now cc) (λ x b q k. search (rules, tests)) in
    first_changed-None (seen_holder addresses) test made_exited c.args.slots.now (record { row = Foreign 0; holds = [] }) (sym found ∙ c.in_default.is)
