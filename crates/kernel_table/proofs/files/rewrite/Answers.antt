use Rattle.std.proofs.Common.{refl, sym, ◌∙◌, rules, tests}
use Rattle.std.specs.Prelude.{bytes_eq}
use Rattle.std.proofs.lemmas.Iterator.{YieldsList-from_slice}
use Rattle.std.proofs.lemmas.Iterator.Search.{position_from_yields_List}
use Rattle.kernel_table.specs.declared.file_row.FileRow.{FileRow}
use Rattle.kernel_table.proofs.WrittenFiles.{rewritten-Some, rewritten-None}
use Rattle.kernel_table.proofs.files.rewrite.Goals as goal

pub returns-in-Some-clause-there : goal.returns-in-Some-clause-there
returns-in-Some-clause-there c =
    let new : FileRow = record { path = c.args.path.now; owner = c.args.owner } in
    let found = position_from_yields_List (λ (f : FileRow). bytes_eq f.path c.args.path.now) _ _ c.position-found.result c.position-found.ensures.ran (YieldsList-from_slice c.args.files.now cc) (λ x b q k. search (rules, tests)) in
    sym (rewritten-Some c.args.path.now c.args.owner c.args.files.now c.in-Some.place new new (sym found ∙ c.in-Some.is) refl).0

pub returns-in-Some-clause-rows : goal.returns-in-Some-clause-rows
returns-in-Some-clause-rows c =
    let new : FileRow = record { path = c.args.path.now; owner = c.args.owner } in
    let found = position_from_yields_List (λ (f : FileRow). bytes_eq f.path c.args.path.now) _ _ c.position-found.result c.position-found.ensures.ran (YieldsList-from_slice c.args.files.now cc) (λ x b q k. search (rules, tests)) in
    (rewritten-Some c.args.path.now c.args.owner c.args.files.now c.in-Some.place new new (sym found ∙ c.in-Some.is) refl).1

pub returns-clause-there : goal.returns-clause-there
returns-clause-there c =
    let new : FileRow = record { path = c.args.path.now; owner = c.args.owner } in
    let found = position_from_yields_List (λ (f : FileRow). bytes_eq f.path c.args.path.now) _ _ c.position-found.result c.position-found.ensures.ran (YieldsList-from_slice c.args.files.now cc) (λ x b q k. search (rules, tests)) in
    sym (rewritten-None c.args.path.now c.args.owner c.args.files.now new (sym found ∙ c.in_default.is)).0

pub returns-clause-rows : goal.returns-clause-rows
returns-clause-rows c =
    let new : FileRow = record { path = c.args.path.now; owner = c.args.owner } in
    let found = position_from_yields_List (λ (f : FileRow). bytes_eq f.path c.args.path.now) _ _ c.position-found.result c.position-found.ensures.ran (YieldsList-from_slice c.args.files.now cc) (λ x b q k. search (rules, tests)) in
    (rewritten-None c.args.path.now c.args.owner c.args.files.now new (sym found ∙ c.in_default.is)).1
