use Rattle.std.proofs.Common.{not, map, ap, ◌∙◌, rules, tests}
use Rattle.std.specs.Prelude.{bytes_eq}
use Rattle.std.proofs.lemmas.Fn.{filter_same}
use Rattle.kernel_table.specs.declared.file_row.FileRow.{FileRow}
use Rattle.kernel_table.specs.Seen.{seen_file}
use Rattle.kernel_table.proofs.WrittenFiles.{without-rows}
use Rattle.kernel_table.proofs.files.remove.Goals as goal

pub returns-clause-rows : goal.returns-clause-rows
returns-clause-rows c =
    ap (map seen_file) (filter_same _ (λ (f : FileRow). not (bytes_eq f.path c.args.path.now)) _ (λ x b q k. (search (rules, tests), search (rules, tests))) _ _ c.retain.ensures.filtered)
    ∙ without-rows c.args.path.now c.args.files.now.items
