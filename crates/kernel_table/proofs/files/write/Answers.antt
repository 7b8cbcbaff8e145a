use Rattle.std.proofs.Common.{◌++◌, ◌∷◌, [], is_some, map, length, sym, ap, ◌∙◌, arith}
use Rattle.definitions.specs.Table.{owner_at}
use Rattle.kernel_table.specs.declared.file_row.FileRow.{FileRow}
use Rattle.kernel_table.specs.Seen.{seen_file}
use Rattle.kernel_table.specs.Files.{rewritten}
use Rattle.kernel_rows.proofs.Lists.{map-push}
use Rattle.kernel_table.proofs.WrittenFiles.{refilled, written-there, written-new}
use Rattle.kernel_table.proofs.files.write.Goals as goal

pub returns-then-not-rewrite-clause-rows : goal.returns-then-not-rewrite-clause-rows
returns-then-not-rewrite-clause-rows c =
    let files = c.args.files.now in
    let path = c.args.path.now in
    let new : FileRow = record { path = path; owner = c.args.owner } in
    let whole = refilled c.rewrite.new.files files.items files.len (omega (arith, files.ok.0)) (c.rewrite.ensures.len ∙ ap length c.deref_mut.ensures.value) in
    let rows = c.rewrite.ensures.rows ∙ ap (λ xs. rewritten path c.args.owner (map seen_file xs)) c.deref_mut.ensures.value in
    let there = c.rewrite.ensures.there ∙ ap (λ xs. is_some (owner_at path (map seen_file xs))) c.deref_mut.ensures.value in
    let more = rw c.unwrap.ensures at c.push.ensures.items in
    ap (map seen_file) (more ∙ ap (λ xs. xs ++ new ∷ []) whole)
    ∙ map-push seen_file c.rewrite.new.files new
    ∙ ap (λ fs. fs ++ seen_file new ∷ []) rows
    ∙ written-new path c.args.owner (map seen_file files.items) (sym there ∙ c.if-not-rewrite.true)

pub returns-else-not-rewrite-clause-rows : goal.returns-else-not-rewrite-clause-rows
returns-else-not-rewrite-clause-rows c =
    let files = c.args.files.now in
    let path = c.args.path.now in
    let whole = refilled c.rewrite.new.files files.items files.len (omega (arith, files.ok.0)) (c.rewrite.ensures.len ∙ ap length c.deref_mut.ensures.value) in
    let rows = c.rewrite.ensures.rows ∙ ap (λ xs. rewritten path c.args.owner (map seen_file xs)) c.deref_mut.ensures.value in
    let there = c.rewrite.ensures.there ∙ ap (λ xs. is_some (owner_at path (map seen_file xs))) c.deref_mut.ensures.value in
    ap (map seen_file) whole ∙ rows
    ∙ written-there path c.args.owner (map seen_file files.items) (sym there ∙ c.if-not-rewrite.false)
