use Rattle.std.proofs.Common.{◌+◌, arith, sym, ap, subst, ◌∙◌}
use Rattle.std.specs.Prelude.{IfOk}
use Rattle.std.specs.List.{slice_split}
use Rattle.std.proofs.lemmas.Result.{err_from_is_err_and}
use Rattle.plain_text.proofs.CutTexts.{cut_parts, cut_missing, cut_shorter}
use Rattle.handover_text.specs.Reading.{read_line, read_pieces}
use Rattle.handover_text.specs.Ranges.{IsSpelling}
use Rattle.handover_text.proofs.SoFar.{is_newline, number_small, pieces_last, line_taken, line_refused, taken_in_range}
use Rattle.handover_text.proofs.Spelled.{reading_spelled}
use Rattle.handover_text.proofs.reading.read.Goals as goal

pub returns-in_err-read_line-clause-exact : goal.returns-in_err-read_line-clause-exact
returns-in_err-read_line-clause-exact c =
    let n = c.loop-line.number in
    let place = c.loop-line.reader.0 in
    let h = c.loop-line.reader.1 in
    let rest = c.loop-line.rest.now in
    let parts = cut_parts 10 rest _ (sym c.in-Some.ensures) in
    let read = c.read_line.ensures ∙ ap (read_line n place h) parts.1 in
    let p = err_from_is_err_and c.from_residual.result c.from_residual.ensures.1 in
    rw (p.1, p.2) (line_refused n place h c.read_line.new.self rest c.read_line.result parts.0 read _ c.in_err-read_line.was ∙ c.loop-line.invariant.0)

pub overflow_add-number : goal.overflow_add-number
overflow_add-number c = let few = number_small _ _ _ c.loop-line.invariant.1 in omega (arith, few)

pub loop-line-smaller : goal.loop-line-smaller
loop-line-smaller c = cut_shorter 10 c.loop-line.rest.now _ (sym c.in-Some.ensures)

pub loop-line-preserved : goal.loop-line-preserved
loop-line-preserved c =
    let n = c.loop-line.number in
    let place = c.loop-line.reader.0 in
    let h = c.loop-line.reader.1 in
    let state = c.read_line.new.self in
    let rest = c.loop-line.rest.now in
    let parts = cut_parts 10 rest _ (sym c.in-Some.ensures) in
    let read = c.read_line.ensures ∙ ap (read_line n place h) parts.1 in (
      ap (λ xs. read_pieces (n + 1) state.0 state.1 (slice_split is_newline xs)) parts.2
          ∙ line_taken n place h state rest c.read_line.result parts.0 read c.in_ok-read_line.was
          ∙ c.loop-line.invariant.0,
      taken_in_range n place h state rest c.read_line.result parts.0 read c.in_ok-read_line.was c.loop-line.invariant.1,
      (let shorter = cut_shorter 10 rest _ (sym c.in-Some.ensures) in omega (arith, shorter, c.loop-line.invariant.2)),
    )

pub returns-clause-exact : goal.returns-clause-exact
returns-clause-exact c =
    let e = pieces_last c.loop-line.number c.loop-line.reader.0 c.loop-line.reader.1 c.loop-line.rest.now (cut_missing 10 c.loop-line.rest.now (sym c.in_default.ensures)).0 in
    c.finish.ensures ∙ sym e ∙ c.loop-line.invariant.0

pub returns-clause-spelled : goal.returns-clause-spelled
returns-clause-spelled c = subst (λ r. IfOk r (λ told. IsSpelling c.args.text.now told)) (sym (returns-clause-exact c)) (reading_spelled c.args.text.now)
