use Rattle.std.proofs.Common.{◌≤◌, length, Result, Ok, Err, ap, subst, ◌∙◌}
use Rattle.std.specs.Prelude.{IfOk}
use Rattle.vocabulary.specs.Settings.{HasSuffixRoom}
use Rattle.handover_text.specs.Ranges.{is_path_if}
use Rattle.handover_text.proofs.LinesRead.{file_path_is}
use Rattle.handover_text.proofs.writing.put_pid_file.Goals as goal

always : {T E P : Type 0} (r : Result T E) → P → IfOk r (λ _. P)
always (Ok x) h = h
always (Err e) h = tt

pub returns-clause-path : goal.returns-clause-path
returns-clause-path c =
    let room : length c.in-Some.path ≤ 100 = subst HasSuffixRoom c.in-Some.is c.requires in
    always c.extend_from_slice-3.result (ap is_path_if c.in-Some.is ∙ file_path_is c.in-Some.path c.bytes.ensures.is_path room)
