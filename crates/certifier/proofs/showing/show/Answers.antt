use Rattle.std.proofs.Common.{◌≡◌, ℕ, OnOk, sym, subst}
use Rattle.std.specs.Prelude.{if◌then◌else◌, ◌==◌}
use Rattle.vocabulary.specs.declared.calls.Answer.{Answer}
use Rattle.kernel_model.specs.Pattern.{moment_at}
use Rattle.certifier.specs.Shown.{moment_shown}
use Rattle.certifier.proofs.showing.show.Goals as goal
use Rattle.handover_text.specs.Reading.{handed_by}

pub returns-in-Counted : goal.returns-in-Counted
returns-in-Counted c =
    let e = c.args.entry.now in
    subst (λ (a : Answer). OnOk c.show_uncounted.result ((n : ℕ) → moment_at c.show_uncounted.new.pattern n ≡ (if n == c.args.number then moment_shown (handed_by c.args.text.now) c.args.kernel.now.table (record { by = e.by; call = e.call; answer = a }) else moment_at c.args.pattern.now n)))
    (sym c.in-Counted.is) (c.show_uncounted.ensures (handed_by c.args.text.now))
