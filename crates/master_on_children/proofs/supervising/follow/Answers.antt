use Rattle.std.proofs.Common.{◌≡◌, ℕ, List, ◌++◌, Result, Err, ◌∙◌, inl, inr, refl, sym, ap, subst}
use Rattle.std.specs.Prelude.{IsErrOf}
use Rattle.std.proofs.lemmas.Result.{err_from_is_err_and}
use Rattle.std.specs.Io.KnownBytes.{Appends}
use Rattle.std.proofs.KnownBytes.{Appends-trans}
use Rattle.transcript.specs.Block.{transcript_text}
use Rattle.word_runner.specs.Status.{status_after}
use Rattle.master_on_children.specs.declared.fault.Halt.{Halt}
use Rattle.master_on_children.specs.declared.fault.Halt.TheVariants.{Short}
use Rattle.master_on_children.proofs.Telling.{text-append, status-append}
use Rattle.master_on_children.proofs.supervising.follow.Goals as goal

pub returns-clause-run : goal.returns-clause-run
returns-clause-run g c =
    let h = c.in_ok-status.ensures.heard in
    let ticked = c.tick-ticked.result.blocks.items in
    let ended = c.end-ended.result.blocks.items in
    let first = g.O.Write.contents c.args.output.now in
    let second = g.O.Write.contents c.tell.new.output in
    let third = g.O.Write.contents c.hear_all.new.output in
    let last = g.O.Write.contents c.tell-2.new.output in
    let front = Appends-trans first second third (transcript_text ticked) (transcript_text h.1) c.in_ok-first.ensures.told h.3 in
    let whole = Appends-trans first third last (transcript_text ticked ++ transcript_text h.1) (transcript_text ended) front c.in_ok-gravest.ensures.told in
    let text : transcript_text (ticked ++ h.1 ++ ended) ≡ transcript_text ticked ++ transcript_text h.1 ++ transcript_text ended =
    text-append (ticked ++ h.1) ended ∙ ap (λ t. t ++ transcript_text ended) (text-append ticked h.1) in
    let before_end : c.in_ok-status.status ≡ status_after 0 (ticked ++ h.1) =
    h.4 ∙ ap (λ n. status_after n h.1) c.in_ok-first.ensures.status ∙ sym (status-append 0 ticked h.1) in (
      ticked ++ h.1 ++ ended,
      record {
        tick = c.tick-ticked.result;
        ticked = c.tick-ticked.new.self.standing;
        lines = h.0;
        heard = h.1;
        before_end = c.hear_all.new.master.standing;
        end = c.end-ended.result;
        is_ticked = c.tick-ticked.ensures;
        tick_whole = c.in_ok-first.ensures.whole;
        are_heard = h.2;
        is_ended = c.end-ended.ensures;
        end_whole = c.in_ok-gravest.ensures.whole;
        blocks_are = refl;
      },
      subst (λ (t : List ℕ). Appends first last t) (sym text) whole,
      c.in_ok-gravest.ensures.status ∙ ap (λ n. status_after n ended) before_end ∙ sym (status-append 0 (ticked ++ h.1) ended),
    )

pub returns-in_err-first-clause-short : goal.returns-in_err-first-clause-short
returns-in_err-first-clause-short g c is =
    let p = err_from_is_err_and c.from_residual.result c.from_residual.ensures.1 in
    let why = c.in_err-first.field-0.0 in
    let same : why ≡ p.0 = cc in
    let short : IsErrOf {T = ℕ} (Err why) Short = subst (λ (e : Halt). IsErrOf {T = ℕ} (Err e) Short) (sym same) (subst (λ (r : Result ℕ Halt). IsErrOf r Short) p.1 is) in
    let tick = c.tick-ticked.result in
    (tick.blocks.items, inl (tick, c.tick-ticked.ensures, c.in_err-first.ensures.short short, refl, refl), c.in_err-first.ensures.behind short)

pub returns-in_err-status-clause-short : goal.returns-in_err-status-clause-short
returns-in_err-status-clause-short g c is =
    let p = err_from_is_err_and c.from_residual-in_err-status.result c.from_residual-in_err-status.ensures.1 in
    let why = c.in_err-status.field-0.0 in
    let same : why ≡ p.0 = cc in
    let short : IsErrOf {T = ℕ} (Err why) Short = subst (λ (e : Halt). IsErrOf {T = ℕ} (Err e) Short) (sym same) (subst (λ (r : Result ℕ Halt). IsErrOf r Short) p.1 is) in
    let tick = c.tick-ticked.result in
    let h = c.in_err-status.ensures.short short in
    let first = g.O.Write.contents c.args.output.now in
    let second = g.O.Write.contents c.tell.new.output in
    let third = g.O.Write.contents c.hear_all.new.output in
    let whole = Appends-trans first second third (transcript_text tick.blocks.items) (transcript_text h.1) c.in_ok-first.ensures.told h.3 in (
      tick.blocks.items ++ h.1,
      inr (inl (tick, c.tick-ticked.new.self.standing, h.0, h.1, c.tick-ticked.ensures, c.in_ok-first.ensures.whole, h.2, refl)),
      subst (λ (t : List ℕ). Appends first third t) (sym (text-append tick.blocks.items h.1)) whole,
    )

pub returns-in_err-gravest-clause-short : goal.returns-in_err-gravest-clause-short
returns-in_err-gravest-clause-short g c is =
    let p = err_from_is_err_and c.from_residual-in_err-gravest.result c.from_residual-in_err-gravest.ensures.1 in
    let why = c.in_err-gravest.field-0.0 in
    let same : why ≡ p.0 = cc in
    let short : IsErrOf {T = ℕ} (Err why) Short = subst (λ (e : Halt). IsErrOf {T = ℕ} (Err e) Short) (sym same) (subst (λ (r : Result ℕ Halt). IsErrOf r Short) p.1 is) in
    let h = c.in_ok-status.ensures.heard in
    let tick = c.tick-ticked.result in
    let end = c.end-ended.result in
    let ticked = tick.blocks.items in
    let ended = end.blocks.items in
    let first = g.O.Write.contents c.args.output.now in
    let second = g.O.Write.contents c.tell.new.output in
    let third = g.O.Write.contents c.hear_all.new.output in
    let last = g.O.Write.contents c.tell-2.new.output in
    let front = Appends-trans first second third (transcript_text ticked) (transcript_text h.1) c.in_ok-first.ensures.told h.3 in
    let whole = Appends-trans first third last (transcript_text ticked ++ transcript_text h.1) (transcript_text ended) front (c.in_err-gravest.ensures.behind short) in
    let text : transcript_text (ticked ++ h.1 ++ ended) ≡ transcript_text ticked ++ transcript_text h.1 ++ transcript_text ended =
    text-append (ticked ++ h.1) ended ∙ ap (λ t. t ++ transcript_text ended) (text-append ticked h.1) in (
      ticked ++ h.1 ++ ended,
      inr (inr (tick, c.tick-ticked.new.self.standing, h.0, h.1, c.hear_all.new.master.standing, end, c.tick-ticked.ensures, c.in_ok-first.ensures.whole, h.2, c.end-ended.ensures, c.in_err-gravest.ensures.short short, refl)),
      subst (λ (t : List ℕ). Appends first last t) (sym text) whole,
    )
