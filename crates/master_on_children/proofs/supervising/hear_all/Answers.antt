use Rattle.std.proofs.Common.{◌≡◌, ℕ, List, [], ◌∷◌, ◌++◌, Option, Result, Ok, Err, ◌∙◌, refl, sym, ap, subst}
use Rattle.std.specs.Prelude.{IsErrOf}
use Rattle.std.proofs.lemmas.Result.{err_from_is_err_and}
use Rattle.std.specs.Io.KnownBytes.{Appends}
use Rattle.std.proofs.KnownBytes.{Appends-trans}
use Rattle.transcript.specs.Block.{transcript_text}
use Rattle.word_runner.specs.Status.{status_after}
use Rattle.master_on_children.specs.Typed.{Typed}
use Rattle.master_on_children.specs.Inbox.{IsNextLine}
use Rattle.master_on_children.specs.declared.fault.Halt.{Halt}
use Rattle.master_on_children.specs.declared.fault.Halt.TheVariants.{Short}
use Rattle.master_on_children.proofs.Hearing.{heard-push}
use Rattle.master_on_children.proofs.Telling.{text-append, status-append}
use Rattle.master_on_children.proofs.supervising.hear_all.Goals as goal

pub loop-preserved : goal.loop-preserved
loop-preserved g c =
    let remaining = g.I.Read.remaining in
    let reads = g.N.NextSettings.reads in
    let h = c.loop.invariant in
    let inbox = c.next_line.new.self in
    let line = c.in-Some.line in
    let said = c.hear-said.result in
    let first = g.O.Write.contents c.args.output.now in
    let last = g.O.Write.contents c.tell.new.output in
    let next = subst (λ (one : Option Typed). IsNextLine remaining c.loop.master.standing.world.inbox (Ok one) inbox) c.in-Some.is c.in_ok-next_line.ensures in
    let comes = c.hear-said.ensures in (
      h.0 ++ line ∷ [],
      h.1 ++ said.blocks.items,
      heard-push remaining reads h.0 c.args.next.now c.args.master.now.standing h.1 c.loop.next c.loop.master.standing line inbox said c.hear-said.new.next c.hear-said.new.self.standing h.2 next c.in_ok-status.ensures.whole comes,
      subst (λ (text : List ℕ). Appends first last text) (sym (text-append h.1 said.blocks.items))
          (Appends-trans first (g.O.Write.contents c.loop.output) last (transcript_text h.1) (transcript_text said.blocks.items) h.3 c.in_ok-status.ensures.told),
      c.in_ok-status.ensures.status ∙ ap (λ n. status_after n said.blocks.items) h.4 ∙ sym (status-append c.args.before h.1 said.blocks.items),
    )

pub returns-in_default-clause-heard : goal.returns-in_default-clause-heard
returns-in_default-clause-heard g c =
    let remaining = g.I.Read.remaining in
    let h = c.loop.invariant in
    let inbox = c.next_line.new.self in (
      h.0,
      h.1,
      record {
        before_end = c.loop.master.standing;
        are_heard = h.2;
        ended = subst (λ (one : Option Typed). IsNextLine remaining c.loop.master.standing.world.inbox (Ok one) inbox) c.in_default.is c.in_ok-next_line.ensures;
        still = refl;
      },
      h.3,
      h.4,
    )

pub returns-in_err-status-clause-short : goal.returns-in_err-status-clause-short
returns-in_err-status-clause-short g c is =
    let remaining = g.I.Read.remaining in
    let reads = g.N.NextSettings.reads in
    let h = c.loop.invariant in
    let inbox = c.next_line.new.self in
    let line = c.in-Some.line in
    let said = c.hear-said.result in
    let first = g.O.Write.contents c.args.output.now in
    let last = g.O.Write.contents c.tell.new.output in
    let p = err_from_is_err_and c.from_residual-in_err-status.result c.from_residual-in_err-status.ensures.1 in
    let why = c.in_err-status.field-0.0 in
    let same : why ≡ p.0 = cc in
    let short : IsErrOf {T = ℕ} (Err why) Short = subst (λ (e : Halt). IsErrOf {T = ℕ} (Err e) Short) (sym same) (subst (λ (r : Result ℕ Halt). IsErrOf r Short) p.1 is) in
    let next = subst (λ (one : Option Typed). IsNextLine remaining c.loop.master.standing.world.inbox (Ok one) inbox) c.in-Some.is c.in_ok-next_line.ensures in
    let comes = c.hear-said.ensures in (
      h.0 ++ line ∷ [],
      h.1 ++ said.blocks.items,
      record {
        before = h.0;
        last = line;
        heard = h.1;
        k = c.loop.next;
        mid = c.loop.master.standing;
        inbox = inbox;
        said = said;
        lines_are = refl;
        are_heard = h.2;
        is_next = next;
        comes = comes;
        wanted = c.in_err-status.ensures.short short;
        blocks_are = refl;
      },
      subst (λ (text : List ℕ). Appends first last text) (sym (text-append h.1 said.blocks.items))
          (Appends-trans first (g.O.Write.contents c.loop.output) last (transcript_text h.1) (transcript_text said.blocks.items) h.3 (c.in_err-status.ensures.behind short)),
    )
