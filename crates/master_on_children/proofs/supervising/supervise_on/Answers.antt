use Rattle.std.proofs.Common.{rules, ◌≡◌, ℕ, List, Result, ◌∙◌, sym, subst}
use Rattle.std.specs.Prelude.{IfOk}
use Rattle.std.specs.Io.KnownBytes.{Appends}
use Rattle.transcript.specs.Block.{transcript_text}
use Rattle.word_runner.specs.Status.{gravest}
use Rattle.word_runner.specs.declared.block.Block.{Block}
use Rattle.master_on_children.specs.Lines.{IsRun}
use Rattle.master_on_children.specs.Starts.{IsSupervised}
use Rattle.master_on_children.specs.declared.fault.SupervisorFault.{SupervisorFault}
use Rattle.master_on_children.proofs.Results.{ok-map, status-told}
use Rattle.master_on_children.proofs.supervising.supervise_on.Goals as goal

pub returns : goal.returns
returns g c =
    let remaining = g.I.Read.remaining in
    let reads = g.N.NextSettings.reads in
    let begun = c.begin-master.result in
    let led = c.follow-followed.new.master in
    let before = g.O.Write.contents c.args.output.now in
    let after = g.O.Write.contents c.follow-followed.new.output in
    let told : ℕ → Type 0 =
    (λ (status : ℕ). (blocks : List Block) × IsSupervised g.row.L.Denot g.F.Family remaining reads c.args.start.now.settings c.args.start.now.pid c.args.family c.args.operator.input c.args.next.now blocks c.follow-followed.new.next c.into_family.result × Appends before after (transcript_text blocks) × (status ≡ gravest blocks)) in
    subst (λ (status : Result ℕ SupervisorFault). IfOk status told) (sym c.status_or_fault-status.ensures) (status-told told c.follow-followed.result
    (ok-map
    (λ (status : ℕ). (blocks : List Block) × IsRun remaining reads c.args.next.now begun.standing blocks c.follow-followed.new.next led.standing × Appends before after (transcript_text blocks) × (status ≡ gravest blocks))
    told
    c.follow-followed.result
    (λ status h. (
      h.0,
      record {
        begun = c.write_pid.new.family;
        written = c.write_pid.ensures (search rules);
        first = begun.standing;
        is_first = record {
          family_is = c.begin-master.ensures.family;
          knows = c.begin-master.ensures.state;
          record_is = c.begin-master.ensures.record;
          workers = c.begin-master.ensures.workers ∙ c.in-Ok.ensures;
          none_waits = c.begin-master.ensures.waiting;
          is_open = c.begin-master.ensures.open;
          unread_is = c.begin-master.ensures.unread;
        };
        last = led.standing;
        is_run = h.1;
        left_is = c.into_family.ensures;
      },
      h.2,
      h.3,
    ))
    c.follow-followed.ensures.run))
