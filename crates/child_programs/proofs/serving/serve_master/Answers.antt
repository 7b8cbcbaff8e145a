use Rattle.std.proofs.Common.{◌≡◌, ℕ, List, Option, Some, Ok, inl, inr, refl, sym, ap, subst, ◌∙◌}
use Rattle.handover_text.specs.Reading.{reading}
use Rattle.child_processes.specs.NextLine.{unheard}
use Rattle.child_programs.specs.declared.answering.Refusing.{Refusing}
use Rattle.child_programs.specs.Served.{IsNextLine}
use Rattle.child_programs.specs.declared.serving.Received.TheVariants as received
use Rattle.child_programs.specs.Adopting.{AnswersNothing, BeatsNobody, IsReceived, IsServedBy}
use Rattle.child_programs.proofs.serving.serve_master.Goals as goal
use Rattle.child_programs.proofs.serving.serve_master.Goals.{in-Ok-Whole+in-Err-read, in-Ok-Broken, in-Ok-Ended, in-Err}

pub returns-in-Ok : goal.returns-in-Ok
returns-in-Ok g c =
    let unread = unheard g.I.Read.remaining c.new-lines.result in
    let served = c.serve_adopted.ensures in
    let whole : c.in-Ok-Whole.field-0 ≡ received.Whole c.in-Ok-Whole.handover = cc in
    let read : reading c.in-Ok-Whole.handover ≡ Ok c.in-Ok.told = ap reading (sym c.text.ensures) ∙ (sym c.read.ensures.exact ∙ c.in-Ok.is) in (
      unread,
      c.new-lines.ensures.unheard,
      inr (inr (inr (
        served.0.family,
        served.1,
        record {
          from = unheard g.I.Read.remaining c.receive.new.lines;
          text = c.in-Ok-Whole.handover;
          whole = subst (IsReceived unread c.receive.new.line (unheard g.I.Read.remaining c.receive.new.lines)) whole c.in-Ok-Whole.ensures;
          handover = c.in-Ok.told;
          is_read = read;
          first = c.in-Ok-adopt.edge;
          last = served.0;
          begins = c.in-Ok-adopt.ensures.state;
          family_is = c.in-Ok-adopt.ensures.family;
          served = served.2;
          left_is = refl;
        },
      ))),
    )

pub returns : goal.returns
returns g c =
    let unread = unheard g.I.Read.remaining c.new-lines.result in
    let left = unheard g.I.Read.remaining c.receive.new.lines in
    let before = g.O.Write.contents c.args.output.now in
    let status = c.match-receive.status in
    let after = g.O.Write.contents c.match-receive.output in
    let keeps = c.new-lines.ensures.unheard in
    let moved : (from : Option (List ℕ)) (first last : Refusing) (s : ℕ) (o : Option (List ℕ)) → status ≡ s → after ≡ o → IsServedBy AnswersNothing BeatsNobody first from before s last o → IsServedBy AnswersNothing BeatsNobody first from before status last after =
    λ from first last s o same written served.
    subst (λ (n : ℕ). IsServedBy AnswersNothing BeatsNobody first from before n last after) (sym same) (subst (λ (said : Option (List ℕ)). IsServedBy AnswersNothing BeatsNobody first from before s last said) (sym written) served) in
    elim c.match-receive.branch [
      | in-Ok-Whole+in-Err-read w ↦
          let h = w.serve_refusing.ensures in
          let is : w.in-Ok-Whole.field-0 ≡ received.Whole w.in-Ok-Whole.handover = cc in
          let whole = subst (IsReceived unread c.receive.new.line left) is w.in-Ok-Whole.ensures in
          let read = ap reading (sym w.text.ensures) ∙ (sym w.read.ensures.exact ∙ w.in-Err-read.is) in (
            unread,
            keeps,
            inr (inr (inl (
              refl,
              record {
                from = left;
                first = h.0;
                last = h.1;
                faulty = inl (w.in-Ok-Whole.handover, whole, _, read);
                served = moved left h.0 h.1 w.serve_refusing.result (g.O.Write.contents w.serve_refusing.new.output) w.status-is (ap g.O.Write.contents w.output-is) h.2;
              },
            ))),
          )
      | in-Ok-Broken w ↦
          let is : w.in-Ok-Broken.field-0 ≡ received.Broken w.in-Ok-Broken.handover = cc in
          let handed = subst (IsReceived unread c.receive.new.line left) is w.in-Ok-Broken.ensures in
          let next = subst (λ (t : List ℕ). IsNextLine handed.from (Some t) left) (sym w.bytes.ensures.text) handed.is_next in
          let h = w.serve_broken-status.ensures handed.from next in (
            unread,
            keeps,
            inr (inr (inl (
              refl,
              record {
                from = handed.from;
                first = h.0;
                last = h.1;
                faulty = inr (c.receive.new.line, left, handed, refl);
                served = moved handed.from h.0 h.1 w.serve_broken-status.result (g.O.Write.contents w.serve_broken-status.new.output) w.status-is (ap g.O.Write.contents w.output-is) h.2;
              },
            ))),
          )
      | in-Ok-Ended w ↦
          let is : w.in-Ok-Ended.field-0 ≡ received.Ended = cc in
          let cut = subst (IsReceived unread c.receive.new.line left) is w.in-Ok-Ended.ensures in
          (unread, keeps, inr (inl (w.status-is, refl, ap g.O.Write.contents w.output-is, cut)))
      | in-Err w ↦ (unread, keeps, inl (w.status-is, ap g.O.Write.contents w.output-is))
    ]
