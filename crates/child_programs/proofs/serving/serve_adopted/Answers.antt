use Rattle.std.proofs.Common.{Some, refl, ap, ◌∙◌}
use Rattle.child_edge.specs.declared.edge.Edge.{Edge}
use Rattle.child_programs.proofs.serving.serve_adopted.Goals as goal

pub returns : goal.returns
returns g c =
    let old = c.new-master.result in
    let new = c.serve-status.new.program in
    let same = c.into_family.ensures ∙ ap (λ (e : Edge g.row.F.Denot g.F.Family). e.family) c.into_answers.ensures in (
      new.answers,
      ap (λ (f : g.row.F.Denot). Some f) same,
      record {
        old = old;
        new = new;
        begins = c.new-master.ensures.answers;
        waits = c.new-master.ensures.waiting;
        served = c.serve-status.ensures;
        ends = refl;
      },
    )
