use Rattle.std.proofs.Common.{◌≡◌, ℕ, true, false, List, [], ◌∷◌, ◌++◌, Option, refl, ap, sym, subst}
use Rattle.std.specs.Prelude.{is_some}
use Rattle.vocabulary.specs.declared.reports.Entry.{Entry}
use Rattle.child_edge.specs.State.{state_of}
use Rattle.child_edge.specs.Edge.{CallsHeld}
use Rattle.child_edge.specs.declared.edge.Edge.{Edge}
use Rattle.master_on_children.specs.Questions.{question_of}
use Rattle.master_on_children.specs.Inbox.{on_children, IsAnsweredTo}
use Rattle.master_on_children.specs.declared.attended.Attended.{Attended}
use Rattle.master_on_children.proofs.Made.{on_question, on_call, answered_more}
use Rattle.master_on_children.proofs.attended.AttendedCalls.make.Goals as goal

pub returns-in-Some-clause-follows : goal.returns-in-Some-clause-follows
returns-in-Some-clause-follows g c first entries h =
    let told = g.F.Family.told in
    let last = c.ask.new.self in
    let e : Entry = record { by = c.args.by; call = c.args.call.now; answer = c.ask.result } in
    let asks : is_some (question_of e.call) ≡ true = ap is_some (sym c.in-Some.ensures) in
    let edge_is : last.edge ≡ c.args.self.now.edge = ap (λ (calls : Attended _ _ _ _). calls.edge) c.ask.ensures.others in
    record {
      held =
          subst (λ (edge : Edge _ _). CallsHeld (told first.edge.family) (told edge.family) (state_of first.edge.state) (on_children (entries ++ e ∷ [])) (state_of edge.state)) (sym edge_is)
          (subst (λ (es : List Entry). CallsHeld (told first.edge.family) (told c.args.self.now.edge.family) (state_of first.edge.state) es (state_of c.args.self.now.edge.state)) (sym (on_question entries e asks)) h.held);
      answered =
          answered_more g.I.Read.remaining first.inbox c.args.self.now.inbox last.inbox entries e h.answered
          (subst (λ (question : Option ℕ). IsAnsweredTo g.I.Read.remaining question c.args.self.now.inbox e.answer last.inbox) c.in-Some.ensures c.ask.ensures.answered);
    }

pub returns-in-None-clause-follows : goal.returns-in-None-clause-follows
returns-in-None-clause-follows g c first entries h =
    let told = g.F.Family.told in
    let e : Entry = record { by = c.args.by; call = c.args.call.now; answer = c.make.result } in
    let calls : is_some (question_of e.call) ≡ false = ap is_some (sym c.in-None.ensures) in
    record {
      held =
          subst (λ (es : List Entry). CallsHeld (told first.edge.family) (told c.make.new.self.family) (state_of first.edge.state) es (state_of c.make.new.self.state)) (sym (on_call entries e calls))
          (c.make.ensures.follows (told first.edge.family) (state_of first.edge.state) (on_children entries) h.held);
      answered =
          answered_more g.I.Read.remaining first.inbox c.args.self.now.inbox c.args.self.now.inbox entries e h.answered
          (subst (λ (question : Option ℕ). IsAnsweredTo g.I.Read.remaining question c.args.self.now.inbox e.answer c.args.self.now.inbox) c.in-None.ensures refl);
    }
