use Rattle.std.proofs.Common.{true, ◌≡◌, ◌+◌, [], ◌∷◌, ◌++◌, length, sym, ◌∙◌, ap, subst, arith}
use Rattle.std.proofs.lemmas.List.{length-append}
use Rattle.vocabulary.specs.declared.reports.Entry.{Entry}
use Rattle.vocabulary.specs.declared.calls.Answer.{Answer}
use Rattle.definitions.specs.Calls.{after_exits, Stepped, step_with}
use Rattle.definitions.specs.Run.{Moment}
use Rattle.handover_text.specs.Reading.{handed_by}
use Rattle.plan_executor.specs.Replays.{Replays}
use Rattle.call_replies.specs.Replies.{is_listed}
use Rattle.kernel_model.specs.Pattern.{moment_at, seen_moment}
use Rattle.plan_executor.proofs.Replaying.{step-listed, replays-push}
use Rattle.plan_executor.proofs.patterned.PatternedCalls.make.Goals as goal

pub returns-clause-listed : goal.returns-clause-listed
returns-clause-listed c =
    let call = c.args.call.now in
    let fate = c.moment-moment.result.fate in
    let exits = c.moment-moment.result.exits.now in
    let answer : c.call.result ≡ (step_with (handed_by c.args.self.now.text.now) c.args.by call fate (after_exits exits c.args.self.now.kernel.now.table)).answer = ap (λ (s : Stepped). s.answer) c.call.ensures.step in
    subst (λ (a : Answer). is_listed call a ≡ true) (sym answer) (step-listed (handed_by c.args.self.now.text.now) c.args.by call fate (after_exits exits c.args.self.now.kernel.now.table))

pub returns-clause-follows : goal.returns-clause-follows
returns-clause-follows c first entries h =
    let call = c.args.call.now in
    let e : Entry = record { by = c.args.by; call = call; answer = c.call.result } in
    let last = c.args.self.now.kernel.now.table in
    let k = c.args.self.now.number + 1 in
    let at = moment_at first.pattern.now in
    let handed = handed_by first.text.now in
    let number = h.number in
    let room = h.room in
    let took = c.call.ensures.room in
    let longer : length (entries ++ e ∷ []) ≡ length entries + 1 = length-append entries (e ∷ []) in
    let moment : seen_moment c.moment-moment.result ≡ at k = c.moment-moment.ensures ∙ ap (λ p. moment_at p k) h.pattern in
    let stepped : record { answer = c.call.result; table = c.call.new.self.table } ≡ step_with handed c.args.by call (at k).fate (after_exits (at k).exits last) =
    c.call.ensures.step ∙ (ap (λ (m : Moment). step_with (handed_by c.args.self.now.text.now) c.args.by call m.fate (after_exits m.exits last)) moment
    ∙ ap (λ text. step_with (handed_by text) c.args.by call (at k).fate (after_exits (at k).exits last)) h.text) in
    record {
      same_kernel = h.same_kernel;
      pattern = h.pattern;
      text = h.text;
      number = omega (arith, number, longer);
      room = omega (arith, room, took, longer);
      replays =
          subst (Replays handed at first.number first.kernel.now.table (entries ++ e ∷ [])) (sym (ap (λ (s : Stepped). s.table) stepped))
          (replays-push handed at entries first.number k first.kernel.now.table last e h.replays (omega (arith, number)) (sym (ap (λ (s : Stepped). s.answer) stepped)));
    }
