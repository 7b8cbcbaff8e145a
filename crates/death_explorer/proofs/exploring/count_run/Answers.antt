use Rattle.std.proofs.Common.{◌<◌, ◌≤◌, ◌+◌, List, drop, length, sym, ap, ◌∙◌, arith}
use Rattle.std.proofs.lemmas.List.{drop_all}
use Rattle.std.proofs.lemmas.Option.{get_or_from_slice_get}
use Rattle.handover_text.specs.Reading.{handed_by}
use Rattle.definitions.specs.Calls.{Stepped}
use Rattle.call_laws.specs.Pieces.{executing_at}
use Rattle.plan_executor.specs.Naming.{listed}
use Rattle.death_explorer.specs.Deaths.{Left, deaths_at, deaths_met, counted_all}
use Rattle.death_explorer.proofs.Counting.{counted-both, met-next}
use Rattle.death_explorer.proofs.exploring.count_run.Goals as goal

pub loop-number-preserved : goal.loop-number-preserved
loop-number-preserved c =
    let r = c.args.restart.now.state.now in
    let s = c.args.restart.now.settings.now in
    let run = c.args.run.now in
    let handed = handed_by run.text.now in
    let heirs = listed run.heir in
    let entries = run.log.now.entries in
    let n = c.loop-number.number in
    let t = c.loop-number.kernel.table in
    let counts = c.loop-number.counts in
    let e = c.get-entry.result in
    let executing = listed c.loop-number.executing in
    let here = deaths_at run.order (n + 1) t (executing_at e.call executing heirs) in
    let inside : n < length entries = omega (arith, c.loop-number-test.true, c.len-number-end.ensures.count) in
    let at = sym (get_or_from_slice_get entries n e e c.get-entry.ensures) in
    let next = met-next handed run.order executing heirs n t entries e inside at in
    let table = ap (λ (z : Stepped). z.table) c.call.ensures.step in
    record {
      room = omega (arith, c.loop-number.invariant.room, c.call.ensures.room);
      counted =
          c.loop-number.invariant.counted ∙ ap (λ (ds : List Left). counted_all r s ds counts) next ∙ counted-both r s here _ counts
          ∙ (λ i. counted_all r s (deaths_met handed run.order (sym c.executing_after-executing.ensures i) heirs (n + 1) (sym table i) (drop (n + 1) entries)) (sym c.in_ok-count_call.ensures i));
    }

pub returns : goal.returns
returns c =
    let r = c.args.restart.now.state.now in
    let s = c.args.restart.now.settings.now in
    let run = c.args.run.now in
    let entries = run.log.now.entries in
    let n = c.loop-number.number in
    let past : length entries ≤ n = omega (arith, c.loop-number-test.false, c.len-number-end.ensures.count) in
    let over = drop_all n entries past in
    sym (c.loop-number.invariant.counted
    ∙ ap (λ xs. counted_all r s (deaths_met (handed_by run.text.now) run.order (listed c.loop-number.executing) (listed run.heir) n c.loop-number.kernel.table xs) c.loop-number.counts) over)
