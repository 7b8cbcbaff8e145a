use Rattle.std.proofs.Common.{◌≡◌, ◌+◌, ◌-◌, ◌^◌, ◌∷◌, [], cond, min, map, drop, unwrap_or, Option, Some, List, sym, ap, ◌∙◌, arith}
use Rattle.std.specs.FinMap.{find}
use Rattle.std.specs.List.{sum_by}
use Rattle.std.proofs.lemmas.List.{drop_all, at_drop_more}
use Rattle.kernel_service.specs.declared.counts.Count.{Count}
use Rattle.kernel_service.specs.declared.service.Served.{Served}
use Rattle.kernel_service.specs.Services.{Counts, address_cmp}
use Rattle.kernel_service.specs.Served.{seen_count, seen_served}
use Rattle.explorer.proofs.findings.ready_at.Goals as goal

pub loop-entry-preserved : goal.loop-entry-preserved
loop-entry-preserved c =
    let es = c.args.entries.now in
    let i = c.loop-entry.entry-index in
    let x = c.entry-item.result in
    let search : List Served → Option Counts = λ xs. find address_cmp c.args.address.now (map seen_served xs) in
    let moved = at_drop_more search es i x c.loop-entry-test.true ∙ ap (λ (y : Served). search (y ∷ drop (i + 1) es)) (sym c.entry-item.is) in
    sym (moved ∙ ap (λ b. cond b (Some (map seen_count x.counts.items)) (search (drop (i + 1) es))) (sym c.is_of.ensures ∙ c.if-is_of.false))
    ∙ c.loop-entry.invariant

pub returns-then-is_of : goal.returns-then-is_of
returns-then-is_of c =
    let es = c.args.entries.now in
    let i = c.loop-entry.entry-index in
    let x = c.entry-item.result in
    let search : List Served → Option Counts = λ xs. find address_cmp c.args.address.now (map seen_served xs) in
    let moved = at_drop_more search es i x c.loop-entry-test.true ∙ ap (λ (y : Served). search (y ∷ drop (i + 1) es)) (sym c.entry-item.is) in
    let found : Some (map seen_count x.counts.items) ≡ search es =
    sym (moved ∙ ap (λ b. cond b (Some (map seen_count x.counts.items)) (search (drop (i + 1) es))) (sym c.is_of.ensures ∙ c.if-is_of.true)) ∙ c.loop-entry.invariant in
    c.workers_in.ensures
    ∙ ap (λ (cs : List Count). min (sum_by (λ n. n.1) (map seen_count cs)) (2 ^ 32 - 1)) c.deref.ensures.value
    ∙ ap (λ (o : Option Counts). min (sum_by (λ n. n.1) (unwrap_or o [])) (2 ^ 32 - 1)) found

pub returns : goal.returns
returns c =
    let search : List Served → Option Counts = λ xs. find address_cmp c.args.address.now (map seen_served xs) in
    let over = drop_all c.loop-entry.entry-index c.args.entries.now (omega (arith, c.loop-entry-test.false)) in
    ap (λ (o : Option Counts). min (sum_by (λ n. n.1) (unwrap_or o [])) (2 ^ 32 - 1)) (sym (ap search over) ∙ c.loop-entry.invariant)
