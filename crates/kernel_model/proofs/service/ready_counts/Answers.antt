use Rattle.std.proofs.Common.{◌≡◌, ◌+◌, map, cond, sym, ap, ◌∙◌, List, arith}
use Rattle.std.specs.FinMap.{put}
use Rattle.definitions.specs.Table.{Generation}
use Rattle.call_laws.specs.Pieces.{is_serving_as}
use Rattle.kernel_service.specs.declared.counts.Count.{Count}
use Rattle.kernel_rows.specs.Seen.{seen_holder}
use Rattle.kernel_service.specs.Services.{generation_cmp, count_at}
use Rattle.kernel_service.specs.Served.{seen_count}
use Rattle.kernel_model.proofs.Serving.{counted-below, counted-more, count-one, same-itself}
use Rattle.kernel_service.proofs.Services.{counts-put}
use Rattle.kernel_model.proofs.service.ready_counts.Goals as goal

pub overflow_add-workers : goal.overflow_add-workers
overflow_add-workers c =
    let g = c.in-Some-serving_generation.generation in
    let counts = map seen_count c.loop-holder.counts.items in
    let below = counted-below c.args.address.now c.args.addresses.now c.args.holders.now.items c.loop-holder.holder-iterator c.next.new.self c.in-Some.holder.now c.in-Some.ensures.steps counts g (c.in-Some-serving_generation.ensures g ∙ same-itself g) c.loop-holder.invariant.counted in
    let said = c.count_of-workers.ensures ∙ ap (λ (cs : List Count). count_at (map seen_count cs) g) c.deref.ensures.value in
    omega (arith, c.requires g)

pub loop-holder-preserved-in-Continue-1 : goal.loop-holder-preserved-in-Continue-1
loop-holder-preserved-in-Continue-1 c =
    let a = c.args.address.now in
    let addresses = c.args.addresses.now in
    let h = c.in-Some.holder.now in
    let counts = map seen_count c.loop-holder.counts.items in
    let more = counted-more a addresses c.args.holders.now.items c.loop-holder.holder-iterator c.next.new.self h c.in-Some.ensures.steps in
    let holds = c.loop-holder.invariant in
    let g = c.in-Some-serving_generation.generation in
    let said = c.count_of-workers.ensures ∙ ap (λ (cs : List Count). count_at (map seen_count cs) g) c.deref.ensures.value in
    let after = c.in_ok-set_count.ensures.ok ∙ ap (λ n. put generation_cmp g (n + 1) counts) said in
    let step : (q : Generation) →
    count_at (put generation_cmp g (count_at counts g + 1) counts) q
    ≡ cond (is_serving_as a q (seen_holder addresses h)) (count_at counts q + 1) (count_at counts q) =
    λ q. count-one g q counts ∙ ap (λ b. cond b (count_at counts q + 1) (count_at counts q)) (sym (c.in-Some-serving_generation.ensures q)) in
    rw after (record { sound = counts-put g (count_at counts g + 1) counts holds.sound (omega arith); counted = more counts (put generation_cmp g (count_at counts g + 1) counts) step holds.counted })
