use Rattle.std.proofs.Common.{◌≡◌, ◌<◌, List, length, get_or, true, false, refl, sym, ap, ◌∙◌, arith}
use Rattle.std.specs.Ordering.{is_eq, is_le}
use Rattle.std.specs.List.{position_or_len}
use Rattle.std.proofs.lemmas.List.{get_or_default}
use Rattle.kernel_service.specs.declared.counts.Count.{Count}
use Rattle.kernel_service.specs.Services.{generation_cmp}
use Rattle.kernel_service.specs.Served.{seen_count}
use Rattle.kernel_service.proofs.OrderedKeys.{put-there, put-new, absent-from}
use Rattle.kernel_service.proofs.counts.set_count.Goals as goal
use Rattle.kernel_service.proofs.counts.set_count.Goals.{else-place-len-via-then-place-len+else-is_same, else-place-len-via-else-place-len}

pub returns-then-is_same-clause-ok : goal.returns-then-is_same-clause-ok
returns-then-is_same-clause-ok c =
    let xs = c.args.counts.now.items in
    let k = c.count_place-place.result in
    let n = c.args.generation in
    let e = c.index_mut.result.now in
    let within : k < length xs = omega (arith, c.deref.ensures.len, ap length c.deref.ensures.value) in
    let first = c.count_place-place.ensures.place ∙ ap (λ (ys : List Count). position_or_len (λ y. is_le (generation_cmp n y.generation)) ys) c.deref.ensures.value in
    let same : c.index.result.now ≡ e = c.index.ensures ∙ get_or_default xs k c.index.result.now e within ∙ sym c.index_mut.ensures.value in
    let tied : is_eq (generation_cmp n e.generation) ≡ true = ap (λ (d : Count). is_eq (generation_cmp n d.generation)) (sym same) ∙ sym c.if-is_same.ensures in
    put-there generation_cmp seen_count n xs k first e within c.index_mut.ensures.value tied c.args.workers _ refl

pub returns-clause-ok : goal.returns-clause-ok
returns-clause-ok c =
    let xs = c.args.counts.now.items in
    let k = c.count_place-place.result in
    let n = c.args.generation in
    let first = c.count_place-place.ensures.place ∙ ap (λ (ys : List Count). position_or_len (λ y. is_le (generation_cmp n y.generation)) ys) c.deref.ensures.value in
    let other : (d : Count) → k < length xs → is_eq (generation_cmp n (get_or xs k d).generation) ≡ false = λ d lt. elim c.else-place-len.branch [
      | else-place-len-via-then-place-len+else-is_same w ↦
          ap (λ (e : Count). is_eq (generation_cmp n e.generation)) (get_or_default xs k d w.index.result.now lt ∙ sym w.index.ensures) ∙ sym w.is_same.ensures ∙ w.if-is_same.false
      | else-place-len-via-else-place-len w ↦ absurd (omega (arith, c.deref.ensures.len, ap length c.deref.ensures.value))
    ] in
    rw c.in_ok-insert.ensures.items (put-new generation_cmp seen_count n xs k first c.args.workers _ (absent-from generation_cmp seen_count n xs k first other) refl)
