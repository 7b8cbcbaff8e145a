use Rattle.std.proofs.Common.{◌≡◌, ◌+◌, arith, ap, sym, ◌∙◌, suc, ◌-◌, map, take, drop, get_or}
use Rattle.std.proofs.lemmas.List.{get_or-take}
use Rattle.worker_groups.specs.Groups.{Group, size_in, part_of}
use Rattle.listener_set.specs.PaddedLemmas.{length-padded}
use Rattle.worker_groups.proofs.GroupShares.{part-here, part-past, part-last}
use Rattle.worker_groups.proofs.groups.Groups.part_of.Goals as goal

pub loop-index-init : goal.loop-index-init
loop-index-init c = omega arith

pub returns-then-rest-size : goal.returns-then-rest-size
returns-then-rest-size c =
    let f = size_in c.args.share in
    let none : Group = record { addresses = 0; workers = 0 } in
    let all = take c.self.inside.len c.self.inside.items in
    let i = c.loop-index.index in
    let size : c.size-size.result ≡ f (get_or all i none) = c.size-size.ensures ∙ ap f (sym (get_or-take c.self.inside.len c.self.inside.items i none (omega arith))) in
    let here = part-here f all i none c.loop-index.rest (omega (arith, length-padded c.self.invariant.padded)) (omega (arith, size)) in
    let is : part_of (map f all) c.args.number ≡ i = c.loop-index.invariant ∙ omega (arith, here) in
    sym (ap (λ gs. part_of (map f gs) c.args.number) (sym c.self.view_is) ∙ is)

pub loop-index-preserved : goal.loop-index-preserved
loop-index-preserved c =
    let f = size_in c.args.share in
    let none : Group = record { addresses = 0; workers = 0 } in
    let all = take c.self.inside.len c.self.inside.items in
    let i = c.loop-index.index in
    let size : c.size-size.result ≡ f (get_or all i none) = c.size-size.ensures ∙ ap f (sym (get_or-take c.self.inside.len c.self.inside.items i none (omega arith))) in
    let past = part-past f all i none c.loop-index.rest (omega (arith, length-padded c.self.invariant.padded)) (omega (arith, size)) in
    let next : suc i ≡ i + 1 = omega arith in
    let on : part_of (map f (drop (suc i) all)) (c.loop-index.rest - f (get_or all i none)) ≡ part_of (map f (drop (i + 1) all)) (c.loop-index.rest - c.size-size.result) =
    ap (λ k. part_of (map f (drop k all)) (c.loop-index.rest - f (get_or all i none))) next ∙ ap (λ n. part_of (map f (drop (i + 1) all)) (c.loop-index.rest - n)) (sym size) in
    omega (arith, c.loop-index.invariant, past, on)

pub returns : goal.returns
returns c =
    let f = size_in c.args.share in
    let all = take c.self.inside.len c.self.inside.items in
    let last = part-last f all c.loop-index.index c.loop-index.rest (omega (arith, length-padded c.self.invariant.padded)) in
    let is : part_of (map f all) c.args.number ≡ c.self.inside.len - 1 = c.loop-index.invariant ∙ omega (arith, last) in
    sym (ap (λ gs. part_of (map f gs) c.args.number) (sym c.self.view_is) ∙ is)
