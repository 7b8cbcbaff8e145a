use Rattle.std.proofs.Common.{◌≡◌, ◌+◌, ◌-◌, ◌≤◌, ◌++◌, [], ◌∷◌, length, take, drop, ap, ◌∙◌, arith, lt-ltb, le-ltb}
use Rattle.std.specs.Net.Text.{hex_groups_text, groups_text}
use Rattle.std.proofs.lemmas.List.{take_all, length-drop, length-take-le}
use Rattle.ipv6_text.proofs.GroupTexts.{put_behind}
use Rattle.ipv6_text.proofs.groups.text_of.Goals as goal

pub returns-then-len-ge-SHORTEST_RUN : goal.returns-then-len-ge-SHORTEST_RUN
unfolding hex_groups_text
returns-then-len-ge-SHORTEST_RUN c =
    let start = c.longest_zero_run-start.result.0 in
    let end = c.longest_zero_run-start.result.0 + c.longest_zero_run-start.result.1 in
    let groups = c.args.groups.now in
    let eight : length groups ≡ 8 = c.requires in
    let rest : take (length groups - end) (drop end groups) ≡ drop end groups = take_all (length groups - end) (drop end groups) (omega (arith, length-drop end groups)) in
    let first = c.put_groups.ensures.text ∙ ap (λ out. out ++ groups_text (take start groups)) c.new-out.ensures in
    let fits = c.longest_zero_run-start.ensures.within in
    let short : length c.put_groups.new.out + 2 ≤ 4096 = omega (arith, c.put_groups.ensures.short, ap length c.new-out.ensures, length-take-le start groups (omega (arith, fits))) in
    let second = put_behind c.put_groups.new.out (58 ∷ 58 ∷ []) c.put.new.self c.put.result short c.put.ensures.fits c.put.ensures.text in
    rw (← c.longest_zero_run-start.ensures.value, lt-ltb 1 c.longest_zero_run-start.result.1 (omega (arith, c.if-len-ge-SHORTEST_RUN.true)))
    (c.put_groups-then-len-ge-SHORTEST_RUN.ensures.text
    ∙ ap (λ groups. c.put.new.self ++ groups_text groups) rest
    ∙ ap (λ out. out ++ groups_text (drop end groups)) (second ∙ ap (λ out. out ++ 58 ∷ 58 ∷ []) first))

pub returns-else-len-ge-SHORTEST_RUN : goal.returns-else-len-ge-SHORTEST_RUN
unfolding hex_groups_text
returns-else-len-ge-SHORTEST_RUN c =
    rw (← c.longest_zero_run-start.ensures.value, le-ltb 1 c.longest_zero_run-start.result.1 (omega (arith, c.if-len-ge-SHORTEST_RUN.false)))
    (c.put_groups-else-len-ge-SHORTEST_RUN.ensures.text ∙ ap (λ out. out ++ groups_text c.args.groups.now) c.new-out.ensures)
