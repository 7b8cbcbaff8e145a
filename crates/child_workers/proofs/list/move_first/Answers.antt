use Rattle.std.proofs.Common.{◌≡◌, ◌<◌, ◌++◌, ◌∷◌, ◌+◌, ℕ, true, List, length, set, take, drop, get_or, sym, refl, ap, ◌∙◌, add-one, arith}
use Rattle.std.proofs.lemmas.List.{set_split}
use Rattle.child_workers.specs.Workers.{Worker, Who, Stage, means, at_stage, moved_first}
use Rattle.child_workers.proofs.Places.{at_place}
use Rattle.child_workers.proofs.list.move_first.Goals as goal

here : (who : Who) (stage : Stage) (w : Worker) (all rest : List Worker) → all ≡ w ∷ rest → means who w ≡ true →
    moved_first who stage all ≡ at_stage stage w ∷ rest
here who stage w all rest is meant = rw (is, meant) refl

moved-here : (who : Who) (stage : Stage) (ws : List Worker) (i : ℕ) (d : Worker) → i < length ws →
    means who (get_or ws i d) ≡ true →
    set ws i (at_stage stage (get_or ws i d)) ≡ take i ws ++ moved_first who stage (drop i ws)
moved-here who stage ws i d within meant =
    let w = get_or ws i d in
    let at : at_stage stage w ∷ drop (i + 1) ws ≡ moved_first who stage (drop i ws) = sym (here who stage w (drop i ws) (drop (i + 1) ws) (at_place ws i d within) meant) in
    set_split ws i (at_stage stage w) within ∙ (ap (λ n. take i ws ++ at_stage stage w ∷ drop n ws) (sym (add-one i)) ∙ ap (λ l. take i ws ++ l) at)

pub returns-then-means : goal.returns-then-means
returns-then-means c =
    let within : c.loop-worker.worker-index < length c.loop-worker.workers = omega (arith, c.loop-worker.auto.workers) in
    moved-here c.args.who c.args.stage c.loop-worker.workers c.loop-worker.worker-index _ within (sym c.means.ensures ∙ c.if-means.true) ∙ c.loop-worker.invariant
