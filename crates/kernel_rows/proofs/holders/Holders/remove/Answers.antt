use Rattle.std.proofs.Common.{◌≡◌, suc, ◌<◌, ◌≤◌, ◌++◌, length, take, drop, sym, ap, ◌∙◌, arith}
use Rattle.std.specs.List.{remove}
use Rattle.std.proofs.lemmas.List.{drop-drop}
use Rattle.kernel_rows.specs.HolderList.{HolderList}
use Rattle.kernel_rows.proofs.GapMoves.{left-before, left-behind}
use Rattle.kernel_rows.proofs.holders.Holders.remove.Goals as goal

pub returns-then-place-self-2-clause-items : goal.returns-then-place-self-2-clause-items
returns-then-place-self-2-clause-items c =
    let gap = c.self.inside.gap in
    let slots = c.self.inside.slots in
    let place = c.args.place in
    let start : gap.start ≡ suc place = omega (arith, c.if-place-self-2.true) in
    let within : place < length slots.items = omega (arith, c.self.invariant.0, c.self.invariant.1, slots.ok.0, c.if-place-self.true) in
    left-before slots.items (drop gap.end slots.items) place within
    ∙ ap (λ n. remove (take n slots.items ++ drop gap.end slots.items) place) (sym start)
    ∙ ap (λ (h : HolderList). remove h.items place) c.self.view_is

pub returns-then-place-self-3-clause-items : goal.returns-then-place-self-3-clause-items
returns-then-place-self-3-clause-items c =
    let gap = c.self.inside.gap in
    let slots = c.self.inside.slots in
    let place = c.args.place in
    let start : place ≡ gap.start = c.if-place-self-3.true in
    let within : gap.start ≤ length slots.items = omega (arith, c.self.invariant.0, c.self.invariant.1, slots.ok.0) in
    ap (λ xs. take gap.start slots.items ++ xs) (sym (drop-drop 1 gap.end slots.items))
    ∙ left-behind slots.items (drop gap.end slots.items) gap.start within
    ∙ ap (λ n. remove (take gap.start slots.items ++ drop gap.end slots.items) n) (sym start)
    ∙ ap (λ (h : HolderList). remove h.items place) c.self.view_is
