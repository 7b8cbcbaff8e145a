use Rattle.std.proofs.Common.{ℕ, map, sym, ap, ◌∙◌, arith, cond, Bool}
use Rattle.kernel_model.specs.Readers.{row_of}
use Rattle.explorer.specs.Most.{is_living_row}
use Rattle.explorer.proofs.Living.{next-counted, all-counted, rows-living}
use Rattle.explorer.proofs.findings.living_workers.Goals as goal
use Rattle.explorer.proofs.findings.living_workers.Goals.{then-is_living, else-is_living}

pub returns-in_default : goal.returns-in_default
returns-in_default c =
    let rows = map row_of c.args.kernel.now.table.rows in
    omega (arith, c.loop-place.invariant.all, all-counted is_living_row rows c.loop-place.place (sym c.row.ensures ∙ c.in_default.is), rows-living c.args.kernel.now.table.rows)

pub loop-place-preserved : goal.loop-place-preserved
loop-place-preserved c =
    let rows = map row_of c.args.kernel.now.table.rows in
    let kept = c.loop-place.invariant in
    let next = next-counted is_living_row rows c.loop-place.place c.in-Some.row (sym c.row.ensures ∙ c.in-Some.is) in
    elim c.if-is_living.branch [
      | then-is_living w ↦
          let one = ap {B = ℕ} (λ (b : Bool). cond b 1 0) (sym c.is_living.ensures ∙ w.if-is_living.true) in
          record { few = omega (arith, kept.few, w.workers-is); all = omega (arith, kept.all, next, one, w.workers-is) }
      | else-is_living w ↦
          let none = ap {B = ℕ} (λ (b : Bool). cond b 1 0) (sym c.is_living.ensures ∙ w.if-is_living.false) in
          record { few = omega (arith, kept.few, w.workers-is); all = omega (arith, kept.all, next, none, w.workers-is) }
    ]
