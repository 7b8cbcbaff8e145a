use Rattle.std.proofs.Common.{◌≡◌, [], ℕ, Option, Some, None, refl, sym, ap, ◌∙◌}
use Rattle.handover_text.specs.Reading.{handed_by}
use Rattle.definitions.specs.Table.{Table, Caller, live_master}
use Rattle.definitions.specs.Calls.{after_exits, Stepped, Alive, step_by, step_with, Handed}
use Rattle.call_laws.specs.Pieces.{asked_alive}
use Rattle.kernel_model.specs.State.{State}
use Rattle.explorer.proofs.effects.after_exits.Goals as goal

-- who asks for itself changes nothing
asks-as : (handed : Handed) (i : ℕ) (t : Table) (found : Option Caller) → live_master i t.rows ≡ found → (step_by handed i found (Alive i) None t).table ≡ t
asks-as handed i t None is = refl
asks-as handed i t (Some c) is = ap (λ (found : Option Caller). (asked_alive found i t).table) is

asks : (handed : Handed) (by i : ℕ) (t : Table) → by ≡ i → (step_with handed by (Alive i) None t).table ≡ t
asks handed by i t same = ap (λ (k : ℕ). (step_with handed k (Alive i) None t).table) same ∙ asks-as handed i t (live_master i t.rows) refl

pub returns : goal.returns
returns c =
    let t = after_exits c.args.exits.now c.in_ok-copy.copy.table in
    ap (λ (s : Stepped). s.table) c.call.ensures.step
    ∙ asks (handed_by []) c.args.by c.by.inside.0 t (sym c.by.view_is)
    ∙ ap (λ (s : State). after_exits c.args.exits.now s.table) c.in_ok-copy.ensures
