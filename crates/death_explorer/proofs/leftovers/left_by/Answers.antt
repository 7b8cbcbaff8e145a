use Rattle.std.proofs.Common.{◌≡◌, [], ℕ, Option, Some, None, refl, ap, ◌∙◌}
use Rattle.handover_text.specs.Reading.{handed_by}
use Rattle.definitions.specs.Table.{Table, Caller, live_master}
use Rattle.definitions.specs.Calls.{after_exits, Stepped, Alive, step_by, Handed}
use Rattle.call_laws.specs.Pieces.{asked_alive}
use Rattle.kernel_model.specs.State.{State}
use Rattle.death_explorer.specs.Leftovers.{exits_of}
use Rattle.death_explorer.proofs.leftovers.left_by.Goals as goal

-- a master that asks for itself changes nothing
asks-as : (handed : Handed) (i : ℕ) (t : Table) (found : Option Caller) → live_master i t.rows ≡ found → (step_by handed i found (Alive i) None t).table ≡ t
asks-as handed i t None is = refl
asks-as handed i t (Some c) is = ap (λ (found : Option Caller). (asked_alive found i t).table) is

pub returns : goal.returns
returns c =
    let t = after_exits (exits_of c.args.image) c.in_ok-left.left.table in
    ap (λ (s : Stepped). s.table) c.call.ensures.step
    ∙ asks-as (handed_by []) c.args.image t (live_master c.args.image t.rows) refl
    ∙ ap (λ (s : State). after_exits (exits_of c.args.image) s.table) c.in_ok-left.ensures
