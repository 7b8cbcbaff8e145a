use Rattle.std.proofs.Common.{◌≡◌, ℕ, Bool, Option, Some, refl, ap, codes, if◌then◌else◌, eq-eqb, arith}
use Rattle.vocabulary.specs.declared.calls.Answer.TheVariants as answer
use Rattle.child_family.specs.Talk.{says, hears}
use Rattle.child_edge.specs.State.{State, ChildMaster, state_of}
use Rattle.child_family.specs.Lines.{is_line}
use Rattle.child_edge.specs.Table.{answers, alone, ended_master, living}
use Rattle.child_edge.proofs.Turning.{goes-from, goes-into, goes-both, goes-stops_child}
use Rattle.child_edge.proofs.masters.alive.Goals as goal

living-of : (s : State) (image : ℕ) (child : Option ChildMaster) (m : ChildMaster) → child ≡ Some m → m.image ≡ image
    → living s image child ≡ says m.id (codes "alive")
    (λ ok. if ok then hears m.id
    (λ h. if is_line (codes "alive") h then answers s answer.IsAlive else ended_master s m.id)
    else ended_master s m.id)
living-of s image child m is same = rw (is, eq-eqb m.image image same) refl

pub returns-then-answers_alive-clause-turn : goal.returns-then-answers_alive-clause-turn
returns-then-answers_alive-clause-turn g c =
    let s = state_of c.args.state.now in
    let m = c.in-Some.master in
    let yes = answers s answer.IsAlive in
    let no = ended_master s m.id in
    goes-from _ _ _ _ _ (living-of s c.args.image c.args.state.now.child m c.in-Some.is (omega (arith, c.if-master-image.false)))
    (goes-into _ _ _ _ _ (ap (λ (b : Bool). if b then yes else no) c.if-answers_alive.true) (c.answers_alive.ensures yes no))

pub returns-clause-turn : goal.returns-clause-turn
returns-clause-turn g c =
    let s = state_of c.args.state.now in
    let m = c.in-Some.master in
    let yes = answers s answer.IsAlive in
    let no = ended_master s m.id in
    goes-from _ _ _ _ _ (living-of s c.args.image c.args.state.now.child m c.in-Some.is (omega (arith, c.if-master-image.false)))
    (goes-both _ _ _ _ _ _ (goes-into _ _ _ _ _ (ap (λ (b : Bool). if b then yes else no) c.if-answers_alive.false) (c.answers_alive.ensures yes no)) (goes-stops_child _ _ m.id (answers (alone s) answer.Gone) c.stop.ensures))
