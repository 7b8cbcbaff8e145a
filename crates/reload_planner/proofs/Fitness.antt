-- Plans of one master can be run: each step has an edge for each reply, and a worker is named only after a short census.
use Rattle.std.proofs.Common.{◌≡◌, ℕ, Bool, true, false, List, [], Option, Some, None, reverse, refl}
use Rattle.listener_set.specs.declared.generation.Generation.{Generation}
use Rattle.definitions.specs.Table.{Address, FilePath}
use Rattle.definitions.specs.Master.{Crew, oldbin}
use Rattle.vocabulary.specs.declared.plans.Side.TheVariants.{Old, Target}
use Rattle.vocabulary.specs.declared.plans.PidNote.{PidNote}
use Rattle.vocabulary.specs.declared.plans.PidNote.TheVariants.{Left, NoFile}
use Rattle.definitions.specs.Run.{Tree}
use Rattle.plan_steps.specs.Fit.{is_fit}
use Rattle.definitions.specs.Plans.{settle, starts, removes, stopped, stop_tree, remove_oldbin_too, has_oldbin}
use Rattle.call_laws.specs.Pieces.{usr1s}
use Rattle.reload_planner.specs.Changes.{change_tree, repair_tree}
use Rattle.plan_pieces.proofs.Fitness.{settle_fit, quits_fit, kills_fit, usr1s_fit, awaits_gone_fit}
use Rattle.plan_pieces.proofs.Fitness.{remove_fit, awaits_fit, forks_fit, starts_any_fit}

starts_fit : (by : ℕ) (crew : Crew) (ks : List ℕ) (ok : Tree) (bad : List ℕ → Tree) (short : Bool) →
    is_fit short ok ≡ true → ((forked : List ℕ) → is_fit short (bad forked) ≡ true) →
    is_fit short (starts by crew ks ok bad) ≡ true
starts_fit by crew ks ok bad short h e = forks_fit by crew ks [] _ _ short (λ forked. awaits_fit by crew.generation ks ok (bad forked) short h (e forked)) e

pub change_fit : (by : ℕ) (crew : Crew) (ready : List ℕ) (rounds : ℕ) (wanted fresh surplus : List ℕ) →
    is_fit false (change_tree by crew ready rounds wanted fresh surplus) ≡ true
change_fit by crew ready rounds wanted fresh surplus =
    starts_fit by crew fresh _ _ false (quits_fit by crew.generation surplus _ false (settle_fit by crew wanted Target rounds false)) (λ forked. quits_fit by crew.generation forked _ false (settle_fit by crew ready Old rounds false))

pub repair_fit : (by : ℕ) (crew : Crew) (rounds : ℕ) (wanted late fresh : List ℕ) → is_fit false (repair_tree by crew rounds wanted late fresh) ≡ true
repair_fit by crew rounds wanted late fresh = kills_fit by crew.generation late _ false (starts_any_fit by crew fresh _ false (settle_fit by crew wanted Target rounds false))

pub reopening_fit : (by : ℕ) (crew : Crew) (told ready : List ℕ) (rounds : ℕ) →
    is_fit false (usr1s by crew.generation told (settle by crew ready Target rounds)) ≡ true
reopening_fit by crew told ready rounds = usr1s_fit by crew.generation told _ false (settle_fit by crew ready Target rounds false)

---- A stop

oldbin_fit : (by : ℕ) (path : FilePath) (there : Bool) (rest : Tree) → is_fit false rest ≡ true → is_fit false (remove_oldbin_too by path there rest) ≡ true
oldbin_fit by path true rest h = remove_fit by (oldbin path) None (Some Left) rest false h
oldbin_fit by path false rest h = h

removes_fit : (by : ℕ) (path : Option FilePath) (note : PidNote) (rest : Tree) → is_fit false rest ≡ true → is_fit false (removes by path note rest) ≡ true
removes_fit by None note rest h = h
removes_fit by (Some path) note rest h = remove_fit by path (Some NoFile) (Some Left) (remove_oldbin_too by path (has_oldbin note) rest) false (oldbin_fit by path (has_oldbin note) rest h)

pub stop_fit : (by : ℕ) (g : Generation) (ready : List ℕ) (path : Option FilePath) (note : PidNote) (quick : Bool) →
    is_fit false (stop_tree by g ready path note quick) ≡ true
stop_fit by g ready path note true = kills_fit by g ready _ false (removes_fit by path note (stopped by) refl)
stop_fit by g ready path note false = quits_fit by g (reverse ready) _ false (awaits_gone_fit by g (reverse ready) _ false (removes_fit by path note (stopped by) refl))
