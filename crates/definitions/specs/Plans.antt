-- The tree of each target, from named pieces.
--
-- After Unicorn's SIGNALS and nginx's "Controlling nginx": new workers are ready before old ones quit; a reload that
-- can't open its addresses goes on with the old configuration; USR2 moves the pid file aside, and back when the new
-- master is gone.

use Rattle.vocabulary.specs as vocabulary
use Rattle.definitions.specs as above
use Rattle.std.specs.Prelude.{◌≡◌, ◌||◌, ◌&&◌, ◌==◌, ◌+◌, ◌∷◌, ◌++◌, if◌then◌else◌}
use vocabulary.Words.{refl, ℕ, zero, suc, not, nat_lt, Bool, true, false, List, [], Option, Some, None, filter, map}
use vocabulary.Words.{reverse, numbers_below, is_in, has, lacks, take, drop, nat_le, min, length, Settings}
use vocabulary.declared.plans.Side.TheVariants as side
use vocabulary.declared.calls.Reply.TheVariants as reply
use above.Table.{Address, FilePath, Generation}
use above.Calls.{Call, Fork, OpenAt, CloseAt, AwaitReady, Quit, Kill, Census, AwaitGone, SpawnMaster, Adopt, WritePid}
use above.Calls.{MovePid, RemovePid, Alive, Leave, Usr1, TermMaster, Ask}
use above.Master.{Crew, fork_of, Record, PidNote, InPlace, AtOldbin, OldbinLeft, Left, NoFile, oldbin, addresses_of}
use above.Master.{layout_of, layout_in, served, crew_of, Target, Workers, Mend, Reopen, Reload, Upgrade, Attended, Stop}
use above.Run.{Reply, plain_reply, Side, End, Done, RolledBack, ShortOld, ShortTarget, JoinReady, JoinBack, Join, Make}
use above.Run.{ForkLacking, AwaitLacking, KillLacking, Tree, Branches, Ends, Does, Nothing, Branch}
use above.After.{crew_wanted}
pub use vocabulary.declared.plans.Turn.{Turn}
pub use vocabulary.declared.plans.Turn.TheVariants.{New, Old}

---- Edges and steps

-- what the first list has and the second lacks
abbrev pub only_in : List Address → List Address → List Address
only_in addresses others = filter (λ a. not (has others a)) addresses

-- the replies to a call but the plain one; besides, each may be answered that the master is gone
abbrev pub failed_replies : Call → List Reply
failed_replies (OpenAt a) = reply.InUse ∷ reply.TooMany ∷ reply.Denied ∷ reply.NoMemory ∷ []
failed_replies (Fork g k fds) = reply.Again ∷ reply.NoMemory ∷ []
failed_replies (AwaitReady g k) = reply.Gone ∷ reply.Late ∷ []
failed_replies (Census g) = reply.Short ∷ []
failed_replies (AwaitGone g k) = reply.Late ∷ []
failed_replies (SpawnMaster i) = reply.Again ∷ reply.NoMemory ∷ reply.NoImage ∷ []
failed_replies Adopt = reply.Refused ∷ []
failed_replies (WritePid path) = reply.IoFault ∷ []
failed_replies (MovePid from to) = reply.IoFault ∷ []
failed_replies (RemovePid path) = reply.IoFault ∷ []
failed_replies (Alive i) = reply.Gone ∷ []
failed_replies (Ask n) = reply.Back ∷ []
failed_replies _ = []

-- an edge that sets no note
abbrev pub on : List Reply → Tree → Branches → Branches
on replies rest more = Branch replies None rest more

abbrev pub then_edge : Tree → Branches
then_edge rest = on (reply.Fine ∷ []) rest Nothing

-- the worker may be ready or gone
abbrev pub await_any_edges : Tree → Tree → Branches
await_any_edges next late = on (reply.IsReady ∷ reply.Gone ∷ []) next (on (reply.Late ∷ []) late Nothing)

-- the rest is the same, and the note is another
abbrev pub note_edges : Option PidNote → Option PidNote → Tree → Branches
note_edges fine fault rest = Branch (reply.Fine ∷ []) fine rest (Branch (reply.IoFault ∷ []) fault rest Nothing)

abbrev pub does : ℕ → Call → Branches → Tree
does by call branches = Does by (Make call) [] branches

-- a call, with the set of a census: the plain reply goes on, and any other elsewhere
abbrev pub either : ℕ → Call → List ℕ → Tree → Tree → Tree
either by call set ok bad =
    Does by (Make call) set (on (plain_reply call ∷ []) ok (on (failed_replies call) bad Nothing))

-- Calls that have one reply alone, in their order.
abbrev pub tells : ℕ → List Call → Tree → Tree
tells by [] rest = rest
tells by (call ∷ calls) rest = does by call (then_edge (tells by calls rest))

---- Settle

abbrev pub full_end : Side → End
full_end side.Old = RolledBack
full_end side.Target = Done

abbrev pub short_end : Side → End
short_end side.Old = ShortOld
short_end side.Target = ShortTarget

-- One round: start the lowest number that is lacking, and go on whatever was answered. A failed fork goes straight on.
abbrev pub round : ℕ → Crew → Tree → Tree
round by crew rest =
    Does by (ForkLacking crew) []
    (on (reply.Forked ∷ [])
    (Does by (AwaitLacking crew.generation) []
    (await_any_edges rest (Does by (KillLacking crew.generation) [] (then_edge rest))))
    (on (reply.Again ∷ reply.NoMemory ∷ []) rest Nothing))

-- A census of the set: full ends well; short makes a round and counts again, as long as rounds are left.
abbrev pub settle : ℕ → Crew → List ℕ → Side → ℕ → Tree
settle by crew set side zero =
    either by (Census crew.generation) set (Ends (full_end side)) (Ends (short_end side))
settle by crew set side (suc rounds) =
    either by (Census crew.generation) set (Ends (full_end side)) (round by crew (settle by crew set side rounds))

---- Starts, waits and opens

-- Fork these numbers upwards. The first failed fork leads to `bad` of those that were forked, the last first.
abbrev pub forks : ℕ → Crew → List ℕ → List ℕ → (List ℕ → Tree) → (List ℕ → Tree) → Tree
forks by crew [] done ok bad = ok done
forks by crew (k ∷ ks) done ok bad =
    either by (fork_of crew k) [] (forks by crew ks (k ∷ done) ok bad) (bad done)

-- Wait for these numbers upwards. The first that fails, killed where it is late, leads to `bad`.
abbrev pub awaits : ℕ → Generation → List ℕ → Tree → Tree → Tree
awaits by g [] ok bad = ok
awaits by g (k ∷ ks) ok bad =
    does by (AwaitReady g k) (on (reply.IsReady ∷ []) (awaits by g ks ok bad)
    (on (reply.Gone ∷ []) bad (on (reply.Late ∷ []) (tells by (Kill g k ∷ []) bad) Nothing)))

-- Fork all, then wait for all. A failure leads to `bad` of those that were forked, the last first.
abbrev pub starts : ℕ → Crew → List ℕ → Tree → (List ℕ → Tree) → Tree
starts by crew ks ok bad = forks by crew ks [] (λ forked. awaits by crew.generation ks ok (bad forked)) bad

-- Fork these numbers upwards, whatever is answered.
abbrev pub forks_any : ℕ → Crew → List ℕ → Tree → Tree
forks_any by crew [] rest = rest
forks_any by crew (k ∷ ks) rest =
    does by (fork_of crew k) (on (reply.Forked ∷ reply.Again ∷ reply.NoMemory ∷ []) (forks_any by crew ks rest) Nothing)

-- Wait for these numbers upwards, whatever is answered; one that is late is killed.
abbrev pub awaits_any : ℕ → Generation → List ℕ → Tree → Tree
awaits_any by g [] rest = rest
awaits_any by g (k ∷ ks) rest =
    does by (AwaitReady g k)
    (await_any_edges (awaits_any by g ks rest) (tells by (Kill g k ∷ []) (awaits_any by g ks rest)))

-- Fork all, then wait for all, going on after a failure.
abbrev pub starts_any : ℕ → Crew → List ℕ → Tree → Tree
starts_any by crew ks rest = forks_any by crew ks (awaits_any by crew.generation ks rest)

-- Wait until these are gone, in their order; one that is late is killed.
abbrev pub awaits_gone : ℕ → Generation → List ℕ → Tree → Tree
awaits_gone by g [] rest = rest
awaits_gone by g (k ∷ ks) rest =
    either by (AwaitGone g k) [] (awaits_gone by g ks rest) (tells by (Kill g k ∷ []) (awaits_gone by g ks rest))

-- Open these in their order. The first that fails leads to `bad` of those that were opened, the last first.
abbrev pub opens : ℕ → List Address → List Address → (List Address → Tree) → (List Address → Tree) → Tree
opens by [] done ok bad = ok done
opens by (a ∷ rest) done ok bad =
    either by (OpenAt a) [] (opens by rest (a ∷ done) ok bad) (bad done)

---- One master

-- The numbers below n that are lacking are started, those from n on quit downwards, and the target settles. A failed
-- start quits what was forked, downwards, and the old side settles.
abbrev pub workers_tree : ℕ → Crew → List ℕ → ℕ → ℕ → Tree
workers_tree by crew ready retries n =
    starts by crew (filter (λ k. not (is_in ready k)) (numbers_below n))
    (tells by (map (Quit crew.generation) (reverse (filter (λ k. not (nat_lt k n)) ready)))
    (settle by crew (numbers_below n) side.Target retries))
    (λ forked. tells by (map (Quit crew.generation) forked) (settle by crew ready side.Old retries))

-- Those that are overdue and ready are killed; each wanted number that isn't ready or is overdue is started, going on
-- after a failure; and the target settles.
abbrev pub mend_tree : ℕ → Crew → List ℕ → ℕ → List ℕ → ℕ → Tree
mend_tree by crew ready retries overdue wanted =
    tells by (map (Kill crew.generation) (filter (is_in ready) overdue))
    (starts_any by crew (filter (λ k. not (is_in ready k) || is_in overdue k) (numbers_below wanted))
    (settle by crew (numbers_below wanted) side.Target retries))

-- Each ready worker is told, and the target settles.
abbrev pub reopen_tree : ℕ → Crew → List ℕ → ℕ → Tree
reopen_tree by crew ready retries =
    tells by (map (Usr1 crew.generation) ready) (settle by crew ready side.Target retries)

-- On with a reload: the old workers quit, the dropped addresses are closed in the old order, and the target settles.
abbrev pub reload_on : ℕ → Crew → Crew → List ℕ → ℕ → List Address → ℕ → Tree
reload_on by old new ready retries dropped n =
    tells by (map (Quit old.generation) (reverse ready))
    (tells by (map CloseAt dropped) (settle by new (numbers_below n) side.Target retries))

-- Where it is asked the operator says whether to go on or back; else it goes on.
abbrev pub asks : Bool → ℕ → ℕ → Tree → Tree → Tree
asks true by question on_go on_back = either by (Ask question) [] on_go on_back
asks false by question on_go on_back = on_go

---- Steps

-- A step of a reload but the last: the new workers that it starts, and the old ones that quit then; both upwards.
pub record Step : Type 0 where
  pub starts : List ℕ
  pub quits : List ℕ

-- The steps of a reload but the last; and of the last one the new workers that it starts, and the old ones that are
-- left.
pub record Rollout : Type 0 where
  pub steps : List Step
  pub last : List ℕ
  pub left : List ℕ

abbrev pub without : ℕ → List ℕ → List ℕ
without k ks = filter (λ j. not (j == k)) ks

-- Of these old workers some quit, one after another in the order of the second list, as long as the others are enough.
-- These stay.
abbrev pub staying : (List ℕ → Bool) → List ℕ → List ℕ → List ℕ
staying enough left [] = left
staying enough left (k ∷ ks) =
    if enough (without k left) then staying enough (without k left) ks else staying enough left ks

-- As long as more new workers are to be started than one step starts, a step starts that many, and then as many of the
-- old ones that are left quit as may. The first number is how many steps are tried: as many as there are workers are
-- enough.
abbrev pub rolled : (List ℕ → List ℕ → Bool) → ℕ → ℕ → List ℕ → List ℕ → List ℕ → Rollout
rolled enough zero surge started todo left = record { steps = []; last = todo; left = left }
rolled enough (suc tries) surge started todo left =
    if nat_lt 0 surge && nat_lt surge (length todo)
    then
    (let now = reverse (take surge todo) ++ started in
    let stay = staying (enough now) left (reverse left) in
    let more = rolled enough tries surge now (drop surge todo) stay in
    record {
      steps = record { starts = take surge todo; quits = lacks left stay } ∷ more.steps;
      last = more.last;
      left = more.left;
    })
    else record { steps = []; last = todo; left = left }

-- a test on each of a list
abbrev pub every : (Address → Bool) → List Address → Bool
every test [] = true
every test (a ∷ rest) = test a && every test rest

-- At each address these new and old workers are as many as were ready there or are wanted there, whichever is fewer.
abbrev pub is_enough : Record → Settings → List ℕ → List ℕ → Bool
is_enough r s started left =
    every
    (λ a. nat_le
    (min (served (layout_of r) r.ready a) (served (layout_in s.groups s.listeners) (numbers_below s.workers) a))
    (served (layout_of r) left a + served (layout_in s.groups s.listeners) started a))
    (addresses_of r)

-- the steps, where each but the last starts so many
abbrev pub rollout_of : Record → Settings → ℕ → Rollout
rollout_of r s surge = rolled (is_enough r s) s.workers surge [] (numbers_below s.workers) r.ready

---- A reload in steps

-- A step's new workers quit, and it goes back. Where earlier steps are taken back they are waited for: all of the
-- step's numbers, of which one that was not started is gone.
abbrev pub quits_new : ℕ → Crew → Bool → List ℕ → Tree → List ℕ → Tree
quits_new by new waits numbers back forked =
    tells by (map (Quit new.generation) forked)
    (if waits then awaits_gone by new.generation (reverse numbers) back else back)

-- A step is taken back: the old workers that quit are started again, whatever is answered, and its new ones quit.
abbrev pub taken_back : ℕ → Crew → Crew → Bool → Step → Tree → Tree
taken_back by old new waits step back =
    starts_any by old step.quits (quits_new by new waits step.starts back (reverse step.starts))

-- The steps but the last, and then the last. Where a start fails, or the operator goes back, the step's new workers
-- quit, and the earlier steps are taken back, the last first. The operator is asked in the first step, when its new
-- workers are ready.
abbrev pub in_steps : Bool → Bool → ℕ → Crew → Crew → List Step → (Bool → Tree → Tree) → Tree → Tree
in_steps asked first by old new [] last back = last first back
in_steps asked first by old new (step ∷ steps) last back =
    starts by new step.starts
    (asks (asked && first) by 1
    (tells by (map (Quit old.generation) (reverse step.quits)) (awaits_gone by old.generation (reverse step.quits)
    (in_steps asked false by old new steps last (taken_back by old new (not first) step back))))
    (quits_new by new (not first) step.starts back (reverse step.starts)))
    (quits_new by new (not first) step.starts back)

-- The last step: all new workers are counted, and it goes on.
abbrev pub last_step : Bool → ℕ → Crew → Crew → List ℕ → List ℕ → ℕ → List Address → ℕ → Bool → Tree → Tree
last_step asked by old new numbers left retries dropped n first back =
    starts by new numbers
    (either by (Census new.generation) (numbers_below n)
    (asks (asked && first) by 1 (reload_on by old new left retries dropped n)
    (quits_new by new (not first) numbers back (reverse numbers)))
    (quits_new by new (not first) numbers back (reverse numbers)))
    (quits_new by new (not first) numbers back)

abbrev pub closes_opened : ℕ → Crew → List ℕ → ℕ → List Address → Tree
closes_opened by old ready retries opened = tells by (map CloseAt opened) (settle by old ready side.Old retries)

-- The added addresses are opened, and the new workers are started in steps.
abbrev pub stepped_tree : Bool → ℕ → Crew → Crew → List ℕ → ℕ → List Address → List Address → ℕ → Rollout → Tree
stepped_tree asked by old new ready retries held wanted n rollout =
    opens by (only_in wanted held) []
    (λ opened. in_steps asked true by old new rollout.steps
    (last_step asked by old new rollout.last rollout.left retries (only_in held wanted) n)
    (closes_opened by old ready retries opened))
    (closes_opened by old ready retries)

-- The reload of a record to settings: whether the operator is asked, and how many new workers a step starts.
abbrev pub reload_plan : Bool → ℕ → Record → Settings → Tree
reload_plan asked surge r s =
    stepped_tree asked r.generation.image (crew_of r) (crew_wanted r (Reload s)) r.ready r.retries (addresses_of r)
    s.listeners s.workers (rollout_of r s surge)

---- Stop

-- whether a file is at the path with the suffix
abbrev pub has_oldbin : PidNote → Bool
has_oldbin AtOldbin = true
has_oldbin OldbinLeft = true
has_oldbin _ = false

-- The file with the suffix is removed, where there is one; a fault leaves it.
abbrev pub remove_oldbin_too : ℕ → FilePath → Bool → Tree → Tree
remove_oldbin_too by path true rest = does by (RemovePid (oldbin path)) (note_edges None (Some Left) rest)
remove_oldbin_too by path false rest = rest

-- The pid files are removed.
abbrev pub removes : ℕ → Option FilePath → PidNote → Tree → Tree
removes by None note rest = rest
removes by (Some path) note rest =
    does by (RemovePid path) (note_edges (Some NoFile) (Some Left) (remove_oldbin_too by path (has_oldbin note) rest))

abbrev pub stopped : ℕ → Tree
stopped by = tells by (Leave ∷ []) (Ends Done)

-- The workers quit and are waited for, or are killed at once; the files are removed, and the master leaves.
abbrev pub stop_tree : ℕ → Generation → List ℕ → Option FilePath → PidNote → Bool → Tree
stop_tree by g ready path note true = tells by (map (Kill g) ready) (removes by path note (stopped by))
stop_tree by g ready path note false =
    tells by (map (Quit g) (reverse ready)) (awaits_gone by g (reverse ready) (removes by path note (stopped by)))

---- Two parts of a plan that two masters carry out side by side: under a list of turns they are an ordinary tree

-- The ends of a part are marks: each gives way to what follows it.
abbrev mutual
  pub graft : (End → Tree) → Tree → Tree
  graft next (Ends end) = next end
  graft next (Does by order set branches) = Does by order set (graft_all next branches)

  pub graft_all : (End → Tree) → Branches → Branches
  graft_all next Nothing = Nothing
  graft_all next (Branch replies said rest more) = Branch replies said (graft next rest) (graft_all next more)

-- The old part beside a step of the new one, of which `goes` says what follows where it is the new part's turn. Where
-- the old part has ended no turn is used.
abbrev mutual
  pub beside : (List Turn → Tree → Tree) → List Turn → Tree → Tree
  beside goes turns (Ends end) = goes turns (Ends end)
  beside goes [] (Does by order set branches) = goes [] (Does by order set branches)
  beside goes (New ∷ turns) (Does by order set branches) = goes turns (Does by order set branches)
  beside goes (Old ∷ turns) (Does by order set branches) = Does by order set (beside_all goes turns branches)

  pub beside_all : (List Turn → Tree → Tree) → List Turn → Branches → Branches
  beside_all goes turns Nothing = Nothing
  beside_all goes turns (Branch replies said rest more) =
      Branch replies said (beside goes turns rest) (beside_all goes turns more)

-- Both parts under a list of turns; after its end it is always the new part's turn. Where the new part has ended the
-- old one goes on alone; where both have, the new part's end says what follows.
abbrev mutual
  pub weave : (End → Tree) → Tree → List Turn → Tree → Tree
  weave join (Ends end) turns old = graft (λ e. join end) old
  weave join (Does by order set branches) turns old =
      beside (λ later still. Does by order set (weave_all join branches later still)) turns old

  pub weave_all : (End → Tree) → Branches → List Turn → Tree → Branches
  weave_all join Nothing turns old = Nothing
  weave_all join (Branch replies said rest more) turns old =
      Branch replies said (weave join rest turns old) (weave_all join more turns old)

-- The new part ends ready, or leads back.
abbrev pub joined : Tree → Tree → End → Tree
joined ready back JoinReady = ready
joined ready back _ = back

---- Upgrade

-- A step of the new master: the plain reply goes on; any other, and that the master is gone, goes back.
abbrev pub tries : ℕ → Call → List ℕ → Tree → Tree → Tree
tries by call set rest back =
    Does by (Make call) set
    (on (plain_reply call ∷ []) rest (on (failed_replies call ++ reply.MasterGone ∷ []) back Nothing))

abbrev pub tries_all : ℕ → List Call → Tree → Tree → Tree
tries_all by [] rest back = rest
tries_all by (call ∷ calls) rest back = tries by call [] (tries_all by calls rest back) back

abbrev pub pid_calls : Option FilePath → (FilePath → Call) → List Call
pid_calls None call = []
pid_calls (Some path) call = call path ∷ []

-- What the new master does on its own: it adopts, closes the dropped addresses and opens the added ones, forks its
-- workers and waits for them.
abbrev pub new_calls : Crew → List Address → List Address → ℕ → List Call
new_calls crew held wanted n =
    Adopt ∷ map CloseAt (only_in held wanted) ++ map OpenAt (only_in wanted held)
    ++ map (fork_of crew) (numbers_below n)
    ++ map (AwaitReady crew.generation) (numbers_below n)

-- The new master's part is ready after the last of these calls; any other answer than the plain one ends it.
abbrev pub new_part : Crew → List Address → List Address → ℕ → Tree
new_part crew held wanted n =
    tries_all crew.generation.image (new_calls crew held wanted n) (Ends JoinReady) (Ends JoinBack)

-- The old master meanwhile mends its own workers: it counts those that were ready, and starts what is lacking, for a
-- number of rounds. What the last count says does not matter.
abbrev pub old_part : ℕ → Crew → List ℕ → ℕ → Tree
old_part by crew ready zero =
    Does by (Make (Census crew.generation)) ready (on (reply.Full ∷ reply.Short ∷ []) (Ends Join) Nothing)
old_part by crew ready (suc rounds) =
    either by (Census crew.generation) ready (Ends Join) (round by crew (old_part by crew ready rounds))

-- The pid file goes aside, where it isn't yet.
abbrev pub move_aside : ℕ → Option FilePath → PidNote → Tree → Tree → Tree
move_aside by None note ok bad = ok
move_aside by (Some path) AtOldbin ok bad = ok
move_aside by (Some path) note ok bad = either by (MovePid path (oldbin path)) [] ok bad

-- The pid file goes back to its path.
abbrev pub move_back : ℕ → Option FilePath → Tree → Tree
move_back by None rest = rest
move_back by (Some path) rest = does by (MovePid (oldbin path) path) (note_edges (Some InPlace) (Some AtOldbin) rest)

-- The file with the suffix goes.
abbrev pub remove_oldbin : ℕ → Option FilePath → Tree → Tree
remove_oldbin by None rest = rest
remove_oldbin by (Some path) rest = does by (RemovePid (oldbin path)) (note_edges (Some InPlace) (Some OldbinLeft) rest)

-- Back without a new master, and with one.
abbrev pub back_alone : ℕ → Crew → List ℕ → ℕ → Option FilePath → Tree
back_alone by crew ready retries path = move_back by path (settle by crew ready side.Old retries)

abbrev pub back_from : ℕ → ℕ → Crew → List ℕ → ℕ → Option FilePath → Tree
back_from by heir crew ready retries path =
    tells by (TermMaster heir ∷ []) (back_alone by crew ready retries path)

-- Back after the old workers are gone: they are started again.
abbrev pub back_late : ℕ → ℕ → Crew → List ℕ → ℕ → Option FilePath → Tree
back_late by heir crew ready retries path =
    tells by (TermMaster heir ∷ []) (starts_any by crew ready (back_alone by crew ready retries path))

-- Back once the old workers are gone: they are started again while the new master still serves, and only then is it
-- ended.
abbrev pub back_serving : ℕ → ℕ → Crew → List ℕ → ℕ → Option FilePath → Tree
back_serving by heir crew ready retries path = starts_any by crew ready (back_from by heir crew ready retries path)

-- The old master leaves; the new one removes the old file and settles.
abbrev pub hand_over : ℕ → Crew → ℕ → Option FilePath → ℕ → Tree
hand_over by new retries path n =
    tells by (Leave ∷ [])
    (remove_oldbin new.generation.image path
    (settle new.generation.image new (numbers_below n) side.Target retries))

-- If the new master still lives, the old one leaves.
abbrev pub retire : ℕ → Crew → Crew → List ℕ → ℕ → Option FilePath → ℕ → Tree
retire by old new ready retries path n =
    let heir = new.generation.image in
    either by (Alive heir) [] (hand_over by new retries path n) (back_late by heir old ready retries path)

-- The old workers quit and are waited for; then the old master retires. An attended upgrade asks before they quit and
-- once they are gone.
abbrev pub relieve : Bool → ℕ → Crew → Crew → List ℕ → ℕ → Option FilePath → ℕ → Tree
relieve attended by old new ready retries path n =
    let heir = new.generation.image in
    asks attended by 1
    (tells by (map (Quit old.generation) (reverse ready)) (awaits_gone by old.generation (reverse ready)
    (asks attended by 2 (retire by old new ready retries path n) (back_serving by heir old ready retries path))))
    (back_from by heir old ready retries path)

-- Both parts have ended and the new master is ready: it writes its pid, and is counted.
abbrev pub taken_over : Bool → ℕ → Crew → Crew → List ℕ → ℕ → Option FilePath → ℕ → Tree → Tree
taken_over attended by old new ready retries path n back =
    let heir = new.generation.image in
    tries_all heir (pid_calls path WritePid)
    (tries heir (Census new.generation) (numbers_below n) (relieve attended by old new ready retries path n) back) back

abbrev pub upgrade_tree :
    Bool → ℕ → Crew → Crew → List ℕ → ℕ → Option FilePath → PidNote → List Address → List Address → ℕ → List Turn → Tree
upgrade_tree attended by old new ready retries path note held wanted n turns =
    let heir = new.generation.image in
    let back = back_from by heir old ready retries path in
    move_aside by path note
    (either by (SpawnMaster heir) []
    (weave (joined (taken_over attended by old new ready retries path n back) back)
    (new_part new held wanted n) turns (old_part by old ready retries))
    (back_alone by old ready retries path))
    (settle by old ready side.Old retries)

---- The plan of a target

-- Turns are used in upgrades alone, attended or not.
abbrev pub plan_tree : Record → Target → List Turn → Tree
plan_tree r (Workers n) turns = workers_tree r.generation.image (crew_of r) r.ready r.retries n
plan_tree r (Mend overdue) turns = mend_tree r.generation.image (crew_of r) r.ready r.retries overdue r.wanted
plan_tree r Reopen turns = reopen_tree r.generation.image (crew_of r) r.ready r.retries
plan_tree r (Reload s) turns = reload_plan false s.surge r s
plan_tree r (Upgrade s) turns =
    upgrade_tree false r.generation.image (crew_of r) (crew_wanted r (Upgrade s)) r.ready r.retries r.pid_path r.note
    (addresses_of r) s.listeners s.workers turns
plan_tree r (Attended s) turns =
    upgrade_tree true r.generation.image (crew_of r) (crew_wanted r (Attended s)) r.ready r.retries r.pid_path r.note
    (addresses_of r) s.listeners s.workers turns
plan_tree r (Stop quick) turns = stop_tree r.generation.image r.generation r.ready r.pid_path r.note quick

---- An example: one worker is told to reopen its logs, and then counted

example :
    (by : ℕ) (crew : Crew) → reopen_tree by crew (7 ∷ []) 0
    ≡ does by (Usr1 crew.generation 7) (on (reply.Fine ∷ [])
    (either by (Census crew.generation) (7 ∷ []) (Ends Done) (Ends ShortTarget)) Nothing)
example by crew = refl
