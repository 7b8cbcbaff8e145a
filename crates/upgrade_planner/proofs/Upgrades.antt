-- An upgrade is the one of its definition.
use Rattle.std.proofs.Common.{◌≡◌, ℕ, ◌+◌, ◌≤◌, max, ◌∷◌, ◌++◌, map, reverse, Option, append_assoc, Bool, true, false}
use Rattle.std.proofs.Common.{List, Some, None, refl, sym, ◌∙◌, ap, arith}
use Rattle.std.specs.Prelude.{◌&&◌}
use Rattle.std.specs.Bool.{then_some}
use Rattle.listener_set.specs.Numbers.{numbers_below}
use Rattle.listener_set.specs.declared.generation.Generation.{Generation}
use Rattle.definitions.specs.Table.{Address, FilePath}
use Rattle.vocabulary.specs.Settings.{Settings}
use Rattle.vocabulary.specs.declared.targets.Target.TheVariants as target
use Rattle.vocabulary.specs.declared.plans.End.{End}
use Rattle.definitions.specs.Master.{Posts, Crew, fork_of, Record, addresses_of, crew_of, upgrade_generation}
use Rattle.definitions.specs.Master.{numbers_wanted, addresses_wanted, handover_for, has_next}
use Rattle.definitions.specs.After.{next_image, posts_wanted, crew_wanted}
use Rattle.definitions.specs.Calls.{Call, OpenAt, CloseAt, AwaitReady, Adopt, Census, WritePid}
use Rattle.definitions.specs.Run.{Tree, Ends, Done, RolledBack, ShortOld, ShortTarget, Split, JoinReady, JoinBack, Join}
use Rattle.call_laws.specs.Lengths.{height}
use Rattle.definitions.specs.Plans.{Turn, graft, asks, awaits_gone, back_from, back_serving, retire, move_aside}
use Rattle.definitions.specs.Plans.{new_calls, new_part, pid_calls, plan_tree, relieve, taken_over, tries, tries_all}
use Rattle.definitions.specs.Plans.{upgrade_tree, only_in}
use Rattle.call_laws.specs.Pieces.{quits}
use Rattle.call_laws.specs.Lengths.{plan_length, upgrade_length}
use Rattle.plan_steps.specs.Stretches.{is_last, aside, longest_of}
use Rattle.plan_steps.specs.Woven.{part_end}
use Rattle.upgrade_planner.specs.Trees.{asked_for, coming_calls, old_image, new_image, way_back, coming_part, staying_part, taking_over, beginning}
use Rattle.upgrade_planner.specs.declared.upgrade.Upgrade.{Upgrade}
use Rattle.upgrade_planner.proofs.Lengths.{spawning, begun_split, begun_aside, begun_grafted}

---- The parts

calls_are : (a b c d : List Call) → a ++ b ++ c ++ d ≡ a ++ (b ++ (c ++ d))
calls_are a b c d = append_assoc (a ++ b) c d ∙ append_assoc a b (c ++ d)

-- what the new master does is what the definition says
coming_is : (crew : Crew) (held wanted : List Address) (n : ℕ) →
    coming_calls crew (only_in held wanted) (only_in wanted held) (numbers_below n) ≡ new_calls crew held wanted n
coming_is crew held wanted n =
    ap (λ calls. Adopt ∷ calls) (sym (calls_are (map CloseAt (only_in held wanted)) (map OpenAt (only_in wanted held)) (map (fork_of crew) (numbers_below n)) (map (AwaitReady crew.generation) (numbers_below n))))

new_part_is : (u : Upgrade) (held wanted : List Address) → u.dropped.now ≡ only_in held wanted →
    u.added.now ≡ only_in wanted held → coming_part u ≡ new_part u.new.crew held wanted u.workers
new_part_is u held wanted d a =
    let crew = u.new.crew in
    let part = λ (calls : List Call). tries_all crew.generation.image calls (Ends JoinReady) (Ends JoinBack) in
    ap (λ xs. part (coming_calls crew xs u.added.now u.coming.now)) d
    ∙ (ap (λ xs. part (coming_calls crew (only_in held wanted) xs u.coming.now)) a
    ∙ (ap (λ ks. part (coming_calls crew (only_in held wanted) (only_in wanted held) ks)) (u.come ∙ u.wanted)
    ∙ ap part (coming_is crew held wanted u.workers)))

taken_over_is : (u : Upgrade) → taking_over u ≡ taken_over u.attended (old_image u) u.old.crew u.new.crew u.old.numbers u.rounds u.path u.workers (way_back u)
taken_over_is u =
    let heir = new_image u in
    let on = relieve u.attended (old_image u) u.old.crew u.new.crew u.old.numbers u.rounds u.path u.workers in
    ap (λ ks. tries_all heir (pid_calls u.path WritePid) (tries heir (Census u.new.crew.generation) ks on (way_back u)) (way_back u)) u.wanted

---- The whole

unmarked : (ready back new old : Tree) (turns : List Turn) (e : End) → is_last e ≡ true → part_end ready back new old turns e ≡ Ends e
unmarked ready back new old turns Done h = refl
unmarked ready back new old turns RolledBack h = refl
unmarked ready back new old turns ShortOld h = refl
unmarked ready back new old turns ShortTarget h = refl
unmarked ready back new old turns Split h = cc
unmarked ready back new old turns JoinReady h = refl
unmarked ready back new old turns JoinBack h = refl
unmarked ready back new old turns Join h = refl

-- where the parts stand at the mark, it is the tree of the definition
pub woven_is : (u : Upgrade) (held wanted : List Address) → u.dropped.now ≡ only_in held wanted → u.added.now ≡ only_in wanted held → (turns : List Turn)
    → graft (part_end (taking_over u) (way_back u) (coming_part u) (staying_part u) turns) (beginning u)
    ≡ upgrade_tree u.attended
    (old_image u) u.old.crew u.new.crew u.old.numbers u.rounds u.path u.note held wanted u.workers turns
woven_is u held wanted d a turns =
    let by = old_image u in
    let all = λ (ready new : Tree). graft (part_end ready (way_back u) new (staying_part u) turns) (beginning u) in
    ap (λ t. all t (coming_part u)) (taken_over_is u)
    ∙ (ap (λ t. all (taken_over u.attended by u.old.crew u.new.crew u.old.numbers u.rounds u.path u.workers (way_back u)) t) (new_part_is u held wanted d a)
    ∙ begun_grafted (part_end (taken_over u.attended by u.old.crew u.new.crew u.old.numbers u.rounds u.path u.workers (way_back u)) (way_back u) (new_part u.new.crew held wanted u.workers) (staying_part u) turns)
    (unmarked (taken_over u.attended by u.old.crew u.new.crew u.old.numbers u.rounds u.path u.workers (way_back u)) (way_back u) (new_part u.new.crew held wanted u.workers) (staying_part u) turns) by (new_image u) u.old.crew u.old.numbers u.rounds u.path u.note)

greatest : (a b c : ℕ) → c ≤ b → max (max a b) c ≡ max a b
greatest a b c h = omega (arith, h)

-- and it is as long
pub length_is : (u : Upgrade) (held wanted : List Address) → u.dropped.now ≡ only_in held wanted → u.added.now ≡ only_in wanted held
    → longest_of (beginning u) (coming_part u) (staying_part u) (taking_over u) (way_back u)
    ≡ upgrade_length u.attended
    (old_image u) u.old.crew u.new.crew u.old.numbers u.rounds u.path u.note held wanted u.workers
length_is u held wanted d a =
    let by = old_image u in
    let heir = new_image u in
    let start = begun_split by heir u.old.crew u.old.numbers u.rounds u.path u.note in
    let aside_too = begun_aside by heir u.old.crew u.old.numbers u.rounds u.path u.note in
    let before = height (move_aside by u.path u.note (spawning by heir (Ends Split) (Ends Done)) (Ends Done)) in
    let old = height (staying_part u) in
    let back = height (way_back u) in
    let ready = height (taking_over u) in
    ap (λ n. n + height (coming_part u) + old + max (max ready back) (aside (beginning u))) start
    ∙ (ap (λ n. before + height (coming_part u) + old + n) (greatest ready back (aside (beginning u)) aside_too)
    ∙ (ap (λ t. before + height t + old + max ready back) (new_part_is u held wanted d a)
    ∙ ap (λ t. before + height (new_part u.new.crew held wanted u.workers) + old + max (height t) back) (taken_over_is u)))

---- The upgrade of a record

-- what is made of a crew, the next one and the addresses of a record
of_record : {X : Type 0} (f : ℕ → Crew → Crew → List Address → X) (r : Record) (s : Settings) (crew : Crew)
    (g : Generation) (posts : Posts) (held : List Address)
    → crew ≡ crew_of r → g ≡ upgrade_generation r.generation → posts ≡ posts_wanted r (target.Upgrade s) → held ≡ addresses_of r
    → f crew.generation.image crew (record { generation = g; posts = posts }) held
    ≡ f r.generation.image (crew_of r) (crew_wanted r (target.Upgrade s)) (addresses_of r)
of_record f r s crew g posts held c e p h =
    let made = λ (old : Crew) (next : Generation) (stands : Posts) (addresses : List Address). f old.generation.image old (record { generation = next; posts = stands }) addresses in
    let next = upgrade_generation r.generation in
    ap (λ old. made old g posts held) c
    ∙ (ap (λ x. made (crew_of r) x posts held) e
    ∙ (ap (λ x. made (crew_of r) next x held) p
    ∙ ap (made (crew_of r) next (posts_wanted r (target.Upgrade s))) h))

pub upgrade_is : (attended : Bool) (r : Record) (s : Settings) (crew : Crew) (g : Generation) (posts : Posts)
    (held : List Address) → crew ≡ crew_of r → g ≡ upgrade_generation r.generation →
    posts ≡ posts_wanted r (asked_for attended s) → held ≡ addresses_of r
    → (turns : List Turn) → upgrade_tree attended crew.generation.image crew
    (record { generation = g; posts = posts }) r.ready r.retries r.pid_path r.note held s.listeners s.workers turns
    ≡ plan_tree r (asked_for attended s) turns
upgrade_is true r s crew g posts held c e p h turns = of_record (λ by old new addresses. upgrade_tree true by old new r.ready r.retries r.pid_path r.note addresses s.listeners s.workers turns) r s crew g posts held c e p h
upgrade_is false r s crew g posts held c e p h turns = of_record (λ by old new addresses. upgrade_tree false by old new r.ready r.retries r.pid_path r.note addresses s.listeners s.workers turns) r s crew g posts held c e p h

pub as_long : (attended : Bool) (r : Record) (s : Settings) (crew : Crew) (g : Generation) (posts : Posts)
    (held : List Address) → crew ≡ crew_of r → g ≡ upgrade_generation r.generation →
    posts ≡ posts_wanted r (asked_for attended s) → held ≡ addresses_of r
    → upgrade_length attended crew.generation.image crew
    (record { generation = g; posts = posts }) r.ready r.retries r.pid_path r.note held s.listeners s.workers
    ≡ plan_length r (asked_for attended s)
as_long true r s crew g posts held c e p h = of_record (λ by old new addresses. upgrade_length true by old new r.ready r.retries r.pid_path r.note addresses s.listeners s.workers) r s crew g posts held c e p h
as_long false r s crew g posts held c e p h = of_record (λ by old new addresses. upgrade_length false by old new r.ready r.retries r.pid_path r.note addresses s.listeners s.workers) r s crew g posts held c e p h

-- attended or not
pub same_numbers : (attended : Bool) (r : Record) (s : Settings) → numbers_wanted r (asked_for attended s) ≡ numbers_below s.workers
same_numbers true r s = refl
same_numbers false r s = refl

pub same_handover : (attended : Bool) (r : Record) (s : Settings) → handover_for r (asked_for attended s) ≡ handover_for r (target.Upgrade s)
same_handover true r s = refl
same_handover false r s = refl

pub same_addresses : (attended : Bool) (r : Record) (s : Settings) → addresses_wanted r (asked_for attended s) ≡ s.listeners
same_addresses true r s = refl
same_addresses false r s = refl

-- where a number follows the last, it is the upgrade's
pub next_is : (g new : Generation) → next_image g ≡ Some new → new ≡ upgrade_generation g
next_is g new h = one (has_next g.image && has_next g.config) h
  where
    one : (b : Bool) → then_some b (upgrade_generation g) ≡ Some new → new ≡ upgrade_generation g
    one true e = let is : upgrade_generation g ≡ new = cc in sym is
    one false e = cc

-- the relief of the old master, from the trees of its parts
pub relief_is : (attended : Bool) (image by : ℕ) (old new : Crew) (g : Generation) (ready leaving : List ℕ) (rounds : ℕ)
    (path : Option FilePath) (n : ℕ) (quitting waiting last stopped : Tree) → by ≡ image → g ≡ old.generation →
    leaving ≡ ready
    → quitting ≡ quits by g (reverse leaving) waiting → waiting ≡ awaits_gone by g (reverse leaving) last →
    last ≡ asks attended image 2 (retire image old new ready rounds path n)
    (back_serving image new.generation.image old ready rounds path)
    → stopped ≡ back_from image new.generation.image old ready rounds path →
    asks attended image 1 quitting stopped ≡ relieve attended image old new ready rounds path n
relief_is attended image by old new g ready leaving rounds path n quitting waiting last stopped b h v q w l s = rw (q, w, l, s, b, h, v) refl
