-- A run of an upgrade is a merge of what its two masters do.
use Rattle.std.proofs.Common.{◌≡◌, ◌≢◌, ℕ, zero, suc, ◌+◌, Bool, true, false, List, [], ◌∷◌, ◌++◌, Option, Some, None, refl, sym, ◌∙◌, ap, subst, arith}
use Rattle.std.proofs.lemmas.Bool.{false≢true}
use Rattle.vocabulary.specs.Settings.{Settings}
use Rattle.vocabulary.specs.declared.calls.Answer.{Answer}
use Rattle.vocabulary.specs.declared.calls.Answer.TheVariants as answer
use Rattle.vocabulary.specs.declared.reports.Entry.{Entry}
use Rattle.vocabulary.specs.declared.targets.Target.{Target}
use Rattle.vocabulary.specs.declared.targets.Target.TheVariants.{Workers, Mend, Reopen, Reload, Upgrade, Attended, Stop}
use Rattle.definitions.specs.Table.{Table, FilePath}
use Rattle.definitions.specs.Calls.{Call, SpawnMaster, MovePid, Handed}
use Rattle.definitions.specs.Master.{Crew, Record, PidNote, InPlace, AtOldbin, OldbinLeft, Left, NoFile, oldbin}
use Rattle.definitions.specs.Master.{crew_of, addresses_of, sides_of, handover_for, Sides}
use Rattle.definitions.specs.Run.{Tree, Ends, Does, Branches, Nothing, Branch, End, Done, Split, JoinReady, JoinBack}
use Rattle.definitions.specs.Run.{Reply, reply_of, Lack, lacked_after, Pattern, Progress, Ending, At, Lost, Ran}
use Rattle.definitions.specs.Run.{run_with, goes_with, start_at, outcome_of}
use Rattle.call_laws.specs.Pieces.{among, lacked_last, spawn_edges, branch, noted}
use Rattle.vocabulary.specs.declared.calls.Reply.TheVariants as reply
use Rattle.definitions.specs.Plans.{Turn, weave, joined, does, on, move_aside, new_part, new_calls, old_part, tries_all}
use Rattle.definitions.specs.Plans.{taken_over, back_from, back_alone, settle, upgrade_tree, plan_tree}
use Rattle.definitions.specs.After.{crew_wanted}
use Rattle.theorems.specs.Apart.{IsOf, WalksAll, WalksApart}
use Rattle.definitions.specs.Claims.{run_of, Says, KeepsPromise}
use Rattle.vocabulary.specs.declared.plans.Side.TheVariants as side
use Rattle.plan_executor.specs.Merged.{AreMerged, ActsApart}

---- A whole run is a walk

noted-lacked : (said : Option PidNote) (p : Progress) → (noted said p).lacked ≡ p.lacked
noted-lacked None p = refl
noted-lacked (Some n) p = refl

-- what is found behind a reply, and the run from there
abbrev pub GoesOn : Handed → Branches → Reply → Pattern → Progress → End → Type 0
GoesOn handed bs r pattern p end =
    (edge : Option PidNote × Tree) × (branch bs r ≡ Some edge) × WalksAll edge.1 p.lacked (goes_with handed bs r pattern p).entries (Ends end)

mutual
  whole-walk : (handed : Handed) (tree : Tree) (pattern : Pattern) (p : Progress) (end : End) →
      (run_with handed tree pattern p).ending ≡ At end →
      WalksAll tree p.lacked (run_with handed tree pattern p).entries (Ends end)
  whole-walk handed (Ends other) pattern p end is = let same : other ≡ end = cc in ap Ends same
  whole-walk handed (Does by order set branches) pattern p end is =
      let g = whole-goes handed branches _ pattern _ end is in (refl, refl, g.0, g.1, g.2)

  whole-goes : (handed : Handed) (bs : Branches) (r : Reply) (pattern : Pattern) (p : Progress) (end : End) →
      (goes_with handed bs r pattern p).ending ≡ At end → GoesOn handed bs r pattern p end
  whole-goes handed Nothing r pattern p end is = cc
  whole-goes handed (Branch replies said rest more) r pattern p end is =
      elim (among replies r) as (λ b.
      (elim b as (λ _. Ran) [ true ↦ run_with handed rest pattern (noted said p) | false ↦ goes_with handed more r pattern p ]).ending ≡ At end →
      (edge : Option PidNote × Tree) × (elim b as (λ _. Option (Option PidNote × Tree)) [ true ↦ Some (said, rest) | false ↦ branch more r ] ≡ Some edge)
      × WalksAll edge.1 p.lacked
      (elim b as (λ _. Ran) [
        | true ↦ run_with handed rest pattern (noted said p)
        | false ↦ goes_with handed more r pattern p
      ]).entries (Ends end)) [
        | true ↦ λ is. (
          (said, rest),
          refl,
          subst (λ (lacked : List Lack). WalksAll rest lacked (run_with handed rest pattern (noted said p)).entries
              (Ends end)) (noted-lacked said p) (whole-walk handed rest pattern (noted said p) end is),
        )
        | false ↦ λ is. whole-goes handed more r pattern p end is
      ] is

---- What leads to the parts

some-one : {X : Type 0} {x y : X} → Some x ≡ Some y → x ≡ y
some-one e = cc

-- what is no count changes no last count
uncounted : (by : ℕ) (a : Answer) (lacked : List Lack) → (reply_of [] a ≡ reply.Full → ⊥) → lacked_after by [] a lacked ≡ lacked
uncounted by (answer.Opened fd) lacked other = refl
uncounted by answer.InUse lacked other = refl
uncounted by answer.TooMany lacked other = refl
uncounted by answer.Denied lacked other = refl
uncounted by answer.NoMemory lacked other = refl
uncounted by answer.Fine lacked other = refl
uncounted by answer.Forked lacked other = refl
uncounted by answer.Again lacked other = refl
uncounted by answer.IsReady lacked other = refl
uncounted by answer.Gone lacked other = refl
uncounted by answer.Late lacked other = refl
uncounted by (answer.Counted ns) lacked other = absurd (other refl)
uncounted by answer.Spawned lacked other = refl
uncounted by answer.NoImage lacked other = refl
uncounted by answer.Adopted lacked other = refl
uncounted by answer.Refused lacked other = refl
uncounted by answer.IoFault lacked other = refl
uncounted by answer.IsAlive lacked other = refl
uncounted by answer.Go lacked other = refl
uncounted by answer.Back lacked other = refl
uncounted by answer.MasterGone lacked other = refl

-- no walk leads from one end to another
no-way : (lacked : List Lack) (entries : List Entry) → WalksAll (Ends Done) lacked entries (Ends Split) → ⊥
no-way lacked [] is = cc
no-way lacked (e ∷ entries) is = is

-- where the first entries lead on by the good answers, so do all
pub record LeadsOn (s t : Tree) (lacked : List Lack) (behind : List Entry) (later : Tree) : Type 0 where
  pub first : List Entry
  pub entries : List Entry
  pub is : entries ≡ first ++ behind
  pub leads : WalksAll s lacked first (Ends Split)
  pub walks : WalksAll t lacked entries later

abbrev pub edge_at : Bool → Tree → Option (Option PidNote × Tree) → Option (Option PidNote × Tree)
edge_at b rest other = elim b as (λ _. Option (Option PidNote × Tree)) [ true ↦ Some (None, rest) | false ↦ other ]

-- a step of which the good answers lead on
abbrev pub forked : ℕ → Call → List Reply → List Reply → Tree → Tree → Tree
forked by call good bad ok other = does by call (on good ok (on bad other Nothing))

-- by one edge of two
edge-leads : (s t other : Tree) (lacked next : List Lack) (first behind : List Entry) (later : Tree) (b c : Bool)
    (x y : Option PidNote × Tree) → (b ≡ true → next ≡ lacked) →
    edge_at b s (edge_at c (Ends Done) None) ≡ Some x → WalksAll x.1 next first (Ends Split) →
    edge_at b t (edge_at c other None) ≡ Some y → WalksAll y.1 next (first ++ behind) later →
    LeadsOn s t lacked behind later
edge-leads s t other lacked next first behind later true c x y same from leads to walks =
    let one : s ≡ x.1 = ap (λ (e : Option PidNote × Tree). e.1) (some-one from) in
    let two : t ≡ y.1 = ap (λ (e : Option PidNote × Tree). e.1) (some-one to) in
    record {
      first = first;
      entries = first ++ behind;
      is = refl;
      leads =
          subst (λ (ls : List Lack). WalksAll s ls first (Ends Split)) (same refl)
          (subst (λ (tree : Tree). WalksAll tree next first (Ends Split)) (sym one) leads);
      walks =
          subst (λ (ls : List Lack). WalksAll t ls (first ++ behind) later) (same refl)
          (subst (λ (tree : Tree). WalksAll tree next (first ++ behind) later) (sym two) walks);
    }
edge-leads s t other lacked next first behind later false true x y same from leads to walks =
    let one : Ends Done ≡ x.1 = ap (λ (e : Option PidNote × Tree). e.1) (some-one from) in
    absurd (no-way next first (subst (λ (tree : Tree). WalksAll tree next first (Ends Split)) (sym one) leads))
edge-leads s t other lacked next first behind later false false x y same from leads to walks = cc

step-leads : (by : ℕ) (call : Call) (good bad : List Reply) (s t other : Tree) (lacked : List Lack)
    (first behind entries : List Entry) (later : Tree) → among good reply.Full ≡ false → entries ≡ first ++ behind →
    WalksAll (forked by call good bad s (Ends Done)) lacked first (Ends Split) →
    WalksAll (forked by call good bad t other) lacked entries later → LeadsOn s t lacked behind later
step-leads by call good bad s t other lacked [] behind entries later uncounts is leads walks = absurd (cc leads)
step-leads by call good bad s t other lacked (e ∷ first) behind entries later uncounts is leads walks =
    let all = subst (λ (es : List Entry). WalksAll (forked by call good bad t other) lacked es later) is walks in
    let r = reply_of [] e.answer in
    edge-leads s t other lacked (lacked_after by [] e.answer lacked) first behind later (among good r) (among bad r) leads.2 all.2
    (λ on. uncounted by e.answer lacked (λ full. false≢true (sym uncounts ∙ (ap (among good) (sym full) ∙ on)))) leads.3 leads.4 all.3 all.4

---- An upgrade

start-leads : (by heir : ℕ) (w alone : Tree) (first behind entries : List Entry) (later : Tree) → entries ≡ first ++ behind →
    WalksAll (does by (SpawnMaster heir) (spawn_edges (Ends Split) (Ends Done))) [] first (Ends Split) →
    WalksAll (does by (SpawnMaster heir) (spawn_edges w alone)) [] entries later → WalksAll w [] behind later
start-leads by heir w alone first behind entries later is leads walks =
    let on = step-leads by (SpawnMaster heir) (reply.Spawned ∷ []) (reply.Again ∷ reply.NoMemory ∷ reply.NoImage ∷ [])
    (Ends Split) w alone [] first behind entries later refl is leads walks in
    there on.first on.entries on.is on.leads on.walks
  where
    there : (first entries : List Entry) → entries ≡ first ++ behind → WalksAll (Ends Split) [] first (Ends Split) →
        WalksAll w [] entries later → WalksAll w [] behind later
    there [] entries is leads walks = subst (λ (es : List Entry). WalksAll w [] es later) is walks
    there (e ∷ first) entries is leads walks = absurd leads

move-leads : (by heir : ℕ) (path : FilePath) (w alone short : Tree) (first behind entries : List Entry) (later : Tree) → entries ≡ first ++ behind →
    WalksAll (move_aside by (Some path) InPlace (does by (SpawnMaster heir) (spawn_edges (Ends Split) (Ends Done))) (Ends Done)) [] first (Ends Split) →
    WalksAll (move_aside by (Some path) InPlace (does by (SpawnMaster heir) (spawn_edges w alone)) short) [] entries later → WalksAll w [] behind later
move-leads by heir path w alone short first behind entries later is leads walks =
    let on =
    step-leads by (MovePid path (oldbin path)) (reply.Fine ∷ []) (reply.IoFault ∷ [])
    (does by (SpawnMaster heir) (spawn_edges (Ends Split) (Ends Done)))
    (does by (SpawnMaster heir) (spawn_edges w alone)) short [] first behind entries later refl is leads walks in
    start-leads by heir w alone on.first behind on.entries later on.is on.leads on.walks

parts-begin : (by heir : ℕ) (path : Option FilePath) (note : PidNote) (w alone short : Tree)
    (first behind entries : List Entry) (later : Tree) → entries ≡ first ++ behind →
    WalksAll (move_aside by path note (does by (SpawnMaster heir) (spawn_edges (Ends Split) (Ends Done))) (Ends Done)) [] first (Ends Split) →
    WalksAll (move_aside by path note (does by (SpawnMaster heir) (spawn_edges w alone)) short) [] entries later → WalksAll w [] behind later
parts-begin by heir None note w alone short first behind entries later is leads walks = start-leads by heir w alone first behind entries later is leads walks
parts-begin by heir (Some path) InPlace w alone short first behind entries later is leads walks =
    move-leads by heir path w alone short first behind entries later is leads walks
parts-begin by heir (Some path) AtOldbin w alone short first behind entries later is leads walks =
    start-leads by heir w alone first behind entries later is leads walks
parts-begin by heir (Some path) OldbinLeft w alone short first behind entries later is leads walks =
    move-leads by heir path w alone short first behind entries later is leads walks
parts-begin by heir (Some path) Left w alone short first behind entries later is leads walks =
    move-leads by heir path w alone short first behind entries later is leads walks
parts-begin by heir (Some path) NoFile w alone short first behind entries later is leads walks =
    move-leads by heir path w alone short first behind entries later is leads walks

-- each part is one master's
tries-of : (image : ℕ) (calls : List Call) → IsOf image (tries_all image calls (Ends JoinReady) (Ends JoinBack))
tries-of image [] = tt
tries-of image (call ∷ calls) = (refl, (tries-of image calls, (tt, tt)))

mends-of : (by : ℕ) (crew : Crew) (ready : List ℕ) (rounds : ℕ) → IsOf by (old_part by crew ready rounds)
mends-of by crew ready zero = (refl, (tt, tt))
mends-of by crew ready (suc rounds) =
    let rest = mends-of by crew ready rounds in
    (refl, (tt, ((refl, ((refl, (rest, ((refl, (rest, tt)), tt))), (rest, tt))), tt)))

merged : WalksApart → (attended : Bool) (r : Record) (new : Crew) (s : Settings) (turns : List Turn)
    (entries : List Entry) (end : End) → new.generation.image ≢ r.generation.image →
    WalksAll (upgrade_tree attended r.generation.image (crew_of r) new r.ready r.retries r.pid_path r.note
    (addresses_of r) s.listeners s.workers turns) [] entries (Ends end) → AreMerged attended r new s turns entries
merged apart attended r new s turns entries end differ walks first behind is leads =
    let by = r.generation.image in
    let heir = new.generation.image in
    let old = crew_of r in
    let back = back_from by heir old r.ready r.retries r.pid_path in
    let join = joined (taken_over attended by old new r.ready r.retries r.pid_path s.workers back) back in
    let a = new_part new (addresses_of r) s.listeners s.workers in
    let b = old_part by old r.ready r.retries in (
      end,
      apart join a turns b heir by [] behind (Ends end) differ
          (tries-of heir (new_calls new (addresses_of r) s.listeners s.workers)) (mends-of by old r.ready r.retries) tt
          (parts-begin by heir r.pid_path r.note (weave join a turns b) (back_alone by old r.ready r.retries r.pid_path)
          (settle by old r.ready side.Old r.retries) first behind entries (Ends end) is leads walks),
    )

---- A run that ends as it reports

-- it is not lost
at-end : (t : Table) (r : Record) (target : Target) (last : Table) (sides : Sides) (ending : Ending)
    (lacking : List ℕ) → Says r target (outcome_of sides ending lacking) t last → (end : End) × (ending ≡ At end)
at-end t r target last sides (At end) lacking says = (end, refl)
at-end t r target last sides Lost lacking says = absurd says

run-walk : (t : Table) (r : Record) (target : Target) (turns : List Turn) (pattern : Pattern) → KeepsPromise t r target (run_of r target turns pattern t) →
    (end : End) × WalksAll (plan_tree r target turns) [] (run_of r target turns pattern t).entries (Ends end)
run-walk t r target turns pattern ends =
    let ran = run_of r target turns pattern t in
    let at = at-end t r target ran.last.table (sides_of r target) ran.ending (lacked_last ran.last.lacked) ends.says in
    (at.0, whole-walk (handover_for r target) (plan_tree r target turns) pattern (start_at t r.note) at.0 at.1)

-- the next image is another
later-image : (n : ℕ) → n + 1 ≢ n
later-image n same = omega (arith, same)

pub acts-apart : WalksApart → (t : Table) (r : Record) (target : Target) (turns : List Turn) (pattern : Pattern) →
    KeepsPromise t r target (run_of r target turns pattern t) →
    ActsApart r target turns (run_of r target turns pattern t).entries
acts-apart apart t r (Workers n) turns pattern ends = tt
acts-apart apart t r (Mend overdue) turns pattern ends = tt
acts-apart apart t r Reopen turns pattern ends = tt
acts-apart apart t r (Reload s) turns pattern ends = tt
acts-apart apart t r (Upgrade s) turns pattern ends =
    let walk = run-walk t r (Upgrade s) turns pattern ends in
    merged apart false r (crew_wanted r (Upgrade s)) s turns (run_of r (Upgrade s) turns pattern t).entries walk.0 (later-image r.generation.image) walk.1
acts-apart apart t r (Attended s) turns pattern ends =
    let walk = run-walk t r (Attended s) turns pattern ends in
    merged apart true r (crew_wanted r (Attended s)) s turns (run_of r (Attended s) turns pattern t).entries walk.0 (later-image r.generation.image) walk.1
acts-apart apart t r (Stop quick) turns pattern ends = tt
