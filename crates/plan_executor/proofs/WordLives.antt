-- Words are a life, by induction on the words.
use Rattle.std.proofs.Common.{◌≡◌, ℕ, zero, suc, ◌+◌, ◌<◌, ◌≤◌, nat_lt, Bool, true, false, List, [], ◌∷◌, Option, Some, None, Result, Ok, Err, refl, sym, ap, ◌∙◌, subst, arith}
use Rattle.std.specs.Prelude.{⊤, IfSome, is_none, ◌&&◌, if◌then◌else◌}
use Rattle.std.specs.Bool.{then_some}
use Rattle.std.proofs.lemmas.Bool.Decides.{nat_tests}
use Rattle.std.proofs.lemmas.Bool.{false≢true}
use Rattle.listener_set.specs.declared.generation.Generation.{Generation}
use Rattle.vocabulary.specs.Settings.{Settings, IsInRange}
use Rattle.vocabulary.specs.declared.reports.Report.{Report}
use Rattle.vocabulary.specs.declared.targets.Target.{Target}
use Rattle.vocabulary.specs.declared.targets.Target.TheVariants.{Workers, Mend, Reopen, Reload, Upgrade, Attended, Stop}
use Rattle.definitions.specs.Table.{Table}
use Rattle.definitions.specs.Master.{Record, has_next, reload_generation, upgrade_generation}
use Rattle.definitions.specs.After.{next_record}
use Rattle.definitions.specs.Claims.{run_of}
use Rattle.kernel_model.specs.State.{State}
use Rattle.kernel_model.specs.Pattern.{moment_at}
use Rattle.kernel_pattern.specs.declared.section.Section.{Section}
use Rattle.plan_walk.specs.Log.{Told}
use Rattle.upgrade_planner.specs.Planned.{HasPlan}
use Rattle.worker_table.specs.Beats.{Workers as Beats}
use Rattle.control_words.specs.declared.words.Word.{Word}
use Rattle.control_words.specs.declared.words.Word.TheVariants.{Hup, Quit, Int, Term, Usr1, Usr2, Usr2Attended, Winch, Ttin, Ttou, Beat, Tick}
use Rattle.control_words.specs.declared.refusal.WordRefusal.TheVariants.{AtMost, PidChanged}
use Rattle.worker_table.specs.declared.refusal.TableRefusal.{TableRefusal}
use Rattle.worker_table.specs.Calls.{beating}
use Rattle.word_runner.specs.declared.enactor.Enacted.{Enacted}
use Rattle.control_words.specs.Words.{taken_up, settings_for, one_more, one_less, is_same_path}
use Rattle.word_runner.specs.declared.block.Block.{Block}
use Rattle.word_runner.specs.declared.block.Block.TheVariants.{Heard, Unread}
use Rattle.word_runner.specs.declared.block.Body.{Body}
use Rattle.word_runner.specs.declared.block.Body.TheVariants.{Nothing, Refused, Ran}
use Rattle.word_runner.specs.declared.asking.Asked.{Asked}
use Rattle.word_runner.specs.declared.asking.Asked.TheVariants as asks
use Rattle.word_runner.specs.declared.standing.Standing.{Standing}
use Rattle.word_runner.specs.Asking.{asked_by, asked_of, IsNoted}
use Rattle.word_runner.specs.Words.{HasRun, IsAsked, IsHeard, AreDone}
use Rattle.plan_executor.specs.Words.{section_at, EnactsAt, DeclinesAt}
use Rattle.lives.specs.Lives.{Task, Through, Anything, AllowsTarget, run_at, reported_at, table_after, record_left_by, IsStanding, IsCarriedOut}
use Rattle.lives.proofs.Standing.{stands-after}
use Rattle.lives.proofs.Living.{lives-keep}
use Rattle.plan_executor.specs.WordLives.{LeadTo, WordsAreLives}

---- What words ask for is allowed

-- what settings say is in range, and numbers of workers are
abbrev InRange : Target → Type 0
InRange (Workers n) = n ≤ 1024
InRange (Reload s) = IsInRange s
InRange (Upgrade s) = IsInRange s
InRange (Attended s) = IsInRange s
InRange (Mend overdue) = ⊤
InRange Reopen = ⊤
InRange (Stop quick) = ⊤

abbrev InRangeAsked : Asked → Type 0
InRangeAsked (asks.Act target) = InRange target
InRangeAsked asks.Nothing = ⊤
InRangeAsked (asks.Beat beat) = ⊤
InRangeAsked (asks.Refused code) = ⊤

taken-range : (target_for : Settings → Target) → ((s : Settings) → IsInRange s → InRange (target_for s)) → (r : Record) (settings : Option Settings) →
    IfSome settings IsInRange → InRangeAsked (asked_of (taken_up target_for (settings_for r settings)))
taken-range target_for up r None h = tt
taken-range target_for up r (Some s) h = go (is_same_path s.pid r.pid_path)
  where
    go : (b : Bool) → InRangeAsked (asked_of (taken_up target_for (if b then Ok s else Err PidChanged)))
    go true = up s h
    go false = tt

more-range : (wanted : ℕ) → InRangeAsked (asked_of (one_more wanted))
more-range wanted = go (nat_lt wanted 1024) refl
  where
    go : (b : Bool) → nat_lt wanted 1024 ≡ b → InRangeAsked (asked_of (if b then Ok (Some (Workers (wanted + 1))) else Err AtMost))
    go true e = let lt : wanted < 1024 = grind (arith, nat_tests) in omega (arith, lt)
    go false e = tt

less-range : (wanted : ℕ) → wanted ≤ 1024 → InRangeAsked (asked_of (one_less wanted))
less-range zero le = tt
less-range (suc n) le = omega (arith, le)

asked-range : (word : Word) (r : Record) (workers : Beats) (settings : Option Settings) → r.wanted ≤ 1024 → IfSome settings IsInRange → InRangeAsked (asked_by word r workers settings)
asked-range Hup r workers settings le h = taken-range Reload (λ s range. range) r settings h
asked-range Quit r workers settings le h = tt
asked-range Int r workers settings le h = tt
asked-range Term r workers settings le h = tt
asked-range Usr1 r workers settings le h = tt
asked-range Usr2 r workers settings le h = taken-range Upgrade (λ s range. range) r settings h
asked-range Usr2Attended r workers settings le h = taken-range Attended (λ s range. range) r settings h
asked-range Winch r workers settings le h = omega arith
asked-range Ttin r workers settings le h = more-range r.wanted
asked-range Ttou r workers settings le h = less-range r.wanted le
asked-range (Beat nr now) r workers settings le h = tt
asked-range (Tick now) r workers settings le h = tt

-- where a generation is not lacking, its numbers are not the last ones
later : (b : Bool) (g : Generation) → is_none (then_some b g) ≡ false → b ≡ true
later true g h = refl
later false g h = absurd (false≢true (sym h))

allowed : (target : Target) (r : Record) → InRange target → HasPlan r target → AllowsTarget r target
allowed (Workers n) r range plan = range
allowed (Mend overdue) r range plan = tt
allowed Reopen r range plan = tt
allowed (Reload s) r range plan = (range, later (has_next r.generation.config) (reload_generation r.generation) plan)
allowed (Upgrade s) r range plan = (range, later (has_next r.generation.image && has_next r.generation.config) (upgrade_generation r.generation) plan)
allowed (Attended s) r range plan = (range, later (has_next r.generation.image && has_next r.generation.config) (upgrade_generation r.generation) plan)
allowed (Stop quick) r range plan = tt

---- One word, and all

-- A life from one standing: its tasks, that they are carried out, and where they lead.
record Lives (first last : Standing State) (blocks : List Block) : Type 0 where
  tasks : List Task
  carried_out : Through Anything IsCarriedOut first.world.table first.record tasks
  leads : LeadTo first.world.table first.record blocks tasks last.world.table last.record

module _ (sections : List Section) (settings : Option Settings) (range : IfSome settings IsInRange) where
  abbrev Enacts : State → ℕ → Record → Target → Enacted → State → Type 0
  Enacts = EnactsAt sections

  abbrev Stands : Standing State → Type 0
  Stands s = IfSome s.record (IsStanding s.world.table)

  abbrev task_at : ℕ → Target → Task
  task_at place target = record {
    target = target;
    turns = (section_at sections place).turns;
    pattern = moment_at (section_at sections place).pattern;
  }

  -- what a run of words says of its task
  record Did (place : ℕ) (old : Standing State) (r : Record) (target : Target) (log : Told) (report : Report) (new : Standing State) : Type 0 where
    carried_out : IsCarriedOut old.world.table r (task_at place target)
    entries : log.entries ≡ (run_at old.world.table r (task_at place target)).entries
    report_is : report ≡ reported_at old.world.table r (task_at place target)
    table : table_after old.world.table r (task_at place target) ≡ new.world.table
    left : record_left_by old.world.table r (task_at place target) ≡ new.record

  did :
      (place : ℕ) (old : Standing State) (r : Record) (target : Target) (log : Told) (report : Report) (new : Standing State) → InRange target →
      HasRun Enacts place old r target log report new → Did place old r target log report new
  did place old r target log report new in_range h =
      let is = h.enacted in
      let ran = run_of r target (section_at sections place).turns (moment_at (section_at sections place).pattern) old.world.table in
      record {
        carried_out = record { allows = allowed target r in_range is.has_plan; spared = is.spared };
        entries = sym is.is_run.entries_are;
        report_is = is.is_run.report_is;
        table = is.is_run.table;
        left = (λ i. next_record r target (sym is.is_run.report_is i) (is.is_run.table i)) ∙ sym is.after;
      }

  -- the tasks behind a block that is not a run
  still : (old new last : Standing State) (blocks : List Block) → new.world.table ≡ old.world.table → new.record ≡ old.record → Lives new last blocks → Lives old last blocks
  still old new last blocks table state l = record {
    tasks = l.tasks;
    carried_out = subst (λ (t : Table). Through Anything IsCarriedOut t old.record l.tasks) table (subst (λ (o : Option Record). Through Anything IsCarriedOut new.world.table o l.tasks) state l.carried_out);
    leads =
        subst (λ (t : Table). LeadTo t old.record blocks l.tasks last.world.table last.record) table
        (subst (λ (o : Option Record). LeadTo new.world.table o blocks l.tasks last.world.table last.record) state l.leads);
  }

  -- and behind one that is
  ran :
      (place : ℕ) (word : Word) (old : Standing State) (r : Record) (target : Target) (log : Told) (report : Report) (new last : Standing State)
      (blocks : List Block) → old.record ≡ Some r → Did place old r target log report new → Lives new last blocks →
      Lives old last (Heard word (Ran log report) ∷ blocks)
  ran place word old r target log report new last blocks e d l =
      let task = task_at place target in
      let t = old.world.table in
      record {
        tasks = task ∷ l.tasks;
        carried_out =
            subst (λ (o : Option Record). Through Anything IsCarriedOut t o (task ∷ l.tasks)) (sym e) (
              tt,
              d.carried_out,
              subst (λ (u : Table). Through Anything IsCarriedOut u (record_left_by t r task) l.tasks) (sym d.table)
                  (subst (λ (o : Option Record). Through Anything IsCarriedOut new.world.table o l.tasks) (sym d.left) l.carried_out),
            );
        leads =
            subst (λ (o : Option Record). LeadTo t o (Heard word (Ran log report) ∷ blocks) (task ∷ l.tasks) last.world.table last.record) (sym e) (
              d.entries,
              d.report_is,
              subst (λ (u : Table). LeadTo u (record_left_by t r task) blocks l.tasks last.world.table last.record) (sym d.table)
                  (subst (λ (o : Option Record). LeadTo new.world.table o blocks l.tasks last.world.table last.record) (sym d.left) l.leads),
            );
      }

  stands-new :
      (place : ℕ) (old : Standing State) (r : Record) (target : Target) (log : Told) (report : Report) (new : Standing State) →
      IsStanding old.world.table r → Did place old r target log report new → Stands new
  stands-new place old r target log report new s d =
      subst (λ (t : Table). IfSome new.record (IsStanding t)) d.table
      (subst (λ (o : Option Record). IfSome o (IsStanding (table_after old.world.table r (task_at place target)))) d.left
      (stands-after old.world.table r (task_at place target) s d.carried_out))

  -- a block that is no run
  abbrev IsNoRun : Body → Type 0
  IsNoRun Nothing = ⊤
  IsNoRun (Refused code) = ⊤
  IsNoRun (Ran log report) = ⊥

  quiet-block :
      (word : Word) (body : Body) (old new last : Standing State) (blocks : List Block) → IsNoRun body → new.world.table ≡ old.world.table →
      new.record ≡ old.record → Lives new last blocks → Lives old last (Heard word body ∷ blocks)
  quiet-block word Nothing old new last blocks n table state l =
      let k = still old new last blocks table state l in record { tasks = k.tasks; carried_out = k.carried_out; leads = k.leads }
  quiet-block word (Refused code) old new last blocks n table state l =
      let k = still old new last blocks table state l in record { tasks = k.tasks; carried_out = k.carried_out; leads = k.leads }
  quiet-block word (Ran log report) old new last blocks n table state l = absurd n

  noted-no-run :
      (answer : Result (Unit {0}) TableRefusal) (nr now : ℕ) (old : Beats) (body : Body) (new : Beats) → IsNoted answer nr now old body new → IsNoRun body
  noted-no-run (Ok u) nr now old body new is = subst IsNoRun (sym is.0) tt
  noted-no-run (Err refusal) nr now old body new is = subst IsNoRun (sym is.0) tt

  -- what comes of one word, where the others are a life from where it leads
  abbrev Rest : Standing State → Standing State → List Block → Type 0
  Rest new last blocks = Stands new → Lives new last blocks

  quiet-word :
      (word : Word) (body : Body) (old new last : Standing State) (blocks : List Block) → IsNoRun body → new.world.table ≡ old.world.table →
      new.record ≡ old.record → Stands old → Rest new last blocks → Lives old last (Heard word body ∷ blocks)
  quiet-word word body old new last blocks n table state s rest =
      quiet-block word body old new last blocks n table state
      (rest (subst (λ (t : Table). IfSome new.record (IsStanding t)) (sym table) (subst (λ (o : Option Record). IfSome o (IsStanding old.world.table)) (sym state) s)))

  by-asked :
      (what : Asked) (place : ℕ) (word : Word) (r : Record) (old : Standing State) (body : Body) (new last : Standing State) (blocks : List Block) →
      InRangeAsked what → old.record ≡ Some r → Stands old → IsStanding old.world.table r →
      IsAsked Enacts (DeclinesAt sections) what place r old body new → Rest new last blocks → Lives old last (Heard word body ∷ blocks)
  by-asked asks.Nothing place word r old body new last blocks in_range e here s is rest =
      quiet-word word body old new last blocks (subst IsNoRun (sym is.0) tt) (ap (λ (x : Standing State). x.world.table) is.1) (ap (λ (x : Standing State). x.record) is.1) here rest
  by-asked (asks.Refused code) place word r old body new last blocks in_range e here s is rest =
      quiet-word word body old new last blocks (subst IsNoRun (sym is.0) tt) (ap (λ (x : Standing State). x.world.table) is.1) (ap (λ (x : Standing State). x.record) is.1) here rest
  by-asked (asks.Beat beat) place word r old body new last blocks in_range e here s is rest =
      quiet-word word body old new last blocks (noted-no-run (beating old.workers beat.nr beat.now) beat.nr beat.now old.workers body new.workers is.0)
      (ap (λ (x : Standing State). x.world.table) is.1) (ap (λ (x : Standing State). x.record) is.1) here rest
  by-asked (asks.Act target) place word r old Nothing new last blocks in_range e here s is rest = absurd is
  by-asked (asks.Act target) place word r old (Refused code) new last blocks in_range e here s is rest =
      quiet-word word (Refused code) old new last blocks tt (ap (λ (x : Standing State). x.world.table) is.still) (ap (λ (x : Standing State). x.record) is.still) here rest
  by-asked (asks.Act target) place word r old (Ran log report) new last blocks in_range e here s is rest =
      let d = did place old r target log report new in_range is in
      ran place word old r target log report new last blocks e d (rest (stands-new place old r target log report new s d))

  by-heard :
      (state : Option Record) (word : Word) (place : ℕ) (old : Standing State) (body : Body) (new last : Standing State) (blocks : List Block) →
      old.record ≡ state → Stands old → IsHeard Enacts (DeclinesAt sections) state settings word place old body new → Rest new last blocks →
      Lives old last (Heard word body ∷ blocks)
  by-heard None word place old body new last blocks e here is rest =
      quiet-word word body old new last blocks (subst IsNoRun (sym is.0) tt) (ap (λ (x : Standing State). x.world.table) is.1) (ap (λ (x : Standing State). x.record) is.1) here rest
  by-heard (Some r) word place old body new last blocks e here is rest =
      let s = subst (λ (o : Option Record). IfSome o (IsStanding old.world.table)) e here in
      by-asked (asked_by word r old.workers settings) place word r old body new last blocks
      (asked-range word r old.workers settings s.start.record_in_range.wanted range) e here s is rest

  all-live :
      (words : List Word) (place : ℕ) (first : Standing State) (blocks : List Block) (last : Standing State) → Stands first →
      AreDone Enacts (DeclinesAt sections) settings words place first blocks last → Lives first last blocks
  all-live words place first [] last here done =
      record {
        tasks = [];
        carried_out = nothing first.world.table first.record;
        leads = (refl, ap (λ (x : Standing State). x.world.table) done, ap (λ (x : Standing State). x.record) done);
      }
    where
      nothing : (t : Table) (state : Option Record) → Through Anything IsCarriedOut t state []
      nothing t None = tt
      nothing t (Some r) = tt
  all-live [] place first (b ∷ blocks) last here done = absurd done
  all-live (w ∷ words) place first (Unread refusal ∷ blocks) last here done = absurd done
  all-live (w ∷ words) place first (Heard own body ∷ blocks) last here done =
      subst (λ x. Lives first last (Heard x body ∷ blocks)) (sym done.1)
      (by-heard first.record w place first body done.0 last blocks refl here done.2 (λ s. all-live words (place + 1) done.0 blocks last s done.3))

pub words-live : WordsAreLives
words-live sections settings words first last blocks r range e s done =
    let here = subst (λ (o : Option Record). IfSome o (IsStanding first.world.table)) (sym e) s in
    let l = all-live sections settings range words 0 first blocks last here done in
    let carried = subst (λ (o : Option Record). Through Anything IsCarriedOut first.world.table o l.tasks) e l.carried_out in
    record {
      tasks = l.tasks;
      carried_out = carried;
      leads = subst (λ (o : Option Record). LeadTo first.world.table o blocks l.tasks last.world.table last.record) e l.leads;
      keeps = lives-keep first.world.table r l.tasks s carried;
    }
