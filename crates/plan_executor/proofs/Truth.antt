-- What words leave on the modelled kernel: the record stays true of it.
use Rattle.std.proofs.Common.{◌≡◌, inl, inr, ℕ, List, Option, Err, refl, sym, ◌∙◌, subst}
use Rattle.vocabulary.specs.Settings.{Settings}
use Rattle.definitions.specs.Table.{Table}
use Rattle.definitions.specs.Master.{Record, sides_of}
use Rattle.vocabulary.specs.declared.targets.Target.{Target}
use Rattle.definitions.specs.Run.{Ran as TheRun, report_of}
use Rattle.definitions.specs.After.{next_record}
use Rattle.vocabulary.specs.declared.targets.Target.TheVariants.{Workers, Mend, Reopen, Reload, Upgrade, Attended, Stop}
use Rattle.vocabulary.specs.declared.reports.Report.{Report}
use Rattle.definitions.specs.Claims.{run_of, AgreesAfter, IsSucceeded}
use Rattle.kernel_model.specs.State.{State}
use Rattle.kernel_model.specs.Pattern.{moment_at}
use Rattle.control_words.specs.declared.words.Word.{Word}
use Rattle.word_runner.specs.declared.block.Block.{Block}
use Rattle.word_runner.specs.Enactors.{HasCode}
use Rattle.word_runner.specs.declared.standing.Standing.{Standing}
use Rattle.word_runner.specs.Words.{HasRun, AreDone}
use Rattle.word_runner.proofs.Keeping.{done-keeps}
use Rattle.plan_walk.specs.Log.{Told}
use Rattle.plan_executor.specs.declared.enactment.EnactRefusal.{EnactRefusal}
use Rattle.plan_executor.specs.declared.enactment.EnactRefusal.TheVariants.{Memory, RecordDisagrees, Plan, MasterNamed, NoNumbers}
use Rattle.plan_executor.specs.Codes.{target_refusal}
use Rattle.plan_executor.specs.Refusals.{IsRefused}
use Rattle.kernel_pattern.specs.declared.section.Section.{Section}
use Rattle.plan_executor.specs.Words.{section_at, EnactsAt, DeclinesAt, IsTrueOf}
use Rattle.plan_executor.proofs.Exact.{IsExact}

---- A refused target

-- the refusal that an enactment answers with fits, unless it is want of memory
fits : (t : Table) (r : Record) (target : Target) (sections : List Section) (place : ℕ) (why : EnactRefusal) →
    IsExact t r target (section_at sections place).turns (moment_at (section_at sections place).pattern) (Err why) →
    (why ≡ Memory → ⊥) → IsRefused t r target (section_at sections place).turns
    (moment_at (section_at sections place).pattern) why
fits t r target sections place why exact other = elim (exact why) [ inl memory ↦ absurd (other (cc)) | inr only ↦ only.0 refl ]

pub declined-is : (sections : List Section) (first : State) (place : ℕ) (r : Record) (target : Target) (why : EnactRefusal) →
    IsExact first.table r target (section_at sections place).turns (moment_at (section_at sections place).pattern)
    (Err why) → HasCode (DeclinesAt sections first place r target) (target_refusal why)
declined-is sections first place r target Memory exact = tt
declined-is sections first place r target RecordDisagrees exact = record { why = RecordDisagrees; is_refused = fits first.table r target sections place RecordDisagrees exact (λ e. cc); code_is = refl }
declined-is sections first place r target (Plan refusal) exact = record { why = Plan refusal; is_refused = fits first.table r target sections place (Plan refusal) exact (λ e. cc); code_is = refl }
declined-is sections first place r target (MasterNamed moment) exact = record { why = MasterNamed moment; is_refused = fits first.table r target sections place (MasterNamed moment) exact (λ e. cc); code_is = refl }
declined-is sections first place r target NoNumbers exact = record { why = NoNumbers; is_refused = fits first.table r target sections place NoNumbers exact (λ e. cc); code_is = refl }

---- The record stays true

-- the record that agrees after a run is the one that is left
agreed : (target : Target) (r : Record) (state : Option Record) (report : Report) (t : Table) →
    state ≡ next_record r target report t → AgreesAfter r target report t → IsTrueOf t state
agreed target r state report t is after = subst (IsTrueOf t) (sym (is ∙ after.is)) after.agrees

left-true : (target : Target) (r : Record) (state : Option Record) (first : Table) (ran : TheRun) →
    state ≡ next_record r target (report_of (sides_of r target) ran) ran.last.table → IsSucceeded r target first ran →
    IsTrueOf ran.last.table state
left-true (Workers n) r state first ran is after = agreed (Workers n) r state (report_of (sides_of r (Workers n)) ran) ran.last.table is after
left-true (Mend overdue) r state first ran is after = agreed (Mend overdue) r state (report_of (sides_of r (Mend overdue)) ran) ran.last.table is after
left-true Reopen r state first ran is after = agreed Reopen r state (report_of (sides_of r Reopen) ran) ran.last.table is after
left-true (Reload s) r state first ran is after = agreed (Reload s) r state (report_of (sides_of r (Reload s)) ran) ran.last.table is after
left-true (Upgrade s) r state first ran is after = agreed (Upgrade s) r state (report_of (sides_of r (Upgrade s)) ran) ran.last.table is after
left-true (Attended s) r state first ran is after = agreed (Attended s) r state (report_of (sides_of r (Attended s)) ran) ran.last.table is after
left-true (Stop quick) r state first ran is after = subst (IsTrueOf ran.last.table) (sym (is ∙ after.0)) tt

-- a run leaves a record that is true of the kernel
ran-true : (sections : List Section) (place : ℕ) (old : Standing State) (r : Record) (target : Target) (log : Told)
    (report : Report) (new : Standing State) → HasRun (EnactsAt sections) place old r target log report new →
    IsTrueOf new.world.table new.record
ran-true sections place old r target log report new h =
    let is = h.enacted in
    let ran = run_of r target (section_at sections place).turns (moment_at (section_at sections place).pattern) old.world.table in
    let left : new.record ≡ next_record r target (report_of (sides_of r target) ran) ran.last.table = is.after ∙ (λ i. next_record r target (is.is_run.report_is i) (sym is.is_run.table i)) in
    subst (λ (t : Table). IsTrueOf t new.record) is.is_run.table (left-true target r new.record old.world.table ran left is.headline.after)

pub done-true : (sections : List Section) (settings : Option Settings) (words : List Word) (first : Standing State)
    (blocks : List Block) (last : Standing State) →
    AreDone (EnactsAt sections) (DeclinesAt sections) settings words 0 first blocks last →
    IsTrueOf first.world.table first.record → IsTrueOf last.world.table last.record
done-true sections settings words first blocks last done true_of =
    done-keeps (EnactsAt sections) (DeclinesAt sections) (λ (k : State) (state : Option Record). IsTrueOf k.table state)
    (λ place old r target log report new h _. ran-true sections place old r target log report new h) settings words 0 first blocks last done true_of
