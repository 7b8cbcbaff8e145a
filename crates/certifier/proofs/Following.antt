-- A word whose calls are certified, and what they lead to.
use Rattle.std.proofs.Common.{◌≡◌, ◌⊎◌, List, [], ◌∷◌, Option, Some, Result, sym, ◌∙◌, ap, subst}
use Rattle.std.specs.Prelude.{◌↔◌}
use Rattle.std.specs.Result.{IsErrOf}
use Rattle.vocabulary.specs.Settings.{Settings}
use Rattle.vocabulary.specs.declared.targets.Target.{Target}
use Rattle.vocabulary.specs.declared.reports.Entry.{Entry}
use Rattle.vocabulary.specs.declared.reports.Report.{Report}
use Rattle.definitions.specs.Master.{Record}
use Rattle.definitions.specs.After.{next_record}
use Rattle.kernel_model.specs.State.{State}
use Rattle.worker_table.specs.Beats.{followed}
use Rattle.control_words.specs.declared.words.Word.{Word}
use Rattle.word_runner.specs.declared.asking.Asked.{Asked}
use Rattle.word_runner.specs.declared.asking.Asked.TheVariants as asks
use Rattle.word_runner.specs.Asking.{asked_by}
use Rattle.word_runner.specs.Started.{started}
use Rattle.word_runner.specs.declared.enactor.Enacted.{Enacted}
use Rattle.word_runner.specs.declared.standing.Standing.{Standing}
use Rattle.plan_executor.specs.Words.{EnactsAt}
use Rattle.certifier.specs.Certified.{HasEnacted}
use Rattle.certifier.specs.Blocks.{IsFollowed, IsRunFault, IsRunFaultOf}
use Rattle.certifier.specs.Explained.{IsMismatch}
use Rattle.certifier.specs.declared.replay.Certificate.{Certificate}
use Rattle.mismatches.specs.declared.Mismatch.{Mismatch}
use Rattle.mismatches.specs.declared.Mismatch.TheVariants as mismatch
use Rattle.certifier.proofs.Matching.{IsExact}

---- What is certified is what is carried out

pub leads-on : (settings : Option Settings) (word : Word) (entries : List Entry) (report : Report)
    (old : Standing State) (r : Record) (target : Target) (it : Certificate) (after : Option Record)
    (new : Standing State) →
    old.record ≡ Some r → asked_by word r old.workers settings ≡ asks.Act target →
    HasEnacted old.world r target entries report it → after ≡ next_record r target report it.kernel.table →
    new.world ≡ it.kernel → new.record ≡ after →
    new.workers ≡ followed old.workers report.ready (started after entries) →
    IsFollowed settings word entries report old it.section new
leads-on settings word entries report old r target it after new runs asked is left world keeps follows = record {
  master = r;
  runs = runs;
  target = target;
  asks = asked;
  certified = is.certified;
  room = 0;
  carried_out = record {
    enacted =
        let told : Option Record → Enacted = λ a. record { log = record { entries = entries; room = 0 }; report = report; after = a } in
        let there = subst (λ (a : Option Record). EnactsAt (it.section ∷ []) old.world 0 r target (told a) it.kernel) (sym (keeps ∙ left)) (is.enacted 0) in
        subst (λ (k : State). EnactsAt (it.section ∷ []) old.world 0 r target (told new.record) k) (sym world) there;
    workers = follows ∙ ap (λ (a : Option Record). followed old.workers report.ready (started a entries)) (sym keeps);
  };
}

---- What is wrong with it

run-fault : (settings : Option Settings) (word : Word) (s : Standing State) (entries : List Entry) (report : Report)
    (state : Option Record) (r : Record) (target : Target) (why : Mismatch) →
    state ≡ Some r → asked_by word r s.workers settings ≡ asks.Act target →
    IsRunFaultOf state settings word s entries report why ≡ IsMismatch s.world.table r target entries report why
run-fault settings word s entries report state r target why runs asked =
    ap (λ (st : Option Record). IsRunFaultOf st settings word s entries report why) runs ∙ ap (λ (a : Asked). IsRunFault a s r entries report why) asked

-- the result is a mismatch exactly where that is wrong with calls and a report, want of memory aside
abbrev IsExactRun : {T : Type 0} → Option Settings → Word → Standing State → List Entry → Report → Option Record → Result T Mismatch → Type 0
IsExactRun settings word s entries report state result = (why : Mismatch) → IsErrOf result mismatch.Memory ⊎ (IsErrOf result why ↔ IsRunFaultOf state settings word s entries report why)

pub run-exact : {T : Type 0} (settings : Option Settings) (word : Word) (s : Standing State) (entries : List Entry)
    (report : Report) (state : Option Record) (r : Record) (target : Target) (result : Result T Mismatch) →
    state ≡ Some r → asked_by word r s.workers settings ≡ asks.Act target →
    IsExact s.world.table r target entries report result → IsExactRun settings word s entries report state result
run-exact settings word s entries report state r target result runs asked exact why =
    subst (λ (X : Type 0). IsErrOf result mismatch.Memory ⊎ (IsErrOf result why ↔ X)) (sym (run-fault settings word s entries report state r target why runs asked)) (exact why)
