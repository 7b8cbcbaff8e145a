-- Blocks of a life, one more and all of them.
use Rattle.std.proofs.Common.{◌≡◌, ◌+◌, ◌-◌, ◌<◌, ℕ, List, [], ◌∷◌, ◌++◌, length, take, drop, get_or, slice_range, Option, Some, None, refl, sym, ap, ◌∙◌, subst, arith}
use Rattle.std.proofs.lemmas.List.{drop_more}
use Rattle.vocabulary.specs.Settings.{Settings}
use Rattle.vocabulary.specs.declared.targets.Target.{Target}
use Rattle.vocabulary.specs.declared.reports.Report.{Report}
use Rattle.definitions.specs.Calls.{Handed}
use Rattle.definitions.specs.Master.{Record, handover_for}
use Rattle.definitions.specs.Plans.{plan_tree}
use Rattle.definitions.specs.Run.{start_at}
use Rattle.definitions.specs.Claims.{run_of}
use Rattle.kernel_model.specs.Pattern.{moment_at}
use Rattle.kernel_model.specs.State.{State}
use Rattle.kernel_pattern.specs.declared.section.Section.{Section}
use Rattle.plan_walk.specs.Log.{Told}
use Rattle.control_words.specs.declared.words.Word.{Word}
use Rattle.word_runner.specs.declared.asking.Asked.{Asked}
use Rattle.word_runner.specs.declared.asking.Asked.TheVariants as asks
use Rattle.word_runner.specs.declared.block.Block.{Block}
use Rattle.word_runner.specs.declared.standing.Standing.{Standing}
use Rattle.word_runner.specs.Asking.{asked_by}
use Rattle.certifier.specs.Blocks.{goal_of, goals_then, goals_after, AreTaken, IsFollowed}
use Rattle.life_account.specs.Tables.{Passed}
use Rattle.life_account.specs.Account.{Account, stepped}
use Rattle.life_account.specs.Lived.{tables_asked, tables_by, IsLived, AreLived}
use Rattle.life_account.proofs.Passing.{run-stepped}

-- what they are taken for
pub lived-taken : (goals : List Settings) (n : ℕ) (bs : List Block) (old : Standing State) (before : Account) (ss : List Section)
    (new : Standing State) (after : Account) → AreLived goals n bs old before ss new after → AreTaken goals bs old ss new
lived-taken goals n [] old before [] new after are = are.0
lived-taken goals n [] old before (s ∷ ss) new after are = absurd are
lived-taken goals n (b ∷ bs) old before [] new after are = absurd are
lived-taken goals n (b ∷ bs) old before (s ∷ ss) new after are =
    (are.0, are.2.taken, lived-taken (goals_then b goals) (n + 1) bs are.0 are.1 ss new after are.3)

-- one more behind them
pub lived-more : (goals : List Settings) (n m : ℕ) (bs : List Block) (old : Standing State) (before : Account) (ss : List Section)
    (middle : Standing State) (a : Account) (b : Block) (s : Section) (new : Standing State) (after : Account) →
    AreLived goals n bs old before ss middle a → m ≡ n + length bs →
    IsLived m (goal_of (goals_after bs goals)) b middle a s new after → AreLived goals n (bs ++ b ∷ []) old before (ss ++ s ∷ []) new after
lived-more goals n m [] old before [] middle a b s new after are at is =
    let same : m ≡ n = omega arith in
    (new, after, here same, (refl, refl))
  where
    here : m ≡ n → IsLived n (goal_of goals) b old before s new after
    here same =
        subst (λ k. IsLived k (goal_of goals) b old before s new after) same
        (subst (λ (from : Standing State). IsLived m (goal_of goals) b from before s new after) are.0
        (subst (λ (x : Account). IsLived m (goal_of goals) b middle x s new after) are.1 is))
lived-more goals n m [] old before (z ∷ ss) middle a b s new after are at is = absurd are
lived-more goals n m (c ∷ bs) old before [] middle a b s new after are at is = absurd are
lived-more goals n m (c ∷ bs) old before (z ∷ ss) middle a b s new after are at is =
    let there : m ≡ n + 1 + length bs = omega arith in
    (are.0, are.1, are.2, lived-more (goals_then c goals) (n + 1) m bs are.0 are.1 ss middle a b s new after are.3 there is)

-- The tables of a run that is followed are those of its calls.
pub tables-followed : (settings : Option Settings) (word : Word) (log : Told) (report : Report) (old : Standing State)
    (section : Section) (new : Standing State) (r : Record) (target : Target) → old.record ≡ Some r →
    asked_by word r old.workers settings ≡ asks.Act target → IsFollowed settings word log.entries report old section new →
    stepped (handover_for r target) (moment_at section.pattern) 0 old.world.table log.entries ≡ tables_by old.record settings word old section
tables-followed settings word log report old section new r target runs asked is =
    let image : r ≡ is.master = cc in
    let t = old.world.table in
    let pattern = moment_at section.pattern in
    let again : asked_by word r old.workers settings ≡ asks.Act is.target = ap (λ (x : Record). asked_by word x old.workers settings) image ∙ is.asks in
    let same : target ≡ is.target = cc in
    let whole = run-stepped (handover_for r target) (plan_tree r target section.turns) pattern (start_at t r.note) in
    let entries = ap (λ (x : Record). (run_of x target section.turns pattern t).entries) image
    ∙ ap (λ (x : Target). (run_of is.master x section.turns pattern t).entries) same ∙ is.certified.is_run.entries_are in
    sym (ap (λ (state : Option Record). tables_by state settings word old section) runs
    ∙ ap (λ (a : Asked). tables_asked a r t section) asked ∙ whole
    ∙ ap (stepped (handover_for r target) pattern 0 t) entries)

-- the block at a place, as a list
pub one-block : (blocks : List Block) (n : ℕ) (b : Block) → n < length blocks → b ≡ get_or blocks n b → slice_range blocks n (n + 1) ≡ b ∷ []
one-block blocks n b inside is =
    let one : n + 1 - n ≡ 1 = omega arith in
    ap (λ k. take k (drop n blocks)) one ∙ ap (take 1) (drop_more blocks n b inside ∙ ap (λ x. x ∷ drop (n + 1) blocks) (sym is))
