-- By induction on the entries.
use Rattle.std.proofs.Common.{◌≡◌, ◌+◌, List, true, false, [], ◌∷◌, Option, Some, sym, ap, ◌∙◌, subst}
use Rattle.std.specs.Prelude.{unwrap_or}
use Rattle.std.specs.List.{list_any}
use Rattle.definitions.specs.Calls.{Handed, step_with, Stepped}
use Rattle.definitions.specs.Master.{PidNote}
use Rattle.definitions.specs.Run.{Tree, Branches, Ends, Does, Nothing, Branch, Reply, lacked_by, lacked_after, reply_of}
use Rattle.definitions.specs.Run.{call_of, Pattern, Progress, Ran, run_with, goes_with, after_moment, after_call}
use Rattle.definitions.specs.Run.{same_reply}
use Rattle.call_laws.specs.Pieces.{branch}
use Rattle.further_theorems.specs.Merges.{GoesOn, IsAnswered, MergesAreRuns, WalksAreRuns}
use Rattle.theorems.specs.Apart.{WalksAll, turns_used}
use Rattle.definitions.specs.Plans.{weave}
use Rattle.definitions.specs.Table.{Table}
use Rattle.vocabulary.specs.declared.reports.Entry.{Entry}
use Rattle.theorems.proofs.Parting.{merges-woven}

-- the first edge that has the reply
follows : (handed : Handed) (branches : Branches) (r : Reply) (pattern : Pattern) (p : Progress)
    (edge : Option PidNote × Tree) →
    branch branches r ≡ Some edge → goes_with handed branches r pattern p ≡ run_with handed edge.1 pattern
    (record p { note = unwrap_or edge.0 p.note })
follows handed Nothing r pattern p edge e = absurd (cc (e))
follows handed (Branch replies said rest more) r pattern p edge e =
    elim (list_any (λ x. same_reply x r) replies) as (λ b.
    elim b as (λ c. Option (Option PidNote × Tree)) [ true ↦ Some (said, rest) | false ↦ branch more r ] ≡ Some edge →
    elim b as (λ c. Ran) [
      | true ↦ run_with handed rest pattern
          (record p { note = unwrap_or said p.note })
      | false ↦ goes_with handed more r pattern p
    ]
    ≡ run_with handed edge.1 pattern (record p { note = unwrap_or edge.0 p.note })) [
      | true ↦ λ e.
          let same : (said, rest) ≡ edge = cc (e) in
          ap (λ (x : Option PidNote × Tree). run_with handed x.1 pattern
          (record p { note = unwrap_or x.0 p.note })) same
      | false ↦ λ e. follows handed more r pattern p edge e
    ] e

pub walks-are-runs : WalksAreRuns
walks-are-runs handed tree pattern p [] last end walk replays = (
  ap (λ t. (run_with handed t pattern p).entries) walk,
  ap (λ t. (run_with handed t pattern p).last.table) walk ∙
      replays,
  ap (λ t. (run_with handed t pattern p).ending) walk,
)
walks-are-runs handed (Ends end') pattern p (e ∷ entries) last end walk replays = absurd walk
walks-are-runs handed (Does by order set branches) pattern p (e ∷ entries) last end walk replays =
    let moment = pattern (p.calls + 1) in
    let middle = after_moment moment.exits p in
    let call = call_of order (lacked_by by middle.lacked) in
    let s = step_with handed by call moment.fate middle.table in
    let told = step_with handed e.by e.call moment.fate middle.table in
    let same : s ≡ told = λ i. step_with handed (sym walk.0 i) (sym walk.1 i) moment.fate middle.table in
    let answer : s.answer ≡ e.answer = ap (λ (x : Stepped). x.answer) same ∙ replays.0 in
    let edge = walk.2 in
    let next = after_call by order set s middle in
    let after : Progress = record next { note = unwrap_or edge.0 next.note } in
    let follow : goes_with handed branches (reply_of set s.answer) pattern next ≡ run_with handed edge.1 pattern after =
    follows handed branches (reply_of set s.answer) pattern next edge (ap (λ a. branch branches
    (reply_of set a)) answer ∙ walk.3) in
    let more =
    walks-are-runs handed edge.1 pattern after entries last end
    (subst (λ a. WalksAll edge.1 (lacked_after by set a p.lacked) entries (Ends end)) (sym answer) walk.4)
    (subst (λ (x : Stepped). IsAnswered handed pattern (p.calls + 1) x.table entries last) (sym same) replays.1) in
    let first : record { by = by; call = call; answer = s.answer } ≡ e = λ i. record {
      by = sym walk.0 i;
      call = sym walk.1 i;
      answer = answer i;
    } in (
      (λ i. first i ∷ (ap (λ (x : Ran). x.entries) follow ∙ more.0) i),
      ap (λ (x : Ran). x.last.table) follow ∙ more.1,
      ap (λ (x : Ran). x.ending) follow ∙ more.2,
    )

-- The same up to any later place: the run goes on from there.
walks-go-on :
    (handed : Handed) (tree : Tree) (pattern : Pattern) (p : Progress) (entries : List Entry) (t : Table)
    (later : Tree) →
    WalksAll tree p.lacked entries later → IsAnswered handed pattern p.calls p.table entries t →
    GoesOn handed pattern (run_with handed tree pattern p) entries t later
walks-go-on handed tree pattern p [] t later walk answers = record {
  from = p;
  table = answers;
  entries_are = ap (λ x. (run_with handed x pattern p).entries) walk;
  last = ap (λ x. (run_with handed x pattern p).last) walk;
  ending = ap (λ x. (run_with handed x pattern p).ending) walk;
}
walks-go-on handed (Ends end') pattern p (e ∷ entries) t later walk answers = absurd walk
walks-go-on handed (Does by order set branches) pattern p (e ∷ entries) t later walk answers =
    let moment = pattern (p.calls + 1) in
    let middle = after_moment moment.exits p in
    let call = call_of order (lacked_by by middle.lacked) in
    let s = step_with handed by call moment.fate middle.table in
    let told = step_with handed e.by e.call moment.fate middle.table in
    let same : s ≡ told = λ i. step_with handed (sym walk.0 i) (sym walk.1 i) moment.fate middle.table in
    let answer : s.answer ≡ e.answer = ap (λ (x : Stepped). x.answer) same ∙ answers.0 in
    let edge = walk.2 in
    let next = after_call by order set s middle in
    let after : Progress = record next { note = unwrap_or edge.0 next.note } in
    let follow : goes_with handed branches (reply_of set s.answer) pattern next ≡ run_with handed edge.1 pattern after =
    follows handed branches (reply_of set s.answer) pattern next edge (ap (λ a. branch branches
    (reply_of set a)) answer ∙ walk.3) in
    let more =
    walks-go-on handed edge.1 pattern after entries t later
    (subst (λ a. WalksAll edge.1 (lacked_after by set a p.lacked) entries later) (sym answer) walk.4)
    (subst (λ (x : Stepped). IsAnswered handed pattern (p.calls + 1) x.table entries t) (sym same) answers.1) in
    let first : record { by = by; call = call; answer = s.answer } ≡ e =
    λ i. record { by = sym walk.0 i; call = sym walk.1 i; answer = answer i } in
    record {
      from = more.from;
      table = more.table;
      entries_are = λ i. first i ∷ (ap (λ (x : Ran). x.entries) follow ∙ more.entries_are) i;
      last = ap (λ (x : Ran). x.last) follow ∙ more.last;
      ending = ap (λ (x : Ran). x.ending) follow ∙ more.ending;
    }

pub merges-are-runs : MergesAreRuns
merges-are-runs handed pattern p join new old a b entries end other t ne of_new of_old counts both walk_new walk_old answers =
    walks-go-on handed (weave join new (turns_used new old entries) old) pattern p entries t (join end)
    (merges-woven join new old a b p.lacked entries (Ends end)
    (Ends other) ne of_new of_old counts both walk_new walk_old)
    answers
