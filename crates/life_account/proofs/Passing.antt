-- The tables that a run passes are those of its calls.
use Rattle.std.proofs.Common.{◌≡◌, ◌+◌, Bool, true, false, List, [], ◌∷◌, map, refl, sym, ap, ◌∙◌}
use Rattle.std.specs.Prelude.{if◌then◌else◌}
use Rattle.vocabulary.specs.declared.calls.Reply.{Reply}
use Rattle.definitions.specs.Table.{Table}
use Rattle.definitions.specs.Calls.{Handed}
use Rattle.definitions.specs.Run.{Tree, Branches, Ends, Does, Nothing, Branch, reply_of, Pattern, Progress, Ran, run_with, goes_with, after_moment, after_call}
use Rattle.call_laws.specs.Pieces.{among, noted, answered}
use Rattle.life_account.specs.Tables.{Passed}
use Rattle.life_account.specs.Account.{passed_at, tables_of, stepped}

-- what a run's tables are
abbrev IsStepped : Handed → Pattern → Progress → Ran → Type 0
IsStepped handed pattern p ran = tables_of ran ≡ stepped handed pattern p.calls p.table ran.entries

mutual
  pub run-stepped : (handed : Handed) (tree : Tree) (pattern : Pattern) (p : Progress) → IsStepped handed pattern p (run_with handed tree pattern p)
  run-stepped handed (Ends end) pattern p = refl
  run-stepped handed (Does by order set branches) pattern p =
      let moment = pattern (p.calls + 1) in
      let middle = after_moment moment.exits p in
      let s = answered handed by order moment.fate middle in
      let rest = goes-stepped handed branches (reply_of set s.answer) pattern (after_call by order set s middle) in
      ap (λ (ts : List Passed). passed_at p ∷ passed_at middle ∷ ts) rest

  pub goes-stepped : (handed : Handed) (bs : Branches) (r : Reply) (pattern : Pattern) (p : Progress) → IsStepped handed pattern p (goes_with handed bs r pattern p)
  goes-stepped handed Nothing r pattern p = refl
  goes-stepped handed (Branch replies said rest more) r pattern p =
      let here = run-stepped handed rest pattern (noted said p) in
      let there = goes-stepped handed more r pattern p in
      elim (among replies r) as
      (λ b. IsStepped handed pattern p (elim b as (λ c. Ran) [ true ↦ run_with handed rest pattern (noted said p) | false ↦ goes_with handed more r pattern p ])) [
        | true ↦ here
        | false ↦ there
      ]
