-- A run makes no more calls than the longest path of its plan has steps.
use Rattle.std.proofs.Common.{◌+◌, ◌≤◌, true, false, length, arith}
use Rattle.std.specs.Prelude.{max}
use Rattle.definitions.specs.Run.{Tree, Branches, Ends, Does, Nothing, Branch, reply_of, Pattern, Progress, Ran}
use Rattle.definitions.specs.Run.{run_with, goes_with, after_moment, after_call}
use Rattle.call_laws.specs.Pieces.{among, answered, noted}
use Rattle.call_laws.specs.Lengths.{height, highest}
use Rattle.vocabulary.specs.declared.calls.Reply.{Reply}
use Rattle.definitions.specs.Calls.{Handed}

mutual
  pub calls-most : (handed : Handed) (t : Tree) (pattern : Pattern) (p : Progress) → length (run_with handed t pattern p).entries ≤ height t
  calls-most handed (Ends end) pattern p = omega arith
  calls-most handed (Does by order set branches) pattern p =
      let moment = pattern (p.calls + 1) in
      let middle = after_moment moment.exits p in
      let s = answered handed by order moment.fate middle in
      omega (arith, calls-behind handed branches (reply_of set s.answer) pattern (after_call by order set s middle))

  pub calls-behind :
      (handed : Handed) (bs : Branches) (r : Reply) (pattern : Pattern) (p : Progress) →
      length (goes_with handed bs r pattern p).entries ≤ highest bs
  calls-behind handed Nothing r pattern p = omega arith
  calls-behind handed (Branch replies said rest more) r pattern p =
      let here = calls-most handed rest pattern (noted said p) in
      let there = calls-behind handed more r pattern p in
      elim (among replies r) as
      (λ b. length (elim b as (λ c. Ran) [ true ↦ run_with handed rest pattern (noted said p) | false ↦ goes_with handed more r pattern p ]).entries ≤ max (height rest) (highest more)) [
        | true ↦ omega (arith, here)
        | false ↦ omega (arith, there)
      ]
