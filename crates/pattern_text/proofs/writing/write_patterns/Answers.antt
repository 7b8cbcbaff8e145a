use Rattle.std.proofs.Common.{◌≡◌, ℕ, zero, suc, ◌≤◌, ◌++◌, [], length, drop, refl, sym, ap, subst, ◌∙◌, arith, append-nil}
use Rattle.std.proofs.lemmas.List.{drop_all}
use Rattle.pattern_text.specs.PatternsWriting.{sections_from}
use Rattle.pattern_text.specs.Written.{AreSections}
use Rattle.pattern_text.proofs.Again.{read_again}
use Rattle.pattern_text.proofs.writing.write_patterns.Goals as goal

none_from : (n : ℕ) → sections_from n [] ≡ []
none_from zero = refl
none_from (suc n) = refl

pub returns-clause-again : goal.returns-clause-again
returns-clause-again c =
    let ss = c.args.sections.now in
    let out = c.loop-place.out.items in
    let place = c.loop-place.place in
    let all : length ss ≤ place = omega (arith, c.loop-place-test.false) in
    let none : drop place ss ≡ [] = drop_all place ss all in
    let rest : sections_from place (drop place ss) ≡ [] = ap (sections_from place) none ∙ none_from place in
    let is = sym (ap (λ t. out ++ t) rest ∙ append-nil out) ∙ c.loop-place.invariant.written in
    λ some. read_again out ss some (c.loop-place.invariant.sections (subst AreSections (sym none) tt)) is
