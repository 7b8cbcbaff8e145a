use Rattle.std.proofs.Common.{◌≡◌, ◌∷◌, ◌++◌, [], refl, sym, ap, subst, ◌∙◌, append_assoc, append-nil}
use Rattle.listener_set.specs.Numbers.{with_number, RisesFrom}
use Rattle.listener_set.specs.DescriptorSetLemmas.{AreAllDescriptors, all-append}
use Rattle.listener_set.proofs.Rising.{with_number-above}
use Rattle.listener_set.proofs.DescriptorWords.{all_of, before}
use Rattle.listener_set.proofs.descriptor_set.DescriptorSet.of.Goals as goal

pub loop-number-preserved : goal.loop-number-preserved
loop-number-preserved c =
    let done = c.loop-number.yielded in
    let n = c.in-Some.number in
    let rest = c.next.new.self in
    let turn : c.loop-number.number-iterator ≡ n ∷ rest = c.in-Some.ensures.steps in
    let whole : done ++ n ∷ rest ≡ c.args.numbers.now = ap (λ xs. done ++ xs) (sym turn) ∙ c.loop-number.invariant.split in
    let rising = subst (RisesFrom 0) (sym whole) c.iter-number-items.ensures.numbers.rising in
    record {
      split = append_assoc done (n ∷ []) rest ∙ whole;
      set = c.add.ensures ∙ ap (λ fds. with_number fds n) c.loop-number.invariant.set ∙ with_number-above done n (before done rest n 0 rising);
      all = all-append done (n ∷ []) c.loop-number.invariant.all (c.if-not-is_descriptor.ensures.0 refl, tt);
    }

pub returns-clause-none : goal.returns-clause-none
returns-clause-none c =
    let ended : c.loop-number.number-iterator ≡ [] = c.in-None.ensures.steps.0 in
    let all : c.loop-number.yielded ≡ c.args.numbers.now = sym (append-nil c.loop-number.yielded) ∙ ap (λ xs. c.loop-number.yielded ++ xs) (sym ended) ∙ c.loop-number.invariant.split in
    (λ _. all_of c.args.numbers.now (subst AreAllDescriptors all c.loop-number.invariant.all), λ _. refl)
