use Rattle.std.proofs.Common.{◌≡◌, ◌+◌, ◌++◌, [], ◌∷◌, length, get_or, refl, sym, ◌∙◌, ap, arith, append_assoc, length-append, option_copied}
use Rattle.std.proofs.lemmas.List.{append-nil}
use Rattle.control_words.specs.declared.words.Word.TheVariants.{Hup}
use Rattle.word_runner.specs.declared.block.Block.{Block}
use Rattle.word_runner.specs.declared.block.Block.TheVariants.{Heard}
use Rattle.word_runner.proofs.Wording.{done-more}
use Rattle.word_runner.proofs.words.run_words.Goals as goal

pub loop-place-init : goal.loop-place-init
loop-place-init g c = ([], c.in_ok-reserve.ensures.items ∙ sym (append-nil c.args.blocks.now.items), refl, refl, omega (arith, c.in_ok-reserve.ensures.ok))

pub loop-place-preserved : goal.loop-place-preserved
loop-place-preserved g c =
    let h = c.loop-place.invariant in
    let old = c.args.blocks.now.items in
    let block : Block = Heard (get_or c.args.words.now c.loop-place.place Hup) c.in_ok-body.body in
    let items = c.push_reserved.ensures.items ∙ (ap (λ xs. xs ++ block ∷ []) h.1 ∙ append_assoc old h.0 (block ∷ [])) in
    let count : length (h.0 ++ block ∷ []) ≡ c.loop-place.place + 1 = omega (arith, length-append h.0 (block ∷ []), h.2) in
    let done =
    done-more (g.E.Enactor.enacts c.args.enactor.now) (g.E.Enactor.declines c.args.enactor.now) (option_copied c.args.settings) c.args.words.now c.args.standing.now h.0
    c.loop-place.standing c.run_word.new.standing c.loop-place.place Hup
    c.in_ok-body.body c.loop-place-test.true h.2 h.3 c.in_ok-body.ensures.ok in
    (h.0 ++ block ∷ [], items, count, done, omega (arith, h.4, c.push_reserved.ensures.len, c.push_reserved.ensures.capacity))

pub returns-clause-all : goal.returns-clause-all
returns-clause-all g c =
    let h = c.loop-place.invariant in
    omega (arith, ap length h.1, length-append c.args.blocks.now.items h.0, h.2)
