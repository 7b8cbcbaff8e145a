use Rattle.std.proofs.Common.{◌≡◌, ◌≤◌, ◌+◌, ◌++◌, List, length, option_copied, vec_len, vec_capacity}
use Rattle.word_runner.specs.declared.block.Block.{Block}
use Rattle.word_runner.specs.Words.{AreDone}
use Rattle.word_runner.proofs.words.run_words.Given as goal

-- the blocks of the words before, and room for those that are to come
abbrev pub invariant-loop-place : goal.invariant-loop-place
invariant-loop-place g l =
    (done : List Block) × (l.blocks.items ≡ l.fn.blocks.items ++ done) × (length done ≡ l.place)
    × AreDone (g.E.Enactor.enacts l.enactor) (g.E.Enactor.declines l.enactor) (option_copied l.settings) l.words 0 l.fn.standing done l.standing
    × (vec_len l.blocks + length l.words ≤ vec_capacity l.blocks + l.place)
