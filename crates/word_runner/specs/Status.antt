-- The exit status of a run.
use Rattle.std.specs.Prelude.{ℕ, ◌==◌, ◌||◌, max, List, [], ◌∷◌, if◌then◌else◌}
use Rattle.vocabulary.specs.declared.reports.Outcome.{Outcome}
use Rattle.vocabulary.specs.declared.reports.Outcome.TheVariants as outcome
use Rattle.word_runner.specs.declared.block.Block.{Block}
use Rattle.word_runner.specs.declared.block.Block.TheVariants.{Heard, Unread}
use Rattle.word_runner.specs.declared.block.Body.{Body}
use Rattle.word_runner.specs.declared.block.Body.TheVariants as body

-- 3 where the word was rolled back, 4 where some workers are lacking
abbrev pub outcome_status : Outcome → ℕ
outcome_status outcome.Done = 0
outcome_status outcome.RolledBack = 3
outcome_status (outcome.Degraded side short) = 4
outcome_status outcome.Lost = 1

-- 1 where the word was refused
abbrev pub body_status : Body → ℕ
body_status body.Nothing = 0
body_status (body.Refused code) = 1
body_status (body.Ran transcript report) = outcome_status report.outcome

-- 1 where the line was no word
abbrev pub status_of : Block → ℕ
status_of (Heard word body) = body_status body
status_of (Unread refusal) = 1

-- 1 outweighs 4, and 4 outweighs 3
abbrev pub graver : ℕ → ℕ → ℕ
graver one other = if (one == 1) || (other == 1) then 1 else max one other

abbrev pub status_after : ℕ → List Block → ℕ
status_after status [] = status
status_after status (block ∷ blocks) = status_after (graver status (status_of block)) blocks

-- that of several words, 0 where there is none
abbrev pub gravest : List Block → ℕ
gravest blocks = status_after 0 blocks
