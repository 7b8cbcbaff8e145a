use Rattle.std.proofs.Common.{◌≡◌, map}
use Rattle.control_words.specs.declared.words.Word.TheVariants.{Beat}
use Rattle.master_on_children.proofs.master.tick_words.Given as goal

-- a beat for each number so far
abbrev pub invariant-loop-nr : goal.invariant-loop-nr
invariant-loop-nr l = l.words.items ≡ map (λ nr. Beat nr l.now) l.yielded
