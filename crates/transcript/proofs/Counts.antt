-- What the last count among calls said.
use Rattle.std.proofs.Common.{◌≡◌, ℕ, List, [], ◌∷◌, ◌++◌, refl}
use Rattle.definitions.specs.Run.{ready_after}
use Rattle.vocabulary.specs.declared.reports.Entry.{Entry}
use Rattle.transcript.specs.Reading.{count_after, last_count}

after_more : (ready : List ℕ) (es : List Entry) (e : Entry) → count_after ready (es ++ e ∷ []) ≡ ready_after e.answer (count_after ready es)
after_more ready [] e = refl
after_more ready (x ∷ es) e = after_more (ready_after x.answer ready) es e

-- a call more says what it counts, or what the last count said
pub count_more : (es : List Entry) (e : Entry) → last_count (es ++ e ∷ []) ≡ ready_after e.answer (last_count es)
count_more es e = after_more [] es e
