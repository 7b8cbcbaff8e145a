-- What answers show.
use Rattle.std.proofs.Common.{◌≡◌, true, false, List, [], None, refl, sym, ◌∙◌, ap}
use Rattle.std.specs.Prelude.{if◌then◌else◌}
use Rattle.std.proofs.lemmas.Bool.{false≢true}
use Rattle.vocabulary.specs.declared.calls.Call.{Call}
use Rattle.vocabulary.specs.declared.calls.Answer.{Answer}
use Rattle.vocabulary.specs.declared.calls.Answer.TheVariants as answer
use Rattle.definitions.specs.Calls.{Name}
use Rattle.definitions.specs.Run.{reply_of, same_reply, Entry}
use Rattle.call_laws.specs.Pieces.{quiet}
use Rattle.certifier.specs.Shown.{is_count, uncounted, found_gone, fate_of, moment_by}

-- an answer that counts nobody leaves nobody uncounted
pub uncounted-none : (call : Call) (a own : Answer) → is_count a ≡ false → uncounted call a own ≡ []
uncounted-none call (answer.Counted counted) own none = absurd (false≢true (sym none))
uncounted-none call _ own none = refl

-- where the call is answered so by itself, and nothing is counted, the moment is quiet
pub itself-quiet : (own : Answer) (e : Entry) → is_count e.answer ≡ false → same_reply (reply_of [] own) (reply_of [] e.answer) ≡ true → moment_by own e ≡ quiet
itself-quiet own e none same =
    ap (λ b. if b then record { exits = uncounted e.call e.answer own; fate = None } else record { exits = found_gone e.by e.call e.answer; fate = fate_of e.answer }) same
    ∙ ap (λ (names : List Name). record { exits = names; fate = None }) (uncounted-none e.call e.answer own none)
