use Rattle.std.proofs.Common.{List, [], ◌∷◌, ◌++◌, replicate, append_assoc, sym, ◌∙◌, ap}
use Rattle.std.proofs.lemmas.List.{replicate_more}
use Rattle.definitions.specs.Plans.{Turn, New}
use Rattle.certifier.specs.Turns.{used_in}
use Rattle.certifier.proofs.turns_used.TurnsUsed.add.Goals as goal

pub returns-in-New-clause-used : goal.returns-in-New-clause-used
returns-in-New-clause-used c =
    let old = c.args.self.now in
    ap (λ (turns : List Turn). old.told ++ turns) (sym (replicate_more old.late New))
    ∙ (sym (append_assoc old.told (replicate old.late New) (New ∷ [])) ∙ ap (λ (turn : Turn). used_in old ++ turn ∷ []) (sym c.in-New.is))
