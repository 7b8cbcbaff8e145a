use Rattle.std.proofs.Common.{◌≡◌, ℕ, List, [], ◌∷◌, ◌++◌, sym, ap, ◌∙◌}
use Rattle.std.specs.Prelude.{codes}
use Rattle.std.specs.Fmt.{decimal}
use Rattle.std.proofs.lemmas.Result.{IfOk-equal}
use Rattle.std.proofs.lemmas.List.{append_assoc}
use Rattle.handover_text.specs.Spelling.{line_of}
use Rattle.handover_text.proofs.writing.put_generation.Goals as goal

-- the end of a line behind its beginning is the line
line_ended : (text name first rest : List ℕ) → text ++ name ++ first ++ line_of rest ≡ text ++ line_of (name ++ first ++ rest)
line_ended text name first rest =
    append_assoc (text ++ name) first (line_of rest)
    ∙ append_assoc text name (first ++ line_of rest)
    ∙ ap (λ t. text ++ t) (sym (append_assoc (name ++ first) rest (10 ∷ []) ∙ append_assoc name first (line_of rest)))

pub returns-clause-line : goal.returns-clause-line
returns-clause-line c =
    let image = c.args.generation.image in
    let config = c.args.generation.config in
    IfOk-equal c.put_numbered.result _ _ _ c.put_numbered.ensures
    (ap (λ t. t ++ line_of (32 ∷ decimal config)) c.in_ok-put_named.ensures
    ∙ line_ended c.args.text.now.items (codes "generation ") (decimal image) (32 ∷ decimal config))
