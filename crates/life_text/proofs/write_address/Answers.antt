use Rattle.std.proofs.Common.{◌≡◌, ◌++◌, codes, ap, ◌∙◌, append_assoc}
use Rattle.life_text.specs.LifeText.{address_text}
use Rattle.life_text.proofs.write_address.Goals as goal

pub returns : goal.returns
unfolding address_text
returns c =
    let before = c.args.out.now.items in
    let name = codes "open throughout " in
    c.in_ok-extend_from_slice-2.ensures.items
    ∙ ap (λ xs. xs ++ c.bytes.result.now) c.in_ok-extend_from_slice.ensures.items
    ∙ ap (λ xs. before ++ name ++ xs) c.bytes.ensures.text
    ∙ append_assoc before name c.args.address.now
