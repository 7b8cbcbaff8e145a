use Rattle.std.proofs.Common.{◌≡◌, ◌<◌, [], ◌∷◌, true, is_some, get_or, length, ap, sym, ◌∙◌, arith}
use Rattle.std.proofs.lemmas.List.{get_or-map, length-map}
use Rattle.definitions.specs.Table.{live_master}
use Rattle.kernel_rows.specs.Seen.{seen_holder, caller_row}
use Rattle.kernel_table.specs.Seen.{seen}
use Rattle.kernel_table.proofs.Masters.{only-found}
use Rattle.kernel_table.proofs.store.Store.caller.Goals as goal

pub caller-requires : goal.caller-requires
caller-requires c = λ addresses.
    let h = c.at.result.now in
    ap (λ x. is_some (live_master c.args.image (seen_holder addresses x ∷ []))) (c.at.ensures h) ∙ c.in_ok-place.ensures.found.lives addresses h

pub returns-clause-caller : goal.returns-clause-caller
returns-clause-caller c =
    let s = c.args.self.now in
    let addresses = s.addresses.items in
    let rows = (seen s).rows in
    let place = c.in_ok-place.place in
    let h = c.at.result.now in
    let p = seen_holder addresses h in
    let found = c.in_ok-place.ensures.found in
    let there : place < length rows = omega (arith, found.there, length-map s.holders.items (seen_holder addresses)) in
    let at : get_or rows place p ≡ p = get_or-map (seen_holder addresses) s.holders.items place h p found.there ∙ ap (seen_holder addresses) (sym (c.at.ensures h)) in
    let lives : is_some (live_master c.args.image (p ∷ [])) ≡ true = ap (λ x. is_some (live_master c.args.image (seen_holder addresses x ∷ []))) (c.at.ensures h) ∙ found.lives addresses h in
    c.caller.ensures.caller addresses ∙ ap (λ x. live_master c.args.image (x ∷ [])) (sym at)
    ∙ only-found c.args.image rows place p there (c.requires.masters c.args.image) (ap (λ x. is_some (live_master c.args.image (x ∷ []))) at ∙ lives)

pub returns-clause-row : goal.returns-clause-row
returns-clause-row c =
    let s = c.args.self.now in
    let addresses = s.addresses.items in
    let place = c.in_ok-place.place in
    let h = c.at.result.now in
    let mine = caller_row addresses c.caller.result in
    let found = c.in_ok-place.ensures.found in (
      place,
      omega (arith, found.there, length-map s.holders.items (seen_holder addresses)),
      get_or-map (seen_holder addresses) s.holders.items place h mine found.there ∙ ap (seen_holder addresses) (sym (c.at.ensures h)) ∙ c.caller.ensures.row addresses,
    )
