use Rattle.std.proofs.Common.{ap, is_some, ◌∙◌, rules, tests}
use Rattle.std.specs.Ordering.{is_eq}
use Rattle.std.specs.FinMap.{find}
use Rattle.std.proofs.lemmas.Iterator.{YieldsList-from_slice}
use Rattle.std.proofs.lemmas.Iterator.Search.{any_from_yields_List}
use Rattle.kernel_service.specs.declared.service.Served.{Served}
use Rattle.kernel_service.specs.Services.{Services, address_cmp}
use Rattle.kernel_service.specs.Served.{seen_served}
use Rattle.kernel_service.proofs.OrderedKeys.{found-any}
use Rattle.kernel_service.proofs.service.Service.has.Goals as goal

pub returns : goal.returns
returns c =
    let a = c.args.address.now in
    let es = c.self.inside.entries.items in
    any_from_yields_List (λ (e : Served). is_eq (address_cmp a e.address)) _ _ _ c.any.ensures.ran (YieldsList-from_slice es cc) (λ x b q k. search (rules, tests))
    ∙ found-any address_cmp seen_served a es
    ∙ ap (λ (s : Services). is_some (find address_cmp a s)) c.self.view_is
