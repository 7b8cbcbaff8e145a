use Rattle.std.proofs.Common.{List, Option, inl, sym, subst}
use Rattle.std.proofs.lemmas.Result.{IfOk-weaker}
use Rattle.plan_steps.specs.declared.parts.Parts.{Parts}
use Rattle.order_explorer.specs.declared.choosing.ChosenOrders.{ChosenOrders}
use Rattle.order_explorer.specs.Choosing.{AreOrdersOf, IsChosen}
use Rattle.order_explorer.proofs.choosing.choose_orders.Goals as goal

pub returns-in-Ok : goal.returns-in-Ok
returns-in-Ok c =
    IfOk-weaker c.orders_of_parts.result (AreOrdersOf c.args.pairs c.parts.result) (IsChosen c.args.state.now c.args.target.now c.args.pairs)
    (λ chosen of. inl (record {
      plan = c.in-Ok.plan;
      is_its = c.in-Ok.ensures.tree;
      orders = subst (λ (parts : Option Parts). AreOrdersOf c.args.pairs parts chosen) c.parts.ensures of;
    }))
    c.orders_of_parts.ensures
