-- Whether a tree can be run.
use Rattle.std.specs.Prelude.{Bool, true, false, ◌&&◌, ◌||◌, not, is_some}
use Rattle.std.specs.List.{list_all}
use Rattle.vocabulary.specs.declared.calls.Reply.{Reply}
use Rattle.vocabulary.specs.declared.calls.Reply.TheVariants as reply
use Rattle.vocabulary.specs.declared.plans.Order.{Order}
use Rattle.vocabulary.specs.declared.plans.Order.TheVariants.{Make}
use Rattle.call_laws.specs.Pieces.{branch}
use Rattle.definitions.specs.Run.{Tree, Branches, Ends, Does, Nothing, Branch}
use Rattle.call_replies.specs.Replies.{order_replies}

abbrev pub names_lacking : Order → Bool
names_lacking (Make call) = false
names_lacking _ = true

-- whether the last census was short, after a reply
abbrev pub short_after : Bool → Reply → Bool
short_after short reply.Full = false
short_after short reply.Short = true
short_after short _ = short

-- Each step has an edge for each reply to its call, master-gone aside, and a worker is named only after a short census.
abbrev mutual
  pub is_fit : Bool → Tree → Bool
  is_fit short (Ends end) = true
  is_fit short (Does by order set branches) =
      (not (names_lacking order) || short)
      && (list_all (λ r. is_some (branch branches r)) (order_replies order) && are_fit short branches)

  pub are_fit : Bool → Branches → Bool
  are_fit short Nothing = true
  are_fit short (Branch replies said rest more) =
      list_all (λ r. is_fit (short_after short r) rest) replies && are_fit short more
