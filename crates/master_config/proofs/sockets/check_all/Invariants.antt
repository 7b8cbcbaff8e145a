use Rattle.std.proofs.Common.{◌≡◌, drop}
use Rattle.toml.specs.View.{table_view}
use Rattle.master_config.specs.Sockets.{sockets_after}
use Rattle.master_config.proofs.sockets.check_all.Given as goal

-- what is left is answered as all are
abbrev pub invariant-loop-index : goal.invariant-loop-index
invariant-loop-index l = sockets_after (table_view l.sockets) l.index (drop l.index l.all) ≡ sockets_after (table_view l.sockets) 0 l.all
