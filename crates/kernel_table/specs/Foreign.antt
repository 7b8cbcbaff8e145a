-- A process of somebody else.
use Rattle.std.specs.Prelude.{◌+◌, [], ◌∷◌, ◌++◌}
use Rattle.definitions.specs.Table.{Address, Foreign, Table}

-- A process more, which holds the address at descriptor 3 by a new socket.
abbrev pub with_foreign : Address → Table → Table
with_foreign a t = record {
  rows = t.rows ++ Foreign t.next_process ((record { fd = 3; socket = t.next_socket; address = a }) ∷ []) ∷ [];
  files = t.files;
  next_process = t.next_process + 1;
  next_socket = t.next_socket + 1;
  limits = t.limits;
}
