-- Rows among the others.
use Rattle.std.specs.Prelude.{ℕ, ◌==◌, List, [], ◌∷◌, Option, None}
use Rattle.definitions.specs.Table.{Process, Master, Worker, Foreign}
use Rattle.call_laws.specs.Pieces.{owner_if}

-- The number of the first master of an image, live or exited.
abbrev pub master_number : ℕ → List Process → Option ℕ
master_number image [] = None
master_number image (Master n q i live hs ∷ rows) = owner_if (i == image) n (master_number image rows)
master_number image (Worker n q g k s hs ∷ rows) = master_number image rows
master_number image (Foreign n hs ∷ rows) = master_number image rows
