-- What a record keeps by itself.
use Rattle.std.proofs.Common.{ℕ, ◌+◌, map, List, [], ◌∷◌}
use Rattle.listener_set.specs.Numbers.{RisesFrom}
use Rattle.vocabulary.specs.declared.table.Listener.{Listener}
use Rattle.master_listeners.specs.Listeners.{AreListedFrom}

-- the descriptors of listeners rise
pub rises : (fd : ℕ) (ls : List Listener) → AreListedFrom fd ls → RisesFrom fd (map (λ (l : Listener). l.descriptor) ls)
rises fd [] h = tt
rises fd (l ∷ ls) h = (h.0, rises (l.descriptor + 1) ls h.3)
