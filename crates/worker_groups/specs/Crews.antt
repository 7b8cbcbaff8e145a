-- Where the workers of each group listen, the workers of a generation by their groups, and how many of each group are lacking.
use Rattle.std.specs.Prelude.{ℕ, ◌+◌, ◌==◌, Bool, List, [], ◌∷◌, Option, Some, None, map, length, get_or, if◌then◌else◌}
use Rattle.std.specs.List.{count_by, range_with_len}
use Rattle.listener_set.specs.declared.generation.Generation.{Generation}
use Rattle.worker_groups.specs.declared.groups.Group.{Group}
use Rattle.worker_groups.specs.Groups.{group_of}
use Rattle.listener_set.specs.Numbers.{numbers_below}

-- where the workers of each group of a service listen: the groups, and the descriptors of each
pub record Posts : Type 0 where
  pub groups : List Group
  pub descriptors : List (List ℕ)

-- the workers of one generation
pub record Crew : Type 0 where
  pub generation : Generation
  pub posts : Posts

-- one group alone
abbrev pub is_sole : Posts → Bool
is_sole p = length p.groups == 1

-- The descriptors of a group's workers. Where there is one group alone no set is named, and they hold all that their master holds.
abbrev pub fds_in : Posts → ℕ → Option (List ℕ)
fds_in p place = if is_sole p then None else Some (get_or p.descriptors place [])

-- the descriptors of the worker with a number
abbrev pub fds_of : Posts → ℕ → Option (List ℕ)
fds_of p number = fds_in p (group_of p.groups number)

-- so many descriptors from one on
abbrev pub descriptors_from : ℕ → ℕ → List ℕ
descriptors_from first count = range_with_len first count

-- each group takes the next so many descriptors
abbrev pub descriptors_first : ℕ → List Group → List (List ℕ)
descriptors_first fd [] = []
descriptors_first fd (g ∷ gs) = descriptors_from fd g.addresses ∷ descriptors_first (fd + g.addresses) gs

-- the posts of a master that starts: from descriptor 3 on
abbrev pub first_posts : List Group → Posts
first_posts gs = record { groups = gs; descriptors = descriptors_first 3 gs }

-- how many of the numbers that are lacking are of each group
abbrev pub shortfalls_of : List Group → List ℕ → List ℕ
shortfalls_of gs lacking = map (λ place. count_by (λ number. group_of gs number == place) lacking) (numbers_below (length gs))
