-- The groups of a configuration.
use Rattle.std.specs.Prelude.{ℕ, ◌+◌, ◌-◌, nat_lt, Bool, ◌||◌, List, [], ◌∷◌, ◌++◌, length, is_some, Result, Ok, Err, if◌then◌else◌}
use Rattle.std.specs.List.{list_all}
use Rattle.worker_groups.specs.declared.groups.Group.{Group}
use Rattle.worker_groups.specs.Groups.{workers_in}
use Rattle.toml.specs.Data.{Data, array, table, Items, Members, as_table}
use Rattle.master_config.specs.Names.{is_of_group}
use Rattle.master_config.specs.Values.{◌>>=◌, value_at, has_only, number_at, data_of}
use Rattle.master_config.specs.Listening.{listeners_behind}
use Rattle.master_config.specs.declared.key.Key.TheVariants.{Groups, Listeners, Workers}
use Rattle.master_config.specs.declared.group_fault.GroupFault.TheVariants as group
use Rattle.master_config.specs.declared.refusal.ConfigRefusal.{ConfigRefusal}
use Rattle.master_config.specs.declared.refusal.ConfigRefusal.TheVariants as config

-- what groups come to: the listeners of all, in order, and how many each has, with its workers
pub record Pools : Type 0 where
  pub listeners : List (List ℕ)
  pub groups : List Group

abbrev pub no_pools : Pools
no_pools = record { listeners = []; groups = [] }

-- one group of all listeners and workers
abbrev pub one_pool : List (List ℕ) → ℕ → Pools
one_pool listeners workers = record { listeners = listeners; groups = (record { addresses = length listeners; workers = workers }) ∷ [] }

---- A group

-- with a group behind the others, which has the listeners that are new; they have at most 1024 workers in all
abbrev pub with_group : Pools → List (List ℕ) → ℕ → Result Pools ConfigRefusal
with_group pools listeners workers =
    if nat_lt 1024 (workers_in pools.groups + workers) then Err (config.OutOfRange Workers)
    else Ok (record { listeners = listeners; groups = pools.groups ++ (record { addresses = length listeners - length pools.listeners; workers = workers }) ∷ [] })

abbrev pub group_values : Pools → Members → Result Pools ConfigRefusal
group_values pools members = do
  listeners ← listeners_behind pools.listeners (value_at Listeners members)
  workers ← number_at Workers 0 1024 1 (value_at Workers members)
  with_group pools listeners workers

abbrev pub group_read : Pools → Members → Result Pools ConfigRefusal
group_read pools members = if has_only is_of_group members then group_values pools members else Err config.UnknownKey

-- a rule of the configuration that the group at an index breaks
abbrev pub told_of : ℕ → ConfigRefusal → ConfigRefusal
told_of index config.UnknownKey = config.Group index group.UnknownKey
told_of index (config.WrongKind key) = config.Group index (group.WrongKind key)
told_of index (config.OutOfRange key) = config.Group index (group.OutOfRange key)
told_of index (config.BadAddress place refusal) = config.Group index (group.BadAddress place refusal)
told_of index (config.Doubled place) = config.Group index (group.Doubled place)
told_of index config.NoListener = config.Group index group.NoListener
told_of index refusal = refusal

abbrev pub told_in : ℕ → Result Pools ConfigRefusal → Result Pools ConfigRefusal
told_in index (Ok pools) = Ok pools
told_in index (Err refusal) = Err (told_of index refusal)

abbrev pub group_in : ℕ → Pools → Data → Result Pools ConfigRefusal
group_in index pools (table members) = told_in index (group_read pools members)
group_in index pools _ = Err (config.WrongKind Groups)

---- All groups

-- with the groups of these values, whose indices count on
abbrev pub groups_after : Pools → ℕ → List Data → Result Pools ConfigRefusal
groups_after pools index [] = Ok pools
groups_after pools index (value ∷ values) = group_in index pools value >>= (λ more. groups_after more (index + 1) values)

-- 1 to 16 groups
abbrev pub groups_read : List Data → Result Pools ConfigRefusal
groups_read [] = Err (config.OutOfRange Groups)
groups_read (value ∷ values) = if nat_lt 16 (length (value ∷ values)) then Err (config.OutOfRange Groups) else groups_after no_pools 0 (value ∷ values)

abbrev pub is_table : Data → Bool
is_table value = is_some (as_table value)

-- the items of a list of tables
abbrev pub tables_read : Data → Result Items ConfigRefusal
tables_read (array items) = if list_all is_table (data_of items) then Ok items else Err (config.WrongKind Groups)
tables_read _ = Err (config.WrongKind Groups)

-- beside groups stand listeners or workers of all
abbrev pub is_mixed : Members → Bool
is_mixed members = is_some (value_at Listeners members) || is_some (value_at Workers members)

-- the groups that a value of a configuration says
abbrev pub pools_in : Members → Data → Result Pools ConfigRefusal
pools_in members value = tables_read value >>= (λ items. if is_mixed members then Err config.Mixed else groups_read (data_of items))
