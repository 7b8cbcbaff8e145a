-- What the definitions name of the crates below and of std, operators aside, passed on from one place. Declares nothing.
pub use Rattle.std.specs.Bool.{then_some}
pub use Rattle.std.specs.Option.{option_or}
pub use Rattle.std.specs.List.{list_any, filter_map, sum_by}
pub use Rattle.std.specs.List.{AllByRecursion}
pub use Rattle.std.specs.Prelude.{ℕ, zero, suc, min, max, Bool, true, false, not, List, [], map, reverse, length}
pub use Rattle.std.specs.Prelude.{get_or, take, drop, is_some, is_none, nat_lt, nat_le, ⊤, Some, None, codes}
pub use Rattle.std.specs.Prelude.{bytes_eq, sum, count_by, filter, Option, unwrap_or, option_map}
pub use Rattle.std.specs.Prelude.{option_and_then, IfSome, refl}
pub use Rattle.listener_set.specs.AddressList.{has}
pub use Rattle.listener_set.specs.Numbers.{numbers_below, is_in, lacks, first_from, IsRising, RisesFrom}
pub use Rattle.listener_set.specs.declared.generation.Generation.{Generation}
pub use Rattle.worker_groups.specs.Crews.{Posts, Crew, fds_in, fds_of, shortfalls_of}
pub use Rattle.worker_groups.specs.Groups.{group_of, AreGroups}
pub use Rattle.worker_groups.specs.declared.groups.Group.{Group}
pub use Rattle.vocabulary.specs.Settings.{Settings, HasSuffixRoom, IsInRange}
