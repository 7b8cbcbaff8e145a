-- What stands in a log's little room.
use Rattle.std.specs.Prelude.{ℕ, Bool, true, List, map, get_or, nat_lt}
use Rattle.std.specs.List.{list_all}
use Rattle.vocabulary.specs.declared.calls.Call.TheVariants.{Leave}
use Rattle.vocabulary.specs.declared.calls.Answer.TheVariants as answer
use Rattle.vocabulary.specs.declared.reports.Entry.{Entry}
use Rattle.plan_walk.specs.declared.slot.Slot.{Slot}
use Rattle.plan_walk.specs.declared.slot.Slot.TheVariants.{Worker, Whole}

-- what stands at a place where nothing is kept
abbrev pub no_entry : Entry
no_entry = record { by = 0; call = Leave; answer = answer.Fine }

-- the entry of a slot, beside those that are kept whole
abbrev pub entry_in : List Entry → Slot → Entry
entry_in whole (Worker e) = e
entry_in whole (Whole place) = get_or whole place no_entry

abbrev pub entries_in : List Entry → List Slot → List Entry
entries_in whole slots = map (entry_in whole) slots

-- it is among the first n that are kept whole, if it is one of them
abbrev pub is_kept : ℕ → Slot → Bool
is_kept n (Worker e) = true
is_kept n (Whole place) = nat_lt place n

abbrev pub are_kept : ℕ → List Slot → Bool
are_kept n slots = list_all (is_kept n) slots
