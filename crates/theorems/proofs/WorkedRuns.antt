-- The worked examples, by computation.
use Rattle.std.proofs.Common.{refl}
use Rattle.definitions.specs.Calls.{census_of}
use Rattle.theorems.proofs.GroupRuns.{group_runs}
use Rattle.theorems.specs.WorkedRuns.{WorkedRuns}

pub worked_runs : WorkedRuns
unfolding census_of
worked_runs = record {
  handover = refl;
  upgrades = ((refl, refl), refl);
  counts_first = (refl, refl);
  mends_beside = (refl, refl);
  no_image = (refl, refl);
  gone_at_last = ((refl, refl), refl, refl, refl);
  refused = (refl, refl, refl);
  gone_early = ((refl, refl), refl, refl);
  repaired_at_last = (refl, refl);
  old_file_left = (refl, refl);
  attends = (refl, refl);
  back_at_first = ((refl, refl), refl);
  back_at_last = ((refl, refl), refl);
  back_is_short = (refl, refl, refl, refl);
  back_after_mending = ((refl, refl), (refl, refl, refl));
  one_more = (refl, refl);
  one_more_refused = (refl, refl);
  one_more_short = (refl, refl);
  one_more_repaired = (refl, refl);
  one_less = (refl, refl);
  none_left = (refl, refl);
  all_quit = (refl, refl);
  one_again = (refl, refl);
  reloads = (refl, refl);
  reloads_with_an_address = ((refl, refl), refl, refl);
  address_is_held = (refl, refl);
  comes_back = ((refl, refl), refl, refl);
  changes_its_address = ((refl, refl), refl, refl);
  reloads_to_none = ((refl, refl), refl);
  one_after_none = (refl, (refl, refl));
  mends_nothing = (refl, refl);
  mends = (refl, refl);
  stops = (refl, refl);
  stops_at_once = (refl, refl);
  file_left = (refl, refl);
  reopens = (refl, refl);
  no_process_left = (refl, refl);
  longest = (refl, refl, refl);
  groups = group_runs;
}
