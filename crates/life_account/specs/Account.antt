-- The account of a life, and what a word's end adds to it.
use Rattle.std.specs.Prelude.{ℕ, zero, suc, ◌+◌, Bool, true, false, List, [], ◌∷◌, map, length, Option, Some, None}
use Rattle.vocabulary.specs.declared.reports.Entry.{Entry}
use Rattle.definitions.specs.Table.{Table}
use Rattle.definitions.specs.Calls.{Handed, after_exits, step_with}
use Rattle.definitions.specs.Master.{Record}
use Rattle.definitions.specs.Run.{Pattern, Progress, Ran}
use Rattle.lives.specs.Lives.{missing_workers}
use Rattle.life_account.specs.declared.opened.TablePlace.{TablePlace}
use Rattle.life_account.specs.declared.opened.OpenAddress.{OpenAddress}
use Rattle.life_account.specs.declared.shorts.ShortWord.{ShortWord}
use Rattle.life_account.specs.declared.life.Life.{Life}
use Rattle.life_account.specs.Tables.{Passed, looked, first_open, after_tables}
use Rattle.life_account.specs.Shorts.{shorts_after}

-- Whether the service was in full at the start or after a word so far; the addresses that were open in each table so far; and the
-- words that ended with missing workers.
pub record Account : Type 0 where
  pub was_full : Bool
  pub addresses : List OpenAddress
  pub shorts : List ShortWord

abbrev pub seen_life : Life → Account
seen_life life = record { was_full = life.was_full; addresses = life.addresses.items; shorts = life.shorts.items }

-- A word ended with so many missing workers, in this table. If none is missing, the service is in full, and the table is counted.
abbrev pub ended : TablePlace → ℕ → Table → Account → Account
ended place zero t a = record {
  was_full = true;
  addresses = map (looked place t) a.addresses;
  shorts = shorts_after place.word zero a.shorts;
}
ended place (suc missing) t a = record a { shorts = shorts_after place.word (suc missing) a.shorts }

-- Before the first word: the addresses that the master holds, if one runs.
abbrev pub start_place : TablePlace
start_place = record { word = 0; call = 0 }

abbrev pub no_life : Account
no_life = record { was_full = false; addresses = []; shorts = [] }

abbrev pub first_account : Option Record → Table → Account
first_account None t = no_life
first_account (Some r) t = ended start_place (missing_workers r) t (record no_life { addresses = first_open r.pid t })

---- A run

-- The tables that a run passes, middle tables too.
abbrev pub passed_at : Progress → Passed
passed_at p = record { table = p.table; calls = p.calls }

abbrev pub tables_of : Ran → List Passed
tables_of ran = map passed_at ran.passed

-- The same by a run's calls: from a table after n calls on, the tables before and after the exits of each call's moment, and the last.
abbrev pub stepped : Handed → Pattern → ℕ → Table → List Entry → List Passed
stepped handed pattern n t [] = record { table = t; calls = n } ∷ []
stepped handed pattern n t (e ∷ entries) =
    let moment = pattern (n + 1) in
    let middle = after_exits moment.exits t in
    record { table = t; calls = n }
    ∷ record { table = middle; calls = n }
    ∷ stepped handed pattern (n + 1) (step_with handed e.by e.call moment.fate middle).table entries

-- A run passed these tables, and left this record and this table. The tables of a stop do not count: the life is over.
abbrev pub after_run : TablePlace → List Passed → Option Record → Table → Account → Account
after_run place passed None t a = a
after_run place passed (Some r) t a =
    ended place (missing_workers r) t (record a { addresses = after_tables a.was_full place.word passed a.addresses })
