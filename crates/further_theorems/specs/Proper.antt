-- Which calls the plan of a target makes, and which master makes each: nothing of others is touched.
--
-- Our own: a master speaks of its own workers, files and addresses, and of its heir.

use Rattle.vocabulary.specs as vocabulary
use Rattle.definitions.specs as above
use Rattle.std.specs.Prelude.{◌≡◌, ◌∷◌, ◌⊎◌}
use vocabulary.Words.{refl, ℕ, true, false, List, [], Option, Some, None, AllByRecursion, has}
use above.Table.{Address, FilePath, Generation, Table, owner_at}
use above.Calls.{Call, OpenAt, CloseAt, Fork, AwaitReady, Quit, Kill, Census, AwaitGone, SpawnMaster, Adopt, WritePid}
use above.Calls.{MovePid, RemovePid, Alive, Leave, Usr1, TermMaster, Ask}
use above.Master.{Record, Target, Reopen, addresses_of, addresses_wanted, generation_wanted, upgrade_generation, oldbin}
use above.Plans.{Turn}
use above.Run.{Entry, Pattern, Progress}
use above.Claims.{run_of}

-- the master's two files
abbrev pub own_files : Option FilePath → List FilePath
own_files None = []
own_files (Some path) = path ∷ oldbin path ∷ []

-- A call by a master on workers of a generation: they are its own, of the generation that runs or of the one that is
-- wanted.
abbrev pub IsOfOwn : Record → Generation → ℕ → Generation → Type 0
IsOfOwn r wanted by g = (by ≡ g.image) × ((g ≡ r.generation) ⊎ (g ≡ wanted))

-- the old master, of its heir
abbrev pub IsOfHeir : Record → ℕ → ℕ → Type 0
IsOfHeir r by image = (by ≡ r.generation.image) × (image ≡ (upgrade_generation r.generation).image)

-- Where a generation and addresses are wanted: an address is opened that is wanted and that the master does not listen
-- on, and none is closed that is both, by the master of that generation. Files are the master's own. The old master
-- alone leaves, asks, and starts or ends its heir; the heir adopts and writes its process number.
abbrev pub IsProperFor : Record → Generation → List Address → ℕ → Call → Type 0
IsProperFor r wanted addresses by (OpenAt a) =
    (by ≡ wanted.image) × (has addresses a ≡ true) × (has (addresses_of r) a ≡ false)
IsProperFor r wanted addresses by (CloseAt a) =
    (by ≡ wanted.image) × ((has (addresses_of r) a ≡ false) ⊎ (has addresses a ≡ false))
IsProperFor r wanted addresses by (Fork g k fds) = IsOfOwn r wanted by g
IsProperFor r wanted addresses by (AwaitReady g k) = IsOfOwn r wanted by g
IsProperFor r wanted addresses by (Quit g k) = IsOfOwn r wanted by g
IsProperFor r wanted addresses by (Kill g k) = IsOfOwn r wanted by g
IsProperFor r wanted addresses by (Census g) = IsOfOwn r wanted by g
IsProperFor r wanted addresses by (AwaitGone g k) = IsOfOwn r wanted by g
IsProperFor r wanted addresses by (Usr1 g k) = IsOfOwn r wanted by g
IsProperFor r wanted addresses by (SpawnMaster image) = IsOfHeir r by image
IsProperFor r wanted addresses by (TermMaster image) = IsOfHeir r by image
IsProperFor r wanted addresses by (Alive image) = IsOfHeir r by image
IsProperFor r wanted addresses by Adopt = by ≡ wanted.image
IsProperFor r wanted addresses by (WritePid path) = (by ≡ wanted.image) × (has (own_files r.pid_path) path ≡ true)
IsProperFor r wanted addresses by (MovePid from to) =
    (by ≡ r.generation.image) × (has (own_files r.pid_path) from ≡ true) × (has (own_files r.pid_path) to ≡ true)
IsProperFor r wanted addresses by (RemovePid path) =
    ((by ≡ r.generation.image) ⊎ (by ≡ wanted.image)) × (has (own_files r.pid_path) path ≡ true)
IsProperFor r wanted addresses by Leave = by ≡ r.generation.image
IsProperFor r wanted addresses by (Ask question) = by ≡ r.generation.image

abbrev pub IsProper : Record → Target → ℕ → Call → Type 0
IsProper r target by call = IsProperFor r (generation_wanted r target) (addresses_wanted r target) by call

-- Each call of each run, whatever fails.
abbrev pub CallsAreProper : Type 0
CallsAreProper =
    (t : Table) (r : Record) (target : Target) (turns : List Turn) (pattern : Pattern) →
    AllByRecursion (λ (e : Entry). IsProper r target e.by e.call) (run_of r target turns pattern t).entries

-- Each file but the master's two is in each table of a run as it was at first.
abbrev pub FilesOfOthersStay : Type 0
FilesOfOthersStay =
    (t : Table) (r : Record) (target : Target) (turns : List Turn) (pattern : Pattern) (path : FilePath) →
    has (own_files r.pid_path) path ≡ false →
    AllByRecursion (λ (p : Progress). owner_at path p.table.files ≡ owner_at path t.files)
    (run_of r target turns pattern t).passed

---- An example: to leave is the old master's

example : (r : Record) → IsProper r Reopen r.generation.image Leave
example r = refl
