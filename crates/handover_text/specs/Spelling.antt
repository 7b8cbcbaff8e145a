-- The text of a handover, by which an old master tells a new one what it has and what is wanted.
--
-- nginx hands its new master the open descriptors in an environment variable; this text is our own. Each handover has
-- one spelling in each of two versions, and a reader refuses any other text, naming its first faulty line.

use Rattle.std.specs.Prelude.{◌≡◌, ◌∷◌, ◌++◌, refl, ℕ, List, [], take, drop, Option, Some, None, codes}
use Rattle.std.specs.List.{flat_map}
use Rattle.std.specs.Fmt.{decimal}
use Rattle.worker_groups.specs.declared.groups.Group.{Group}
use Rattle.worker_groups.specs.Groups.{workers_in}
use Rattle.definitions.specs.Table.{Address, FilePath, Listener}
use Rattle.definitions.specs.Calls.{Handover, Handed}
pub use Rattle.vocabulary.specs.declared.handover.HandoverVersion.{HandoverVersion}
pub use Rattle.vocabulary.specs.declared.handover.HandoverVersion.TheVariants.{One, Two}
pub use Rattle.vocabulary.specs.declared.handover.HandoverRefusal.{HandoverRefusal}
pub use Rattle.vocabulary.specs.declared.handover.HandoverRefusal.TheVariants as refusal

---- The spelling of a handover: one for each version

abbrev pub line_of : List ℕ → List ℕ
line_of text = text ++ 10 ∷ []

abbrev pub version_line : HandoverVersion → List ℕ
version_line One = line_of (codes "handover 1")
version_line Two = line_of (codes "handover 2")

abbrev pub listener_line : Listener → List ℕ
listener_line l = line_of (codes "listener " ++ decimal l.descriptor ++ 32 ∷ l.address)

abbrev pub want_line : Address → List ℕ
want_line a = line_of (codes "want " ++ a)

abbrev pub workers_line : ℕ → List ℕ
workers_line n = line_of (codes "workers " ++ decimal n)

abbrev pub group_line : ℕ → List ℕ
group_line n = line_of (codes "group " ++ decimal n)

abbrev pub pid_file_line : Option FilePath → List ℕ
pid_file_line None = []
pid_file_line (Some path) = line_of (codes "pid-file " ++ path)

-- of each group its number of workers, and then its addresses
abbrev pub group_lines : List Group → List Address → List ℕ
group_lines [] addresses = []
group_lines (g ∷ gs) addresses =
    group_line g.workers ++ flat_map want_line (take g.addresses addresses)
    ++ group_lines gs (drop g.addresses addresses)

-- What is wanted. Version 1 tells of a single group: all addresses, and how many workers.
abbrev pub wanted_lines : HandoverVersion → List Group → List Address → List ℕ
wanted_lines One groups addresses = flat_map want_line addresses ++ workers_line (workers_in groups)
wanted_lines Two groups addresses = group_lines groups addresses

abbrev pub spelled : HandoverVersion → Handover → List ℕ
spelled version h =
    version_line version ++ line_of (codes "old-pid " ++ decimal h.old_pid)
    ++ line_of (codes "generation " ++ decimal h.generation.image ++ 32 ∷ decimal h.generation.config)
    ++ flat_map listener_line h.listeners
    ++ wanted_lines version h.groups h.want ++ pid_file_line h.pid_file ++ line_of (codes "end")

-- as it is written
abbrev pub spelling : Handover → List ℕ
spelling h = spelled Two h

-- the text that hands it over; where there is nothing to hand, none
abbrev pub text_handed : Handed → List ℕ
text_handed None = []
text_handed (Some h) = spelling h

---- An example: the line of an address that is wanted

example : want_line (codes "1.2.3.4:80") ≡ codes "want 1.2.3.4:80" ++ 10 ∷ []
example = refl
