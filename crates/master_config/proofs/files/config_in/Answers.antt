use Rattle.std.proofs.Common.{◌≡◌, ◌≢◌, ℕ, List, Result, Ok, Err, IfErr}
use Rattle.master_config.specs.Configuration.{Configuration, Reads}
use Rattle.master_config.specs.Files.{IsMisread}
use Rattle.master_config.specs.declared.refusal.ConfigRefusal.{ConfigRefusal}
use Rattle.master_config.specs.declared.refusal.ConfigRefusal.TheVariants.{NotToml, UnknownKey, WrongKind, OutOfRange, BadAddress, Doubled, NoListener, BadPid, BadCommand, Mixed, Group, BadService, BadSockets, NoSuchListener, Socket, Unreadable, Memory}
use Rattle.master_config.proofs.files.config_in.Goals as goal

-- a text that is refused, unless memory was
misread : (text : List ℕ) (r : Result Configuration ConfigRefusal) → Reads text r → IfErr r IsMisread
misread text (Ok config) h = tt
misread text (Err Unreadable) h = tt
misread text (Err Memory) h = tt
misread text (Err NotToml) h = (text, h (λ e. cc))
misread text (Err UnknownKey) h = (text, h (λ e. cc))
misread text (Err (WrongKind key)) h = (text, h (λ e. cc))
misread text (Err (OutOfRange key)) h = (text, h (λ e. cc))
misread text (Err (BadAddress index why)) h = (text, h (λ e. cc))
misread text (Err (Doubled index)) h = (text, h (λ e. cc))
misread text (Err NoListener) h = (text, h (λ e. cc))
misread text (Err BadPid) h = (text, h (λ e. cc))
misread text (Err BadCommand) h = (text, h (λ e. cc))
misread text (Err Mixed) h = (text, h (λ e. cc))
misread text (Err (Group index fault)) h = (text, h (λ e. cc))
misread text (Err BadService) h = (text, h (λ e. cc))
misread text (Err BadSockets) h = (text, h (λ e. cc))
misread text (Err NoSuchListener) h = (text, h (λ e. cc))
misread text (Err (Socket index fault)) h = (text, h (λ e. cc))

pub returns-in_ok-text-in-Some-clause-err : goal.returns-in_ok-text-in-Some-clause-err
returns-in_ok-text-in-Some-clause-err g c = rw c.in-Some.is (misread _ _ c.read.ensures)
