-- What a call can be answered, and the table then: for whatever holds of each, it holds of the call.
use Rattle.std.proofs.Common.{◌≡◌, List, ℕ, Bool, true, false, Option, Some, None, refl, nat_lt, length}
use Rattle.std.specs.Prelude.{⊤, if◌then◌else◌}
use Rattle.std.specs.List.{list_any}
use Rattle.definitions.specs.Table.{FilePath, owner_at, Master, Worker, Table, Caller, is_worker, is_active, Address}
use Rattle.definitions.specs.Table.{is_held}
use Rattle.call_laws.specs.Pieces.{is_any, is_draining, is_starting, is_exited, moved_if, with_files, fault_or_own}
use Rattle.call_laws.specs.Pieces.{with_new_socket, made_ready}
use Rattle.vocabulary.specs.declared.table.Stance.TheVariants.{Starting}
use Rattle.listener_set.specs.declared.generation.Generation.{Generation}
use Rattle.definitions.specs.Calls.{is_image, with_file, without_file, Stepped, gives, suits, step_by, own_step}
use Rattle.definitions.specs.Calls.{with_new_row, shared, each_row, has_process_room, drop_where, lowest_free, Handed}
use Rattle.definitions.specs.Calls.{change}
use Rattle.std.specs.Bool.{then_some}
use Rattle.vocabulary.specs.declared.calls.Fate.{Fate}
use Rattle.vocabulary.specs.declared.calls.Call.TheVariants.{SpawnMaster, Adopt, WritePid, MovePid, Alive, TermMaster}
use Rattle.vocabulary.specs.declared.calls.Call.TheVariants.{AwaitGone, RemovePid, Usr1, Leave, CloseAt, Fork}
use Rattle.vocabulary.specs.declared.calls.Call.TheVariants.{AwaitReady, Quit, Kill, Census, OpenAt, Ask}
use Rattle.vocabulary.specs.declared.calls.Answer.TheVariants.{Go, Back, Spawned, NoImage, Adopted, Refused, Fine}
use Rattle.vocabulary.specs.declared.calls.Answer.TheVariants.{IoFault, Forked, IsReady, Again, NoMemory, Gone, Late}
use Rattle.vocabulary.specs.declared.calls.Answer.TheVariants.{InUse, TooMany, Denied, Opened}
use Rattle.vocabulary.specs.declared.calls.Call.{Call}
use Rattle.call_laws.proofs.Choices.{pick}
use Rattle.vocabulary.specs.declared.calls.Fate.TheVariants as fate

fork-own :
    (handed : Handed) (image : ℕ) (c : Caller) (g : Generation) (x : ℕ) (fds : Option (List ℕ)) (t : Table)
    (P : Stepped → Type 0) → P (gives Again t) →
    (list_any (is_worker is_active c.number g x) t.rows ≡ false → P (gives Forked (with_new_row t (λ n. Worker n c.number g x Starting (shared fds c.holds)))))
    → P (own_step handed image c (Fork g x fds) t)
fork-own handed image c g x fds t P again ok =
    let forked = gives Forked (with_new_row t (λ n. Worker n c.number g x Starting (shared fds c.holds))) in
    pick P (list_any (is_worker is_active c.number g x) t.rows) (gives Again t)
    (if has_process_room t then forked else gives Again t) (λ e. again)
    (λ off. pick P (has_process_room t) forked (gives Again t) (λ e. ok off) (λ e. again))

pub fork-cases :
    (handed : Handed) (image : ℕ) (c : Caller) (g : Generation) (x : ℕ) (fds : Option (List ℕ)) (fate : Option Fate)
    (t : Table) (P : Stepped → Type 0) → P (gives Again t) → P (gives NoMemory t) →
    (list_any (is_worker is_active c.number g x) t.rows ≡ false → P (gives Forked (with_new_row t (λ n. Worker n c.number g x Starting (shared fds c.holds)))))
    → P (step_by handed image (Some c) (Fork g x fds) fate t)
fork-cases handed image c g x fds (Some fate.NoMemory) t P again memory ok = memory
fork-cases handed image c g x fds (Some fate.Again) t P again memory ok = again
fork-cases handed image c g x fds _ t P again memory ok = fork-own handed image c g x fds t P again ok

await-own :
    (handed : Handed) (image : ℕ) (c : Caller) (g : Generation) (x : ℕ) (t : Table) (P : Stepped → Type 0) →
    (list_any (is_worker is_active c.number g x) t.rows ≡ true → P (gives IsReady (each_row (change (is_worker is_starting c.number g x) made_ready) t)))
    →
    (list_any (is_worker is_active c.number g x) t.rows ≡ false → P (gives Gone (each_row (drop_where (is_worker is_exited c.number g x)) t)))
    → P (own_step handed image c (AwaitReady g x) t)
await-own handed image c g x t P ok gone = pick P (list_any (is_worker is_active c.number g x) t.rows) _ _ ok gone

late-or :
    (b : Bool) (handed : Handed) (image : ℕ) (c : Caller) (call : Call) (t : Table) (P : Stepped → Type 0) →
    P (gives Late t) → P (own_step handed image c call t) → P (fault_or_own (then_some b Late) handed image c call t)
late-or true handed image c call t P late h = late
late-or false handed image c call t P late h = h

pub await-cases :
    (handed : Handed) (image : ℕ) (c : Caller) (g : Generation) (x : ℕ) (fate : Option Fate) (t : Table)
    (P : Stepped → Type 0) → P (gives Late t) →
    (list_any (is_worker is_active c.number g x) t.rows ≡ true → P (gives IsReady (each_row (change (is_worker is_starting c.number g x) made_ready) t)))
    →
    (list_any (is_worker is_active c.number g x) t.rows ≡ false → P (gives Gone (each_row (drop_where (is_worker is_exited c.number g x)) t)))
    → P (step_by handed image (Some c) (AwaitReady g x) fate t)
await-cases handed image c g x (Some fate.Late) t P late ok gone =
    late-or (list_any (is_worker is_starting c.number g x) t.rows) handed image c (AwaitReady g x) t P late
    (await-own handed image c g x t P ok gone)
await-cases handed image c g x _ t P late ok gone = await-own handed image c g x t P ok gone

-- calls that no fate fails
abbrev pub Unfailing : Call → Type 0
Unfailing (Quit g x) = ⊤
Unfailing (Kill g x) = ⊤
Unfailing (Census g) = ⊤
Unfailing (CloseAt a) = ⊤
Unfailing (Usr1 g x) = ⊤
Unfailing Leave = ⊤
Unfailing (Alive i) = ⊤
Unfailing (TermMaster i) = ⊤
Unfailing _ = ⊥

pub unfailing :
    (handed : Handed) (image : ℕ) (c : Caller) (call : Call) (fate : Option Fate) (t : Table) → Unfailing call →
    step_by handed image (Some c) call fate t ≡ own_step handed image c call t
unfailing handed image c (Quit g x) None t u = refl
unfailing handed image c (Kill g x) None t u = refl
unfailing handed image c (Census g) None t u = refl
unfailing handed image c (CloseAt a) None t u = refl
unfailing handed image c (Usr1 g x) None t u = refl
unfailing handed image c (Usr1 g x) (Some f) t u = refl
unfailing handed image c (Alive i) None t u = refl
unfailing handed image c (Alive i) (Some f) t u = refl
unfailing handed image c (TermMaster i) None t u = refl
unfailing handed image c (TermMaster i) (Some f) t u = refl
unfailing handed image c Leave None t u = refl
unfailing handed image c Leave (Some f) t u = refl
unfailing handed image c (CloseAt a) (Some f) t u = refl
unfailing handed image c (Quit g x) (Some f) t u = refl
unfailing handed image c (Kill g x) (Some f) t u = refl
unfailing handed image c (Census g) (Some f) t u = refl
unfailing handed image c _ _ t u = absurd u

open-own :
    (handed : Handed) (image : ℕ) (c : Caller) (a : Address) (t : Table) (P : Stepped → Type 0) → P (gives InUse t) → P
    (gives TooMany t) →
    (is_held a t.rows ≡ false → nat_lt (length c.holds) t.limits.descriptors ≡ true → P (gives (Opened (lowest_free c.holds)) (with_new_socket t c.number (record { fd = lowest_free c.holds; socket = t.next_socket; address = a }))))
    → P (own_step handed image c (OpenAt a) t)
open-own handed image c a t P used many ok =
    let done = gives (Opened (lowest_free c.holds)) (with_new_socket t c.number (record { fd = lowest_free c.holds; socket = t.next_socket; address = a })) in
    pick P (is_held a t.rows) (gives InUse t)
    (if nat_lt (length c.holds) t.limits.descriptors then done else gives TooMany t) (λ e. used)
    (λ off. pick P (nat_lt (length c.holds) t.limits.descriptors) done (gives TooMany t) (λ e. ok off e) (λ e. many))

pub open-cases :
    (handed : Handed) (image : ℕ) (c : Caller) (a : Address) (fate : Option Fate) (t : Table) (P : Stepped → Type 0) → P
    (gives InUse t) → P (gives TooMany t) → P (gives Denied t) → P (gives NoMemory t) →
    (is_held a t.rows ≡ false → nat_lt (length c.holds) t.limits.descriptors ≡ true → P (gives (Opened (lowest_free c.holds)) (with_new_socket t c.number (record { fd = lowest_free c.holds; socket = t.next_socket; address = a }))))
    → P (step_by handed image (Some c) (OpenAt a) fate t)
open-cases handed image c a (Some fate.InUse) t P used many denied memory ok = used
open-cases handed image c a (Some fate.TooMany) t P used many denied memory ok = many
open-cases handed image c a (Some fate.Denied) t P used many denied memory ok = denied
open-cases handed image c a (Some fate.NoMemory) t P used many denied memory ok = memory
open-cases handed image c a _ t P used many denied memory ok = open-own handed image c a t P used many ok

gone-own :
    (handed : Handed) (image : ℕ) (c : Caller) (g : Generation) (x : ℕ) (t : Table) (P : Stepped → Type 0) →
    P (gives Late t) → P (gives Gone (each_row (drop_where (is_worker is_any c.number g x)) t)) →
    P (own_step handed image c (AwaitGone g x) t)
gone-own handed image c g x t P late gone = pick P (list_any (is_worker is_active c.number g x) t.rows) _ _ (λ e. late) (λ e. gone)

pub gone-cases :
    (handed : Handed) (image : ℕ) (c : Caller) (g : Generation) (x : ℕ) (fate : Option Fate) (t : Table)
    (P : Stepped → Type 0) → P (gives Late t) → P (gives Gone (each_row (drop_where (is_worker is_any c.number g x)) t))
    → P (step_by handed image (Some c) (AwaitGone g x) fate t)
gone-cases handed image c g x (Some fate.Late) t P late gone =
    late-or (list_any (is_worker is_draining c.number g x) t.rows) handed image c (AwaitGone g x) t P late
    (gone-own handed image c g x t P late gone)
gone-cases handed image c g x _ t P late gone = gone-own handed image c g x t P late gone

pub remove-cases :
    (handed : Handed) (image : ℕ) (c : Caller) (path : FilePath) (fate : Option Fate) (t : Table) (P : Stepped → Type 0) →
    P (gives IoFault t) → P (gives Fine (with_files (without_file path t.files) t)) →
    P (step_by handed image (Some c) (RemovePid path) fate t)
remove-cases handed image c path (Some fate.IoFault) t P fault fine = fault
remove-cases handed image c path _ t P fault fine = fine

pub write-cases :
    (handed : Handed) (image : ℕ) (c : Caller) (path : FilePath) (fate : Option Fate) (t : Table) (P : Stepped → Type 0) →
    P (gives IoFault t) → P (gives Fine (with_files (with_file path c.number t.files) t)) →
    P (step_by handed image (Some c) (WritePid path) fate t)
write-cases handed image c path (Some fate.IoFault) t P fault fine = fault
write-cases handed image c path _ t P fault fine = fine

move-own :
    (o : Option ℕ) (from to : FilePath) (t : Table) (P : Stepped → Type 0) → P (gives IoFault t) →
    ((owner : ℕ) → o ≡ Some owner → P (gives Fine (with_files (with_file to owner (without_file from t.files)) t))) →
    P (moved_if o from to t)
move-own None from to t P fault fine = fault
move-own (Some owner) from to t P fault fine = fine owner refl

pub move-cases :
    (handed : Handed) (image : ℕ) (c : Caller) (from to : FilePath) (fate : Option Fate) (t : Table)
    (P : Stepped → Type 0) → P (gives IoFault t) →
    ((owner : ℕ) → owner_at from t.files ≡ Some owner → P (gives Fine (with_files (with_file to owner (without_file from t.files)) t)))
    → P (step_by handed image (Some c) (MovePid from to) fate t)
move-cases handed image c from to (Some fate.IoFault) t P fault fine = fault
move-cases handed image c from to _ t P fault fine = move-own (owner_at from t.files) from to t P fault fine

adopt-own :
    (handed : Handed) (image : ℕ) (c : Caller) (t : Table) (P : Stepped → Type 0) → P (gives Refused t) →
    P (gives Adopted t) → P (own_step handed image c Adopt t)
adopt-own handed image c t P refused ok = pick P (suits handed image c.holds) (gives Adopted t) (gives Refused t) (λ e. ok) (λ e. refused)

pub adopt-cases :
    (handed : Handed) (image : ℕ) (c : Caller) (fate : Option Fate) (t : Table) (P : Stepped → Type 0) →
    P (gives Refused t) → P (gives Adopted t) → P (step_by handed image (Some c) Adopt fate t)
adopt-cases handed image c (Some fate.Refused) t P refused ok = refused
adopt-cases handed image c _ t P refused ok = adopt-own handed image c t P refused ok

spawn-own :
    (handed : Handed) (image : ℕ) (c : Caller) (i : ℕ) (t : Table) (P : Stepped → Type 0) → P (gives Again t) →
    P (gives Spawned (with_new_row t (λ n. Master n c.number i true c.holds))) →
    P (own_step handed image c (SpawnMaster i) t)
spawn-own handed image c i t P again ok =
    let done = gives Spawned (with_new_row t (λ n. Master n c.number i true c.holds)) in
    pick P (list_any (is_image i) t.rows) (gives Again t) (if has_process_room t then done else gives Again t)
    (λ e. again) (λ off. pick P (has_process_room t) done (gives Again t) (λ e. ok) (λ e. again))

pub spawn-cases :
    (handed : Handed) (image : ℕ) (c : Caller) (i : ℕ) (fate : Option Fate) (t : Table) (P : Stepped → Type 0) →
    P (gives Again t) → P (gives NoMemory t) → P (gives NoImage t) →
    P (gives Spawned (with_new_row t (λ n. Master n c.number i true c.holds))) →
    P (step_by handed image (Some c) (SpawnMaster i) fate t)
spawn-cases handed image c i (Some fate.NoImage) t P again memory image_gone ok = image_gone
spawn-cases handed image c i (Some fate.NoMemory) t P again memory image_gone ok = memory
spawn-cases handed image c i (Some fate.Again) t P again memory image_gone ok = again
spawn-cases handed image c i _ t P again memory image_gone ok = spawn-own handed image c i t P again ok

pub ask-cases :
    (handed : Handed) (image : ℕ) (c : Caller) (n : ℕ) (fate : Option Fate) (t : Table) (P : Stepped → Type 0) →
    P (gives Back t) → P (gives Go t) → P (step_by handed image (Some c) (Ask n) fate t)
ask-cases handed image c n (Some fate.Back) t P back go = back
ask-cases handed image c n _ t P back go = go
