-- Faults change nothing, so the moment that one shows gives it again.
use Rattle.std.proofs.Common.{◌≡◌, ℕ, Bool, true, false, cond, not, nat_eq, List, [], ◌∷◌, ◌++◌, length, filter, Option}
use Rattle.std.proofs.Common.{Some, None, refl, sym, ◌∙◌, ap, subst, arith, append_assoc}
use Rattle.std.specs.Prelude.{if◌then◌else◌, nat_lt}
use Rattle.std.specs.List.{list_any}
use Rattle.std.proofs.lemmas.Bool.{false≢true}
use Rattle.std.proofs.Math.Bool.{or-true}
use Rattle.std.proofs.lemmas.Bool.Decides.{nat_tests}
use Rattle.std.proofs.lemmas.Option.{none-some, same_Some}
use denote.Enum.Bare.{true_same}
use Rattle.vocabulary.specs.contracts.calls.Reply.{the_type}
use Rattle.listener_set.specs.Numbers.{is_in}
use Rattle.vocabulary.specs.declared.calls.Call.{Call}
use Rattle.vocabulary.specs.declared.calls.Call.TheVariants.{OpenAt, Fork, AwaitReady, Census, AwaitGone, SpawnMaster, Adopt, WritePid, MovePid, RemovePid, Ask}
use Rattle.vocabulary.specs.declared.calls.Answer.{Answer}
use Rattle.vocabulary.specs.declared.calls.Answer.TheVariants as answer
use Rattle.vocabulary.specs.declared.calls.Fate.{Fate}
use Rattle.vocabulary.specs.declared.calls.Fate.TheVariants as fate
use Rattle.vocabulary.specs.declared.calls.Reply.{Reply}
use Rattle.definitions.specs.Table.{Table, Address, Generation, Starting, Master, Worker, Caller, FilePath, live_master}
use Rattle.definitions.specs.Table.{is_worker, is_active, is_held, owner_at}
use Rattle.call_laws.specs.Pieces.{is_starting, is_draining, with_new_socket, opened, forked, spawned, awaited}
use Rattle.call_laws.specs.Pieces.{awaited_gone, fault_or_own, moved_if}
use Rattle.definitions.specs.Calls.{Stepped, gives, lowest_free, with_new_row, shared, step_with, step_by, own_step}
use Rattle.definitions.specs.Calls.{fault_of, has_process_room, is_image, suits, Handed}
use Rattle.std.specs.Bool.{then_some}
use Rattle.definitions.specs.Run.{reply_of, same_reply, Moment}
use Rattle.certifier.specs.Shown.{fate_of, found_gone, is_count, uncounted, workers_named, moment_by}
use Rattle.certifier.proofs.Shows.{uncounted-none}

---- Answers that a call gives by itself

pub same-kind : (r : Reply) → same_reply r r ≡ true
same-kind r = true_same the_type r r refl

has-behind : (before : List ℕ) (k : ℕ) (after : List ℕ) → is_in (before ++ k ∷ after) k ≡ true
has-behind [] k after = let same : nat_eq k k ≡ true = grind (arith, nat_tests) in rw same refl
has-behind (x ∷ before) k after = rw (has-behind before k after) (or-true (nat_eq x k))

lacks-none : (whole before rest : List ℕ) → before ++ rest ≡ whole → filter (λ k. not (is_in whole k)) rest ≡ []
lacks-none whole before [] split = refl
lacks-none whole before (k ∷ rest) split =
    let there : is_in whole k ≡ true = subst (λ (ks : List ℕ). is_in ks k ≡ true) split (has-behind before k rest) in
    rw there (lacks-none whole (before ++ k ∷ []) rest (append_assoc before (k ∷ []) rest ∙ split))

nobody-named : (call : Call) → workers_named call [] ≡ []
nobody-named (Census g) = refl
nobody-named _ = refl

-- a census that counts all who are ready leaves nobody out
uncounted-same : (call : Call) (a : Answer) → uncounted call a a ≡ []
uncounted-same call (answer.Counted ns) = ap (workers_named call) (lacks-none ns [] ns refl) ∙ nobody-named call
uncounted-same call _ = refl

---- Faults

-- a step is the fault, where its answer is of that kind
abbrev pub IsFaultOf : Table → Answer → Stepped → Type 0
IsFaultOf t a s = same_reply (reply_of [] s.answer) (reply_of [] a) ≡ true → s ≡ gives a t

either_faulty : (b : Bool) (t : Table) (a : Answer) (x y : Stepped) → IsFaultOf t a x → IsFaultOf t a y → IsFaultOf t a (cond b x y)
either_faulty true t a x y h k = h
either_faulty false t a x y h k = k

-- What a fault is that a fate gives: the fate's, which finds nobody gone, counts nobody, and by itself changes nothing either.
pub record IsFault (handed : Handed) (image : ℕ) (c : Caller) (call : Call) (f : Fate) (t : Table) (a : Answer) : Type 0 where
  pub named : fate_of a ≡ Some f
  pub nobody : (by : ℕ) → found_gone by call a ≡ []
  pub no_count : is_count a ≡ false
  pub itself : IsFaultOf t a (own_step handed image c call t)

-- a fault with the name of its fate
module _ (handed : Handed) (image : ℕ) (c : Caller) (t : Table) where
  is-it : (call : Call) (f : Fate) (own a : Answer) → Some own ≡ Some a → IsFault handed image c call f t own → IsFault handed image c call f t a
  is-it call f own a same fault = subst (IsFault handed image c call f t) (same_Some own a same) fault

  itself : (a : Answer) → IsFaultOf t a (gives a t)
  itself a same = refl

  other : (a own : Answer) (u : Table) → same_reply (reply_of [] own) (reply_of [] a) ≡ false → IsFaultOf t a (gives own u)
  other a own u differs same = absurd (false≢true (sym differs ∙ same))

  open-is : (ad : Address) (a : Answer) → IsFaultOf t a (gives answer.InUse t) →
      IsFaultOf t a (gives (answer.Opened (lowest_free c.holds))
      (with_new_socket t c.number (record { fd = lowest_free c.holds; socket = t.next_socket; address = ad }))) →
      IsFaultOf t a (gives answer.TooMany t) → IsFaultOf t a (opened c ad t)
  open-is ad a held new many =
      either_faulty (is_held ad t.rows) t a (gives answer.InUse t)
      (cond (nat_lt (length c.holds) t.limits.descriptors) (gives (answer.Opened (lowest_free c.holds)) (with_new_socket t c.number (record { fd = lowest_free c.holds; socket = t.next_socket; address = ad }))) (gives answer.TooMany t))
      held
      (either_faulty (nat_lt (length c.holds) t.limits.descriptors) t a (gives (answer.Opened (lowest_free c.holds)) (with_new_socket t c.number (record { fd = lowest_free c.holds; socket = t.next_socket; address = ad }))) (gives answer.TooMany t) new many)

  fork-is : (g : Generation) (k : ℕ) (fds : Option (List ℕ)) (a : Answer) → IsFaultOf t a (gives answer.Again t) →
      IsFaultOf t a (gives answer.Forked (with_new_row t (λ n. Worker n c.number g k Starting (shared fds c.holds)))) →
      IsFaultOf t a (gives answer.Again t) → IsFaultOf t a (forked c g k fds t)
  fork-is g k fds a borne new full =
      either_faulty (list_any (is_worker is_active c.number g k) t.rows) t a (gives answer.Again t)
      (cond (has_process_room t) (gives answer.Forked (with_new_row t (λ n. Worker n c.number g k Starting (shared fds c.holds)))) (gives answer.Again t))
      borne
      (either_faulty (has_process_room t) t a (gives answer.Forked (with_new_row t (λ n. Worker n c.number g k Starting (shared fds c.holds)))) (gives answer.Again t) new full)

  spawn-is : (i : ℕ) (a : Answer) → IsFaultOf t a (gives answer.Again t) →
      IsFaultOf t a (gives answer.Spawned (with_new_row t (λ n. Master n c.number i true c.holds))) →
      IsFaultOf t a (gives answer.Again t) → IsFaultOf t a (spawned c i t)
  spawn-is i a there new full =
      either_faulty (list_any (is_image i) t.rows) t a (gives answer.Again t)
      (cond (has_process_room t) (gives answer.Spawned (with_new_row t (λ n. Master n c.number i true c.holds))) (gives answer.Again t))
      there
      (either_faulty (has_process_room t) t a (gives answer.Spawned (with_new_row t (λ n. Master n c.number i true c.holds))) (gives answer.Again t) new full)

  ready-is : (g : Generation) (k : ℕ) → IsFaultOf t answer.Late (awaited c g k t)
  ready-is g k = waiting (list_any (is_worker is_active c.number g k) t.rows) _ _
    where
      waiting : (b : Bool) (one two : Table) → IsFaultOf t answer.Late (cond b (gives answer.IsReady one) (gives answer.Gone two))
      waiting true one two = other answer.Late answer.IsReady one refl
      waiting false one two = other answer.Late answer.Gone two refl

  gone-is : (g : Generation) (k : ℕ) → IsFaultOf t answer.Late (awaited_gone c g k t)
  gone-is g k = waiting (list_any (is_worker is_active c.number g k) t.rows) _
    where
      waiting : (b : Bool) (one : Table) → IsFaultOf t answer.Late (cond b (gives answer.Late t) (gives answer.Gone one))
      waiting true one = itself answer.Late
      waiting false one = other answer.Late answer.Gone one refl

  adopting : (b : Bool) → IsFaultOf t answer.Refused (cond b (gives answer.Adopted t) (gives answer.Refused t))
  adopting true = other answer.Refused answer.Adopted t refl
  adopting false = itself answer.Refused

  late : (b : Bool) (a : Answer) → then_some b answer.Late ≡ Some a → Some answer.Late ≡ Some a
  late true a h = h
  late false a h = absurd (none-some a h)

  moving : (owner : Option ℕ) (from to : FilePath) → IsFaultOf t answer.IoFault (moved_if owner from to t)
  moving None from to = itself answer.IoFault
  moving (Some n) from to = other answer.IoFault answer.Fine _ refl

  pub is-fault : (call : Call) (f : Fate) (a : Answer) → fault_of c call f t ≡ Some a → IsFault handed image c call f t a
  is-fault (OpenAt ad) fate.InUse a h = is-it (OpenAt ad) fate.InUse answer.InUse a h (record { named = refl; nobody = λ by. refl; no_count = refl; itself = open-is ad answer.InUse (itself answer.InUse) (other answer.InUse (answer.Opened (lowest_free c.holds)) _ refl) (other answer.InUse answer.TooMany t refl) })
  is-fault (OpenAt ad) fate.TooMany a h = is-it (OpenAt ad) fate.TooMany answer.TooMany a h (record { named = refl; nobody = λ by. refl; no_count = refl; itself = open-is ad answer.TooMany (other answer.TooMany answer.InUse t refl) (other answer.TooMany (answer.Opened (lowest_free c.holds)) _ refl) (itself answer.TooMany) })
  is-fault (OpenAt ad) fate.Denied a h = is-it (OpenAt ad) fate.Denied answer.Denied a h (record { named = refl; nobody = λ by. refl; no_count = refl; itself = open-is ad answer.Denied (other answer.Denied answer.InUse t refl) (other answer.Denied (answer.Opened (lowest_free c.holds)) _ refl) (other answer.Denied answer.TooMany t refl) })
  is-fault (OpenAt ad) fate.NoMemory a h = is-it (OpenAt ad) fate.NoMemory answer.NoMemory a h (record { named = refl; nobody = λ by. refl; no_count = refl; itself = open-is ad answer.NoMemory (other answer.NoMemory answer.InUse t refl) (other answer.NoMemory (answer.Opened (lowest_free c.holds)) _ refl) (other answer.NoMemory answer.TooMany t refl) })
  is-fault (Fork g k fds) fate.Again a h = is-it (Fork g k fds) fate.Again answer.Again a h (record { named = refl; nobody = λ by. refl; no_count = refl; itself = fork-is g k fds answer.Again (itself answer.Again) (other answer.Again answer.Forked _ refl) (itself answer.Again) })
  is-fault (Fork g k fds) fate.NoMemory a h = is-it (Fork g k fds) fate.NoMemory answer.NoMemory a h (record { named = refl; nobody = λ by. refl; no_count = refl; itself = fork-is g k fds answer.NoMemory (other answer.NoMemory answer.Again t refl) (other answer.NoMemory answer.Forked _ refl) (other answer.NoMemory answer.Again t refl) })
  is-fault (AwaitReady g k) fate.Late a h = is-it (AwaitReady g k) fate.Late answer.Late a (late (list_any (is_worker is_starting c.number g k) t.rows) a h) (record { named = refl; nobody = λ by. refl; no_count = refl; itself = ready-is g k })
  is-fault (AwaitGone g k) fate.Late a h = is-it (AwaitGone g k) fate.Late answer.Late a (late (list_any (is_worker is_draining c.number g k) t.rows) a h) (record { named = refl; nobody = λ by. refl; no_count = refl; itself = gone-is g k })
  is-fault (SpawnMaster i) fate.Again a h = is-it (SpawnMaster i) fate.Again answer.Again a h (record { named = refl; nobody = λ by. refl; no_count = refl; itself = spawn-is i answer.Again (itself answer.Again) (other answer.Again answer.Spawned _ refl) (itself answer.Again) })
  is-fault (SpawnMaster i) fate.NoMemory a h = is-it (SpawnMaster i) fate.NoMemory answer.NoMemory a h (record { named = refl; nobody = λ by. refl; no_count = refl; itself = spawn-is i answer.NoMemory (other answer.NoMemory answer.Again t refl) (other answer.NoMemory answer.Spawned _ refl) (other answer.NoMemory answer.Again t refl) })
  is-fault (SpawnMaster i) fate.NoImage a h = is-it (SpawnMaster i) fate.NoImage answer.NoImage a h (record { named = refl; nobody = λ by. refl; no_count = refl; itself = spawn-is i answer.NoImage (other answer.NoImage answer.Again t refl) (other answer.NoImage answer.Spawned _ refl) (other answer.NoImage answer.Again t refl) })
  is-fault Adopt fate.Refused a h = is-it Adopt fate.Refused answer.Refused a h (record { named = refl; nobody = λ by. refl; no_count = refl; itself = adopting (suits handed image c.holds) })
  is-fault (WritePid path) fate.IoFault a h = is-it (WritePid path) fate.IoFault answer.IoFault a h (record { named = refl; nobody = λ by. refl; no_count = refl; itself = other answer.IoFault answer.Fine _ refl })
  is-fault (MovePid from to) fate.IoFault a h = is-it (MovePid from to) fate.IoFault answer.IoFault a h (record { named = refl; nobody = λ by. refl; no_count = refl; itself = moving (owner_at from t.files) from to })
  is-fault (RemovePid path) fate.IoFault a h = is-it (RemovePid path) fate.IoFault answer.IoFault a h (record { named = refl; nobody = λ by. refl; no_count = refl; itself = other answer.IoFault answer.Fine _ refl })
  is-fault (Ask n) fate.Back a h = is-it (Ask n) fate.Back answer.Back a h (record { named = refl; nobody = λ by. refl; no_count = refl; itself = other answer.Back answer.Go _ refl })
  is-fault _ _ a h = absurd (none-some a h)

---- What is shown of a step under a fate

-- the moment that its entry shows has no exits, and gives the step again
pub record IsShown (handed : Handed) (by : ℕ) (c : Option Caller) (call : Call) (t : Table) (s : Stepped) : Type 0 where
  pub nobody : (moment_by (step_by handed by c call None t).answer (record { by = by; call = call; answer = s.answer })).exits ≡ []
  pub again : step_by handed by c call (moment_by (step_by handed by c call None t).answer (record { by = by; call = call; answer = s.answer })).fate t ≡ s

abbrev pub shows_by : Bool → ℕ → Call → Answer → Answer → Moment
shows_by b by call own a = if b then record { exits = uncounted call a own; fate = None } else record { exits = found_gone by call a; fate = fate_of a }

own-shown : (handed : Handed) (by : ℕ) (c : Option Caller) (call : Call) (t : Table) → IsShown handed by c call t (step_by handed by c call None t)
own-shown handed by c call t =
    let s = step_by handed by c call None t in
    let is : same_reply (reply_of [] s.answer) (reply_of [] s.answer) ≡ true = same-kind (reply_of [] s.answer) in
    record {
      nobody = ap (λ b. (shows_by b by call s.answer s.answer).exits) is ∙ uncounted-same call s.answer;
      again = ap (λ b. step_by handed by c call (shows_by b by call s.answer s.answer).fate t) is;
    }

fault-shown : (handed : Handed) (by : ℕ) (c : Caller) (call : Call) (f : Fate) (t : Table) (a : Answer) →
    fault_of c call f t ≡ Some a → IsShown handed by (Some c) call t (gives a t)
fault-shown handed by c call f t a is = go (same_reply (reply_of [] own.answer) (reply_of [] a)) refl
  where
    own : Stepped
    own = own_step handed by c call t

    fault : IsFault handed by c call f t a
    fault = is-fault handed by c t call f a is

    go : (b : Bool) → same_reply (reply_of [] (own_step handed by c call t).answer) (reply_of [] a) ≡ b → IsShown handed by (Some c) call t (gives a t)
    go true same = record {
      nobody = ap (λ b. (shows_by b by call (own_step handed by c call t).answer a).exits) same ∙ uncounted-none call a (own_step handed by c call t).answer fault.no_count;
      again = ap (λ b. step_by handed by (Some c) call (shows_by b by call (own_step handed by c call t).answer a).fate t) same ∙ fault.itself same;
    }
    go false other = record {
      nobody = ap (λ b. (shows_by b by call (own_step handed by c call t).answer a).exits) other ∙ fault.nobody by;
      again =
          ap (λ b. step_by handed by (Some c) call (shows_by b by call (own_step handed by c call t).answer a).fate t) other
          ∙ (ap (λ x. step_by handed by (Some c) call x t) fault.named ∙ ap (λ o. fault_or_own o handed by c call t) is);
    }

step-shown : (handed : Handed) (by : ℕ) (c : Option Caller) (call : Call) (f : Option Fate) (t : Table) →
    IsShown handed by c call t (step_by handed by c call f t)
step-shown handed by None call f t = own-shown handed by None call t
step-shown handed by (Some c) call None t = own-shown handed by (Some c) call t
step-shown handed by (Some c) call (Some f) t = go (fault_of c call f t) refl
  where
    go : (o : Option Answer) → fault_of c call f t ≡ o → IsShown handed by (Some c) call t (fault_or_own o handed by c call t)
    go None is = own-shown handed by (Some c) call t
    go (Some a) is = fault-shown handed by c call f t a is

pub shown-again : (handed : Handed) (by : ℕ) (call : Call) (f : Option Fate) (t : Table) →
    IsShown handed by (live_master by t.rows) call t (step_with handed by call f t)
shown-again handed by call f t = step-shown handed by (live_master by t.rows) call f t
