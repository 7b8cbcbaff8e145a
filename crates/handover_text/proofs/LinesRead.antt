-- What is read, line by line.
use Rattle.std.proofs.Common.{◌≡◌, ℕ, ◌≤◌, ◌<◌, Bool, true, false, ◌==◌, Option, Some, None, Result, Ok, Err, List, []}
use Rattle.std.proofs.Common.{◌∷◌, ◌++◌, length, refl, sym, ap, ◌∙◌, arith}
use Rattle.std.specs.List.{before_first, after_first}
use Rattle.std.proofs.lemmas.Bool.{and_from, le-leb, lt-ltb}
use Rattle.std.proofs.lemmas.Option.{none-some, same_Some}
use Rattle.std.proofs.lemmas.List.Sums.{list_all-from_AllPass}
use Rattle.std.specs.Char.{is_ascii_graphic}
use Rattle.listener_set.specs.PathText.{is_path, IsFilePath}
use Rattle.plain_text.specs.NumberText.{number_in, number_within}
use Rattle.listener_set.specs.AddressText.{reading, check, accepted}
use Rattle.listener_set.specs.declared.address.AddressRefusal.{AddressRefusal}
use Rattle.listener_set.specs.AddressList.{has}
use Rattle.plain_text.proofs.NumberTextLemmas.{decimal-number_in, decimal-number_within}
use Rattle.vocabulary.specs.declared.table.Listener.{Listener}
use Rattle.definitions.specs.After.{listens_on}
use Rattle.definitions.specs.Calls.{Handover}
use Rattle.handover_text.specs.Spelling.{HandoverVersion}
use Rattle.handover_text.specs.Reading.{Reached, AtListeners, passes, is_space, is_address, listener_if, listener_read, with_listener, with_want}
use Rattle.master_listeners.specs.Listeners.{is_above}

---- Values

pub number_most : (text : List ℕ) (n : ℕ) → number_in text ≡ Some n → n ≤ 4294967295
number_most text n e = let lt = (decimal-number_in text n e).1 in omega (arith, lt)

-- what the listener of a line is
pub listener_bounds : (rest : List ℕ) (l : Listener) → listener_read rest ≡ Some l → (3 ≤ l.descriptor) × (l.descriptor < 67) × (is_address l.address ≡ true)
listener_bounds rest l e = at (number_within 3 66 (before_first is_space rest)) refl (is_address (after_first is_space rest)) refl e
  where
    at : (o : Option ℕ) → number_within 3 66 (before_first is_space rest) ≡ o → (b : Bool) →
        is_address (after_first is_space rest) ≡ b → listener_if o (after_first is_space rest) b ≡ Some l →
        (3 ≤ l.descriptor) × (l.descriptor < 67) × (is_address l.address ≡ true)
    at None number b address h = cc
    at (Some fd) number false address h = cc
    at (Some fd) number true address h =
        let is = decimal-number_within 3 66 (before_first is_space rest) fd number in
        let same : record { descriptor = fd; address = after_first is_space rest } ≡ l = cc in
        let fd_is : fd ≡ l.descriptor = ap (λ (m : Listener). m.descriptor) same in
        let low : 3 ≤ fd = is.1 in
        let high : fd ≤ 66 = is.2 in
        (omega arith, omega arith, ap (λ (m : Listener). is_address m.address) (sym same) ∙ address)

-- an address that is read is its text
pub address_read : (text a : List ℕ) → reading text ≡ Ok a → (a ≡ text) × (is_address text ≡ true)
address_read text a e = at (check text) refl e
  where
    at : (r : Result (Unit {0}) AddressRefusal) → check text ≡ r → accepted text r ≡ Ok a → (a ≡ text) × (is_address text ≡ true)
    at (Ok u) is h = let same : text ≡ a = cc in (sym same, ap passes is)
    at (Err refusal) is h = cc

-- an address that is taken up
pub want_taken : (n : ℕ) (place : Reached) (h : Handover) (text a : List ℕ) (new : List (List ℕ)) →
    reading text ≡ Ok a → has h.want a ≡ false → length h.want < 64 → new ≡ h.want ++ a ∷ [] →
    Ok (
      place,
      record {
        old_pid = h.old_pid;
        generation = h.generation;
        listeners = h.listeners;
        want = new;
        groups = h.groups;
        pid_file = h.pid_file;
      },
    ) ≡ with_want n place h text
want_taken n place h text a new e absent room is =
    let read = address_read text a e in
    let absent' : has h.want text ≡ false = rw (sym read.0) absent in
    let more : new ≡ h.want ++ text ∷ [] = is ∙ ap (λ b. h.want ++ b ∷ []) read.0 in
    rw (read.1, absent', lt-ltb (length h.want) 64 room, more) refl

-- a listener that is taken up
pub listener_taken : (n : ℕ) (version : HandoverVersion) (h : Handover) (o : Option Listener) (l : Listener)
    (new : List Listener) → o ≡ Some l → is_above l.descriptor h.listeners ≡ true →
    listens_on h.listeners l.address ≡ false → new ≡ h.listeners ++ l ∷ [] →
    Ok (
      AtListeners version,
      record {
        old_pid = h.old_pid;
        generation = h.generation;
        listeners = new;
        want = h.want;
        groups = h.groups;
        pid_file = h.pid_file;
      },
    ) ≡ with_listener n version h o
listener_taken n version h o l new read above absent is = rw (read, above, absent, is) refl

-- the path of a file that leaves room for a suffix
pub file_path_is : (path : List ℕ) → IsFilePath path → length path ≤ 100 → is_path path ≡ true
file_path_is [] h room = absurd (none-some 47 h.slash)
file_path_is (c ∷ cs) h room =
    let slash : c ≡ 47 = same_Some c 47 h.slash in
    and_from _ _
    (and_from _ _ (le-leb (length (c ∷ cs)) 100 room) (ap (λ b. b == 47) slash))
    (list_all-from_AllPass is_ascii_graphic (c ∷ cs) h.graphic)
