-- What is read line by line is in range.
use Rattle.std.proofs.Common.{◌≡◌, ◌≢◌, ℕ, ◌+◌, ◌≤◌, ◌<◌, Bool, true, false, ◌&&◌, nat_lt, not, Option, Some, None}
use Rattle.std.proofs.Common.{Result, Ok, Err, List, [], ◌∷◌, ◌++◌, length, refl, sym, ap, subst, ◌∙◌, arith, ◌⊎◌}
use Rattle.std.proofs.Common.{⊎_elim, inl, inr}
use Rattle.std.specs.Prelude.{bytes_eq, codes, ⊤, IfOk, ◌==◌, nat_le, is_none, if◌then◌else◌}
use Rattle.std.specs.List.{list_all, before_first, after_first, slice_split, position_or_len, count_by}
use Rattle.std.specs.Char.{is_ascii_graphic}
use Rattle.std.proofs.lemmas.Bool.{and_parts, cond_both, ltb-true, not-true, not-false, both_ways, and_from, leb-true}
use Rattle.std.proofs.lemmas.List.{length-append, get_or_default}
use Rattle.std.proofs.lemmas.List.Folds.{list_all-append}
use Rattle.std.proofs.lemmas.List.Sums.{fails_before_first, sum_by_push}
use Rattle.std.proofs.lemmas.List.Splits.{slice_split_first, slice_split_none, length-slice_split}
use Rattle.std.proofs.lemmas.List.Quantifiers.{all_pairs_push}
use Rattle.plain_text.specs.NumberText.{number_in, number_within}
use Rattle.plain_text.proofs.NumberTextLemmas.{decimal-number_within}
use Rattle.listener_set.specs.PathText.{is_path, begins_with_slash}
use Rattle.listener_set.specs.AddressList.{has}
use Rattle.listener_set.proofs.AddressLists.{has_this_address}
use Rattle.vocabulary.specs.declared.handover.HandoverRefusal.{HandoverRefusal}
use Rattle.vocabulary.specs.declared.table.Listener.{Listener}
use Rattle.definitions.specs.After.{listens_on}
use Rattle.definitions.specs.Calls.{Handover}
use Rattle.handover_text.specs.Spelling.{HandoverVersion, One, Two}
use Rattle.handover_text.specs.Reading.{Reached, AtVersion, AtOldPid, AtGeneration, AtFirstListener, AtListeners}
use Rattle.handover_text.specs.Reading.{AtWants, AtGroup, AtPidFile, AtEnd, Over, Read, nothing_read, then_read}
use Rattle.handover_text.specs.Reading.{read_rest, read_pieces, reading, is_space, is_address, listener_read, one_more}
use Rattle.handover_text.specs.Reading.{extended, with_old_pid, with_generation, with_listener, with_want, with_groups}
use Rattle.handover_text.specs.Reading.{with_workers, can_begin, with_group, with_pid_file, read_wanted, read_behind}
use Rattle.handover_text.specs.Reading.{read_pid_file, read_end, read_if, read_line}
use Rattle.master_listeners.specs.Listeners.{is_above}
use Rattle.plain_text.specs.Cuts.{after_prefix}
use Rattle.vocabulary.specs.Settings.{HasSuffixRoom}
use Rattle.handover_text.specs.Reader.{read_to}
use Rattle.handover_text.specs.Ranges.{IsHandover, IsTold, IsUnasked, IsBegun, IsAsked, AreParts, IsReadTo, lines_to, is_path_if}
use Rattle.worker_groups.specs.declared.groups.Group.{Group}
use Rattle.worker_groups.specs.declared.groups.GroupRefusal.{GroupRefusal}
use Rattle.worker_groups.specs.Groups.{AreGroups, addresses_in, workers_in, group_refused}
use Rattle.worker_groups.proofs.GroupShares.{fits-where, groups-more}
use Rattle.std.proofs.lemmas.Option.{none-some, same_Some}
use Rattle.master_listeners.proofs.Listed.{AreListedFrom-push, length-listed}
use Rattle.handover_text.proofs.LinesRead.{number_most, listener_bounds}

-- a fact of what is read, where it is not refused
abbrev pub IfRead : (Reached → Handover → Type 0) → Read → Type 0
IfRead P (Ok at) = P at.0 at.1
IfRead P (Err refusal) = ⊤

if_read : (P : Reached → Handover → Type 0) (o : Option (List ℕ)) (read : List ℕ → Read) (otherwise : Read) →
    ((rest : List ℕ) → IfRead P (read rest)) → IfRead P otherwise → IfRead P (read_if o read otherwise)
if_read P None read otherwise some none = none
if_read P (Some rest) read otherwise some none = some rest

-- a group that may be added keeps the rules
pub extended-some : (gs : List Group) (g : Group) (groups : List Group) → extended gs g ≡ Some groups →
    (groups ≡ gs ++ g ∷ []) × (group_refused gs g ≡ None)
extended-some gs g groups e = go (group_refused gs g) refl e
  where
    go : (o : Option GroupRefusal) → group_refused gs g ≡ o →
        (if is_none o then Some (gs ++ g ∷ []) else None) ≡ Some groups → (groups ≡ gs ++ g ∷ []) × (o ≡ None)
    go None is e' = (sym (same_Some _ _ e'), refl)
    go (Some why) is e' = absurd (none-some groups e')

pub sole-groups : (g : Group) → group_refused [] g ≡ None → AreGroups (g ∷ [])
sole-groups g e =
    let fits = fits-where [] g e in
    record { some = omega arith; most = omega arith; listening = (fits.listens, tt); addresses = omega (arith, fits.addresses); workers = omega (arith, fits.workers) }

-- Nothing but the parts changes.
module _ (n : ℕ) (h : Handover) (parts : AreParts h) where
  abbrev Next : Reached → Handover → Type 0
  Next place told = IsReadTo (n + 1) place told

  version_read : (version : HandoverVersion) → IsReadTo n AtVersion h → Next (AtOldPid version) h
  version_read version s = record { parts = parts; count = omega (arith, s.count); pid = tt; listener = s.listener; groups = s.groups; no_path = s.no_path }

  old_pid_read : (version : HandoverVersion) (o : Option ℕ) →
      ((pid : ℕ) → o ≡ Some pid → (1 ≤ pid) × (pid ≤ 4294967295)) → IsReadTo n (AtOldPid version) h →
      IfRead Next (with_old_pid n version h o)
  old_pid_read version None within s = tt
  old_pid_read version (Some pid) within s = record {
    parts = record { old_pid = (within pid refl).1; image = parts.image; config = parts.config; listed = parts.listed; listened = parts.listened; wanted = parts.wanted; distinct = parts.distinct; most = parts.most; path = parts.path };
    count = omega (arith, s.count);
    pid = (within pid refl).0;
    listener = s.listener;
    groups = s.groups;
    no_path = s.no_path;
  }

  generation_read : (version : HandoverVersion) (image config : Option ℕ) →
      ((i : ℕ) → image ≡ Some i → i ≤ 4294967295) → ((c : ℕ) → config ≡ Some c → c ≤ 4294967295) →
      IsReadTo n (AtGeneration version) h → IfRead Next (with_generation n version h image config)
  generation_read version None config image_most config_most s = tt
  generation_read version (Some i) None image_most config_most s = tt
  generation_read version (Some i) (Some c) image_most config_most s = record {
    parts = record { old_pid = parts.old_pid; image = image_most i refl; config = config_most c refl; listed = parts.listed; listened = parts.listened; wanted = parts.wanted; distinct = parts.distinct; most = parts.most; path = parts.path };
    count = omega (arith, s.count);
    pid = s.pid;
    listener = s.listener;
    groups = s.groups;
    no_path = s.no_path;
  }

  listener_read_to : (version : HandoverVersion) (o : Option Listener) →
      ((l : Listener) → o ≡ Some l → (3 ≤ l.descriptor) × (l.descriptor < 67) × (is_address l.address ≡ true)) →
      1 ≤ h.old_pid → IsUnasked h → h.pid_file ≡ None → n ≤ 4 + length h.listeners + length h.groups + length h.want →
      IfRead Next (with_listener n version h o)
  listener_read_to version None within pid unasked no_path count = tt
  listener_read_to version (Some l) within pid unasked no_path count =
      let bounds = within l refl in
      cond_both (not (is_above l.descriptor h.listeners)) _ _ (IfRead Next)
      (λ low. tt)
      (λ above. cond_both (listens_on h.listeners l.address) _ _ (IfRead Next)
      (λ doubled. tt)
      (λ new. let longer = length-append h.listeners (l ∷ []) in record {
        parts = record {
          old_pid = parts.old_pid;
          image = parts.image;
          config = parts.config;
          listed = AreListedFrom-push 3 h.listeners l parts.listed (not-false (is_above l.descriptor h.listeners) above) bounds.0 bounds.1 new;
          listened = list_all-append (λ (m : Listener). is_address m.address) h.listeners (l ∷ []) ∙ and_from _ _ parts.listened (and_from _ _ bounds.2 refl);
          wanted = parts.wanted;
          distinct = parts.distinct;
          most = parts.most;
          path = parts.path;
        };
        count = omega (arith, longer, count);
        pid = pid;
        listener = omega (arith, longer);
        groups = unasked;
        no_path = no_path;
      }))

  -- an address more is wanted
  pub parts-more : (a : List ℕ) → is_address a ≡ true → has h.want a ≡ false → length h.want < 64 → AreParts (record h { want = h.want ++ a ∷ [] })
  parts-more a address new room = record {
    old_pid = parts.old_pid;
    image = parts.image;
    config = parts.config;
    listed = parts.listed;
    listened = parts.listened;
    wanted = list_all-append is_address h.want (a ∷ []) ∙ and_from _ _ parts.wanted (and_from _ _ address refl);
    distinct = all_pairs_push (λ x y. x ≢ y) h.want a parts.distinct (λ k d lt e. both_ways (has h.want a) new ((has_this_address h.want a (has h.want a) refl).1 (k, lt, get_or_default h.want k a d lt ∙ e)));
    most = omega (arith, length-append h.want (a ∷ []), room);
    path = parts.path;
  }

  want_read : (place : Reached) (a : List ℕ) →
      (AreParts (record h { want = h.want ++ a ∷ [] }) → Next place (record h { want = h.want ++ a ∷ [] })) →
      IfRead Next (with_want n place h a)
  want_read place a next =
      cond_both (is_address a && (not (has h.want a) && nat_lt (length h.want) 64)) _ _ (IfRead Next)
      (λ taken.
      let tests = and_parts (is_address a) (not (has h.want a) && nat_lt (length h.want) 64) taken in
      let news = and_parts (not (has h.want a)) (nat_lt (length h.want) 64) tests.1 in
      next (parts-more a tests.0 (not-true (has h.want a) news.0) (ltb-true (length h.want) 64 news.1)))
      (λ refused. tt)

  -- all addresses are of one group
  single-read : (w : ℕ) (o : Option (List Group)) →
      extended [] (record { addresses = length h.want; workers = w }) ≡ o →
      h.groups ≡ [] → 1 ≤ h.old_pid → 1 ≤ length h.listeners → h.pid_file ≡ None →
      n ≤ 4 + length h.listeners + length h.groups + length h.want → IfRead Next (with_groups n AtPidFile h o)
  single-read w None e none pid listener no_path count = tt
  single-read w (Some groups) e none pid listener no_path count =
      let g : Group = record { addresses = length h.want; workers = w } in
      let is = extended-some [] g groups e in
      let same : groups ≡ g ∷ [] = is.0 in record {
        parts = record { old_pid = parts.old_pid; image = parts.image; config = parts.config; listed = parts.listed; listened = parts.listened; wanted = parts.wanted; distinct = parts.distinct; most = parts.most; path = parts.path };
        count = omega (arith, count, ap length none, ap length same);
        pid = pid;
        listener = listener;
        groups = record { groups = subst AreGroups (sym same) (sole-groups g is.1); add_up = ap addresses_in same ∙ omega arith; tells = ap length same };
        no_path = no_path;
      }

  workers_read : (o : Option ℕ) → IsReadTo n AtWants h → IfRead Next (with_workers n h o)
  workers_read None s = tt
  workers_read (Some w) s = single-read w (extended [] (record { addresses = length h.want; workers = w })) refl s.groups s.pid s.listener s.no_path s.count

  group_read : (o : Option ℕ) → (h.groups ≡ []) ⊎ AreGroups h.groups → addresses_in h.groups ≡ length h.want →
      1 ≤ h.old_pid → 1 ≤ length h.listeners → h.pid_file ≡ None →
      n ≤ 4 + length h.listeners + length h.groups + length h.want → IfRead Next (with_group n h o)
  group_read None before add_up pid listener no_path count = tt
  group_read (Some w) before add_up pid listener no_path count =
      cond_both (can_begin h.groups w) _ _ (IfRead Next)
      (λ begins. let tests = and_parts (nat_lt (length h.groups) 16) (nat_le (workers_in h.groups + w) 1024) begins in record {
        parts = parts;
        count = omega (arith, count);
        pid = pid;
        listener = listener;
        groups = record { before = before; counts = omega (arith, add_up); few = ltb-true (length h.groups) 16 tests.0; workers = leb-true (workers_in h.groups + w) 1024 tests.1 };
        no_path = no_path;
      })
      (λ refused. tt)

  pid_file_read : (version : HandoverVersion) (path : List ℕ) → IsAsked version h → 1 ≤ h.old_pid →
      1 ≤ length h.listeners → n ≤ 5 + length h.listeners + length h.groups + length h.want →
      IfRead Next (with_pid_file n version h path)
  pid_file_read version path asked pid listener count =
      cond_both (is_path path) _ _ (IfRead Next)
      (λ is. record {
        parts = record { old_pid = parts.old_pid; image = parts.image; config = parts.config; listed = parts.listed; listened = parts.listened; wanted = parts.wanted; distinct = parts.distinct; most = parts.most; path = is };
        count = omega (arith, count);
        pid = pid;
        listener = listener;
        groups = record { groups = asked.groups; add_up = asked.add_up; tells = tells-still version asked.tells };
        no_path = tt;
      })
      (λ refused. tt)
    where
      tells-still : (v : HandoverVersion) → IsTold v h → IsTold v (record h { pid_file = Some path })
      tells-still One e = e
      tells-still Two e = tt

  end_read : (version : HandoverVersion) (line : List ℕ) → IsAsked version h → 1 ≤ h.old_pid → 1 ≤ length h.listeners →
      n ≤ 6 + length h.listeners + length h.groups + length h.want → IfRead Next (read_end n version h line)
  end_read version line asked pid listener count =
      cond_both (bytes_eq line (codes "end")) _ _ (IfRead Next)
      (λ is. record { parts = parts; count = omega (arith, count); pid = pid; listener = listener; groups = asked; no_path = tt })
      (λ refused. tt)

  file_read : (version : HandoverVersion) (line : List ℕ) → IsAsked version h → 1 ≤ h.old_pid → 1 ≤ length h.listeners →
      n ≤ 5 + length h.listeners + length h.groups + length h.want → IfRead Next (read_pid_file n version h line)
  file_read version line asked pid listener count =
      if_read Next (after_prefix (codes "pid-file ") line) _ _
      (λ rest. pid_file_read version rest asked pid listener count)
      (end_read version line asked pid listener (omega (arith, count)))

-- a group that was begun takes its place
pub closed-asked : (h : Handover) (g : Group) (groups : List Group) → IsBegun g h → extended h.groups g ≡ Some groups →
    (AreGroups groups) × (addresses_in groups ≡ length h.want) × (length groups ≡ length h.groups + 1)
closed-asked h g groups begun e =
    let is = extended-some h.groups g groups e in
    let fits = fits-where h.groups g is.1 in (
      subst AreGroups (sym is.0) (⊎_elim (λ none. subst (λ gs. AreGroups (gs ++ g ∷ [])) (sym none) (sole-groups g (ap (λ gs. group_refused gs g) (sym none) ∙ is.1))) (λ some. groups-more h.groups g some fits) begun.before),
      ap addresses_in is.0 ∙ sum_by_push (λ (x : Group). x.addresses) h.groups g ∙ begun.counts,
      ap length is.0 ∙ length-append h.groups (g ∷ []),
    )

behind_read : (n : ℕ) (h : Handover) (g : Group) (line : List ℕ) (o : Option (List Group)) → extended h.groups g ≡ o →
    IsReadTo n (AtGroup g) h → IfRead (IsReadTo (n + 1)) (read_behind n h o line)
behind_read n h g line None e s = tt
behind_read n h g line (Some groups) e s =
    let is = closed-asked h g groups s.groups e in
    let h' : Handover = record h { groups = groups } in
    let parts : AreParts h' = record { old_pid = s.parts.old_pid; image = s.parts.image; config = s.parts.config; listed = s.parts.listed; listened = s.parts.listened; wanted = s.parts.wanted; distinct = s.parts.distinct; most = s.parts.most; path = s.parts.path } in
    let count : n ≤ 4 + length h.listeners + length groups + length h.want = omega (arith, s.count, is.2) in
    if_read (IsReadTo (n + 1)) (after_prefix (codes "group ") line) _ _
    (λ rest. group_read n h' parts (number_within 0 1024 rest) (inr is.0) is.1 s.pid s.listener s.no_path count)
    (file_read n h' parts Two line (record { groups = is.0; add_up = is.1; tells = tt }) s.pid s.listener (omega (arith, count)))

-- each line leaves what was read in range
pub line_read : (n : ℕ) (place : Reached) (h : Handover) (line : List ℕ) → IsReadTo n place h → IfRead (IsReadTo (n + 1)) (read_line n place h line)
line_read n AtVersion h line s =
    cond_both (bytes_eq line (codes "handover 1")) _ _ (IfRead (IsReadTo (n + 1)))
    (λ is. version_read n h s.parts One s)
    (λ other. cond_both (bytes_eq line (codes "handover 2")) _ _ (IfRead (IsReadTo (n + 1)))
    (λ is. version_read n h s.parts Two s)
    (λ refused. tt))
line_read n (AtOldPid version) h line s =
    if_read (IsReadTo (n + 1)) (after_prefix (codes "old-pid ") line) _ _
    (λ rest. old_pid_read n h s.parts version (number_within 1 4294967295 rest) (λ pid e. let is = decimal-number_within 1 4294967295 rest pid e in (is.1, is.2)) s)
    tt
line_read n (AtGeneration version) h line s =
    if_read (IsReadTo (n + 1)) (after_prefix (codes "generation ") line) _ _
    (λ rest. generation_read n h s.parts version (number_in (before_first is_space rest)) (number_in (after_first is_space rest)) (number_most (before_first is_space rest)) (number_most (after_first is_space rest)) s)
    tt
line_read n (AtFirstListener version) h line s =
    if_read (IsReadTo (n + 1)) (after_prefix (codes "listener ") line) _ _
    (λ rest. listener_read_to n h s.parts version (listener_read rest) (listener_bounds rest) s.pid s.groups s.no_path s.count)
    tt
line_read n (AtListeners version) h line s =
    if_read (IsReadTo (n + 1)) (after_prefix (codes "listener ") line) _ _
    (λ rest. listener_read_to n h s.parts version (listener_read rest) (listener_bounds rest) s.pid s.groups s.no_path s.count)
    (first-wanted version)
  where
    first-wanted : (v : HandoverVersion) → IfRead (IsReadTo (n + 1)) (read_wanted n v h line)
    first-wanted One =
        if_read (IsReadTo (n + 1)) (after_prefix (codes "want ") line) _ _
        (λ rest. want_read n h s.parts AtWants rest (λ parts. record { parts = parts; count = omega (arith, s.count, length-append h.want (rest ∷ [])); pid = s.pid; listener = s.listener; groups = s.groups.1; no_path = s.no_path }))
        tt
    first-wanted Two =
        if_read (IsReadTo (n + 1)) (after_prefix (codes "group ") line) _ _
        (λ rest. group_read n h s.parts (number_within 0 1024 rest) (inl s.groups.1) (ap addresses_in s.groups.1 ∙ sym (ap length s.groups.0)) s.pid s.listener s.no_path s.count)
        tt
line_read n AtWants h line s =
    if_read (IsReadTo (n + 1)) (after_prefix (codes "want ") line) _ _
    (λ rest. want_read n h s.parts AtWants rest (λ parts. record { parts = parts; count = omega (arith, s.count, length-append h.want (rest ∷ [])); pid = s.pid; listener = s.listener; groups = s.groups; no_path = s.no_path }))
    (if_read (IsReadTo (n + 1)) (after_prefix (codes "workers ") line) _ _
    (λ rest. workers_read n h s.parts (number_within 0 1024 rest) s)
    tt)
line_read n (AtGroup g) h line s =
    if_read (IsReadTo (n + 1)) (after_prefix (codes "want ") line) _ _
    (λ rest. want_read n h s.parts (AtGroup (one_more g)) rest (λ parts. record {
      parts = parts;
      count = omega (arith, s.count, length-append h.want (rest ∷ []));
      pid = s.pid;
      listener = s.listener;
      groups = record { before = s.groups.before; counts = omega (arith, s.groups.counts, length-append h.want (rest ∷ [])); few = s.groups.few; workers = s.groups.workers };
      no_path = s.no_path;
    }))
    (behind_read n h g line (extended h.groups g) refl s)
line_read n AtPidFile h line s = file_read n h s.parts One line s.groups s.pid s.listener s.count
line_read n (AtEnd version) h line s = end_read n h s.parts version line s.groups s.pid s.listener s.count
line_read n (Over version) h line s = tt

---- The whole text

-- so many groups there are at most
few-groups : (n : ℕ) (place : Reached) (h : Handover) → IsReadTo n place h → length h.groups ≤ 16
few-groups n AtVersion h s = omega (arith, ap length s.groups.1)
few-groups n (AtOldPid version) h s = omega (arith, ap length s.groups.1)
few-groups n (AtGeneration version) h s = omega (arith, ap length s.groups.1)
few-groups n (AtFirstListener version) h s = omega (arith, ap length s.groups.1)
few-groups n (AtListeners version) h s = omega (arith, ap length s.groups.1)
few-groups n AtWants h s = omega (arith, ap length s.groups)
few-groups n (AtGroup g) h s = ⊎_elim (λ none. omega (arith, ap length none)) (λ some. some.most) s.groups.before
few-groups n AtPidFile h s = s.groups.groups.most
few-groups n (AtEnd version) h s = s.groups.groups.most
few-groups n (Over version) h s = s.groups.groups.most

-- so many lines are read at most
pub number_small : (n : ℕ) (place : Reached) (h : Handover) → IsReadTo n place h → n ≤ 151
number_small n place h s =
    let few = lines_to_few place in
    let listeners = length-listed 3 h.listeners s.parts.listed (omega arith) in
    omega (arith, s.count, few, listeners, s.parts.most, few-groups n place h s)
  where
    lines_to_few : (p : Reached) → lines_to p ≤ 7
    lines_to_few AtVersion = omega arith
    lines_to_few (AtOldPid version) = omega arith
    lines_to_few (AtGeneration version) = omega arith
    lines_to_few (AtFirstListener version) = omega arith
    lines_to_few (AtListeners version) = omega arith
    lines_to_few AtWants = omega arith
    lines_to_few (AtGroup g) = omega arith
    lines_to_few AtPidFile = omega arith
    lines_to_few (AtEnd version) = omega arith
    lines_to_few (Over version) = omega arith

pub read_in_range : (n : ℕ) (version : HandoverVersion) (h : Handover) → IsReadTo n (Over version) h → IsHandover h
read_in_range n version h s = record {
  parts = s.parts;
  in_range = record { old_pid = s.pid; listens = s.listener; add_up = s.groups.add_up; pid_file = suffix_room h.pid_file s.parts.path };
  groups = s.groups.groups;
}
  where
    suffix_room : (o : Option (List ℕ)) → is_path_if o ≡ true → HasSuffixRoom o
    suffix_room None is = tt
    suffix_room (Some path) is = leb-true (length path) 100 (and_parts (nat_le (length path) 100) (begins_with_slash path) (and_parts (nat_le (length path) 100 && begins_with_slash path) (list_all is_ascii_graphic path) is).0).0

pub rest_in_range : (n : ℕ) (place : Reached) (h : Handover) (rest : List ℕ) → IsReadTo n place h → IfOk (read_rest place h rest) IsHandover
rest_in_range n AtVersion h rest s = tt
rest_in_range n (AtOldPid version) h rest s = tt
rest_in_range n (AtGeneration version) h rest s = tt
rest_in_range n (AtFirstListener version) h rest s = tt
rest_in_range n (AtListeners version) h rest s = tt
rest_in_range n AtWants h rest s = tt
rest_in_range n (AtGroup g) h rest s = tt
rest_in_range n AtPidFile h rest s = tt
rest_in_range n (AtEnd version) h rest s = tt
rest_in_range n (Over version) h [] s = read_in_range n version h s
rest_in_range n (Over version) h (c ∷ cs) s = tt

pub nothing_in_range : IsReadTo 1 AtVersion nothing_read
nothing_in_range = record {
  parts = record { old_pid = omega arith; image = omega arith; config = omega arith; listed = tt; listened = refl; wanted = refl; distinct = λ i j d lt within. absurd (let none : j < 0 = within in omega arith); most = omega arith; path = refl };
  count = omega arith;
  pid = tt;
  listener = refl;
  groups = (refl, refl);
  no_path = refl;
}

abbrev pub is_newline : ℕ → Bool
is_newline c = c == 10

pub pieces_more : (n : ℕ) (place : Reached) (h : Handover) (line : List ℕ) (rest : List ℕ) →
    read_pieces n place h (line ∷ slice_split is_newline rest)
    ≡ then_read (read_line n place h line) (λ place' h'. read_pieces (n + 1) place' h' (slice_split is_newline rest))
pieces_more n place h line rest = at (slice_split is_newline rest) (length-slice_split is_newline rest)
  where
    at : (pieces : List (List ℕ)) → length pieces ≡ count_by is_newline rest + 1 →
        read_pieces n place h (line ∷ pieces)
        ≡ then_read (read_line n place h line) (λ place' h'. read_pieces (n + 1) place' h' pieces)
    at [] e = absurd (omega (arith, e))
    at (piece ∷ pieces) e = refl

-- a line and what follows it
pub pieces_line : (n : ℕ) (place : Reached) (h : Handover) (rest : List ℕ) →
    position_or_len is_newline rest < length rest →
    read_pieces n place h (slice_split is_newline rest)
    ≡ then_read (read_line n place h (before_first is_newline rest))
    (λ place' h'. read_pieces (n + 1) place' h' (slice_split is_newline (after_first is_newline rest)))
pieces_line n place h rest within =
    ap (read_pieces n place h) (slice_split_first is_newline rest 0 within)
    ∙ pieces_more n place h (before_first is_newline rest) (after_first is_newline rest)

-- no newline is left
pub pieces_last : (n : ℕ) (place : Reached) (h : Handover) (rest : List ℕ) →
    length rest ≤ position_or_len is_newline rest →
    read_pieces n place h (slice_split is_newline rest) ≡ read_rest place h rest
pieces_last n place h rest past =
    ap (read_pieces n place h) (slice_split_none is_newline rest (λ k d lt. fails_before_first is_newline rest k d (omega (arith, lt, past))))

-- what a line leaves to be read
module _ (n : ℕ) (place : Reached) (h : Handover) (state : Reached × Handover) (rest : List ℕ)
    (r : Result (Unit {0}) HandoverRefusal) (within : position_or_len is_newline rest < length rest)
    (read : read_to r state ≡ read_line n place h (before_first is_newline rest)) where
  line_is : (o : Read) → o ≡ read_to r state →
      read_pieces n place h (slice_split is_newline rest)
      ≡ then_read o (λ place' h'. read_pieces (n + 1) place' h' (slice_split is_newline (after_first is_newline rest)))
  line_is o e =
      pieces_line n place h rest within ∙
      ap (λ o'. then_read o' (λ place' h'. read_pieces (n + 1) place' h'
      (slice_split is_newline (after_first is_newline rest)))) (sym (e ∙ read))

  pub line_taken : r ≡ Ok tt →
      read_pieces (n + 1) state.0 state.1 (slice_split is_newline (after_first is_newline rest))
      ≡ read_pieces n place h (slice_split is_newline rest)
  line_taken ok = sym (line_is (Ok state) (ap (λ q. read_to q state) (sym ok)))

  pub line_refused : (refusal : HandoverRefusal) → r ≡ Err refusal → Err refusal ≡ read_pieces n place h (slice_split is_newline rest)
  line_refused refusal err = sym (line_is (Err refusal) (ap (λ q. read_to q state) (sym err)))

  pub taken_in_range : r ≡ Ok tt → IsReadTo n place h → IsReadTo (n + 1) state.0 state.1
  taken_in_range ok s =
      let e : Ok state ≡ read_line n place h (before_first is_newline rest) = ap (λ q. read_to q state) (sym ok) ∙ read in
      subst (IfRead (IsReadTo (n + 1))) (sym e) (line_read n place h (before_first is_newline rest) s)

pieces_in_range : (n : ℕ) (place : Reached) (h : Handover) (pieces : List (List ℕ)) → IsReadTo n place h → IfOk (read_pieces n place h pieces) IsHandover
pieces_in_range n place h [] s = rest_in_range n place h [] s
pieces_in_range n place h (rest ∷ []) s = rest_in_range n place h rest s
pieces_in_range n place h (line ∷ next ∷ more) s =
    at (read_line n place h line) (line_read n place h line s) (λ place' h'. pieces_in_range (n + 1) place' h' (next ∷ more))
  where
    at : (r : Read) → IfRead (IsReadTo (n + 1)) r →
        ((place' : Reached) (h' : Handover) → IsReadTo (n + 1) place' h' →
        IfOk (read_pieces (n + 1) place' h' (next ∷ more)) IsHandover) →
        IfOk (then_read r (λ place' h'. read_pieces (n + 1) place' h' (next ∷ more))) IsHandover
    at (Err refusal) read later = tt
    at (Ok state) read later = later state.0 state.1 read

-- What is read is in range.
pub reading_in_range : (text : List ℕ) → IfOk (reading text) IsHandover
reading_in_range text = pieces_in_range 1 AtVersion nothing_read (slice_split is_newline text) nothing_in_range
