-- What stands before a faulty line begins the text of some handover.
use Rattle.std.proofs.Common.{◌≡◌, ◌≢◌, ℕ, zero, suc, ◌+◌, ◌-◌, ◌<◌, ◌≤◌, Bool, true, false, ◌&&◌, ◌||◌, nat_eq, nat_lt}
use Rattle.std.proofs.Common.{not, Option, Some, None, Result, Ok, Err, List, [], ◌∷◌, ◌++◌, length, map, take}
use Rattle.std.proofs.Common.{replicate, refl, sym, ap, subst, ◌∙◌, arith, ◌⊎◌, ⊎_elim, inl, inr, append_assoc}
use Rattle.std.specs.Prelude.{bytes_eq, codes, ⊤, if◌then◌else◌}
use Rattle.std.specs.Char.{is_ascii_graphic}
use Rattle.std.specs.List.{flat_map, list_any, list_all, before_first, after_first, slice_split}
use Rattle.std.specs.Cmp.Lexicographic.{same_text}
use Rattle.std.proofs.lemmas.Bool.{cases_lt, le-ltb, lt-ltb, le-leb, and_from, both_ways}
use Rattle.std.proofs.lemmas.Bool.Decides.{eqb_tells}
use Rattle.std.proofs.lemmas.List.{append-nil, length-append, length-replicate, length-map}
use Rattle.std.proofs.lemmas.List.Sums.{sum_by_push}
use Rattle.std.proofs.lemmas.Map.Steps.{le-length_from_below}
use Rattle.plain_text.specs.NumberText.{number_in, number_within}
use Rattle.listener_set.specs.PathText.{is_path}
use Rattle.listener_set.specs.AddressList.{has}
use Rattle.worker_groups.specs.declared.groups.Group.{Group}
use Rattle.worker_groups.specs.Groups.{AreGroups, addresses_in, workers_in, group_refused}
use Rattle.worker_groups.proofs.GroupShares.{Fits, fits-where, none-where, groups-more}
use Rattle.vocabulary.specs.Settings.{HasSuffixRoom}
use Rattle.vocabulary.specs.declared.handover.HandoverRefusal.{HandoverRefusal}
use Rattle.vocabulary.specs.declared.handover.HandoverRefusal.TheVariants as refusal
use Rattle.vocabulary.specs.declared.table.Listener.{Listener}
use Rattle.definitions.specs.Table.{Address}
use Rattle.definitions.specs.After.{listens_on}
use Rattle.definitions.specs.Calls.{Handover}
use Rattle.handover_text.specs.Spelling.{HandoverVersion, One, Two, line_of, version_line, listener_line, want_line}
use Rattle.handover_text.specs.Spelling.{workers_line, group_line, pid_file_line, group_lines}
use Rattle.handover_text.specs.Reading.{Reached, AtVersion, AtOldPid, AtGeneration, AtFirstListener, AtListeners}
use Rattle.handover_text.specs.Reading.{AtWants, AtGroup, AtPidFile, AtEnd, Over, Read, nothing_read, is_space}
use Rattle.handover_text.specs.Reading.{is_address, listener_read, one_more, extended, with_old_pid, with_generation}
use Rattle.handover_text.specs.Reading.{with_listener, with_want, with_groups, with_workers, can_begin, with_group}
use Rattle.handover_text.specs.Reading.{read_wanted, read_behind, read_pid_file, read_end, read_if, read_line}
use Rattle.handover_text.specs.Reading.{then_read, read_rest, read_pieces, reading}
use Rattle.master_listeners.specs.Listeners.{is_above}
use Rattle.plain_text.specs.Cuts.{after_prefix}
use Rattle.handover_text.specs.Ranges.{IsUnasked, IsBegun, IsAsked, AreParts, IsReadTo}
use Rattle.handover_text.specs.Faults.{Begins, IsFull, IsFaultless, lines_before}
use Rattle.handover_text.proofs.SoFar.{IfRead, line_read, nothing_in_range, read_in_range, sole-groups, parts-more, is_newline}
use Rattle.handover_text.proofs.Spelled.{old_pid_line, generation_line, to_generation, to_listeners, to_wants}
use Rattle.handover_text.proofs.Spelled.{to_pid_file, so_far, IsText, line_went, group-begun, group-more}

---- An address that is not among some

abbrev slash : ℕ
slash = 47

abbrev slashes : ℕ → Address
slashes k = slash ∷ replicate k slash

repeated : (k : ℕ) → length (replicate k slash) ≡ k
repeated k = length-replicate {A = ℕ} k slash

all-slashes : (k : ℕ) → list_all is_ascii_graphic (replicate k slash) ≡ true
all-slashes zero = refl
all-slashes (suc k) = all-slashes k

slashes-address : (k : ℕ) → k < 64 → is_address (slashes k) ≡ true
slashes-address k low =
    let short : nat_lt 107 (length (slashes k)) ≡ false = le-ltb 107 (length (slashes k)) (omega (arith, repeated k)) in
    rw (short, all-slashes k) refl

-- the lengths of addresses, each less one
abbrev lengths : List Address → List ℕ
lengths want = map (λ (a : Address). length a - 1) want

same-number : (k : ℕ) → nat_eq k k ≡ true
same-number k = elim (eqb_tells k k) [ inl t ↦ t.0 | inr t ↦ absurd (t.1 refl) ]

or-later : (b : Bool) {c : Bool} → c ≡ true → b || c ≡ true
or-later true e = refl
or-later false e = e

told-length : (want : List Address) (k : ℕ) → has want (slashes k) ≡ true → list_any (nat_eq k) (lengths want) ≡ true
told-length [] k on = cc
told-length (b ∷ want) k on = at (bytes_eq b (slashes k)) refl on (told-length want k)
  where
    at : (t : Bool) → bytes_eq b (slashes k) ≡ t → (t || has want (slashes k)) ≡ true →
        (has want (slashes k) ≡ true → list_any (nat_eq k) (lengths want) ≡ true) →
        list_any (nat_eq k) (lengths (b ∷ want)) ≡ true
    at true same h later =
        let is : length b - 1 ≡ k = ap (λ (x : Address). length x - 1) (same_text b (slashes k) (sym same)) ∙ omega (arith, repeated k) in
        ap (λ j. list_any (nat_eq k) (j ∷ lengths want)) is ∙ ap (λ b. b || list_any (nat_eq k) (lengths want)) (same-number k)
    at false other h later = or-later (nat_eq k (length b - 1)) (later h)

gap : (xs : List ℕ) (n : ℕ) → ((q : ℕ) × (q < n) × (list_any (nat_eq q) xs ≡ false)) ⊎ ((q : ℕ) → q < n → list_any (nat_eq q) xs ≡ true)
gap xs zero = inr (λ q lt. absurd (omega (arith, lt)))
gap xs (suc n) = ⊎_elim (λ found. inl (found.0, omega (arith, found.1), found.2)) (λ all. at (list_any (nat_eq n) xs) refl all) (gap xs n)
  where
    at : (b : Bool) → list_any (nat_eq n) xs ≡ b → ((q : ℕ) → q < n → list_any (nat_eq q) xs ≡ true) →
        ((q : ℕ) × (q < suc n) × (list_any (nat_eq q) xs ≡ false)) ⊎
        ((q : ℕ) → q < suc n → list_any (nat_eq q) xs ≡ true)
    at false e all = inl (n, omega arith, e)
    at true e all = inr (λ q lt. here q lt (nat_eq q n) refl)
      where
        here : (q : ℕ) → q < suc n → (b : Bool) → nat_eq q n ≡ b → list_any (nat_eq q) xs ≡ true
        here q lt true same = elim (eqb_tells q n) [ inl t ↦ ap (λ j. list_any (nat_eq j) xs) t.1 ∙ e | inr t ↦ absurd (both_ways (nat_eq q n) t.0 same) ]
        here q lt false other = elim (eqb_tells q n) [ inl t ↦ absurd (both_ways (nat_eq q n) other t.0) | inr t ↦ all q (omega (arith, lt, t.1)) ]

pub fresh : (want : List Address) → length want < 64 → (a : Address) × (is_address a ≡ true) × (has want a ≡ false)
fresh want few = ⊎_elim (λ found. (slashes found.0, slashes-address found.0 found.1, absent found.0 found.2 (has want (slashes found.0)) refl)) (λ all. absurd (let many = le-length_from_below (lengths want) 64 all in let same : length (lengths want) ≡ length want = length-map want (λ (a : Address). length a - 1) in omega (arith, many, same, few))) (gap (lengths want) 64)
  where
    absent : (k : ℕ) → list_any (nat_eq k) (lengths want) ≡ false → (b : Bool) → has want (slashes k) ≡ b → has want (slashes k) ≡ false
    absent k none true on = absurd (both_ways (list_any (nat_eq k) (lengths want)) none (told-length want k on))
    absent k none false off = off

---- What is read so far begins a handover

begins-part : (start behind : List ℕ) → Begins (start ++ behind) → Begins start
begins-part start behind b = record { version = b.version; told = b.told; is = b.is; tells = b.tells; more = behind ++ b.more; goes_on = sym (append_assoc start behind b.more) ∙ b.goes_on }

-- All that is wanted was read, and no pid file: the end can follow.
asked-begins : (version : HandoverVersion) (h : Handover) → AreParts h → 1 ≤ h.old_pid → 1 ≤ length h.listeners →
    IsAsked version h → h.pid_file ≡ None → Begins (to_pid_file version h)
asked-begins version h parts pid listener asked none = record {
  version = version;
  told = h;
  is = record { parts = parts; in_range = record { old_pid = pid; listens = listener; add_up = asked.add_up; pid_file = subst HasSuffixRoom (sym none) tt }; groups = asked.groups };
  tells = asked.tells;
  more = line_of (codes "end");
  goes_on = ap (λ t. t ++ line_of (codes "end")) (sym (append-nil (to_pid_file version h)) ∙ ap (λ o. to_pid_file version h ++ pid_file_line o) (sym none));
}

-- an address more, in a group that can have one
group-begins : (g : Group) (h : Handover) → AreParts h → 1 ≤ h.old_pid → 1 ≤ length h.listeners → IsBegun g h →
    h.pid_file ≡ None → g.addresses ≡ 0 → length h.want < 64 → Begins (so_far (AtGroup g) h)
group-begins g h parts pid listener begun none empty few =
    let new = fresh h.want few in
    let a = new.0 in
    let g' : Group = one_more g in
    let refused : group_refused h.groups g' ≡ None = none-where h.groups g' (record { few = λ e. absurd (omega (arith, e, begun.few)); listens = omega arith; addresses = omega (arith, begun.counts, empty, few); workers = begun.workers }) in
    let h' : Handover = record h { want = h.want ++ a ∷ []; groups = h.groups ++ g' ∷ [] } in
    let p = parts-more 0 h parts a new.1 new.2 few in
    let parts' : AreParts h' = record { old_pid = p.old_pid; image = p.image; config = p.config; listed = p.listed; listened = p.listened; wanted = p.wanted; distinct = p.distinct; most = p.most; path = p.path } in
    let groups' : AreGroups (h.groups ++ g' ∷ []) = ⊎_elim (λ nobody. subst (λ gs. AreGroups (gs ++ g' ∷ [])) (sym nobody) (sole-groups g' (ap (λ gs. group_refused gs g') (sym nobody) ∙ refused))) (λ some. groups-more h.groups g' some (fits-where h.groups g' refused)) begun.before in
    let sum : addresses_in (h.groups ++ g' ∷ []) ≡ addresses_in h.groups + g'.addresses = sum_by_push (λ (x : Group). x.addresses) h.groups g' in
    begins-part (so_far (AtGroup g) h) (want_line a)
    (subst Begins (ap (λ t. to_wants Two h ++ t) (group-more h.groups g h.want a begun.counts) ∙ sym (append_assoc (to_wants Two h) (group_lines (h.groups ++ g ∷ []) h.want) (want_line a)))
    (asked-begins Two h' parts' pid listener (record { groups = groups'; add_up = omega (arith, sum, begun.counts, length-append h.want (a ∷ [])); tells = tt }) none))

closed-begins : (g : Group) (h : Handover) → AreParts h → 1 ≤ h.old_pid → 1 ≤ length h.listeners → IsBegun g h →
    h.pid_file ≡ None → 1 ≤ g.addresses → Begins (so_far (AtGroup g) h)
closed-begins g h parts pid listener begun none some =
    let fits : Fits h.groups g = record { few = λ e. absurd (omega (arith, e, begun.few)); listens = some; addresses = omega (arith, begun.counts, parts.most); workers = begun.workers } in
    let refused : group_refused h.groups g ≡ None = none-where h.groups g fits in
    let h' : Handover = record h { groups = h.groups ++ g ∷ [] } in
    let parts' : AreParts h' = record { old_pid = parts.old_pid; image = parts.image; config = parts.config; listed = parts.listed; listened = parts.listened; wanted = parts.wanted; distinct = parts.distinct; most = parts.most; path = parts.path } in
    let groups' : AreGroups (h.groups ++ g ∷ []) = ⊎_elim (λ nobody. subst (λ gs. AreGroups (gs ++ g ∷ [])) (sym nobody) (sole-groups g (ap (λ gs. group_refused gs g) (sym nobody) ∙ refused))) (λ groups. groups-more h.groups g groups fits) begun.before in
    asked-begins Two h' parts' pid listener (record { groups = groups'; add_up = sum_by_push (λ (x : Group). x.addresses) h.groups g ∙ begun.counts; tells = tt }) none

-- A group that was begun where 64 addresses were read before.
full-group : (g : Group) (h : Handover) → AreParts h → 1 ≤ h.old_pid → 1 ≤ length h.listeners → IsBegun g h →
    h.pid_file ≡ None → g.addresses ≡ 0 → 64 ≤ length h.want → IsFull (so_far (AtGroup g) h)
full-group g h parts pid listener begun none empty many =
    let g' : Group = record { addresses = 0; workers = g.workers } in
    let same : g ≡ g' = ap (λ k. record { addresses = k; workers = g.workers }) empty in
    let are : AreGroups h.groups = ⊎_elim (λ nobody. absurd (omega (arith, ap addresses_in nobody, begun.counts, empty, many))) (λ some. some) begun.before in
    record {
      told = h;
      is = record { parts = parts; in_range = record { old_pid = pid; listens = listener; add_up = omega (arith, begun.counts, empty); pid_file = subst HasSuffixRoom (sym none) tt }; groups = are };
      full = omega (arith, many, parts.most);
      no_path = none;
      before = to_pid_file Two h;
      ends = ap (λ t. t ++ line_of (codes "end")) (sym (append-nil (to_pid_file Two h)) ∙ ap (λ o. to_pid_file Two h ++ pid_file_line o) (sym none));
      workers = g.workers;
      begins = and_from _ _ (lt-ltb (length h.groups) 16 begun.few) (le-leb (workers_in h.groups + g.workers) 1024 begun.workers);
      goes_on = append_assoc (to_wants Two h) (group_lines h.groups h.want) (group_line g.workers) ∙ ap (λ t. to_wants Two h ++ t) (sym (group-begun h.groups g.workers h.want)) ∙ ap (λ (x : Group). to_wants Two h ++ group_lines (h.groups ++ x ∷ []) h.want) (sym same);
    }

begun-faultless : (g : Group) (h : Handover) → AreParts h → 1 ≤ h.old_pid → 1 ≤ length h.listeners → IsBegun g h →
    h.pid_file ≡ None → IsFaultless (so_far (AtGroup g) h)
begun-faultless g h parts pid listener begun none = at (nat_eq g.addresses 0) refl
  where
    at : (b : Bool) → nat_eq g.addresses 0 ≡ b → IsFaultless (so_far (AtGroup g) h)
    at true e =
        let empty : g.addresses ≡ 0 = elim (eqb_tells g.addresses 0) [ inl t ↦ t.1 | inr t ↦ absurd (both_ways (nat_eq g.addresses 0) t.0 e) ] in
        elim (cases_lt (length h.want) 64) [
          | inl few ↦ inl (group-begins g h parts pid listener begun none empty few)
          | inr many ↦ inr (full-group g h parts pid listener begun none empty many)
        ]
    at false e =
        let some : g.addresses ≢ 0 = elim (eqb_tells g.addresses 0) [ inl t ↦ absurd (both_ways (nat_eq g.addresses 0) e t.0) | inr t ↦ t.1 ] in
        inl (closed-begins g h parts pid listener begun none (omega (arith, some)))

-- The addresses of version 1, of which there is one at least: its workers can follow.
some-begins : (h : Handover) → AreParts h → 1 ≤ h.old_pid → 1 ≤ length h.listeners → h.pid_file ≡ None →
    1 ≤ length h.want → Begins (to_wants One h ++ flat_map want_line h.want)
some-begins h parts pid listener none some =
    let g : Group = record { addresses = length h.want; workers = 0 } in
    let h' : Handover = record h { groups = g ∷ [] } in
    let parts' : AreParts h' = record { old_pid = parts.old_pid; image = parts.image; config = parts.config; listed = parts.listed; listened = parts.listened; wanted = parts.wanted; distinct = parts.distinct; most = parts.most; path = parts.path } in
    let groups' : AreGroups (g ∷ []) = record { some = omega arith; most = omega arith; listening = (some, tt); addresses = omega (arith, parts.most); workers = omega arith } in
    begins-part (to_wants One h ++ flat_map want_line h.want) (workers_line 0)
    (subst Begins (sym (append_assoc (to_wants One h) (flat_map want_line h.want) (workers_line 0)))
    (asked-begins One h' parts' pid listener (record { groups = groups'; add_up = omega arith; tells = refl }) none))

-- an address of version 1 first, where there is none
wants-begin : (h : Handover) → AreParts h → 1 ≤ h.old_pid → 1 ≤ length h.listeners → h.pid_file ≡ None → h.want ≡ [] → Begins (to_wants One h)
wants-begin h parts pid listener none nobody =
    let few : length h.want < 64 = omega (arith, ap length nobody) in
    let new = fresh h.want few in
    let h' : Handover = record h { want = h.want ++ new.0 ∷ [] } in
    begins-part (to_wants One h) (flat_map want_line (h.want ++ new.0 ∷ []))
    (some-begins h' (parts-more 0 h parts new.0 new.1 new.2 few) pid listener none (omega (arith, length-append h.want (new.0 ∷ []))))

listeners-begin : (version : HandoverVersion) (h : Handover) → AreParts h → 1 ≤ h.old_pid → 1 ≤ length h.listeners →
    h.pid_file ≡ None → IsUnasked h → Begins (to_wants version h)
listeners-begin One h parts pid listener none unasked = wants-begin h parts pid listener none unasked.0
listeners-begin Two h parts pid listener none unasked =
    let g : Group = record { addresses = 0; workers = 0 } in
    let begun : IsBegun g h = record { before = inl unasked.1; counts = omega (arith, ap addresses_in unasked.1, ap length unasked.0); few = omega (arith, ap length unasked.1); workers = omega (arith, ap workers_in unasked.1) } in
    begins-part (to_wants Two h) (group_lines (h.groups ++ g ∷ []) h.want) (group-begins g h parts pid listener begun none refl (omega (arith, ap length unasked.0)))

first-begins : (version : HandoverVersion) (h : Handover) → AreParts h → 1 ≤ h.old_pid → h.listeners ≡ [] →
    h.pid_file ≡ None → IsUnasked h → Begins (to_listeners version h)
first-begins version h parts pid nobody none unasked =
    let l : Listener = record { descriptor = 3; address = slashes 0 } in
    let h' : Handover = record h { listeners = l ∷ [] } in
    let parts' : AreParts h' = record { old_pid = parts.old_pid; image = parts.image; config = parts.config; listed = (omega arith, omega arith, refl, tt); listened = and_from _ _ (slashes-address 0 (omega arith)) refl; wanted = parts.wanted; distinct = parts.distinct; most = parts.most; path = parts.path } in
    begins-part (to_listeners version h) (flat_map listener_line (l ∷ [])) (listeners-begin version h' parts' pid (omega arith) none unasked)

generation-begins : (version : HandoverVersion) (h : Handover) → AreParts h → 1 ≤ h.old_pid → h.listeners ≡ [] →
    h.pid_file ≡ None → IsUnasked h → Begins (to_generation version h)
generation-begins version h parts pid nobody none unasked = begins-part (to_generation version h) (generation_line h.generation.image h.generation.config) (first-begins version h parts pid nobody none unasked)

version-begins : (version : HandoverVersion) (h : Handover) → AreParts h → h.listeners ≡ [] → h.pid_file ≡ None → IsUnasked h → Begins (version_line version)
version-begins version h parts nobody none unasked =
    let h' : Handover = record h { old_pid = 1 } in
    let parts' : AreParts h' = record { old_pid = omega arith; image = parts.image; config = parts.config; listed = parts.listed; listened = parts.listened; wanted = parts.wanted; distinct = parts.distinct; most = parts.most; path = parts.path } in
    begins-part (version_line version) (old_pid_line 1) (generation-begins version h' parts' (omega arith) nobody none unasked)

-- No group was begun.
abbrev IsUngrouped : Reached → Type 0
IsUngrouped (AtGroup g) = ⊥
IsUngrouped AtVersion = ⊤
IsUngrouped (AtOldPid version) = ⊤
IsUngrouped (AtGeneration version) = ⊤
IsUngrouped (AtFirstListener version) = ⊤
IsUngrouped (AtListeners version) = ⊤
IsUngrouped AtWants = ⊤
IsUngrouped AtPidFile = ⊤
IsUngrouped (AtEnd version) = ⊤
IsUngrouped (Over version) = ⊤

begins-at : (n : ℕ) (place : Reached) (h : Handover) → IsReadTo n place h → IsUngrouped place → Begins (so_far place h)
begins-at n AtVersion h s other = begins-part [] (version_line Two) (version-begins Two h s.parts s.listener s.no_path s.groups)
begins-at n (AtOldPid version) h s other = version-begins version h s.parts s.listener s.no_path s.groups
begins-at n (AtGeneration version) h s other = generation-begins version h s.parts s.pid s.listener s.no_path s.groups
begins-at n (AtFirstListener version) h s other = subst Begins (sym (ap (λ ls. to_listeners version h ++ flat_map listener_line ls) s.listener ∙ append-nil (to_listeners version h))) (first-begins version h s.parts s.pid s.listener s.no_path s.groups)
begins-at n (AtListeners version) h s other = listeners-begin version h s.parts s.pid s.listener s.no_path s.groups
begins-at n AtWants h s other = at h.want refl
  where
    at : (ws : List Address) → h.want ≡ ws → Begins (to_wants One h ++ flat_map want_line h.want)
    at [] none = subst Begins (sym (ap (λ ws. to_wants One h ++ flat_map want_line ws) none ∙ append-nil (to_wants One h))) (wants-begin h s.parts s.pid s.listener s.no_path none)
    at (w ∷ ws) some = some-begins h s.parts s.pid s.listener s.no_path (omega (arith, ap length some))
begins-at n (AtGroup g) h s grouped = absurd grouped
begins-at n AtPidFile h s other = asked-begins One h s.parts s.pid s.listener s.groups s.no_path
begins-at n (AtEnd version) h s other = record { version = version; told = h; is = read_in_range (n + 1) version h (over n version h s); tells = s.groups.tells; more = line_of (codes "end"); goes_on = refl }
  where
    over : (n : ℕ) (version : HandoverVersion) (h : Handover) → IsReadTo n (AtEnd version) h → IsReadTo (n + 1) (Over version) h
    over n version h s = record { parts = s.parts; count = omega (arith, s.count); pid = s.pid; listener = s.listener; groups = s.groups; no_path = tt }
begins-at n (Over version) h s other = record { version = version; told = h; is = read_in_range n version h s; tells = s.groups.tells; more = []; goes_on = append-nil (so_far (Over version) h) }

faultless-at : (n : ℕ) (place : Reached) (h : Handover) → IsReadTo n place h → IsFaultless (so_far place h)
faultless-at n AtVersion h s = inl (begins-at n AtVersion h s tt)
faultless-at n (AtOldPid version) h s = inl (begins-at n (AtOldPid version) h s tt)
faultless-at n (AtGeneration version) h s = inl (begins-at n (AtGeneration version) h s tt)
faultless-at n (AtFirstListener version) h s = inl (begins-at n (AtFirstListener version) h s tt)
faultless-at n (AtListeners version) h s = inl (begins-at n (AtListeners version) h s tt)
faultless-at n AtWants h s = inl (begins-at n AtWants h s tt)
faultless-at n (AtGroup g) h s = begun-faultless g h s.parts s.pid s.listener s.groups s.no_path
faultless-at n AtPidFile h s = inl (begins-at n AtPidFile h s tt)
faultless-at n (AtEnd version) h s = inl (begins-at n (AtEnd version) h s tt)
faultless-at n (Over version) h s = inl (begins-at n (Over version) h s tt)

---- Which line is refused

-- a fault that names a line names this one
abbrev pub NamesLine : ℕ → HandoverRefusal → Type 0
NamesLine n refusal.Version = ⊤
NamesLine n (refusal.Line m) = m ≡ n
NamesLine n (refusal.OutOfOrder m) = m ≡ n
NamesLine n refusal.Cut = ⊤
NamesLine n refusal.Trailing = ⊤

abbrev pub IfFault : ℕ → Read → Type 0
IfFault n (Ok at) = ⊤
IfFault n (Err e) = NamesLine n e

if-fault : (n : ℕ) (o : Option (List ℕ)) (read : List ℕ → Read) (otherwise : Read) →
    ((rest : List ℕ) → IfFault n (read rest)) → IfFault n otherwise → IfFault n (read_if o read otherwise)
if-fault n None read otherwise some none = none
if-fault n (Some rest) read otherwise some none = some rest

module _ (n : ℕ) where
  either : (b : Bool) (x y : Read) → IfFault n x → IfFault n y → IfFault n (if b then x else y)
  either true x y hx hy = hx
  either false x y hx hy = hy

  pid-names : (version : HandoverVersion) (h : Handover) (o : Option ℕ) → IfFault n (with_old_pid n version h o)
  pid-names version h None = refl
  pid-names version h (Some pid) = tt

  generation-names : (version : HandoverVersion) (h : Handover) (i c : Option ℕ) → IfFault n (with_generation n version h i c)
  generation-names version h None c = refl
  generation-names version h (Some i) None = refl
  generation-names version h (Some i) (Some c) = tt

  listener-names : (version : HandoverVersion) (h : Handover) (o : Option Listener) → IfFault n (with_listener n version h o)
  listener-names version h None = refl
  listener-names version h (Some l) = either (not (is_above l.descriptor h.listeners)) _ _ refl (either (listens_on h.listeners l.address) _ _ refl tt)

  want-names : (place : Reached) (h : Handover) (a : List ℕ) → IfFault n (with_want n place h a)
  want-names place h a = either (is_address a && (not (has h.want a) && nat_lt (length h.want) 64)) _ _ tt refl

  groups-name : (place : Reached) (h : Handover) (o : Option (List Group)) → IfFault n (with_groups n place h o)
  groups-name place h None = refl
  groups-name place h (Some gs) = tt

  workers-name : (h : Handover) (o : Option ℕ) → IfFault n (with_workers n h o)
  workers-name h None = refl
  workers-name h (Some w) = groups-name AtPidFile h (extended [] (record { addresses = length h.want; workers = w }))

  group-names : (h : Handover) (o : Option ℕ) → IfFault n (with_group n h o)
  group-names h None = refl
  group-names h (Some w) = either (can_begin h.groups w) _ _ tt refl

  end-names : (version : HandoverVersion) (h : Handover) (line : List ℕ) → IfFault n (read_end n version h line)
  end-names version h line = either (bytes_eq line (codes "end")) _ _ tt refl

  file-names : (version : HandoverVersion) (h : Handover) (line : List ℕ) → IfFault n (read_pid_file n version h line)
  file-names version h line = if-fault n (after_prefix (codes "pid-file ") line) _ _ (λ rest. either (is_path rest) _ _ tt refl) (end-names version h line)

  wanted-names : (version : HandoverVersion) (h : Handover) (line : List ℕ) → IfFault n (read_wanted n version h line)
  wanted-names One h line = if-fault n (after_prefix (codes "want ") line) _ _ (λ rest. want-names AtWants h rest) refl
  wanted-names Two h line = if-fault n (after_prefix (codes "group ") line) _ _ (λ rest. group-names h (number_within 0 1024 rest)) refl

  behind-names : (h : Handover) (o : Option (List Group)) (line : List ℕ) → IfFault n (read_behind n h o line)
  behind-names h None line = refl
  behind-names h (Some gs) line = if-fault n (after_prefix (codes "group ") line) _ _ (λ rest. group-names (record h { groups = gs }) (number_within 0 1024 rest)) (file-names Two (record h { groups = gs }) line)

  pub line-names : (place : Reached) (h : Handover) (line : List ℕ) → IfFault n (read_line n place h line)
  line-names AtVersion h line = either (bytes_eq line (codes "handover 1")) _ _ tt (either (bytes_eq line (codes "handover 2")) _ _ tt tt)
  line-names (AtOldPid version) h line = if-fault n (after_prefix (codes "old-pid ") line) _ _ (λ rest. pid-names version h (number_within 1 4294967295 rest)) refl
  line-names (AtGeneration version) h line = if-fault n (after_prefix (codes "generation ") line) _ _ (λ rest. generation-names version h (number_in (before_first is_space rest)) (number_in (after_first is_space rest))) refl
  line-names (AtFirstListener version) h line = if-fault n (after_prefix (codes "listener ") line) _ _ (λ rest. listener-names version h (listener_read rest)) refl
  line-names (AtListeners version) h line = if-fault n (after_prefix (codes "listener ") line) _ _ (λ rest. listener-names version h (listener_read rest)) (wanted-names version h line)
  line-names AtWants h line = if-fault n (after_prefix (codes "want ") line) _ _ (λ rest. want-names AtWants h rest) (if-fault n (after_prefix (codes "workers ") line) _ _ (λ rest. workers-name h (number_within 0 1024 rest)) refl)
  line-names (AtGroup g) h line = if-fault n (after_prefix (codes "want ") line) _ _ (λ rest. want-names (AtGroup (one_more g)) h rest) (behind-names h (extended h.groups g) line)
  line-names AtPidFile h line = file-names One h line
  line-names (AtEnd version) h line = end-names version h line
  line-names (Over version) h line = tt

-- the number of the line that a fault names
abbrev pub Named : HandoverRefusal → ℕ → Type 0
Named refusal.Version m = ⊥
Named (refusal.Line n) m = n ≡ m
Named (refusal.OutOfOrder n) m = n ≡ m
Named refusal.Cut m = ⊥
Named refusal.Trailing m = ⊥

pub names-it : (n m : ℕ) (e : HandoverRefusal) → NamesLine n e → Named e m → m ≡ n
names-it n m refusal.Version h named = absurd named
names-it n m (refusal.Line k) h named = sym named ∙ h
names-it n m (refusal.OutOfOrder k) h named = sym named ∙ h
names-it n m refusal.Cut h named = absurd named
names-it n m refusal.Trailing h named = absurd named

-- none of the so many pieces before the faulty line is faulty
record Before (n m : ℕ) (text : List ℕ) (pieces : List (List ℕ)) : Type 0 where
  lines : ℕ
  counted : m ≡ n + lines
  begins : IsFaultless (text ++ flat_map line_of (take lines pieces))

cut-unnamed : (e : HandoverRefusal) (m : ℕ) (r : Result Handover HandoverRefusal) → r ≡ Err refusal.Cut → r ≡ Err e → Named e m → ⊥
cut-unnamed refusal.Version m r is same named = named
cut-unnamed (refusal.Line k) m r is same named = cc
cut-unnamed (refusal.OutOfOrder k) m r is same named = cc
cut-unnamed refusal.Cut m r is same named = named
cut-unnamed refusal.Trailing m r is same named = named

trailing-unnamed : (e : HandoverRefusal) (m : ℕ) (r : Result Handover HandoverRefusal) → r ≡ Err refusal.Trailing → r ≡ Err e → Named e m → ⊥
trailing-unnamed refusal.Version m r is same named = named
trailing-unnamed (refusal.Line k) m r is same named = cc
trailing-unnamed (refusal.OutOfOrder k) m r is same named = cc
trailing-unnamed refusal.Cut m r is same named = named
trailing-unnamed refusal.Trailing m r is same named = named

pub rest-names : (place : Reached) (h : Handover) (rest : List ℕ) (e : HandoverRefusal) (m : ℕ) → read_rest place h rest ≡ Err e → Named e m → ⊥
rest-names AtVersion h rest e m is named = cut-unnamed e m (read_rest AtVersion h rest) refl is named
rest-names (AtOldPid version) h rest e m is named = cut-unnamed e m (read_rest (AtOldPid version) h rest) refl is named
rest-names (AtGeneration version) h rest e m is named = cut-unnamed e m (read_rest (AtGeneration version) h rest) refl is named
rest-names (AtFirstListener version) h rest e m is named = cut-unnamed e m (read_rest (AtFirstListener version) h rest) refl is named
rest-names (AtListeners version) h rest e m is named = cut-unnamed e m (read_rest (AtListeners version) h rest) refl is named
rest-names AtWants h rest e m is named = cut-unnamed e m (read_rest AtWants h rest) refl is named
rest-names (AtGroup g) h rest e m is named = cut-unnamed e m (read_rest (AtGroup g) h rest) refl is named
rest-names AtPidFile h rest e m is named = cut-unnamed e m (read_rest AtPidFile h rest) refl is named
rest-names (AtEnd version) h rest e m is named = cut-unnamed e m (read_rest (AtEnd version) h rest) refl is named
rest-names (Over version) h [] e m is named = cc
rest-names (Over version) h (c ∷ cs) e m is named = trailing-unnamed e m (read_rest (Over version) h (c ∷ cs)) refl is named

pieces-begin : (n : ℕ) (place : Reached) (h : Handover) (text : List ℕ) (pieces : List (List ℕ)) (e : HandoverRefusal)
    (m : ℕ) → IsReadTo n place h → IsText text place h → read_pieces n place h pieces ≡ Err e → Named e m →
    Before n m text pieces
pieces-begin n place h text [] e m s t is named = absurd (rest-names place h [] e m is named)
pieces-begin n place h text (rest ∷ []) e m s t is named = absurd (rest-names place h rest e m is named)
pieces-begin n place h text (line ∷ next ∷ more) e m s t is named =
    at (read_line n place h line) (line_read n place h line s) (line_went n place h line text s t) (line-names n place h line) is (λ place' h'. pieces-begin (n + 1) place' h' (text ++ line_of line) (next ∷ more) e m)
  where
    at : (r : Read) → IfRead (IsReadTo (n + 1)) r → IfRead (IsText (text ++ line_of line)) r → IfFault n r →
        then_read r (λ place' h'. read_pieces (n + 1) place' h' (next ∷ more)) ≡ Err e →
        ((place' : Reached) (h' : Handover) → IsReadTo (n + 1) place' h' → IsText (text ++ line_of line) place' h' →
        read_pieces (n + 1) place' h' (next ∷ more) ≡ Err e → Named e m →
        Before (n + 1) m (text ++ line_of line) (next ∷ more)) → Before n m text (line ∷ next ∷ more)
    at (Err why) read went names is' later =
        let same : why ≡ e = cc in
        record { lines = 0; counted = names-it n m e (subst (NamesLine n) same names) named ∙ omega arith; begins = subst IsFaultless (t ∙ sym (append-nil text)) (faultless-at n place h s) }
    at (Ok state) read went names is' later =
        let b = later state.0 state.1 read went is' named in
        record { lines = suc b.lines; counted = b.counted ∙ omega arith; begins = subst IsFaultless (append_assoc text (line_of line) (flat_map line_of (take b.lines (next ∷ more)))) b.begins }

-- Where a line is refused, none of those before it is faulty.
pub lines-begin : (text : List ℕ) (e : HandoverRefusal) (m : ℕ) → reading text ≡ Err e → Named e m → IsFaultless (lines_before m text)
lines-begin text e m is named =
    let b = pieces-begin 1 AtVersion nothing_read [] (slice_split is_newline text) e m nothing_in_range refl is named in
    subst (λ k. IsFaultless (flat_map line_of (take k (slice_split is_newline text)))) (omega (arith, b.counted)) b.begins
