-- What is spelled is read back.
use Rattle.std.proofs.Common.{◌≡◌, ℕ, suc, ◌+◌, ◌≤◌, ◌<◌, Bool, true, false, ◌&&◌, ◌==◌, nat_eq, nat_le, not, Option}
use Rattle.std.proofs.Common.{Some, None, Result, Ok, Err, List, [], ◌∷◌, ◌++◌, length, take, drop, get_or, refl, sym}
use Rattle.std.proofs.Common.{ap, subst, ◌∙◌, arith, inl, inr, append_assoc}
use Rattle.std.specs.Prelude.{bytes_eq, codes, is_none, if◌then◌else◌}
use Rattle.std.specs.Fmt.{decimal}
use Rattle.std.specs.Char.{is_ascii_digit, is_ascii_graphic}
use Rattle.std.specs.List.{All, AllByRecursion, AllPass, list_all, flat_map, after_first, slice_split, onto_first}
use Rattle.std.specs.Cmp.Lexicographic.{nat_list_eq_equiv, same_text}
use Rattle.std.proofs.lemmas.Bool.{and_parts, and_from, or_parts, or_from, both_ways, not-true, not_from_false, false_from_ne_true, lt-ltb, le-leb, cond_both}
use Rattle.std.proofs.lemmas.Bool.Decides.{eqb_tells}
use Rattle.std.proofs.lemmas.List.{append-nil, length-append, length-drop, length-take-le, take-append-drop}
use Rattle.std.proofs.lemmas.List.Folds.{list_all-append}
use Rattle.std.proofs.lemmas.List.Sums.{AllPass-from_list_all, list_all-from_AllPass, sum_by-append, sum_by-cons}
use Rattle.std.proofs.lemmas.List.Splits.{slice_split_at}
use Rattle.std.proofs.Math.Seq.{get_or-append_seam}
use Rattle.plain_text.specs.NumberText.{number_in, number_within}
use Rattle.listener_set.specs.AddressText.{reading as address_reading, check, accepted}
use Rattle.listener_set.specs.declared.address.AddressRefusal.{AddressRefusal}
use Rattle.listener_set.specs.PathText.{is_path, begins_with_slash}
use Rattle.listener_set.specs.AddressList.{AreDistinct, has}
use Rattle.plain_text.proofs.NumberTextLemmas.{number_in-decimal, number_within-decimal}
use Rattle.listener_set.proofs.AddressGrammar.{graphic_from_reading, digit_apart, decimal_all, before_first-at, after_first-at}
use Rattle.vocabulary.specs.declared.handover.HandoverRefusal.TheVariants as refusal
use Rattle.vocabulary.specs.declared.table.Listener.{Listener}
use Rattle.definitions.specs.After.{listens_on}
use Rattle.definitions.specs.Calls.{Handover}
use Rattle.handover_text.specs.Spelling.{HandoverVersion, One, Two, line_of, version_line, listener_line, want_line}
use Rattle.handover_text.specs.Spelling.{workers_line, group_line, pid_file_line, group_lines, wanted_lines, spelled}
use Rattle.handover_text.specs.Reading.{Reached, AtVersion, AtOldPid, AtGeneration, AtFirstListener, AtListeners}
use Rattle.handover_text.specs.Reading.{AtWants, AtGroup, AtPidFile, AtEnd, Over, nothing_read, passes, is_space}
use Rattle.handover_text.specs.Reading.{is_address, listener_if, listener_read, one_more, extended, with_old_pid}
use Rattle.handover_text.specs.Reading.{with_generation, with_listener, with_want, with_groups, with_workers, can_begin}
use Rattle.handover_text.specs.Reading.{with_group, read_behind, read_pid_file, read_if, read_line, then_read}
use Rattle.handover_text.specs.Reading.{read_pieces, reading}
use Rattle.master_listeners.specs.Listeners.{is_above, AreListedFrom}
use Rattle.plain_text.specs.Cuts.{after_prefix}
use Rattle.worker_groups.specs.declared.groups.Group.{Group}
use Rattle.worker_groups.specs.Groups.{AreGroups, addresses_in, workers_in}
use Rattle.worker_groups.proofs.GroupShares.{Fits, none-where}
use Rattle.handover_text.specs.Ranges.{IsHandover, IsTold, is_path_if}
use Rattle.handover_text.proofs.SoFar.{is_newline, pieces_more}
use Rattle.handover_text.proofs.Spelled.{old_pid_line, generation_line}

---- Texts with no newline inside

abbrev pub is_inside : ℕ → Bool
is_inside c = not (c == 10)

abbrev pub IsLine : List ℕ → Type 0
IsLine text = list_all is_inside text ≡ true

line-append : (a b : List ℕ) → IsLine a → IsLine b → IsLine (a ++ b)
line-append a b x y = list_all-append is_inside a b ∙ and_from _ _ x y

line_if : (p : ℕ → Bool) → p 10 ≡ false → (text : List ℕ) → AllPass p text → IsLine text
line_if p apart10 text h =
    list_all-from_AllPass is_inside text (λ k d lt. not_from_false _ (false_from_ne_true _ (λ yes. both_ways (p 10) apart10 (at (get_or text k d) yes (h k d lt)))))
  where
    at : (c : ℕ) → nat_eq c 10 ≡ true → p c ≡ true → p 10 ≡ true
    at c same passes' = elim (eqb_tells c 10) [ inl t ↦ ap p (sym t.1) ∙ passes' | inr t ↦ absurd (both_ways (nat_eq c 10) t.0 same) ]

line-decimal : (n : ℕ) → n ≤ 4294967295 → IsLine (decimal n)
line-decimal n most = line_if is_ascii_digit refl (decimal n) (decimal_all is_ascii_digit true (λ c d. d) n (omega arith))

address_again : (text : List ℕ) → is_address text ≡ true → address_reading text ≡ Ok text
address_again text h = at (check text) h
  where
    at : (r : Result (Unit {0}) AddressRefusal) → passes r ≡ true → accepted text r ≡ Ok text
    at (Ok u) h' = refl
    at (Err refusal) h' = cc

line-address : (text : List ℕ) → is_address text ≡ true → IsLine text
line-address text h = line_if is_ascii_graphic refl text (graphic_from_reading text (address_again text h))

line-path : (text : List ℕ) → is_path text ≡ true → IsLine text
line-path text h = line_if is_ascii_graphic refl text (AllPass-from_list_all is_ascii_graphic text (and_parts (nat_le (length text) 100 && begins_with_slash text) (list_all is_ascii_graphic text) h).1)

---- Values

apart : (n : ℕ) → n ≤ 4294967295 → All (λ c. is_space c ≡ false) (decimal n)
apart n most = decimal_all is_space false (digit_apart 32 refl) n (omega arith)

generation-decimal : (n : ℕ) (version : HandoverVersion) (h : Handover) (i c : ℕ) → i ≤ 4294967295 → c ≤ 4294967295 →
    read_line n (AtGeneration version) h (codes "generation " ++ decimal i ++ 32 ∷ decimal c)
    ≡ with_generation n version h (Some i) (Some c)
generation-decimal n version h i c image config =
    ap (λ t. with_generation n version h (number_in t) (number_in (after_first is_space (decimal i ++ 32 ∷ decimal c)))) (before_first-at is_space (decimal i) 32 (decimal c) (apart i image) refl)
    ∙ ap (λ t. with_generation n version h (number_in (decimal i)) (number_in t)) (after_first-at is_space (decimal i) 32 (decimal c) (apart i image) refl)
    ∙ ap (λ o. with_generation n version h o (number_in (decimal c))) (number_in-decimal i (omega arith))
    ∙ ap (λ o. with_generation n version h (Some i) o) (number_in-decimal c (omega arith))

listener-decimal : (l : Listener) → 3 ≤ l.descriptor → l.descriptor < 67 → is_address l.address ≡ true →
    listener_read (decimal l.descriptor ++ 32 ∷ l.address) ≡ Some l
listener-decimal l low high address =
    let none = apart l.descriptor (omega arith) in
    let before = before_first-at is_space (decimal l.descriptor) 32 l.address none refl in
    let after = after_first-at is_space (decimal l.descriptor) 32 l.address none refl in
    ap (λ t. listener_if (number_within 3 66 t) (after_first is_space (decimal l.descriptor ++ 32 ∷ l.address)) (is_address (after_first is_space (decimal l.descriptor ++ 32 ∷ l.address)))) before
    ∙ ap (λ t. listener_if (number_within 3 66 (decimal l.descriptor)) t (is_address t)) after
    ∙ ap (λ o. listener_if o l.address (is_address l.address)) (number_within-decimal 3 66 l.descriptor low (omega arith) (omega arith))
    ∙ ap (λ b. listener_if (Some l.descriptor) l.address b) address

---- Line by line

-- the reading of a text goes on as that of another text at another place
pub record Takes (place : Reached) (h : Handover) (text : List ℕ) (place' : Reached) (h' : Handover) (text' : List ℕ) : Type 0 where
  pub on : (n : ℕ) → (k : ℕ) × (read_pieces n place h (slice_split is_newline text) ≡ read_pieces k place' h' (slice_split is_newline text'))

goes_then : {p : Reached} {h : Handover} {text : List ℕ} {p' : Reached} {h' : Handover} {text' : List ℕ} {p'' : Reached} {h'' : Handover} {text'' : List ℕ} → Takes p h text p' h' text' → Takes p' h' text' p'' h'' text'' → Takes p h text p'' h'' text''
goes_then f g = record { on = λ n. let x = f.on n in let y = g.on x.0 in (y.0, x.1 ∙ y.1) }

stays : (p : Reached) (h : Handover) (text : List ℕ) → Takes p h text p h text
stays p h text = record { on = λ n. (n, refl) }

goes_line : (place : Reached) (h : Handover) (line more : List ℕ) (place' : Reached) (h' : Handover) → IsLine line →
    ((n : ℕ) → read_line n place h line ≡ Ok (place', h')) → Takes place h (line_of line ++ more) place' h' more
goes_line place h line more place' h' is reads = record {
  on = λ n. (
    n + 1,
    ap (λ t. read_pieces n place h (slice_split is_newline t)) (append_assoc line (10 ∷ []) more)
        ∙ ap (read_pieces n place h) (slice_split_at is_newline line 10 more (λ k d lt. not-true _ (AllPass-from_list_all is_inside line is k d lt)) refl)
        ∙ pieces_more n place h line more
        ∙ ap (λ r. then_read r (λ p q. read_pieces (n + 1) p q (slice_split is_newline more))) (reads n),
  );
}

---- Lists

-- what listeners keep of the one behind them
listed_before : (fd : ℕ) (done : List Listener) (l : Listener) (ls : List Listener) →
    AreListedFrom fd (done ++ l ∷ ls) → (fd ≤ l.descriptor) × (l.descriptor < 67) × (is_above l.descriptor done ≡ true)
    × (listens_on done l.address ≡ false)
listed_before fd [] l ls h = (h.0, h.1, refl, refl)
listed_before fd (m ∷ ms) l ls h =
    let rest = listed_before (m.descriptor + 1) ms l ls h.3 in
    let above : m.descriptor < l.descriptor = omega (arith, rest.0) in (
      omega (arith, h.0, rest.0),
      rest.1,
      and_from _ _ (lt-ltb m.descriptor l.descriptor above) rest.2,
      or_from _ _ (nat_list_eq_equiv.symm m.address l.address ∙ absent m.address ms h.2) rest.3,
    )
  where
    absent : (a : List ℕ) (ks : List Listener) → listens_on (ks ++ l ∷ ls) a ≡ false → bytes_eq l.address a ≡ false
    absent a [] e = (or_parts (bytes_eq l.address a) (listens_on ls a) e).0
    absent a (k ∷ ks) e = absent a ks (or_parts (bytes_eq k.address a) (listens_on (ks ++ l ∷ ls) a) e).1

distinct_before : (done : List (List ℕ)) (a : List ℕ) (more : List (List ℕ)) → AreDistinct (done ++ a ∷ more) → has done a ≡ false
distinct_before [] a more h = refl
distinct_before (b ∷ bs) a more h =
    or_from _ _
    (false_from_ne_true (bytes_eq b a) (λ same. h 0 (suc (length bs)) a (omega arith) (omega (arith, length-append bs (a ∷ more))) (same_text b a (sym same) ∙ sym (get_or-append_seam bs a more a))))
    (distinct_before bs a more (λ i j d lt within. h (suc i) (suc j) d (omega (arith, lt)) (omega (arith, within))))

module _ (t : Handover) where
  abbrev at_listeners : List Listener → Handover
  at_listeners ls = record { old_pid = t.old_pid; generation = t.generation; listeners = ls; want = []; groups = []; pid_file = None }

  abbrev at_asked : List Group → List (List ℕ) → Handover
  at_asked gs ws = record { old_pid = t.old_pid; generation = t.generation; listeners = t.listeners; want = ws; groups = gs; pid_file = None }

  listener_ok : (n : ℕ) (version : HandoverVersion) (done : List Listener) (l : Listener) (ls : List Listener) →
      AreListedFrom 3 (done ++ l ∷ ls) → is_address l.address ≡ true →
      with_listener n version (at_listeners done) (listener_read (decimal l.descriptor ++ 32 ∷ l.address))
      ≡ Ok (AtListeners version, at_listeners (done ++ l ∷ []))
  listener_ok n version done l ls listed address =
      let h = listed_before 3 done l ls listed in
      ap (with_listener n version (at_listeners done)) (listener-decimal l h.0 h.1 address)
      ∙ rw (h.2, h.3) refl

  line-listener : (l : Listener) → l.descriptor < 67 → is_address l.address ≡ true → IsLine (codes "listener " ++ decimal l.descriptor ++ 32 ∷ l.address)
  line-listener l low address = line-append (codes "listener " ++ decimal l.descriptor) (32 ∷ l.address) (line-append (codes "listener ") (decimal l.descriptor) refl (line-decimal l.descriptor (omega arith))) (line-append (32 ∷ []) l.address refl (line-address l.address address))

  pub listeners_go : (version : HandoverVersion) (done ls : List Listener) (more : List ℕ) →
      AreListedFrom 3 (done ++ ls) → list_all (λ (l : Listener). is_address l.address) ls ≡ true →
      Takes (AtListeners version) (at_listeners done) (flat_map listener_line ls ++ more) (AtListeners version)
      (at_listeners (done ++ ls)) more
  listeners_go version done [] more listed addresses = subst (λ ks. Takes (AtListeners version) (at_listeners done) more (AtListeners version) (at_listeners ks) more) (sym (append-nil done)) (stays (AtListeners version) (at_listeners done) more)
  listeners_go version done (l ∷ ls) more listed addresses =
      let h = listed_before 3 done l ls listed in
      let tests = and_parts (is_address l.address) _ addresses in
      let again = append_assoc done (l ∷ []) ls in
      let first = goes_line (AtListeners version) (at_listeners done) (codes "listener " ++ decimal l.descriptor ++ 32 ∷ l.address) (flat_map listener_line ls ++ more) (AtListeners version) (at_listeners (done ++ l ∷ [])) (line-listener l h.1 tests.0) (λ n. listener_ok n version done l ls listed tests.0) in
      let rest = listeners_go version (done ++ l ∷ []) ls more (subst (AreListedFrom 3) (sym again) listed) tests.1 in
      subst (λ text. Takes (AtListeners version) (at_listeners done) text (AtListeners version) (at_listeners (done ++ l ∷ ls)) more) (sym (append_assoc (listener_line l) (flat_map listener_line ls) more))
      (subst (λ ks. Takes (AtListeners version) (at_listeners done) (listener_line l ++ (flat_map listener_line ls ++ more)) (AtListeners version) (at_listeners ks) more) again (goes_then first rest))

  want_ok : (n : ℕ) (place : Reached) (gs : List Group) (done : List (List ℕ)) (a : List ℕ) (more : List (List ℕ)) →
      AreDistinct (done ++ a ∷ more) → length (done ++ a ∷ more) ≤ 64 → is_address a ≡ true →
      with_want n place (at_asked gs done) a ≡ Ok (place, at_asked gs (done ++ a ∷ []))
  want_ok n place gs done a more distinct most address =
      let room = lt-ltb (length done) 64 (omega (arith, most, length-append done (a ∷ more))) in
      rw (address, distinct_before done a more distinct, room) refl

  -- Addresses that are wanted, one after another, where each leads from one place to the next.
  module _ (place : ℕ → Reached) (gs : List Group)
      (reads : (n k : ℕ) (h : Handover) (a : List ℕ) →
      read_line n (place k) h (codes "want " ++ a) ≡ with_want n (place (k + 1)) h a) where
    pub wants_go : (k : ℕ) (done ws rest : List (List ℕ)) (more : List ℕ) → AreDistinct (done ++ (ws ++ rest)) →
        length (done ++ (ws ++ rest)) ≤ 64 → list_all is_address ws ≡ true →
        Takes (place k) (at_asked gs done) (flat_map want_line ws ++ more) (place (k + length ws))
        (at_asked gs (done ++ ws)) more
    wants_go k done [] rest more distinct most addresses =
        subst (λ j. Takes (place k) (at_asked gs done) more (place j) (at_asked gs (done ++ [])) more) (omega arith)
        (subst (λ ks. Takes (place k) (at_asked gs done) more (place k) (at_asked gs ks) more) (sym (append-nil done)) (stays (place k) (at_asked gs done) more))
    wants_go k done (a ∷ ws) rest more distinct most addresses =
        let tests = and_parts (is_address a) _ addresses in
        let again = append_assoc done (a ∷ []) ws in
        let all = append_assoc done (a ∷ []) (ws ++ rest) in
        let first = goes_line (place k) (at_asked gs done) (codes "want " ++ a) (flat_map want_line ws ++ more)
        (place (k + 1)) (at_asked gs (done ++ a ∷ [])) (line-append (codes "want ") a refl (line-address a tests.0))
        (λ n. reads n k (at_asked gs done) a ∙
        want_ok n (place (k + 1)) gs done a (ws ++ rest) distinct most tests.0) in
        let behind = wants_go (k + 1) (done ++ a ∷ []) ws rest more (subst AreDistinct (sym all) distinct) (rw all most) tests.1 in
        let counted : k + 1 + length ws ≡ k + length (a ∷ ws) = omega arith in
        subst (λ text. Takes (place k) (at_asked gs done) text (place (k + length (a ∷ ws)))
        (at_asked gs (done ++ a ∷ ws)) more) (sym (append_assoc (want_line a) (flat_map want_line ws) more))
        (subst (λ j. Takes (place k) (at_asked gs done) (want_line a ++ (flat_map want_line ws ++ more)) (place j) (at_asked gs (done ++ a ∷ ws)) more) counted
        (subst (λ ks. Takes (place k) (at_asked gs done) (want_line a ++ (flat_map want_line ws ++ more))
        (place (k + 1 + length ws)) (at_asked gs ks) more) again (goes_then first behind)))

  ---- Groups

  listens-all : (ds : List Group) (g : Group) (gs : List Group) → AllByRecursion (λ (x : Group). 1 ≤ x.addresses) (ds ++ g ∷ gs) → 1 ≤ g.addresses
  listens-all [] g gs all = all.0
  listens-all (d ∷ ds) g gs all = listens-all ds g gs all.1

  -- each group of some keeps the rules behind those before it
  fits-part : (ds : List Group) (g : Group) (gs : List Group) → AreGroups (ds ++ g ∷ gs) → Fits ds g
  fits-part ds g gs are =
      let addresses : addresses_in (ds ++ g ∷ gs) ≡ addresses_in ds + (g.addresses + addresses_in gs) = sum_by-append (λ (x : Group). x.addresses) ds (g ∷ gs) ∙ ap (λ k. addresses_in ds + k) (sum_by-cons (λ (x : Group). x.addresses) g gs) in
      let workers : workers_in (ds ++ g ∷ gs) ≡ workers_in ds + (g.workers + workers_in gs) = sum_by-append (λ (x : Group). x.workers) ds (g ∷ gs) ∙ ap (λ k. workers_in ds + k) (sum_by-cons (λ (x : Group). x.workers) g gs) in
      record {
        few = λ e. absurd (omega (arith, e, are.most, length-append ds (g ∷ gs)));
        listens = listens-all ds g gs are.listening;
        addresses = omega (arith, addresses, are.addresses);
        workers = omega (arith, workers, are.workers);
      }

  few-part : (ds : List Group) (g : Group) (gs : List Group) → AreGroups (ds ++ g ∷ gs) → length ds < 16
  few-part ds g gs are = omega (arith, are.most, length-append ds (g ∷ gs))

  can-begin : (ds : List Group) (g : Group) → length ds < 16 → Fits ds g → can_begin ds g.workers ≡ true
  can-begin ds g few fits = and_from _ _ (lt-ltb (length ds) 16 few) (le-leb (workers_in ds + g.workers) 1024 fits.workers)

  extended-fits : (ds : List Group) (g : Group) → Fits ds g → extended ds g ≡ Some (ds ++ g ∷ [])
  extended-fits ds g fits = ap (λ o. if is_none o then Some (ds ++ g ∷ []) else None) (none-where ds g fits)

  line-group : (w : ℕ) → w ≤ 1024 → IsLine (codes "group " ++ decimal w)
  line-group w most = line-append (codes "group ") (decimal w) refl (line-decimal w (omega (arith, most)))

  -- a group begins behind others
  begins : (n : ℕ) (ds : List Group) (dw : List (List ℕ)) (g : Group) → length ds < 16 → Fits ds g →
      with_group n (at_asked ds dw) (number_within 0 1024 (decimal g.workers))
      ≡ Ok (AtGroup (record { addresses = 0; workers = g.workers }), at_asked ds dw)
  begins n ds dw g few fits =
      ap (with_group n (at_asked ds dw)) (number_within-decimal 0 1024 g.workers (omega arith) (omega (arith, fits.workers)) (omega (arith, fits.workers)))
      ∙ rw (can-begin ds g few fits) refl

  -- a group's line and those of its addresses, from where its line can be read
  group_goes : (place : Reached) (from : Handover) (ds : List Group) (dw ws rest : List (List ℕ)) (g : Group)
      (more : List ℕ) → length ds < 16 → Fits ds g → length ws ≡ g.addresses → AreDistinct (dw ++ (ws ++ rest)) →
      length (dw ++ (ws ++ rest)) ≤ 64 → list_all is_address ws ≡ true →
      ((n : ℕ) → read_line n place from (codes "group " ++ decimal g.workers)
      ≡ with_group n (at_asked ds dw) (number_within 0 1024 (decimal g.workers))) →
      Takes place from (group_line g.workers ++ (flat_map want_line ws ++ more)) (AtGroup g)
      (at_asked ds (dw ++ ws)) more
  group_goes place from ds dw ws rest g more few fits counted distinct most addresses reads =
      let begun : Group = record { addresses = 0; workers = g.workers } in
      let first = goes_line place from (codes "group " ++ decimal g.workers) (flat_map want_line ws ++ more) (AtGroup begun) (at_asked ds dw) (line-group g.workers (omega (arith, fits.workers))) (λ n. reads n ∙ begins n ds dw g few fits) in
      let behind = wants_go (λ k. AtGroup (record { addresses = k; workers = g.workers })) ds (λ n k h a. refl) 0 dw ws rest more distinct most addresses in
      subst (λ k. Takes place from (group_line g.workers ++ (flat_map want_line ws ++ more)) (AtGroup (record { addresses = k; workers = g.workers })) (at_asked ds (dw ++ ws)) more) (omega (arith, counted)) (goes_then first behind)

  -- The last group, where the addresses of all groups were read.
  record GoesOn (place : Reached) (from : Handover) (groups : List Group) (want : List (List ℕ)) (text more : List ℕ) : Type 0 where
    before : List Group
    last : Group
    are : before ++ last ∷ [] ≡ groups
    fits : Fits before last
    goes : Takes place from text (AtGroup last) (at_asked before want) more

  groups_go : (gs ds : List Group) (g : Group) (dw ws : List (List ℕ)) (more : List ℕ) → AreGroups (ds ++ g ∷ gs) →
      addresses_in gs ≡ length ws → AreDistinct (dw ++ ws) → length (dw ++ ws) ≤ 64 → list_all is_address ws ≡ true →
      GoesOn (AtGroup g) (at_asked ds dw) (ds ++ g ∷ gs) (dw ++ ws) (group_lines gs ws ++ more) more
  groups_go [] ds g dw ws more are counts distinct most addresses =
      let none : ws ≡ [] = length-nil ws (omega (arith, counts)) in
      record {
        before = ds;
        last = g;
        are = refl;
        fits = fits-part ds g [] are;
        goes = subst (λ ks. Takes (AtGroup g) (at_asked ds dw) more (AtGroup g) (at_asked ds ks) more) (sym (ap (λ ks. dw ++ ks) none ∙ append-nil dw)) (stays (AtGroup g) (at_asked ds dw) more);
      }
    where
      length-nil : (xs : List (List ℕ)) → length xs ≡ 0 → xs ≡ []
      length-nil [] e = refl
      length-nil (x ∷ xs) e = absurd (omega (arith, e))
  groups_go (x ∷ gs) ds g dw ws more are counts distinct most addresses =
      let again : (ds ++ g ∷ []) ++ x ∷ gs ≡ ds ++ g ∷ x ∷ gs = append_assoc ds (g ∷ []) (x ∷ gs) in
      let are' : AreGroups ((ds ++ g ∷ []) ++ x ∷ gs) = subst AreGroups (sym again) are in
      let own = take x.addresses ws in
      let others = drop x.addresses ws in
      let parts : own ++ others ≡ ws = take-append-drop x.addresses ws in
      let sum : addresses_in (x ∷ gs) ≡ x.addresses + addresses_in gs = sum_by-cons (λ (y : Group). y.addresses) x gs in
      let room : x.addresses ≤ length ws = omega (arith, counts, sum) in
      let all : list_all is_address own && list_all is_address others ≡ true = sym (list_all-append is_address own others) ∙ (ap (list_all is_address) parts ∙ addresses) in
      let tests = and_parts (list_all is_address own) (list_all is_address others) all in
      let own_counts : length own ≡ x.addresses = length-take-le x.addresses ws room in
      let first = group_goes (AtGroup g) (at_asked ds dw) (ds ++ g ∷ []) dw own others x (group_lines gs others ++ more) (few-part (ds ++ g ∷ []) x gs are') (fits-part (ds ++ g ∷ []) x gs are') own_counts (rw parts distinct) (rw parts most) tests.0 (λ n. ap (λ o. read_behind n (at_asked ds dw) o (codes "group " ++ decimal x.workers)) (extended-fits ds g (fits-part ds g (x ∷ gs) are))) in
      let joint : (dw ++ own) ++ others ≡ dw ++ ws = append_assoc dw own others ∙ ap (λ ks. dw ++ ks) parts in
      let behind = groups_go gs (ds ++ g ∷ []) x (dw ++ own) others more are' (omega (arith, counts, sum, length-drop x.addresses ws)) (subst AreDistinct (sym joint) distinct) (rw joint most) tests.1 in
      record {
        before = behind.before;
        last = behind.last;
        are = behind.are ∙ again;
        fits = behind.fits;
        goes =
            subst (λ text. Takes (AtGroup g) (at_asked ds dw) text (AtGroup behind.last) (at_asked behind.before (dw ++ ws)) more) (sym (append_assoc (group_line x.workers ++ flat_map want_line own) (group_lines gs others) more ∙ append_assoc (group_line x.workers) (flat_map want_line own) (group_lines gs others ++ more)))
            (subst (λ ks. Takes (AtGroup g) (at_asked ds dw) (group_line x.workers ++ (flat_map want_line own ++ (group_lines gs others ++ more))) (AtGroup behind.last) (at_asked behind.before ks) more) joint (goes_then first behind.goes));
      }

---- The whole text

module _ (version : HandoverVersion) (t : Handover) (h : IsHandover t) where
  abbrev at_generation : Handover
  at_generation = record { old_pid = t.old_pid; generation = nothing_read.generation; listeners = []; want = []; groups = []; pid_file = None }

  version_goes : (more : List ℕ) → Takes AtVersion nothing_read (version_line version ++ more) (AtOldPid version) nothing_read more
  version_goes more = at version
    where
      at : (v : HandoverVersion) → Takes AtVersion nothing_read (version_line v ++ more) (AtOldPid v) nothing_read more
      at One = goes_line AtVersion nothing_read (codes "handover 1") more (AtOldPid One) nothing_read refl (λ n. refl)
      at Two = goes_line AtVersion nothing_read (codes "handover 2") more (AtOldPid Two) nothing_read refl (λ n. refl)

  old_pid_goes : (more : List ℕ) → Takes (AtOldPid version) nothing_read (old_pid_line t.old_pid ++ more) (AtGeneration version) at_generation more
  old_pid_goes more =
      goes_line (AtOldPid version) nothing_read (codes "old-pid " ++ decimal t.old_pid) more (AtGeneration version) at_generation
      (line-append (codes "old-pid ") (decimal t.old_pid) refl (line-decimal t.old_pid h.parts.old_pid))
      (λ n. ap (with_old_pid n version nothing_read) (number_within-decimal 1 4294967295 t.old_pid h.in_range.old_pid h.parts.old_pid (omega (arith, h.parts.old_pid))))

  generation_goes : (more : List ℕ) →
      Takes (AtGeneration version) at_generation (generation_line t.generation.image t.generation.config ++ more)
      (AtFirstListener version) (at_listeners t []) more
  generation_goes more =
      goes_line (AtGeneration version) at_generation (codes "generation " ++ decimal t.generation.image ++ 32 ∷ decimal t.generation.config) more (AtFirstListener version) (at_listeners t [])
      (line-append (codes "generation " ++ decimal t.generation.image) (32 ∷ decimal t.generation.config) (line-append (codes "generation ") (decimal t.generation.image) refl (line-decimal t.generation.image h.parts.image)) (line-append (32 ∷ []) (decimal t.generation.config) refl (line-decimal t.generation.config h.parts.config)))
      (λ n. generation-decimal n version at_generation t.generation.image t.generation.config h.parts.image h.parts.config)

  -- the first listener, and those behind it
  listeners_goes : (more : List ℕ) →
      Takes (AtFirstListener version) (at_listeners t []) (flat_map listener_line t.listeners ++ more)
      (AtListeners version) (at_asked t [] []) more
  listeners_goes more = at t.listeners h.in_range.listens h.parts.listed h.parts.listened
    where
      at : (ls : List Listener) → 1 ≤ length ls → AreListedFrom 3 ls →
          list_all (λ (l : Listener). is_address l.address) ls ≡ true →
          Takes (AtFirstListener version) (at_listeners t []) (flat_map listener_line ls ++ more) (AtListeners version)
          (at_listeners t ls) more
      at [] some listed addresses = absurd (omega (arith, some))
      at (l ∷ ls) some listed addresses =
          let tests = and_parts (is_address l.address) _ addresses in
          subst (λ text. Takes (AtFirstListener version) (at_listeners t []) text (AtListeners version) (at_listeners t (l ∷ ls)) more) (sym (append_assoc (listener_line l) (flat_map listener_line ls) more))
          (goes_then
          (goes_line (AtFirstListener version) (at_listeners t []) (codes "listener " ++ decimal l.descriptor ++ 32 ∷ l.address) (flat_map listener_line ls ++ more) (AtListeners version) (at_listeners t (l ∷ [])) (line-listener t l listed.1 tests.0) (λ n. listener_ok t n version [] l ls listed tests.0))
          (listeners_go t version (l ∷ []) ls more listed tests.1))

  abbrev with_path : Option (List ℕ) → Handover
  with_path o = record { old_pid = t.old_pid; generation = t.generation; listeners = t.listeners; want = t.want; groups = t.groups; pid_file = o }

  -- the pid file, if there is one, and the end, from where they can be read
  end_goes : (place : Reached) (from : Handover) (more : List ℕ) →
      ((n : ℕ) (line : List ℕ) → after_prefix (codes "want ") line ≡ None → after_prefix (codes "group ") line ≡ None →
      read_line n place from line ≡ read_pid_file n version (with_path None) line) →
      Takes place from (pid_file_line t.pid_file ++ (line_of (codes "end") ++ more)) (Over version) t more
  end_goes place from more reads = at t.pid_file h.parts.path
    where
      at : (o : Option (List ℕ)) → is_path_if o ≡ true → Takes place from (pid_file_line o ++ (line_of (codes "end") ++ more)) (Over version) (with_path o) more
      at None path = goes_line place from (codes "end") more (Over version) (with_path None) refl (λ n. reads n (codes "end") refl refl)
      at (Some p) path =
          goes_then
          (goes_line place from (codes "pid-file " ++ p) (line_of (codes "end") ++ more) (AtEnd version) (with_path (Some p)) (line-append (codes "pid-file ") p refl (line-path p path)) (λ n. reads n (codes "pid-file " ++ p) refl refl ∙ rw path refl))
          (goes_line (AtEnd version) (with_path (Some p)) (codes "end") more (Over version) (with_path (Some p)) refl (λ n. refl))

apart_four : (a b c d : List ℕ) → (((a ++ b) ++ c) ++ d) ≡ (a ++ (b ++ (c ++ d)))
apart_four a b c d = simp append_assoc refl

-- Version 1: the addresses, and the workers of a single group.
asked_one : (t : Handover) (h : IsHandover t) → length t.groups ≡ 1 → (more : List ℕ) →
    Takes (AtListeners One) (at_asked t [] [])
    (wanted_lines One t.groups t.want ++ (pid_file_line t.pid_file ++ (line_of (codes "end") ++ more)))
    (Over One) t more
asked_one t h sole more = at t.groups refl sole t.want refl
  where
    to_end : List ℕ
    to_end = pid_file_line t.pid_file ++ (line_of (codes "end") ++ more)

    at : (gs : List Group) → gs ≡ t.groups → length gs ≡ 1 → (ws : List (List ℕ)) → ws ≡ t.want →
        Takes (AtListeners One) (at_asked t [] []) (wanted_lines One gs ws ++ to_end) (Over One) t more
    at [] is one ws same = absurd (omega (arith, one))
    at (g ∷ x ∷ gs) is one ws same = absurd (omega (arith, one))
    at (g ∷ []) is one [] same =
        let are : AreGroups (g ∷ []) = subst AreGroups (sym is) h.groups in
        absurd (omega (arith, are.listening.0, ap addresses_in is, h.in_range.add_up, ap length same))
    at (g ∷ []) is one (a ∷ ws) same =
        let are : AreGroups (g ∷ []) = subst AreGroups (sym is) h.groups in
        let fits : Fits [] g = fits-part t [] g [] are in
        let counts : g.addresses ≡ length (a ∷ ws) = omega (arith, ap addresses_in is, h.in_range.add_up, ap length same) in
        let distinct : AreDistinct (a ∷ ws) = subst AreDistinct (sym same) h.parts.distinct in
        let most : length (a ∷ ws) ≤ 64 = omega (arith, ap length same, h.parts.most) in
        let tests = and_parts (is_address a) (list_all is_address ws) (ap (list_all is_address) same ∙ h.parts.wanted) in
        let whole : (a ∷ []) ++ (ws ++ []) ≡ a ∷ ws = ap (λ ks. a ∷ ks) (append-nil ws) in
        let total : workers_in (g ∷ []) ≡ g.workers = omega arith in
        let first = goes_line (AtListeners One) (at_asked t [] []) (codes "want " ++ a) (flat_map want_line ws ++ (workers_line g.workers ++ to_end)) AtWants (at_asked t [] (a ∷ [])) (line-append (codes "want ") a refl (line-address a tests.0)) (λ n. want_ok t n AtWants [] [] a ws distinct most tests.0) in
        let behind = wants_go t (λ k. AtWants) [] (λ n k h' b. refl) 0 (a ∷ []) ws [] (workers_line g.workers ++ to_end) (subst AreDistinct (sym whole) distinct) (subst (λ ks. length ks ≤ 64) (sym whole) most) tests.1 in
        let whole_group : record { addresses = length (a ∷ ws); workers = g.workers } ≡ g = ap (λ k. record { addresses = k; workers = g.workers }) (sym counts) in
        let joins : extended [] (record { addresses = length (a ∷ ws); workers = g.workers }) ≡ Some (g ∷ []) = ap (extended []) whole_group ∙ extended-fits t [] g fits in
        let workers = goes_line AtWants (at_asked t [] (a ∷ ws)) (codes "workers " ++ decimal g.workers) to_end AtPidFile (at_asked t (g ∷ []) (a ∷ ws)) (line-append (codes "workers ") (decimal g.workers) refl (line-decimal g.workers (omega (arith, fits.workers))))
        (λ n. ap (with_workers n (at_asked t [] (a ∷ ws))) (number_within-decimal 0 1024 g.workers (omega arith) (omega (arith, fits.workers)) (omega (arith, fits.workers))) ∙ ap (with_groups n AtPidFile (at_asked t [] (a ∷ ws))) joins) in
        let last = end_goes One t h AtPidFile (at_asked t (g ∷ []) (a ∷ ws)) more (λ n line w gr i. read_pid_file n One (at_asked t (is i) (same i)) line) in
        subst (λ text. Takes (AtListeners One) (at_asked t [] []) text (Over One) t more)
        (sym (ap (λ k. (flat_map want_line (a ∷ ws) ++ workers_line k) ++ to_end) total ∙ apart_four (want_line a) (flat_map want_line ws) (workers_line g.workers) to_end))
        (goes_then first (goes_then behind (goes_then workers last)))

-- Version 2: groups, each with its addresses.
asked_two : (t : Handover) (h : IsHandover t) (more : List ℕ) →
    Takes (AtListeners Two) (at_asked t [] [])
    (wanted_lines Two t.groups t.want ++ (pid_file_line t.pid_file ++ (line_of (codes "end") ++ more)))
    (Over Two) t more
asked_two t h more = at t.groups refl
  where
    to_end : List ℕ
    to_end = pid_file_line t.pid_file ++ (line_of (codes "end") ++ more)

    at : (gs : List Group) → gs ≡ t.groups → Takes (AtListeners Two) (at_asked t [] []) (group_lines gs t.want ++ to_end) (Over Two) t more
    at [] is = absurd (omega (arith, h.groups.some, ap length is))
    at (g ∷ gs) is =
        let are : AreGroups (g ∷ gs) = subst AreGroups (sym is) h.groups in
        let own = take g.addresses t.want in
        let others = drop g.addresses t.want in
        let parts : own ++ others ≡ t.want = take-append-drop g.addresses t.want in
        let sum : addresses_in (g ∷ gs) ≡ g.addresses + addresses_in gs = sum_by-cons (λ (y : Group). y.addresses) g gs in
        let counts : addresses_in (g ∷ gs) ≡ length t.want = ap addresses_in is ∙ h.in_range.add_up in
        let room : g.addresses ≤ length t.want = omega (arith, counts, sum) in
        let all : list_all is_address own && list_all is_address others ≡ true = sym (list_all-append is_address own others) ∙ (ap (list_all is_address) parts ∙ h.parts.wanted) in
        let tests = and_parts (list_all is_address own) (list_all is_address others) all in
        let first = group_goes t (AtListeners Two) (at_asked t [] []) [] [] own others g (group_lines gs others ++ to_end) (few-part t [] g gs are) (fits-part t [] g gs are) (length-take-le g.addresses t.want room) (rw parts h.parts.distinct) (rw parts h.parts.most) tests.0 (λ n. refl) in
        let behind = groups_go t gs [] g own others to_end are (omega (arith, counts, sum, length-drop g.addresses t.want)) (rw parts h.parts.distinct) (rw parts h.parts.most) tests.1 in
        let last = end_goes Two t h (AtGroup behind.last) (at_asked t behind.before (own ++ others)) more
        (λ n line want group. ends n line behind.before behind.last (own ++ others) (behind.are ∙ is) parts behind.fits want group) in
        subst (λ text. Takes (AtListeners Two) (at_asked t [] []) text (Over Two) t more)
        (sym (append_assoc (group_line g.workers ++ flat_map want_line own) (group_lines gs others) to_end ∙ append_assoc (group_line g.workers) (flat_map want_line own) (group_lines gs others ++ to_end)))
        (goes_then first (goes_then behind.goes last))
      where
        ends : (n : ℕ) (line : List ℕ) (before : List Group) (last : Group) (want : List (List ℕ)) → before ++ last
            ∷ [] ≡ t.groups → want ≡ t.want → Fits before last → after_prefix (codes "want ") line ≡ None →
            after_prefix (codes "group ") line ≡ None →
            read_line n (AtGroup last) (at_asked t before want) line ≡ read_pid_file n Two (with_path Two t h None) line
        ends n line before last want are same fits no_want no_group =
            ap (λ o. read_if o (with_want n (AtGroup (one_more last)) (at_asked t before want)) (read_behind n (at_asked t before want) (extended before last) line)) no_want
            ∙ ap (λ o. read_behind n (at_asked t before want) o line) (extended-fits t before last fits)
            ∙ ap (λ o. read_if o (λ rest. with_group n (at_asked t (before ++ last ∷ []) want) (number_within 0 1024 rest)) (read_pid_file n Two (at_asked t (before ++ last ∷ []) want) line)) no_group
            ∙ (λ i. read_pid_file n Two (at_asked t (are i) (same i)) line)

asked : (version : HandoverVersion) (t : Handover) (h : IsHandover t) → IsTold version t → (more : List ℕ) →
    Takes (AtListeners version) (at_asked t [] [])
    (wanted_lines version t.groups t.want ++ (pid_file_line t.pid_file ++ (line_of (codes "end") ++ more)))
    (Over version) t more
asked One t h tells more = asked_one t h tells more
asked Two t h tells more = asked_two t h more

module _ (version : HandoverVersion) (t : Handover) (h : IsHandover t) (tells : IsTold version t) where
  -- A spelling leads to the end, whatever follows it.
  pub spelling_goes : (more : List ℕ) → Takes AtVersion nothing_read (spelled version t ++ more) (Over version) t more
  spelling_goes more =
      let to_end : List ℕ = line_of (codes "end") ++ more in
      let to_pid_file : List ℕ = pid_file_line t.pid_file ++ to_end in
      let to_wants : List ℕ = wanted_lines version t.groups t.want ++ to_pid_file in
      let to_listeners : List ℕ = flat_map listener_line t.listeners ++ to_wants in
      let to_generation : List ℕ = generation_line t.generation.image t.generation.config ++ to_listeners in
      let to_old_pid : List ℕ = old_pid_line t.old_pid ++ to_generation in
      subst (λ text. Takes AtVersion nothing_read text (Over version) t more)
      (sym (apart_all (version_line version) (old_pid_line t.old_pid)
      (generation_line t.generation.image t.generation.config) (flat_map listener_line t.listeners)
      (wanted_lines version t.groups t.want) (pid_file_line t.pid_file) (line_of (codes "end")) more))
      (goes_then (version_goes version t h to_old_pid)
      (goes_then (old_pid_goes version t h to_generation)
      (goes_then (generation_goes version t h to_listeners)
      (goes_then (listeners_goes version t h to_wants)
      (asked version t h tells more)))))
    where
      apart_all : (a b c d e f g j : List ℕ) → (((((((a ++ b) ++ c) ++ d) ++ e) ++ f) ++ g) ++ j) ≡ (a ++ (b ++ (c ++ (d ++ (e ++ (f ++ (g ++ j)))))))
      apart_all a b c d e f g j = simp append_assoc refl

  -- What is spelled is read back.
  pub reading-spelling : reading (spelled version t) ≡ Ok t
  reading-spelling =
      ap reading (sym (append-nil (spelled version t)))
      ∙ ((spelling_goes []).on 1).1

  -- Behind a spelling nothing can follow.
  pub trailing : (c : ℕ) (more : List ℕ) → reading (spelled version t ++ c ∷ more) ≡ Err refusal.Trailing
  trailing c more = ((spelling_goes (c ∷ more)).on 1).1 ∙ refused ((spelling_goes (c ∷ more)).on 1).0
    where
      refused : (k : ℕ) → read_pieces k (Over version) t (slice_split is_newline (c ∷ more)) ≡ Err refusal.Trailing
      refused k =
          cond_both (c == 10) _ _ (λ pieces. read_pieces k (Over version) t pieces ≡ Err refusal.Trailing)
          (λ newline. pieces_more k (Over version) t [] more)
          (λ other. longer (slice_split is_newline more))
        where
          longer : (pieces : List (List ℕ)) → read_pieces k (Over version) t (onto_first c pieces) ≡ Err refusal.Trailing
          longer [] = refl
          longer (piece ∷ []) = refl
          longer (piece ∷ next ∷ rest) = refl

-- No spelling of a version can be one of the other: the first lines differ.
same_version : (version other : HandoverVersion) (a b : List ℕ) → version_line version ++ a ≡ version_line other ++ b → version ≡ other
same_version One One a b e = refl
same_version Two Two a b e = refl
same_version One Two a b e = absurd (let differs = ap (λ t. get_or t 9 0) e in omega (arith, differs))
same_version Two One a b e = absurd (let differs = ap (λ t. get_or t 9 0) e in omega (arith, differs))

-- No spelling begins another, of either version.
pub spellings_apart : (version : HandoverVersion) (told : Handover) (other_version : HandoverVersion) (other : Handover)
    (more : List ℕ) → IsHandover told → IsTold version told → IsHandover other → IsTold other_version other →
    spelled version told ++ more ≡ spelled other_version other → (more ≡ []) × (told ≡ other) ×
    (version ≡ other_version)
spellings_apart version told other_version other [] h ht k kt e =
    let same = sym (reading-spelling version told h ht) ∙ ap reading (sym (append-nil (spelled version told)) ∙ e) ∙ reading-spelling other_version other k kt in
    let alike : told ≡ other = cc in
    let texts : spelled version told ≡ spelled other_version told = sym (append-nil (spelled version told)) ∙ e ∙ ap (spelled other_version) (sym alike) in
    (refl, alike, same_version version other_version _ _ (sym (first_line version told) ∙ texts ∙ first_line other_version told))
  where
    rest_of : HandoverVersion → Handover → List ℕ
    rest_of v t = old_pid_line t.old_pid ++ (generation_line t.generation.image t.generation.config ++ (flat_map listener_line t.listeners ++ (wanted_lines v t.groups t.want ++ (pid_file_line t.pid_file ++ line_of (codes "end")))))

    first_line : (v : HandoverVersion) (t : Handover) → spelled v t ≡ version_line v ++ rest_of v t
    first_line v t = apart_from (version_line v) (old_pid_line t.old_pid) (generation_line t.generation.image t.generation.config) (flat_map listener_line t.listeners) (wanted_lines v t.groups t.want) (pid_file_line t.pid_file) (line_of (codes "end"))
      where
        apart_from : (a b c d e f g : List ℕ) → ((((((a ++ b) ++ c) ++ d) ++ e) ++ f) ++ g) ≡ (a ++ (b ++ (c ++ (d ++ (e ++ (f ++ g))))))
        apart_from a b c d e f g = simp append_assoc refl
spellings_apart version told other_version other (c ∷ cs) h ht k kt e =
    let both = sym (trailing version told h ht c cs) ∙ ap reading e ∙ reading-spelling other_version other k kt in
    cc
