-- What is read is spelled as it stands.
use Rattle.std.proofs.Common.{◌≡◌, ℕ, ◌+◌, Bool, true, false, ◌&&◌, nat_eq, nat_lt, not, Option, Some, None, Result, Ok}
use Rattle.std.proofs.Common.{Err, List, [], ◌∷◌, ◌++◌, length, take, drop, ◌≤◌, refl, sym, ap, subst, ◌∙◌, arith, inl}
use Rattle.std.proofs.Common.{inr, append_assoc}
use Rattle.std.specs.Prelude.{bytes_eq, codes, IfOk}
use Rattle.std.specs.Fmt.{decimal}
use Rattle.std.specs.List.{flat_map, before_first, after_first, slice_split, join_with_byte, position_or_len}
use Rattle.std.specs.Cmp.Lexicographic.{same_text}
use Rattle.std.proofs.lemmas.Bool.{cond_both, cases_lt, both_ways}
use Rattle.std.proofs.lemmas.List.Sums.{sum_by-cons, split_at_first, passes_at_first}
use Rattle.std.proofs.lemmas.Option.{none-some}
use Rattle.std.proofs.lemmas.Bool.Decides.{eqb_tells}
use Rattle.std.proofs.lemmas.List.{flat_map_more, append-nil, drop_all, take_all, take-append-le, drop-append-le, length-append, length-drop}
use Rattle.std.proofs.lemmas.List.Splits.{join_with_byte-slice_split}
use Rattle.plain_text.specs.NumberText.{number_in, number_within}
use Rattle.listener_set.specs.PathText.{is_path}
use Rattle.listener_set.specs.AddressList.{has}
use Rattle.plain_text.proofs.NumberTextLemmas.{decimal-number_in, decimal-number_within}
use Rattle.vocabulary.specs.declared.handover.HandoverRefusal.{HandoverRefusal}
use Rattle.vocabulary.specs.declared.table.Listener.{Listener}
use Rattle.definitions.specs.After.{listens_on}
use Rattle.definitions.specs.Calls.{Handover}
use Rattle.handover_text.specs.Spelling.{HandoverVersion, One, Two, line_of, version_line, listener_line, want_line}
use Rattle.handover_text.specs.Spelling.{workers_line, group_line, pid_file_line, group_lines, wanted_lines, spelled}
use Rattle.handover_text.specs.Reading.{Reached, AtVersion, AtOldPid, AtGeneration, AtFirstListener, AtListeners}
use Rattle.handover_text.specs.Reading.{AtWants, AtGroup, AtPidFile, AtEnd, Over, Read, nothing_read, is_space}
use Rattle.handover_text.specs.Reading.{is_address, listener_if, listener_read, one_more, extended, with_old_pid}
use Rattle.handover_text.specs.Reading.{with_generation, with_listener, with_want, with_groups, with_workers, can_begin}
use Rattle.handover_text.specs.Reading.{with_group, with_pid_file, read_wanted, read_behind, read_pid_file, read_end}
use Rattle.handover_text.specs.Reading.{read_if, read_line, then_read, read_rest, read_pieces, reading}
use Rattle.master_listeners.specs.Listeners.{is_above}
use Rattle.plain_text.specs.Cuts.{after_prefix}
use Rattle.definitions.specs.Table.{Address}
use Rattle.worker_groups.specs.declared.groups.Group.{Group}
use Rattle.worker_groups.specs.Groups.{addresses_in, workers_in}
use Rattle.handover_text.specs.Ranges.{IsTold, IsReadTo, IsSpelling}
use Rattle.handover_text.proofs.SoFar.{IfRead, line_read, nothing_in_range, extended-some}

---- A line by its parts

-- a line with a prefix is the prefix and what follows it
prefix_spelled : (p line rest : List ℕ) → after_prefix p line ≡ Some rest → line ≡ p ++ rest
prefix_spelled [] line rest e = cc
prefix_spelled (c ∷ p) [] rest e = absurd (none-some rest e)
prefix_spelled (c ∷ p) (d ∷ ds) rest e =
    elim (eqb_tells c d) [
      | inl t ↦ (λ i. sym t.1 i ∷ prefix_spelled p ds rest (rw t.0 at e) i)
      | inr t ↦ absurd (none-some rest (rw t.0 at e))
    ]

byte_is : (c d : ℕ) → nat_eq c d ≡ true → c ≡ d
byte_is c d h = elim (eqb_tells c d) [ inl t ↦ t.1 | inr t ↦ absurd (both_ways (nat_eq c d) t.0 h) ]

-- what stands around a space, where something follows it
spaced : (rest : List ℕ) → (after_first is_space rest ≡ [] → ⊥) → rest ≡ before_first is_space rest ++ 32 ∷ after_first is_space rest
spaced rest some =
    elim (cases_lt (position_or_len is_space rest) (length rest)) [
      | inl lt ↦ split_at_first is_space rest 0 lt ∙ ap (λ c. before_first is_space rest ++ c ∷ after_first is_space rest) (byte_is _ 32 (passes_at_first is_space rest 0 lt))
      | inr ge ↦ absurd (some (drop_all (position_or_len is_space rest + 1) rest (omega (arith, ge))))
    ]

listener_spelled : (rest : List ℕ) (l : Listener) → listener_read rest ≡ Some l → rest ≡ decimal l.descriptor ++ 32 ∷ l.address
listener_spelled rest l e = at (number_within 3 66 (before_first is_space rest)) refl (is_address (after_first is_space rest)) refl e
  where
    at : (o : Option ℕ) → number_within 3 66 (before_first is_space rest) ≡ o → (b : Bool) →
        is_address (after_first is_space rest) ≡ b → listener_if o (after_first is_space rest) b ≡ Some l →
        rest ≡ decimal l.descriptor ++ 32 ∷ l.address
    at None number b address h = absurd (none-some l h)
    at (Some fd) number false address h = absurd (none-some l h)
    at (Some fd) number true address h =
        let same : record { descriptor = fd; address = after_first is_space rest } ≡ l = cc in
        spaced rest (λ none. both_ways (is_address []) refl (ap is_address (sym none) ∙ address))
        ∙ ap (λ front. front ++ 32 ∷ after_first is_space rest) (decimal-number_within 3 66 (before_first is_space rest) fd number).0
        ∙ ap (λ (m : Listener). decimal m.descriptor ++ 32 ∷ m.address) same

generation_spelled : (rest : List ℕ) (i c : ℕ) → number_in (before_first is_space rest) ≡ Some i →
    number_in (after_first is_space rest) ≡ Some c → rest ≡ decimal i ++ 32 ∷ decimal c
generation_spelled rest i c image config =
    spaced rest (λ none. none-some c (ap number_in (sym none) ∙ config))
    ∙ ap (λ front. front ++ 32 ∷ after_first is_space rest) (decimal-number_in (before_first is_space rest) i image).0
    ∙ ap (λ back. decimal i ++ 32 ∷ back) (decimal-number_in (after_first is_space rest) c config).0

-- a line that is read if it has a prefix, which the reader then knows
if_prefixed : (P : Reached → Handover → Type 0) (p line : List ℕ) (read : List ℕ → Read) (otherwise : Read) →
    ((rest : List ℕ) → line ≡ p ++ rest → IfRead P (read rest)) → IfRead P otherwise →
    IfRead P (read_if (after_prefix p line) read otherwise)
if_prefixed P p line read otherwise some none = at (after_prefix p line) refl
  where
    at : (o : Option (List ℕ)) → after_prefix p line ≡ o → IfRead P (read_if o read otherwise)
    at None is = none
    at (Some rest) is = some rest (prefix_spelled p line rest is)

---- The text of what was read

abbrev pub old_pid_line : ℕ → List ℕ
old_pid_line pid = line_of (codes "old-pid " ++ decimal pid)

abbrev pub to_generation : HandoverVersion → Handover → List ℕ
to_generation version h = version_line version ++ old_pid_line h.old_pid

abbrev pub generation_line : ℕ → ℕ → List ℕ
generation_line i c = line_of (codes "generation " ++ decimal i ++ 32 ∷ decimal c)

abbrev pub to_listeners : HandoverVersion → Handover → List ℕ
to_listeners version h = to_generation version h ++ generation_line h.generation.image h.generation.config

abbrev pub to_wants : HandoverVersion → Handover → List ℕ
to_wants version h = to_listeners version h ++ flat_map listener_line h.listeners

abbrev pub to_pid_file : HandoverVersion → Handover → List ℕ
to_pid_file version h = to_wants version h ++ wanted_lines version h.groups h.want

abbrev pub to_end : HandoverVersion → Handover → List ℕ
to_end version h = to_pid_file version h ++ pid_file_line h.pid_file

abbrev pub so_far : Reached → Handover → List ℕ
so_far AtVersion h = []
so_far (AtOldPid version) h = version_line version
so_far (AtGeneration version) h = to_generation version h
so_far (AtFirstListener version) h = to_wants version h
so_far (AtListeners version) h = to_wants version h
so_far AtWants h = to_wants One h ++ flat_map want_line h.want
so_far (AtGroup g) h = to_wants Two h ++ group_lines (h.groups ++ g ∷ []) h.want
so_far AtPidFile h = to_pid_file One h
so_far (AtEnd version) h = to_end version h
so_far (Over version) h = to_end version h ++ line_of (codes "end")

abbrev pub IsText : List ℕ → Reached → Handover → Type 0
IsText text place h = so_far place h ≡ text

---- The lines of groups

-- a group that begins has a line of its own
pub group-begun : (gs : List Group) (w : ℕ) (want : List Address) →
    group_lines (gs ++ record { addresses = 0; workers = w } ∷ []) want ≡ group_lines gs want ++ group_line w
group-begun [] w want = simp append-nil refl
group-begun (g ∷ gs) w want = ap (λ t. (group_line g.workers ++ flat_map want_line (take g.addresses want)) ++ t) (group-begun gs w (drop g.addresses want)) ∙ sym (append_assoc (group_line g.workers ++ flat_map want_line (take g.addresses want)) (group_lines gs (drop g.addresses want)) (group_line w))

-- and an address more of the last one
pub group-more : (gs : List Group) (g : Group) (want : List Address) (a : Address) →
    addresses_in gs + g.addresses ≡ length want →
    group_lines (gs ++ one_more g ∷ []) (want ++ a ∷ []) ≡ group_lines (gs ++ g ∷ []) want ++ want_line a
group-more [] g want a e =
    let all : take g.addresses want ≡ want = take_all g.addresses want (omega (arith, e)) in
    let more : take (g.addresses + 1) (want ++ a ∷ []) ≡ want ++ a ∷ [] = take_all (g.addresses + 1) (want ++ a ∷ []) (omega (arith, e, length-append want (a ∷ []))) in
    ap (λ ws. (group_line g.workers ++ flat_map want_line ws) ++ []) more
    ∙ append-nil (group_line g.workers ++ flat_map want_line (want ++ a ∷ []))
    ∙ sym (flat_map_more want_line (group_line g.workers) want a)
    ∙ ap (λ ws. (group_line g.workers ++ flat_map want_line ws) ++ want_line a) (sym all)
    ∙ ap (λ t. t ++ want_line a) (sym (append-nil (group_line g.workers ++ flat_map want_line (take g.addresses want))))
group-more (x ∷ gs) g want a e =
    let sum : addresses_in (x ∷ gs) ≡ x.addresses + addresses_in gs = sum_by-cons (λ (y : Group). y.addresses) x gs in
    let room : x.addresses ≤ length want = omega (arith, e, sum) in
    let left : addresses_in gs + g.addresses ≡ length (drop x.addresses want) = omega (arith, e, sum, length-drop x.addresses want) in
    ap (λ ws. (group_line x.workers ++ flat_map want_line ws) ++ group_lines (gs ++ one_more g ∷ []) (drop x.addresses (want ++ a ∷ []))) (take-append-le x.addresses want (a ∷ []) room)
    ∙ ap (λ ws. (group_line x.workers ++ flat_map want_line (take x.addresses want)) ++ group_lines (gs ++ one_more g ∷ []) ws) (drop-append-le x.addresses want (a ∷ []) room)
    ∙ ap (λ t. (group_line x.workers ++ flat_map want_line (take x.addresses want)) ++ t) (group-more gs g (drop x.addresses want) a left)
    ∙ sym (append_assoc (group_line x.workers ++ flat_map want_line (take x.addresses want)) (group_lines (gs ++ g ∷ []) (drop x.addresses want)) (want_line a))

---- Line by line

module _ (n : ℕ) (h : Handover) (line text : List ℕ) where
  abbrev Went : Reached → Handover → Type 0
  Went place told = IsText (text ++ line_of line) place told

  -- behind what was read stands the line
  then_line : (before more : List ℕ) → before ≡ text → more ≡ line_of line → before ++ more ≡ text ++ line_of line
  then_line before more is same = ap (λ t. t ++ more) is ∙ ap (λ t. text ++ t) same

  version_went : (version : HandoverVersion) → version_line version ≡ line_of line → text ≡ [] → Went (AtOldPid version) h
  version_went version is start = is ∙ ap (λ t. t ++ line_of line) (sym start)

  old_pid_went : (version : HandoverVersion) (o : Option ℕ) →
      ((pid : ℕ) → o ≡ Some pid → line ≡ codes "old-pid " ++ decimal pid) → version_line version ≡ text →
      IfRead Went (with_old_pid n version h o)
  old_pid_went version None spelled start = tt
  old_pid_went version (Some pid) spelled start = then_line (version_line version) (old_pid_line pid) start (ap line_of (sym (spelled pid refl)))

  generation_went : (version : HandoverVersion) (image config : Option ℕ) →
      ((i c : ℕ) → image ≡ Some i → config ≡ Some c → line ≡ codes "generation " ++ decimal i ++ 32 ∷ decimal c) →
      to_generation version h ≡ text → h.listeners ≡ [] → IfRead Went (with_generation n version h image config)
  generation_went version None config spelled start none = tt
  generation_went version (Some i) None spelled start none = tt
  generation_went version (Some i) (Some c) spelled start none =
      ap (λ ls. to_generation version h ++ generation_line i c ++ flat_map listener_line ls) none
      ∙ append-nil _
      ∙ then_line (to_generation version h) (generation_line i c) start (ap line_of (sym (spelled i c refl refl)))

  listener_went : (version : HandoverVersion) (o : Option Listener) →
      ((l : Listener) → o ≡ Some l → line_of line ≡ listener_line l) → to_wants version h ≡ text →
      IfRead Went (with_listener n version h o)
  listener_went version None spelled start = tt
  listener_went version (Some l) spelled start =
      cond_both (not (is_above l.descriptor h.listeners)) _ _ (IfRead Went)
      (λ low. tt)
      (λ above. cond_both (listens_on h.listeners l.address) _ _ (IfRead Went)
      (λ doubled. tt)
      (λ new. sym (flat_map_more listener_line (to_listeners version h) h.listeners l) ∙ then_line (to_wants version h) (listener_line l) start (sym (spelled l refl))))

  want_went : (place : Reached) (a : List ℕ) → Went place (record h { want = h.want ++ a ∷ [] }) → IfRead Went (with_want n place h a)
  want_went place a went =
      cond_both (is_address a && (not (has h.want a) && nat_lt (length h.want) 64)) _ _ (IfRead Went)
      (λ taken. went)
      (λ refused. tt)

  single_went : (w : ℕ) (o : Option (List Group)) →
      extended [] (record { addresses = length h.want; workers = w }) ≡ o →
      line ≡ codes "workers " ++ decimal w → so_far AtWants h ≡ text → IfRead Went (with_groups n AtPidFile h o)
  single_went w None e spelled start = tt
  single_went w (Some groups) e spelled start =
      let is = extended-some [] (record { addresses = length h.want; workers = w }) groups e in
      let total : workers_in groups ≡ w = ap workers_in is.0 ∙ omega arith in
      ap (λ k. to_wants One h ++ (flat_map want_line h.want ++ workers_line k)) total
      ∙ sym (append_assoc (to_wants One h) (flat_map want_line h.want) (workers_line w))
      ∙ then_line (so_far AtWants h) (workers_line w) start (ap line_of (sym spelled))

  workers_went : (o : Option ℕ) → ((w : ℕ) → o ≡ Some w → line ≡ codes "workers " ++ decimal w) → so_far AtWants h ≡ text → IfRead Went (with_workers n h o)
  workers_went None spelled start = tt
  workers_went (Some w) spelled start = single_went w (extended [] (record { addresses = length h.want; workers = w })) refl (spelled w refl) start

  group_went : (o : Option ℕ) → ((w : ℕ) → o ≡ Some w → line ≡ codes "group " ++ decimal w) → to_pid_file Two h ≡ text → IfRead Went (with_group n h o)
  group_went None spelled start = tt
  group_went (Some w) spelled start =
      cond_both (can_begin h.groups w) _ _ (IfRead Went)
      (λ fits.
      ap (λ t. to_wants Two h ++ t) (group-begun h.groups w h.want)
      ∙ sym (append_assoc (to_wants Two h) (group_lines h.groups h.want) (group_line w))
      ∙ then_line (to_pid_file Two h) (group_line w) start (ap line_of (sym (spelled w refl))))
      (λ refused. tt)

  pid_file_went : (version : HandoverVersion) (path : List ℕ) → line ≡ codes "pid-file " ++ path →
      to_pid_file version h ≡ text → IfRead Went (with_pid_file n version h path)
  pid_file_went version path spelled start =
      cond_both (is_path path) _ _ (IfRead Went)
      (λ is. then_line (to_pid_file version h) (pid_file_line (Some path)) start (ap line_of (sym spelled)))
      (λ refused. tt)

  end_went : (version : HandoverVersion) → to_end version h ≡ text → IfRead Went (read_end n version h line)
  end_went version start =
      cond_both (bytes_eq line (codes "end")) _ _ (IfRead Went)
      (λ is. then_line (to_end version h) (line_of (codes "end")) start (ap line_of (sym (same_text line (codes "end") (sym is)))))
      (λ refused. tt)

  file_went : (version : HandoverVersion) → to_pid_file version h ≡ text → h.pid_file ≡ None → IfRead Went (read_pid_file n version h line)
  file_went version start none =
      if_prefixed Went (codes "pid-file ") line _ _
      (λ rest is. pid_file_went version rest is start)
      (end_went version (ap (λ o. to_pid_file version h ++ pid_file_line o) none ∙ append-nil (to_pid_file version h) ∙ start))

listener_line_is : (line rest : List ℕ) (l : Listener) → line ≡ codes "listener " ++ rest → listener_read rest ≡ Some l → line_of line ≡ listener_line l
listener_line_is line rest l is read = ap line_of is ∙ ap (λ r. line_of (codes "listener " ++ r)) (listener_spelled rest l read)

number_line_is : (p line rest : List ℕ) (least most n : ℕ) → line ≡ p ++ rest → number_within least most rest ≡ Some n → line ≡ p ++ decimal n
number_line_is p line rest least most n is read = is ∙ ap (λ r. p ++ r) (decimal-number_within least most rest n read).0

behind_went : (n : ℕ) (h : Handover) (g : Group) (line text : List ℕ) (o : Option (List Group)) →
    extended h.groups g ≡ o → h.pid_file ≡ None → so_far (AtGroup g) h ≡ text →
    IfRead (IsText (text ++ line_of line)) (read_behind n h o line)
behind_went n h g line text None e none start = tt
behind_went n h g line text (Some groups) e none start =
    let is = (extended-some h.groups g groups e).0 in
    let h' : Handover = record h { groups = groups } in
    let begun : to_pid_file Two h' ≡ text = ap (λ gs. to_wants Two h ++ group_lines gs h.want) is ∙ start in
    if_prefixed (IsText (text ++ line_of line)) (codes "group ") line _ _
    (λ rest is. group_went n h' line text (number_within 0 1024 rest) (λ w e. number_line_is (codes "group ") line rest 0 1024 w is e) begun)
    (file_went n h' line text Two begun none)

pub line_went : (n : ℕ) (place : Reached) (h : Handover) (line text : List ℕ) → IsReadTo n place h →
    IsText text place h → IfRead (IsText (text ++ line_of line)) (read_line n place h line)
line_went n AtVersion h line text s start =
    cond_both (bytes_eq line (codes "handover 1")) _ _ (IfRead (IsText (text ++ line_of line)))
    (λ is. version_went n h line text One (ap line_of (sym (same_text line (codes "handover 1") (sym is)))) (sym start))
    (λ other. cond_both (bytes_eq line (codes "handover 2")) _ _ (IfRead (IsText (text ++ line_of line)))
    (λ is. version_went n h line text Two (ap line_of (sym (same_text line (codes "handover 2") (sym is)))) (sym start))
    (λ refused. tt))
line_went n (AtOldPid version) h line text s start =
    if_prefixed (IsText (text ++ line_of line)) (codes "old-pid ") line _ _
    (λ rest is. old_pid_went n h line text version (number_within 1 4294967295 rest) (λ pid e. number_line_is (codes "old-pid ") line rest 1 4294967295 pid is e) start)
    tt
line_went n (AtGeneration version) h line text s start =
    if_prefixed (IsText (text ++ line_of line)) (codes "generation ") line _ _
    (λ rest is. generation_went n h line text version (number_in (before_first is_space rest)) (number_in (after_first is_space rest)) (λ i c image config. is ∙ ap (λ r. codes "generation " ++ r) (generation_spelled rest i c image config)) start s.listener)
    tt
line_went n (AtFirstListener version) h line text s start =
    if_prefixed (IsText (text ++ line_of line)) (codes "listener ") line _ _
    (λ rest is. listener_went n h line text version (listener_read rest) (λ l e. listener_line_is line rest l is e) start)
    tt
line_went n (AtListeners version) h line text s start =
    if_prefixed (IsText (text ++ line_of line)) (codes "listener ") line _ _
    (λ rest is. listener_went n h line text version (listener_read rest) (λ l e. listener_line_is line rest l is e) start)
    (first-wanted version start)
  where
    first-wanted : (v : HandoverVersion) → to_wants v h ≡ text → IfRead (IsText (text ++ line_of line)) (read_wanted n v h line)
    first-wanted One start' =
        if_prefixed (IsText (text ++ line_of line)) (codes "want ") line _ _
        (λ rest is. want_went n h line text AtWants rest
        (ap (λ ws. to_wants One h ++ flat_map want_line (ws ++ rest ∷ [])) s.groups.0
        ∙ then_line n h line text (to_wants One h) (want_line rest ++ []) start' (append-nil (want_line rest) ∙ ap line_of (sym is))))
        tt
    first-wanted Two start' =
        if_prefixed (IsText (text ++ line_of line)) (codes "group ") line _ _
        (λ rest is. group_went n h line text (number_within 0 1024 rest) (λ w e. number_line_is (codes "group ") line rest 0 1024 w is e)
        (ap (λ gs. to_wants Two h ++ group_lines gs h.want) s.groups.1 ∙ append-nil (to_wants Two h) ∙ start'))
        tt
line_went n AtWants h line text s start =
    if_prefixed (IsText (text ++ line_of line)) (codes "want ") line _ _
    (λ rest is. want_went n h line text AtWants rest (sym (flat_map_more want_line (to_wants One h) h.want rest) ∙ then_line n h line text (so_far AtWants h) (want_line rest) start (ap line_of (sym is))))
    (if_prefixed (IsText (text ++ line_of line)) (codes "workers ") line _ _
    (λ rest is. workers_went n h line text (number_within 0 1024 rest) (λ w e. number_line_is (codes "workers ") line rest 0 1024 w is e) start)
    tt)
line_went n (AtGroup g) h line text s start =
    if_prefixed (IsText (text ++ line_of line)) (codes "want ") line _ _
    (λ rest is. want_went n h line text (AtGroup (one_more g)) rest
    (ap (λ t. to_wants Two h ++ t) (group-more h.groups g h.want rest s.groups.counts)
    ∙ sym (append_assoc (to_wants Two h) (group_lines (h.groups ++ g ∷ []) h.want) (want_line rest))
    ∙ then_line n h line text (so_far (AtGroup g) h) (want_line rest) start (ap line_of (sym is))))
    (behind_went n h g line text (extended h.groups g) refl s.no_path start)
line_went n AtPidFile h line text s start = file_went n h line text One start s.no_path
line_went n (AtEnd version) h line text s start = end_went n h line text version start
line_went n (Over version) h line text s start = tt

---- The whole text

pub spelled_whole : (version : HandoverVersion) (h : Handover) → so_far (Over version) h ≡ spelled version h
spelled_whole version h = refl

rest_spelled : (n : ℕ) (place : Reached) (h told : Handover) (text rest : List ℕ) → IsReadTo n place h →
    IsText text place h → read_rest place h rest ≡ Ok told → IsSpelling (text ++ rest) told
rest_spelled n AtVersion h told text rest s t e = cc
rest_spelled n (AtOldPid version) h told text rest s t e = cc
rest_spelled n (AtGeneration version) h told text rest s t e = cc
rest_spelled n (AtFirstListener version) h told text rest s t e = cc
rest_spelled n (AtListeners version) h told text rest s t e = cc
rest_spelled n AtWants h told text rest s t e = cc
rest_spelled n (AtGroup g) h told text rest s t e = cc
rest_spelled n AtPidFile h told text rest s t e = cc
rest_spelled n (AtEnd version) h told text rest s t e = cc
rest_spelled n (Over version) h told text [] s t e =
    let same : h ≡ told = cc in
    record { version = version; tells = subst (IsTold version) same s.groups.tells; spelled = ap (spelled version) (sym same) ∙ sym (spelled_whole version h) ∙ t ∙ sym (append-nil text) }
rest_spelled n (Over version) h told text (c ∷ cs) s t e = cc

pieces_spelled : (n : ℕ) (place : Reached) (h told : Handover) (text : List ℕ) (pieces : List (List ℕ)) →
    IsReadTo n place h → IsText text place h → read_pieces n place h pieces ≡ Ok told →
    IsSpelling (text ++ join_with_byte 10 pieces) told
pieces_spelled n place h told text [] s t e = rest_spelled n place h told text [] s t e
pieces_spelled n place h told text (rest ∷ []) s t e = rest_spelled n place h told text rest s t e
pieces_spelled n place h told text (line ∷ next ∷ more) s t e =
    at (read_line n place h line) (line_read n place h line s) (line_went n place h line text s t) e (λ place' h'. pieces_spelled (n + 1) place' h' told (text ++ line_of line) (next ∷ more))
  where
    at : (r : Read) → IfRead (IsReadTo (n + 1)) r → IfRead (IsText (text ++ line_of line)) r →
        then_read r (λ place' h'. read_pieces (n + 1) place' h' (next ∷ more)) ≡ Ok told →
        ((place' : Reached) (h' : Handover) → IsReadTo (n + 1) place' h' → IsText (text ++ line_of line) place' h' →
        read_pieces (n + 1) place' h' (next ∷ more) ≡ Ok told →
        IsSpelling ((text ++ line_of line) ++ join_with_byte 10 (next ∷ more)) told) →
        IsSpelling (text ++ (line ++ 10 ∷ join_with_byte 10 (next ∷ more))) told
    at (Err refusal) read went e' later = cc
    at (Ok state) read went e' later = subst (λ t. IsSpelling t told) (simp append_assoc refl) (later state.0 state.1 read went e')

-- What is read is spelled as it stands.
pub spelling-reading : (text : List ℕ) (told : Handover) → reading text ≡ Ok told → IsSpelling text told
spelling-reading text told e =
    subst (λ t. IsSpelling t told) (join_with_byte-slice_split 10 text)
    (pieces_spelled 1 AtVersion nothing_read told [] (slice_split (λ c. nat_eq c 10) text) nothing_in_range refl e)

pub reading_spelled : (text : List ℕ) → IfOk (reading text) (λ told. IsSpelling text told)
reading_spelled text = at (reading text) refl
  where
    at : (r : Result Handover HandoverRefusal) → reading text ≡ r → IfOk r (λ told. IsSpelling text told)
    at (Ok told) e = spelling-reading text told e
    at (Err refusal) e = tt
