-- The lines of bytes of which a part was read.
use Rattle.std.proofs.Common.{◌≡◌, ◌≢◌, ℕ, ◌+◌, ◌<◌, ◌≤◌, ◌==◌, nat_lt, nat_le, not, Bool, true, false, cond, List, [], ◌++◌, Option, Some, None, length, take, drop, refl, sym, ap, subst, ◌∙◌, append_assoc, append-nil, ◌⊎◌, inl, inr, arith}
use Rattle.std.specs.Prelude.{option_map}
use Rattle.std.specs.List.{position_or_len}
use Rattle.std.specs.Io.KnownBytes.{Keeps, Consumes, IsAtEnd}
use Rattle.std.proofs.lemmas.Bool.{cases_lt, lt-ltb, le-ltb, le-leb, lt-leb, eq-eqb, ne_eqb, eqb-true, leb-false}
use Rattle.std.proofs.lemmas.List.{length-append, length-drop, length-take-le, take-append-le, drop-append-le}
use Rattle.std.proofs.lemmas.List.Folds.{prefix_len-append}
use Rattle.std.proofs.lemmas.List.Sums.{prefix_len-le-length}
use Rattle.std.proofs.Math.Seq.{take-append-add, drop-append-add}
use Rattle.child_family.specs.Told.{Hearing, line, too_long, ended}
use Rattle.child_processes.specs.Unheard.{Unheard, newline_in, behind_drop, dropped, told_by, told_first, left_by, left_first, told_last, due}
use Rattle.child_processes.specs.NextLine.{told, heard_at, left_at, heard_in, left_in, line_at, rest_at, line_in, rest_in, IsNext}

-- ---- where the first newline is, where bytes come behind others
abbrev place : List ℕ → ℕ
place bytes = position_or_len (λ c. c == 10) bytes

place_append : (bs xs : List ℕ) → place (bs ++ xs) ≡ cond (place bs == length bs) (length bs + place xs) (place bs)
place_append bs xs = prefix_len-append (λ c. not (c == 10)) bs xs

some_at : (bs : List ℕ) (at : ℕ) → place bs ≡ at → at < length bs → newline_in bs ≡ Some at
some_at bs at e lt = ap (λ n. cond (nat_lt n (length bs)) (Some n) None) e ∙ ap (λ b. cond b (Some at) None) (lt-ltb at (length bs) lt)

none_at : (bs : List ℕ) → length bs ≤ place bs → newline_in bs ≡ None
none_at bs ge = ap (λ b. cond b (Some (place bs)) None) (le-ltb (place bs) (length bs) ge)

behind : (bs xs : List ℕ) → place bs ≡ length bs → newline_in (bs ++ xs) ≡ option_map (λ n. length bs + n) (newline_in xs)
behind bs xs e =
    let same : place (bs ++ xs) ≡ length bs + place xs = place_append bs xs ∙ ap (λ b. cond b (length bs + place xs) (place bs)) (eq-eqb (place bs) (length bs) e) in
    let size = length-append bs xs in
    elim (cases_lt (place xs) (length xs)) [
      | inl lt ↦ some_at (bs ++ xs) (length bs + place xs) same (omega (arith, lt, size)) ∙ ap (option_map (λ n. length bs + n)) (sym (some_at xs (place xs) refl lt))
      | inr ge ↦ none_at (bs ++ xs) (omega (arith, ge, same, size)) ∙ ap (option_map (λ n. length bs + n)) (sym (none_at xs ge))
    ]

abbrev Within : List ℕ → Type 0
Within bs = (at : ℕ) × (at < length bs) × (newline_in bs ≡ Some at) × ((xs : List ℕ) → newline_in (bs ++ xs) ≡ Some at)

abbrev Without : List ℕ → Type 0
Without bs = (newline_in bs ≡ None) × ((xs : List ℕ) → newline_in (bs ++ xs) ≡ option_map (λ n. length bs + n) (newline_in xs))

within_or_without : (bs : List ℕ) → Within bs ⊎ Without bs
within_or_without bs =
    elim (cases_lt (place bs) (length bs)) [
      | inl lt ↦ inl (
        place bs,
        lt,
        some_at bs (place bs) refl lt,
        λ xs.
            some_at (bs ++ xs) (place bs) (place_append bs xs ∙ ap (λ b. cond b (length bs + place xs) (place bs)) (ne_eqb (place bs) (length bs) (λ e. omega (arith, lt, e))))
            (omega (arith, lt, length-append bs xs)),
      )
      | inr ge ↦ inr (none_at bs ge, λ xs. behind bs xs (omega (arith, ge, prefix_len-le-length (λ c. not (c == 10)) bs)))
    ]

-- ---- a line that is dropped
behind_more : (bs more : List ℕ) (o : Option ℕ) → (behind_drop (bs ++ more) (option_map (λ n. length bs + n) o)).bytes ≡ (behind_drop more o).bytes
behind_more bs more None = refl
behind_more bs more (Some j) =
    let next : length bs + j + 1 ≡ length bs + (j + 1) = omega arith in
    ap (λ n. drop n (bs ++ more)) next ∙ drop-append-add bs more (j + 1)

again : (bs : List ℕ) (d : Bool) (more : List ℕ) → due (dropped (record { bytes = bs; drops = d })) more ≡ due (record { bytes = bs; drops = d }) more
again bs false more = refl
again bs true more =
    elim (within_or_without bs) [
      | inl w ↦
          ap (λ o. due (behind_drop bs o) more) w.2
          ∙ sym (drop-append-le (w.0 + 1) bs more (omega (arith, w.1)))
          ∙ sym (ap (λ o. (behind_drop (bs ++ more) o).bytes) (w.3 more))
      | inr w ↦
          ap (λ o. due (behind_drop bs o) more) w.0
          ∙ sym (behind_more bs more (newline_in more))
          ∙ sym (ap (λ o. (behind_drop (bs ++ more) o).bytes) (w.1 more))
    ]

abbrev Clean : Unheard → Type 0
Clean v = v.drops ≡ true → v.bytes ≡ []

behind_clean : (bs : List ℕ) (o : Option ℕ) → Clean (behind_drop bs o)
behind_clean bs None e = refl
behind_clean bs (Some at) e = absurd cc

clean : (bs : List ℕ) (d : Bool) → Clean (dropped (record { bytes = bs; drops = d }))
clean bs false e = absurd cc
clean bs true e = behind_clean bs (newline_in bs) e

behind_fits : (bs : List ℕ) (o : Option ℕ) (m : ℕ) → length bs ≤ m → length (behind_drop bs o).bytes ≤ m
behind_fits bs None m le = omega arith
behind_fits bs (Some at) m le = omega (arith, le, length-drop (at + 1) bs)

fits : (bs : List ℕ) (d : Bool) (m : ℕ) → length bs ≤ m → length (dropped (record { bytes = bs; drops = d })).bytes ≤ m
fits bs false m le = le
fits bs true m le = behind_fits bs (newline_in bs) m le

-- ---- what is told without reading on
told_short : (text : List ℕ) → length text ≤ 4096 → told text ≡ line text
told_short text le = ap (λ b. cond b (line text) too_long) (le-leb (length text) 4096 le)

told_long : (text : List ℕ) → 4096 < length text → told text ≡ too_long
told_long text lt = ap (λ b. cond b (line text) too_long) (lt-leb (length text) 4096 lt)

abbrev Tells : List ℕ → List ℕ → Hearing → List ℕ → Type 0
Tells bytes more h left = (h ≡ heard_in (bytes ++ more)) × (left ≡ left_in (bytes ++ more))

long_heard : (bs more : List ℕ) → length bs ≡ 4097 → (o : Option ℕ) → (too_long ≡ heard_at (bs ++ more) (option_map (λ n. length bs + n) o)) × ((behind_drop more o).bytes ≡ left_at (bs ++ more) (option_map (λ n. length bs + n) o))
long_heard bs more is None =
    let over : 4096 < length (bs ++ more) = omega (arith, is, length-append bs more) in
    let no = lt-leb (length (bs ++ more)) 4096 over in
    (sym (ap (λ b. cond b ended too_long) no), sym (ap (λ b. cond b (bs ++ more) []) no))
long_heard bs more is (Some j) =
    let front : take (length bs + j) (bs ++ more) ≡ bs ++ take j more = take-append-add bs more j in
    let over : 4096 < length (take (length bs + j) (bs ++ more)) = omega (arith, is, ap length front, length-append bs (take j more)) in
    (sym (told_long (take (length bs + j) (bs ++ more)) over), sym (behind_more bs more (Some j)))

first_some : (bs : List ℕ) (at : ℕ) (more : List ℕ) (h : Hearing) → length bs ≤ 4097 → at < length bs → newline_in bs ≡ Some at → newline_in (bs ++ more) ≡ Some at → told_first (record { bytes = bs; drops = false }) ≡ Some h
    → Tells bs more h (due (left_first (record { bytes = bs; drops = false })) more)
first_some bs at more h small lt here there e =
    let same : Some (line (take at bs)) ≡ Some h = sym (ap (told_by bs) here) ∙ e in
    let is : h ≡ line (take at bs) = cc in
    let front : take at (bs ++ more) ≡ take at bs = take-append-le at bs more (omega (arith, lt)) in
    let size : length (take at bs) ≡ at = length-take-le at bs (omega (arith, lt)) in (
      is ∙ sym (told_short (take at bs) (omega (arith, size, lt, small))) ∙ sym (ap told front) ∙ sym (ap (heard_at (bs ++ more)) there),
      ap (λ o. due (left_by (record { bytes = bs; drops = false }) o) more) here ∙ sym (drop-append-le (at + 1) bs more (omega (arith, lt))) ∙ sym (ap (left_at (bs ++ more)) there),
    )

first_none : (bs more : List ℕ) (h : Hearing) → newline_in bs ≡ None → newline_in (bs ++ more) ≡ option_map (λ n. length bs + n) (newline_in more) → told_first (record { bytes = bs; drops = false }) ≡ Some h
    → Tells bs more h (due (left_first (record { bytes = bs; drops = false })) more)
first_none bs more h here there e = at (length bs == 4097) refl
  where
    at : (t : Bool) → (length bs == 4097) ≡ t → Tells bs more h (due (left_first (record { bytes = bs; drops = false })) more)
    at true is =
        let same : Some too_long ≡ Some h = sym (ap (told_by bs) here ∙ ap (λ t. cond t (Some too_long) None) is) ∙ e in
        let full : length bs ≡ 4097 = eqb-true (length bs) 4097 is in
        let all = long_heard bs more full (newline_in more) in
        let first : h ≡ too_long = cc in (
          first ∙ all.0 ∙ sym (ap (heard_at (bs ++ more)) there),
          ap (λ o. due (left_by (record { bytes = bs; drops = false }) o) more) here
              ∙ ap (λ t. due (cond t (record { bytes = []; drops = true }) (record { bytes = bs; drops = false })) more) is
              ∙ all.1 ∙ sym (ap (left_at (bs ++ more)) there),
        )
    at false is =
        let none : Option Hearing = None in
        let no : none ≡ Some h = sym (ap (told_by bs) here ∙ ap (λ t. cond t (Some too_long) None) is) ∙ e in
        absurd cc

first_told : (bs : List ℕ) (d : Bool) (more : List ℕ) (h : Hearing) → Clean (record { bytes = bs; drops = d }) → length bs ≤ 4097 → told_first (record { bytes = bs; drops = d }) ≡ Some h
    → (h ≡ heard_in (due (record { bytes = bs; drops = d }) more)) × (due (left_first (record { bytes = bs; drops = d })) more ≡ left_in (due (record { bytes = bs; drops = d }) more))
first_told bs true more h c small e =
    let none : Option Hearing = None in
    let no : none ≡ Some h = sym (ap (λ b. told_first (record { bytes = b; drops = true })) (c refl)) ∙ e in
    absurd cc
first_told bs false more h c small e =
    elim (within_or_without bs) [
      | inl w ↦ first_some bs w.0 more h small w.1 w.2 (w.3 more) e
      | inr w ↦ first_none bs more h w.0 (w.1 more) e
    ]

left_none : (u : Unheard) (o : Option ℕ) → told_by u.bytes o ≡ None → left_by u o ≡ u
left_none u (Some at) e = let some : Option Hearing = Some (line (take at u.bytes)) in let no : some ≡ None = e in absurd cc
left_none u None e = at (length u.bytes == 4097) refl
  where
    at : (t : Bool) → (length u.bytes == 4097) ≡ t → left_by u None ≡ u
    at true is =
        let some : Option Hearing = Some too_long in
        let no : some ≡ None = sym (ap (λ t. cond t (Some too_long) None) is) ∙ e in
        absurd cc
    at false is = ap (λ t. cond t (record { bytes = []; drops = true }) u) is

no_newline : (bs : List ℕ) (o : Option ℕ) → told_by bs o ≡ None → o ≡ None
no_newline bs None e = refl
no_newline bs (Some at) e = let some : Option Hearing = Some (line (take at bs)) in let no : some ≡ None = e in absurd cc

-- ---- the same of a reader, by the bytes that come
abbrev WentOn : Unheard → Unheard → Type 0
WentOn w u = (told_first (dropped w) ≡ None) × (u ≡ left_first (dropped w))

went : (w u : Unheard) → WentOn w u → u ≡ dropped w
went w u h = h.1 ∙ left_none (dropped w) (newline_in (dropped w).bytes) h.0

due_went : (w u : Unheard) (more : List ℕ) → WentOn w u → due u more ≡ due w more
due_went w u more h = ap (λ v. due v more) (went w u h) ∙ again w.bytes w.drops more

pub told_next : (k : Option (List ℕ)) (w u : Unheard) (h : Hearing) → length w.bytes ≤ 4097 → Some h ≡ told_first (dropped w) → u ≡ left_first (dropped w)
    → IsNext heard_in left_in (option_map (λ more. due w more) k) (option_map (λ more. due u more) k) h
told_next None w u h small e is = tt
told_next (Some more) w u h small e is =
    let v = dropped w in
    let same = again w.bytes w.drops more in
    let told = first_told v.bytes v.drops more h (clean w.bytes w.drops) (fits w.bytes w.drops 4097 small) (sym e) in
    (told.0 ∙ ap heard_in same, ap (λ t. Some t) (ap (λ x. due x more) is ∙ told.1 ∙ ap left_in same))

pub read_on : (k m : Option (List ℕ)) (w u v : Unheard) (piece : List ℕ) → WentOn w u → v ≡ record u { bytes = u.bytes ++ piece } → Consumes k m piece
    → Keeps (option_map (λ more. due w more) k) (option_map (λ more. due v more) m)
read_on None m w u v piece h is c = tt
read_on (Some xs) None w u v piece h is c = absurd c
read_on (Some xs) (Some ys) w u v piece h is c =
    ap (λ x. due x ys) is
    ∙ ap (λ b. (dropped (record { bytes = b; drops = u.drops })).bytes) (append_assoc u.bytes piece ys)
    ∙ ap (due u) (sym c)
    ∙ due_went w u xs h

pub read_failed : (k m : Option (List ℕ)) (w u v : Unheard) → WentOn w u → v ≡ u → Keeps k m
    → Keeps (option_map (λ more. due w more) k) (option_map (λ more. due v more) m)
read_failed None m w u v h is c = tt
read_failed (Some xs) None w u v h is c = absurd c
read_failed (Some xs) (Some ys) w u v h is c = ap (λ x. due x ys) is ∙ ap (due u) c ∙ due_went w u xs h

-- nothing can be told yet, and no byte was lost
pub stays : (k : Option (List ℕ)) (w u : Unheard) → WentOn w u → Keeps (option_map (λ more. due w more) k) (option_map (λ more. due u more) k)
stays None w u h = tt
stays (Some xs) w u h = due_went w u xs h

clean_whole : (bs : List ℕ) (d : Bool) → Clean (record { bytes = bs; drops = d }) → due (record { bytes = bs; drops = d }) [] ≡ bs
clean_whole bs false c = append-nil bs
clean_whole bs true c =
    let none : bs ≡ [] = c refl in
    ap (λ b. due (record { bytes = b; drops = true }) []) none ∙ sym none

-- at the end what was read is all that is left
pub whole_at_end : (w u : Unheard) → WentOn w u → due u [] ≡ u.bytes
whole_at_end w u h = clean_whole u.bytes u.drops (subst Clean (sym (went w u h)) (clean w.bytes w.drops))

unended_heard : (bs : List ℕ) → newline_in bs ≡ None → length bs ≤ 4096 → (ended ≡ heard_in bs) × (bs ≡ left_in bs)
unended_heard bs none le =
    let yes = le-leb (length bs) 4096 le in
    (sym (ap (heard_at bs) none ∙ ap (λ b. cond b ended too_long) yes), sym (ap (left_at bs) none ∙ ap (λ b. cond b bs []) yes))

pub ended_next : (k m : Option (List ℕ)) (w u : Unheard) → length u.bytes ≤ 4096 → WentOn w u → Consumes k m [] → IsAtEnd m
    → IsNext heard_in left_in (option_map (λ more. due w more) k) (option_map (λ more. due u more) m) ended
ended_next None m w u le h c e = tt
ended_next (Some xs) None w u le h c e = absurd c
ended_next (Some xs) (Some ys) w u le h c e =
    let none : newline_in u.bytes ≡ None = subst (λ (v : Unheard). newline_in v.bytes ≡ None) (sym (went w u h)) (no_newline (dropped w).bytes (newline_in (dropped w).bytes) h.0) in
    let left : due w xs ≡ u.bytes = sym (due_went w u xs h) ∙ ap (due u) (c ∙ e) ∙ whole_at_end w u h in
    let now : due u ys ≡ u.bytes = ap (due u) e ∙ whole_at_end w u h in
    let at = unended_heard u.bytes none le in
    (at.0 ∙ ap heard_in (sym left), ap (λ t. Some t) (now ∙ at.1 ∙ ap left_in (sym left)))

-- ---- one turn after another
pub next_later : (next : List ℕ → Hearing) (left : List ℕ → List ℕ) (a b c : Option (List ℕ)) (h : Hearing) → Keeps a b → IsNext next left b c h → IsNext next left a c h
next_later next left None b c h k n = tt
next_later next left (Some xs) None c h k n = absurd k
next_later next left (Some xs) (Some ys) c h k n = (n.0 ∙ ap next k, n.1 ∙ ap (λ t. Some (left t)) k)

-- ---- the last line of an input
line_whole : (bs : List ℕ) (o : Option ℕ) (h : Hearing) → h ≢ ended → h ≡ heard_at bs o → (h ≡ line_at bs o) × (left_at bs o ≡ rest_at bs o)
line_whole bs (Some at) h other e = (e, refl)
line_whole bs None h other e = by_size (nat_le (length bs) 4096) refl
  where
    by_size : (t : Bool) → nat_le (length bs) 4096 ≡ t → (h ≡ line_at bs None) × (left_at bs None ≡ rest_at bs None)
    by_size true is = absurd (other (e ∙ ap (λ t. cond t ended too_long) is))
    by_size false is =
        let over : 4096 < length bs = leb-false (length bs) 4096 is in
        let some : (length bs == 0) ≡ false = ne_eqb (length bs) 0 (λ z. omega (arith, z, over)) in
        (e ∙ ap (λ t. cond t ended too_long) is ∙ sym (told_long bs over) ∙ sym (ap (λ t. cond t ended (told bs)) some), ap (λ t. cond t bs []) is)

pub whole_next : (a b : Option (List ℕ)) (h : Hearing) → h ≢ ended → IsNext heard_in left_in a b h → IsNext line_in rest_in a b h
whole_next None b h other n = tt
whole_next (Some xs) b h other n =
    let w = line_whole xs (newline_in xs) h other n.0 in
    (w.0, n.1 ∙ ap (λ t. Some t) w.1)

ended_line : (bs : List ℕ) (o : Option ℕ) → ended ≡ heard_at bs o → (told_last bs ≡ line_at bs o) × (left_at bs o ≡ bs) × (rest_at bs o ≡ [])
ended_line bs (Some at) e = by_size (nat_le (length (take at bs)) 4096) refl
  where
    by_size : (t : Bool) → nat_le (length (take at bs)) 4096 ≡ t → (told_last bs ≡ line_at bs (Some at)) × (left_at bs (Some at) ≡ bs) × (rest_at bs (Some at) ≡ [])
    by_size true is = let no : ended ≡ line (take at bs) = e ∙ ap (λ t. cond t (line (take at bs)) too_long) is in absurd cc
    by_size false is = let no : ended ≡ too_long = e ∙ ap (λ t. cond t (line (take at bs)) too_long) is in absurd cc
ended_line bs None e = by_size (nat_le (length bs) 4096) refl
  where
    by_size : (t : Bool) → nat_le (length bs) 4096 ≡ t → (told_last bs ≡ line_at bs None) × (left_at bs None ≡ bs) × (rest_at bs None ≡ [])
    by_size true is = (sym (ap (λ (x : Hearing). cond (length bs == 0) ended x) (ap (λ t. cond t (line bs) too_long) is)), ap (λ t. cond t bs []) is, refl)
    by_size false is = let no : ended ≡ too_long = e ∙ ap (λ t. cond t ended too_long) is in absurd cc

-- what was read is all that is left: it is the last line, and then nothing is left
pub last_next : (m a : Option (List ℕ)) (u v : Unheard) (h : Hearing) → IsNext heard_in left_in a (option_map (λ more. due u more) m) ended → IsAtEnd m → due u [] ≡ u.bytes → h ≡ told_last u.bytes → v ≡ record u { bytes = [] }
    → IsNext line_in rest_in a (option_map (λ more. due v more) m) h
last_next m None u v h n end whole e is = tt
last_next None (Some xs) u v h n end whole e is = let none : Option (List ℕ) = None in let no : none ≡ Some (left_in xs) = n.1 in absurd cc
last_next (Some ys) (Some xs) u v h n end whole e is =
    let last = ended_line xs (newline_in xs) n.0 in
    let some : Some (due u ys) ≡ Some (left_in xs) = n.1 in
    let left : due u ys ≡ left_in xs = cc in
    let bytes : u.bytes ≡ xs = sym whole ∙ sym (ap (due u) end) ∙ left ∙ last.1 in
    let empty : due v ys ≡ [] = ap (due v) end ∙ ap (λ x. due x []) is ∙ clean_whole [] u.drops (λ _. refl) in
    (e ∙ ap told_last bytes ∙ last.0, ap (λ t. Some t) (empty ∙ sym last.2))
