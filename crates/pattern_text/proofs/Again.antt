-- What was written of sections is read again as these.
use Rattle.std.proofs.Common.{◌≡◌, ℕ, ◌+◌, ◌<◌, ◌≤◌, ◌==◌, nat_eq, Bool, true, false, cond, List, [], ◌∷◌, ◌++◌, map}
use Rattle.std.proofs.Common.{Option, Some, None, Ok, Err, refl, sym, ap, subst, ◌∙◌, inl, inr, arith, append_assoc}
use Rattle.std.proofs.Common.{append-nil}
use Rattle.std.specs.Prelude.{⊤, codes, if◌then◌else◌, option_map, option_and_then, ◌≢◌}
use Rattle.std.specs.List.{AllByRecursion}
use Rattle.std.specs.Fmt.{decimal}
use Rattle.std.proofs.lemmas.Bool.{cases_eq}
use Rattle.std.proofs.lemmas.Bool.Decides.{nat_tests}
use Rattle.listener_set.specs.declared.generation.Generation.{Generation}
use Rattle.vocabulary.specs.declared.names.Name.{Name}
use Rattle.vocabulary.specs.declared.names.Name.TheVariants as name
use Rattle.vocabulary.specs.declared.calls.Fate.{Fate}
use Rattle.vocabulary.specs.declared.calls.Fate.TheVariants as fate
use Rattle.definitions.specs.Run.{Moment, Pattern}
use Rattle.call_laws.specs.Pieces.{quiet}
use Rattle.definitions.specs.Plans.{Turn, New, Old}
use Rattle.kernel_pattern.specs.declared.section.Section.{Section}
use Rattle.kernel_pattern.specs.Pattern.{moment_at, with_exit, with_fate, RiseFrom}
use Rattle.plain_text.specs.NumberText.{count_of}
use Rattle.plain_text.specs.Cuts.{cut}
use Rattle.plain_text.proofs.CutTexts.{lacks, lacks-append, cut_at}
use Rattle.call_text.specs.Words.{fate_text}
use Rattle.call_text.specs.NameText.{worker_name, name_text}
use Rattle.call_text.specs.Ranges.{IsWorker, IsName, IsCount}
use Rattle.lines_text.specs.declared.refusal.TextRefusal.TheVariants.{Order}
use Rattle.lines_text.proofs.Lines.{Gives, gives_line}
use Rattle.call_text.proofs.PartTexts.{number_lacks}
use Rattle.pattern_text.specs.declared.pattern_line.PatternLine.{PatternLine}
use Rattle.pattern_text.specs.declared.pattern_line.PatternLine.TheVariants.{Exit, Fail, Next}
use Rattle.pattern_text.specs.LineText.{line_text, IsLine}
use Rattle.pattern_text.specs.LineReading.{event_of, line_of}
use Rattle.pattern_text.specs.Courses.{Course, course_of}
use Rattle.pattern_text.specs.TurnsText.{letter, letters, turns_text, turns_for}
use Rattle.pattern_text.specs.PatternsText.{Reading, begun, may_follow, may_stand, with_exit_at, with_fate_at}
use Rattle.pattern_text.specs.PatternsText.{with_line, with_turns, taken_turns, taken_as, taken, finished, patterns_of}
use Rattle.pattern_text.specs.PatternsWriting.{ended_line, exits_text, fail_text, moment_text, moments_text, section_text, sections_behind, patterns_text}
use Rattle.pattern_text.specs.Written.{IsNoted, AreMoments, IsSection, AreSections}
use Rattle.pattern_text.proofs.PatternLines.{line_reads}

---- No line has a newline within

worker_lacks : (g : Generation) (k : ℕ) → IsWorker g k → lacks 10 (worker_name g k) ≡ true
worker_lacks g k h =
    let small : k < 1024 = h.1 in
    lacks-append 10 (decimal g.image) (codes "." ++ (decimal g.config ++ 46 ∷ decimal k)) (number_lacks 10 g.image refl h.0.0)
    (lacks-append 10 (codes ".") (decimal g.config ++ 46 ∷ decimal k) refl
    (lacks-append 10 (decimal g.config) (codes "." ++ decimal k) (number_lacks 10 g.config refl h.0.1) (lacks-append 10 (codes ".") (decimal k) refl (number_lacks 10 k refl (omega (arith, small))))))

name_lacks : (x : Name) → IsName x → lacks 10 (name_text x) ≡ true
name_lacks (name.Worker g k) h = lacks-append 10 (codes "w") (worker_name g k) refl (worker_lacks g k h)
name_lacks (name.Draining g k) h = lacks-append 10 (codes "d") (worker_name g k) refl (worker_lacks g k h)
name_lacks (name.Master i) h = lacks-append 10 (codes "m") (decimal i) refl (number_lacks 10 i refl h)

fate_lacks : (f : Fate) → lacks 10 (fate_text f) ≡ true
fate_lacks fate.InUse = refl
fate_lacks fate.TooMany = refl
fate_lacks fate.Denied = refl
fate_lacks fate.NoMemory = refl
fate_lacks fate.Again = refl
fate_lacks fate.Late = refl
fate_lacks fate.NoImage = refl
fate_lacks fate.Refused = refl
fate_lacks fate.IoFault = refl
fate_lacks fate.Back = refl

line_lacks : (v : PatternLine) → IsLine v → lacks 10 (line_text v) ≡ true
line_lacks (Exit n x) h =
    lacks-append 10 (decimal n) (codes " exit " ++ name_text x) (number_lacks 10 n refl h.0.1) (lacks-append 10 (codes " exit ") (name_text x) refl (name_lacks x h.1))
line_lacks (Fail n f) h =
    lacks-append 10 (decimal n) (codes " fail " ++ fate_text f) (number_lacks 10 n refl h.1) (lacks-append 10 (codes " fail ") (fate_text f) refl (fate_lacks f))
line_lacks Next h = refl

---- A pattern with another moment at a number

abbrev put : ℕ → Moment → Pattern → Pattern
put n m p k = if k == n then m else p k

exit-put : (n : ℕ) (x : Name) (m : Moment) (p : Pattern) (k : ℕ) → with_exit_at n x (put n m p) k ≡ put n (with_exit x m) p k
exit-put n x m p k =
    let same : nat_eq n n ≡ true = grind (arith, nat_tests) in
    rw same (at (nat_eq k n))
  where
    at : (t : Bool) → cond t (with_exit x m) (cond t m (p k)) ≡ cond t (with_exit x m) (p k)
    at true = refl
    at false = refl

fate-put : (n : ℕ) (f : Fate) (m : Moment) (p : Pattern) (k : ℕ) → with_fate_at n f (put n m p) k ≡ put n (with_fate f m) p k
fate-put n f m p k =
    let same : nat_eq n n ≡ true = grind (arith, nat_tests) in
    rw same (at (nat_eq k n))
  where
    at : (t : Bool) → cond t (with_fate f m) (cond t m (p k)) ≡ cond t (with_fate f m) (p k)
    at true = refl
    at false = refl

quiet-put : (n : ℕ) (p : Pattern) → p n ≡ quiet → (k : ℕ) → p k ≡ put n quiet p k
quiet-put n p h k =
    elim (cases_eq k n) [
      | inl eq ↦ let here : nat_eq k n ≡ true = grind (arith, nat_tests) in rw here (ap p eq ∙ h)
      | inr ne ↦ let other : nat_eq k n ≡ false = grind (arith, nat_tests) in rw other refl
    ]

---- The moments before a number

abbrev AreBelow : ℕ → List (ℕ × Moment) → Type 0
AreBelow n [] = ⊤
AreBelow n (x ∷ xs) = (x.0 < n) × AreBelow n xs

below-higher : (front : List (ℕ × Moment)) (n m : ℕ) → n ≤ m → AreBelow n front → AreBelow m front
below-higher [] n m le h = tt
below-higher (x ∷ xs) n m le h = let less : x.0 < n = h.0 in (omega (arith, le, less), below-higher xs n m le h.1)

below-more : (front : List (ℕ × Moment)) (e : ℕ × Moment) → AreBelow e.0 front → AreBelow (e.0 + 1) (front ++ e ∷ [])
below-more [] e h = (omega arith, tt)
below-more (x ∷ xs) e h = let less : x.0 < e.0 = h.0 in (omega (arith, less), below-more xs e h.1)

quiet-there : (front : List (ℕ × Moment)) (n : ℕ) → AreBelow n front → moment_at front n ≡ quiet
quiet-there [] n h = refl
quiet-there (x ∷ xs) n h =
    let less : x.0 < n = h.0 in
    let other : nat_eq x.0 n ≡ false = grind (arith, nat_tests) in
    rw other (quiet-there xs n h.1)

moment-more : (front : List (ℕ × Moment)) (e : ℕ × Moment) → AreBelow e.0 front → (k : ℕ) → put e.0 e.1 (moment_at front) k ≡ moment_at (front ++ e ∷ []) k
moment-more [] e h k =
    let turned : nat_eq k e.0 ≡ nat_eq e.0 k = grind (arith, nat_tests) in
    ap (λ t. cond t e.1 quiet) turned
moment-more (x ∷ xs) e h k =
    elim (cases_eq x.0 k) [
      | inl eq ↦
          let less : x.0 < e.0 = h.0 in
          let here : nat_eq x.0 k ≡ true = grind (arith, nat_tests) in
          let other : nat_eq k e.0 ≡ false = grind (arith, nat_tests) in
          rw (here, other) refl
      | inr ne ↦ let other : nat_eq x.0 k ≡ false = grind (arith, nat_tests) in rw other (moment-more xs e h.1 k)
    ]

---- Line by line

-- a line that may stand there, and what the rest gives
gives_written : (r : Reading) (v : PatternLine) (rest : List ℕ) (cs : List Course) → IsLine v → may_stand v r ≡ true →
    Gives taken finished (with_line v r) rest cs → Gives taken finished r (ended_line v ++ rest) cs
gives_written r v rest cs is stands more =
    subst (λ t. Gives taken finished r t cs) (sym (append_assoc (line_text v) (10 ∷ []) rest))
    (gives_line taken finished r (with_line v r) (line_text v) rest cs (line_lacks v is) (λ number. takes number) more)
  where
    takes : (number : ℕ) → taken number r (line_text v) ≡ Ok (with_line v r)
    takes number =
        ap (taken_as number r (line_text v)) (line_reads.only v is)
        ∙ ap (λ b. cond b (Ok (with_line v r)) (Err (Order number))) stands

module _ (done cs : List Course) (turns : List Turn) where
  -- what is read of a text within a section with these turns, of which this much is known
  abbrev Goes : Pattern → ℕ → Bool → List ℕ → Type 0
  Goes p last failed written =
      (fresh : Bool) → Gives taken finished
      (record { done = done; pattern = p; turns = turns; last = last; failed = failed; fresh = fresh }) written cs

  goes-as : (p q : Pattern) (last : ℕ) (failed : Bool) (written : List ℕ) → ((k : ℕ) → q k ≡ p k) → Goes q last failed written → Goes p last failed written
  goes-as p q last failed written same h = subst (λ (x : Pattern). Goes x last failed written) (λ i k. same k i) h

  -- exits before a call go behind those that are known of it
  goes_exits : (n : ℕ) (p : Pattern) (rest : List ℕ) → IsCount n →
      (xs : List Name) (m : Moment) (last : ℕ) (failed : Bool) → AllByRecursion IsName xs →
      may_follow last failed n ≡ true → last ≤ n →
      ((l : ℕ) (f : Bool) → may_follow l f n ≡ true → l ≤ n → Goes (put n (record { exits = m.exits ++ xs; fate = m.fate }) p) l f rest) →
      Goes (put n m p) last failed (exits_text n xs ++ rest)
  goes_exits n p rest count [] m last failed are follows le more =
      subst (λ (es : List Name). Goes (put n (record { exits = es; fate = m.fate }) p) last failed rest) (append-nil m.exits) (more last failed follows le)
  goes_exits n p rest count (x ∷ xs) m last failed are follows le more =
      let next : may_follow n false n ≡ true = grind (arith, nat_tests) in
      let later =
      goes_exits n p rest count xs (with_exit x m) n false are.1 next (omega arith)
      (λ l f fits le. subst (λ (es : List Name). Goes (put n (record { exits = es; fate = m.fate }) p) l f rest) (sym (append_assoc m.exits (x ∷ []) xs)) (more l f fits le)) in
      subst (λ t. Goes (put n m p) last failed t) (sym (append_assoc (ended_line (Exit n x)) (exits_text n xs) rest))
      (λ fresh. gives_written (record { done = done; pattern = put n m p; turns = turns; last = last; failed = failed; fresh = fresh }) (Exit n x) (exits_text n xs ++ rest) cs (count, are.0) follows
      (goes-as (with_exit_at n x (put n m p)) (put n (with_exit x m) p) n false (exits_text n xs ++ rest) (λ k. sym (exit-put n x m p k)) later false))

  goes_fate : (n : ℕ) (p : Pattern) (rest : List ℕ) → IsCount n →
      (es : List Name) (f : Option Fate) (last : ℕ) (failed : Bool) → may_follow last failed n ≡ true → last ≤ n →
      ((l : ℕ) (b : Bool) → l ≤ n → Goes (put n (record { exits = es; fate = f }) p) l b rest) →
      Goes (put n (record { exits = es; fate = None }) p) last failed (fail_text n f ++ rest)
  goes_fate n p rest count es None last failed follows le more = more last failed le
  goes_fate n p rest count es (Some f) last failed follows le more =
      let before : Moment = record { exits = es; fate = None } in
      (λ fresh. gives_written (record { done = done; pattern = put n before p; turns = turns; last = last; failed = failed; fresh = fresh }) (Fail n f) rest cs count follows
      (goes-as (with_fate_at n f (put n before p)) (put n (with_fate f before) p) n true rest (λ k. sym (fate-put n f before p k)) (more n true (omega arith)) false))

  goes_moment : (n : ℕ) (m : Moment) (p : Pattern) (rest : List ℕ) (last : ℕ) (failed : Bool) → IsCount n →
      AllByRecursion IsName m.exits → p n ≡ quiet → last < n →
      ((l : ℕ) (f : Bool) → l ≤ n → Goes (put n m p) l f rest) →
      Goes p last failed (moment_text n m ++ rest)
  goes_moment n m p rest last failed count are unset less more =
      let follows : may_follow last failed n ≡ true = grind (arith, nat_tests) in
      subst (λ t. Goes p last failed t) (sym (append_assoc (exits_text n m.exits) (fail_text n m.fate) rest))
      (goes-as p (put n quiet p) last failed (exits_text n m.exits ++ (fail_text n m.fate ++ rest)) (λ k. sym (quiet-put n p unset k))
      (goes_exits n p (fail_text n m.fate ++ rest) count m.exits quiet last failed are follows (omega (arith, less))
      (λ l f fits le. goes_fate n p rest count m.exits m.fate l f fits le more)))

  goes_moments : (es front : List (ℕ × Moment)) (b : ℕ) (rest : List ℕ) (last : ℕ) (failed : Bool) → RiseFrom b es →
      AllByRecursion IsNoted es → AreBelow b front → last < b →
      ((l : ℕ) (f : Bool) → Goes (moment_at (front ++ es)) l f rest) →
      Goes (moment_at front) last failed (moments_text es ++ rest)
  goes_moments [] front b rest last failed rise are below less more = subst (λ (xs : List (ℕ × Moment)). Goes (moment_at xs) last failed rest) (append-nil front) (more last failed)
  goes_moments (e ∷ es) front b rest last failed rise are below less more =
      let over : b ≤ e.0 = rise.0 in
      let under = below-higher front b e.0 over below in
      let longer : List (ℕ × Moment) = front ++ e ∷ [] in
      subst (λ t. Goes (moment_at front) last failed t) (sym (append_assoc (moment_text e.0 e.1) (moments_text es) rest))
      (goes_moment e.0 e.1 (moment_at front) (moments_text es ++ rest) last failed are.0.0 are.0.1 (quiet-there front e.0 under) (omega (arith, over, less))
      (λ l f le. goes-as (put e.0 e.1 (moment_at front)) (moment_at longer) l f (moments_text es ++ rest) (λ k. sym (moment-more front e under k))
      (goes_moments es longer (e.0 + 1) rest l f rise.3 are.1 (below-more front e under) (omega (arith, le))
      (λ l f. subst (λ (xs : List (ℕ × Moment)). Goes (moment_at xs) l f rest) (sym (append_assoc front (e ∷ []) es)) (more l f)))))

---- Turns

letters_read : (turns : List Turn) → turns_for (letters turns) ≡ Some turns
letters_read [] = refl
letters_read (New ∷ turns) = ap (option_map (λ ts. New ∷ ts)) (letters_read turns)
letters_read (Old ∷ turns) = ap (option_map (λ ts. Old ∷ ts)) (letters_read turns)

letters_lack : (turns : List Turn) → lacks 10 (letters turns) ≡ true
letters_lack [] = refl
letters_lack (New ∷ turns) = letters_lack turns
letters_lack (Old ∷ turns) = letters_lack turns

-- a line of turns has none of the other forms
no_line : (text : List ℕ) → line_of (codes "turns " ++ text) ≡ None
no_line text =
    ap (option_and_then (λ (p : List ℕ × List ℕ). option_and_then (λ n. option_and_then (λ (q : List ℕ × List ℕ). event_of n q.0 q.1) (cut 32 p.1)) (count_of p.0))) (cut_at 32 (codes "turns") text refl)

-- a line of turns at the beginning of a section, and what the rest gives
gives_turns : (done cs : List Course) (turn : Turn) (turns : List Turn) (rest : List ℕ) →
    Gives taken finished (with_turns (turn ∷ turns) (begun done)) rest cs →
    Gives taken finished (begun done) (turns_text (turn ∷ turns) ++ rest) cs
gives_turns done cs turn turns rest more =
    let all : List ℕ = letters (turn ∷ turns) in
    subst (λ t. Gives taken finished (begun done) t cs) (sym (ap (λ t. codes "turns " ++ t) (append_assoc all (10 ∷ []) rest)))
    (gives_line taken finished (begun done) (with_turns (turn ∷ turns) (begun done)) (codes "turns " ++ all) rest cs
    (lacks-append 10 (codes "turns ") all refl (letters_lack (turn ∷ turns)))
    (λ number. ap (taken_as number (begun done) (codes "turns " ++ all)) (no_line all) ∙ ap (taken_turns number (begun done)) (letters_read (turn ∷ turns))) more)

---- Section by section

-- a section from its beginning, and what the rest gives
gives_section : (done cs : List Course) (turns : List Turn) (p : List (ℕ × Moment)) (rest : List ℕ) → AreMoments p →
    ((l : ℕ) (f fresh : Bool) →
    Gives taken finished
    (record { done = done; pattern = moment_at p; turns = turns; last = l; failed = f; fresh = fresh }) rest cs) →
    Gives taken finished (begun done) ((turns_text turns ++ moments_text p) ++ rest) cs
gives_section done cs [] p rest are more = goes_moments done cs [] p [] 1 rest 0 false are.0 are.1 tt (omega arith) (λ l f fresh. more l f fresh) true
gives_section done cs (turn ∷ turns) p rest are more =
    subst (λ t. Gives taken finished (begun done) t cs) (sym (append_assoc (turns_text (turn ∷ turns)) (moments_text p) rest))
    (gives_turns done cs turn turns (moments_text p ++ rest)
    (goes_moments done cs (turn ∷ turns) p [] 1 rest 0 false are.0 are.1 tt (omega arith) (λ l f fresh. more l f fresh) false))

gives_behind : (ss : List Section) (done : List Course) (c : Course) (last : ℕ) (failed fresh : Bool) → AreSections ss →
    Gives taken finished
    (record { done = done; pattern = c.pattern; turns = c.turns; last = last; failed = failed; fresh = fresh })
    (sections_behind ss) (done ++ c ∷ map course_of ss)
gives_behind [] done c last failed fresh are = λ number. refl
gives_behind (s ∷ ss) done c last failed fresh are =
    let all : List Course = done ++ c ∷ map course_of (s ∷ ss) in
    let more : List Course = done ++ c ∷ [] in
    gives_written (record { done = done; pattern = c.pattern; turns = c.turns; last = last; failed = failed; fresh = fresh }) Next (section_text s ++ sections_behind ss) all tt refl
    (gives_section more all s.turns s.pattern (sections_behind ss) are.0
    (λ l f fresh. subst (λ (x : List Course). Gives taken finished (record { done = more; pattern = moment_at s.pattern; turns = s.turns; last = l; failed = f; fresh = fresh }) (sections_behind ss) x)
    (append_assoc done (c ∷ []) (course_of s ∷ map course_of ss)) (gives_behind ss more (course_of s) l f fresh are.1)))

pub read_written : (ss : List Section) → ss ≢ [] → AreSections ss → patterns_of (patterns_text ss) ≡ Ok (map course_of ss)
read_written [] some are = absurd (some refl)
read_written (s ∷ ss) some are =
    gives_section [] (map course_of (s ∷ ss)) s.turns s.pattern (sections_behind ss) are.0
    (λ l f fresh. gives_behind ss [] (course_of s) l f fresh are.1) 1

pub read_again : (text : List ℕ) (ss : List Section) → ss ≢ [] → AreSections ss → text ≡ patterns_text ss → patterns_of text ≡ Ok (map course_of ss)
read_again text ss some are is = ap patterns_of is ∙ read_written ss some are
