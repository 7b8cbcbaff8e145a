-- What is read of a text of blocks has this text, and whatever has this text is read.
use Rattle.std.proofs.Common.{◌≡◌, ℕ, ◌+◌, ◌<◌, ◌^◌, ◌==◌, eqb, Bool, true, false, cond, List, [], ◌∷◌, ◌++◌, length}
use Rattle.std.proofs.Common.{map, Option, Some, None, Result, Ok, Err, refl, sym, ap, subst, ◌∙◌, inl, inr, arith}
use Rattle.std.proofs.Common.{append_assoc, append-nil, length-append}
use Rattle.std.specs.Prelude.{⊤, codes}
use Rattle.std.specs.List.{AllByRecursion}
use Rattle.std.proofs.lemmas.Bool.Decides.{nat_tests}
use Rattle.std.proofs.lemmas.List.{append_cancel_right}
use Rattle.vocabulary.specs.declared.reports.Entry.{Entry}
use Rattle.control_words.specs.declared.words.Word.{Word}
use Rattle.control_words.specs.Words.{word_text, refusal_code, IsWord}
use Rattle.word_runner.specs.declared.block.Block.{Block}
use Rattle.word_runner.specs.declared.block.Block.TheVariants as block
use Rattle.word_runner.specs.declared.block.Body.{Body}
use Rattle.word_runner.specs.declared.block.Body.TheVariants as body
use Rattle.plain_text.specs.Lines.{lines_of}
use Rattle.call_text.specs.ReportText.{report_text, entry_line, entries_text}
use Rattle.lines_text.specs.declared.refusal.TextRefusal.{TextRefusal}
use Rattle.lines_text.specs.declared.refusal.TextRefusal.TheVariants as text
use Rattle.lines_text.specs.Reading.{unless_refused, reading_of}
use Rattle.lines_text.proofs.Lines.{Gives, gives_line}
use Rattle.plain_text.proofs.CutTexts.{lacks}
use Rattle.transcript.specs.EntryReading.{IsEntry}
use Rattle.transcript.specs.BlockLine.{Line, Heard, Unread, Nothing, Refused, Made, Ended, line_text, IsLine}
use Rattle.transcript.specs.LineReading.{line_of}
use Rattle.transcript.specs.Reading.{last_count, with_ready, Opened, Reading, begun, if_first, fault_at, if_fitting}
use Rattle.transcript.specs.Reading.{if_formed, ran, with_line, taken, ended, finished, blocks_of}
use Rattle.transcript.specs.Block.{body_text, block_text, transcript_text, IsBody, IsBlock, AreBlocks, body_read, block_read, IsTextOf}
use Rattle.transcript.proofs.OneLine.{line_lacks}
use Rattle.transcript.proofs.BlockLines.{block_line_reads}
use Rattle.plain_text.proofs.TextLines.{ended_lines, lines_ended, lines_lack}

abbrev AreEntries : List Entry → Type 0
AreEntries es = AllByRecursion IsEntry es

-- ---- what was read so far
abbrev current_text : Option Opened → List ℕ
current_text None = []
current_text (Some o) = (codes "word " ++ word_text o.word ++ codes "\n") ++ entries_text 1 o.made

abbrev text_so_far : Reading → List ℕ
text_so_far r = transcript_text r.done ++ current_text r.current

abbrev IsCurrent : Option Opened → Type 0
IsCurrent None = ⊤
IsCurrent (Some o) = IsWord o.word × AreEntries o.made × (length o.made < 2 ^ 32)

abbrev IsSoFar : Reading → Type 0
IsSoFar r = AreBlocks r.done × IsCurrent r.current

all_more : {A : Type 0} (P : A → Type 0) (xs : List A) (x : A) → AllByRecursion P xs → P x → AllByRecursion P (xs ++ x ∷ [])
all_more P [] x h p = (p, tt)
all_more P (y ∷ ys) x h p = (h.0, all_more P ys x h.1 p)

text_more : (bs : List Block) (b : Block) → transcript_text (bs ++ b ∷ []) ≡ transcript_text bs ++ block_text b
text_more [] b = append-nil (block_text b)
text_more (c ∷ bs) b = ap (λ t. block_text c ++ t) (text_more bs b) ∙ sym (append_assoc (block_text c) (transcript_text bs) (block_text b))

entries_more : (es : List Entry) (n m : ℕ) (e : Entry) → m ≡ n + length es → entries_text n (es ++ e ∷ []) ≡ entries_text n es ++ (entry_line m e ++ 10 ∷ [])
entries_more [] n m e is = let same : n ≡ m = omega (arith, is) in append-nil (entry_line n e ++ 10 ∷ []) ∙ ap (λ k. entry_line k e ++ 10 ∷ []) same
entries_more (x ∷ es) n m e is =
    ap (λ t. (entry_line n x ++ 10 ∷ []) ++ t) (entries_more es (n + 1) m e (omega (arith, is)))
    ∙ sym (append_assoc (entry_line n x ++ 10 ∷ []) (entries_text (n + 1) es) (entry_line m e ++ 10 ∷ []))

-- what a line that may stand there makes of it
abbrev IsStep : Reading → Line → Type 0
IsStep r v = IsSoFar (with_line v r) × (text_so_far (with_line v r) ≡ text_so_far r ++ (line_text v ++ 10 ∷ []))

-- a block that ends by this line
step_end : (done : List Block) (o : Opened) (made : Body) (line : List ℕ) → AreBlocks done → IsWord o.word →
    IsBody made → entries_text 1 o.made ++ (line ++ 10 ∷ []) ≡ body_text made →
    AreBlocks (done ++ block.Heard o.word made ∷ []) ×
    (transcript_text (done ++ block.Heard o.word made ∷ []) ++ []
    ≡ (transcript_text done ++ current_text (Some o)) ++ (line ++ 10 ∷ []))
step_end done o made line are is_word is_body is =
    let head : List ℕ = codes "word " ++ word_text o.word ++ codes "\n" in (
      all_more IsBlock done (block.Heard o.word made) are (is_word, is_body),
      append-nil (transcript_text (done ++ block.Heard o.word made ∷ []))
          ∙ text_more done (block.Heard o.word made)
          ∙ ap (λ t. transcript_text done ++ (head ++ t)) (sym is)
          ∙ ap (λ t. transcript_text done ++ t) (sym (append_assoc head (entries_text 1 o.made) (line ++ 10 ∷ [])))
          ∙ sym (append_assoc (transcript_text done) (head ++ entries_text 1 o.made) (line ++ 10 ∷ [])),
    )

no_fault : {A : Type 0} (r : TextRefusal) → Some r ≡ None → A
no_fault {A = A} r e = let none : Option TextRefusal = None in let no : Some r ≡ none = e in absurd cc

step : (number : ℕ) (v : Line) (r : Reading) → IsLine v → fault_at number v r.current ≡ None → IsSoFar r → IsStep r v
step number v r is fits so = at r.current v is fits so.0 so.1
  where
    at : (c : Option Opened) (v : Line) → IsLine v → fault_at number v c ≡ None → AreBlocks r.done → IsCurrent c →
        IsStep (record { done = r.done; current = c }) v
    at None (Heard word) is fits are cur = (
      (are, (is, tt, omega arith)),
      ap (λ t. transcript_text r.done ++ t) (append-nil (codes "word " ++ word_text word ++ codes "\n"))
          ∙ ap (λ t. t ++ (codes "word " ++ word_text word ++ codes "\n")) (sym (append-nil (transcript_text r.done))),
    )
    at None (Unread refusal) is fits are cur = (
      (all_more IsBlock r.done (block.Unread refusal) are is, tt),
      append-nil (transcript_text (r.done ++ block.Unread refusal ∷ []))
          ∙ text_more r.done (block.Unread refusal)
          ∙ ap (λ t. t ++ (codes "unread " ++ refusal_code refusal ++ codes "\n")) (sym (append-nil (transcript_text r.done))),
    )
    at None Nothing is fits are cur = no_fault (text.Line number) fits
    at None (Refused code) is fits are cur = no_fault (text.Line number) fits
    at None (Made n e) is fits are cur = no_fault (text.Line number) fits
    at None (Ended report) is fits are cur = no_fault (text.Line number) fits
    at (Some o) (Heard word) is fits are cur = no_fault (text.Line number) fits
    at (Some o) (Unread refusal) is fits are cur = no_fault (text.Line number) fits
    at (Some o) Nothing is fits are cur = first o.made refl fits
      where
        first : (es : List Entry) → o.made ≡ es → if_first number es ≡ None → IsStep (record { done = r.done; current = Some o }) Nothing
        first [] k e = let got = step_end r.done o body.Nothing (codes "nothing") are cur.0 tt (ap (λ es. entries_text 1 es ++ codes "nothing\n") k) in ((got.0, tt), got.1)
        first (x ∷ xs) k e = no_fault (text.Line number) e
    at (Some o) (Refused code) is fits are cur = first o.made refl fits
      where
        first : (es : List Entry) → o.made ≡ es → if_first number es ≡ None → IsStep (record { done = r.done; current = Some o }) (Refused code)
        first [] k e = let got = step_end r.done o (body.Refused code) (codes "refused " ++ code) are cur.0 is (ap (λ es. entries_text 1 es ++ ((codes "refused " ++ code) ++ 10 ∷ [])) k) in ((got.0, tt), got.1)
        first (x ∷ xs) k e = no_fault (text.Line number) e
    at (Some o) (Made n e) is fits are cur = counted (n == length o.made + 1) refl fits
      where
        head : List ℕ
        head = codes "word " ++ word_text o.word ++ codes "\n"

        counted : (b : Bool) → (n == length o.made + 1) ≡ b → cond b None (Some (text.Order number)) ≡ None →
            IsStep (record { done = r.done; current = Some o }) (Made n e)
        counted false k h = no_fault (text.Order number) h
        counted true k h =
            let test : eqb n (length o.made + 1) ≡ true = k in
            let place : n ≡ length o.made + 1 = grind (arith, nat_tests) in
            let small : n < 2 ^ 32 = is.0 in
            let long : length (o.made ++ e ∷ []) < 2 ^ 32 = omega (arith, small, place, length-append o.made (e ∷ [])) in (
              (are, (cur.0, all_more IsEntry o.made e cur.1 is.1, long)),
              ap (λ t. transcript_text r.done ++ (head ++ t)) (entries_more o.made 1 n e (omega (arith, place)))
                  ∙ ap (λ t. transcript_text r.done ++ t) (sym (append_assoc head (entries_text 1 o.made) (entry_line n e ++ 10 ∷ [])))
                  ∙ sym (append_assoc (transcript_text r.done) (head ++ entries_text 1 o.made) (entry_line n e ++ 10 ∷ [])),
            )
    at (Some o) (Ended report) is fits are cur =
        let got =
        step_end r.done o (ran report o) (report_text report) are cur.0 (cur.1, cur.2, (is.0, is.1, refl))
        (sym (append_assoc (entries_text 1 o.made) (report_text report) (10 ∷ []))) in
        ((got.0, tt), got.1)

-- ---- what was read has the text
no_error : {A : Type 0} (r : TextRefusal) (blocks : List Block) → Err r ≡ Ok blocks → A
no_error {A = A} r blocks e = let err : Result (List Block) TextRefusal = Err r in let no : err ≡ Ok blocks = e in absurd cc

read_all : (lines : List (List ℕ)) (number : ℕ) (r : Reading) (blocks : List Block) →
    reading_of taken finished number r lines ≡ Ok blocks → IsSoFar r → AreBlocks blocks ×
    (text_so_far r ++ ended_lines lines ≡ transcript_text blocks)
read_all [] number r blocks e so = at r.current e
  where
    at : (c : Option Opened) → ended number r.done c ≡ Ok blocks → AreBlocks blocks ×
        ((transcript_text r.done ++ current_text c) ++ [] ≡ transcript_text blocks)
    at None e =
        let same : Ok r.done ≡ Ok blocks = e in
        let is : r.done ≡ blocks = cc in
        (subst AreBlocks is so.0, append-nil (transcript_text r.done ++ []) ∙ append-nil (transcript_text r.done) ∙ ap transcript_text is)
    at (Some o) e = no_error (text.Line number) blocks e
read_all (line ∷ lines) number r blocks e so = formed (line_of line) refl e (read_all lines (number + 1))
  where
    -- the rest, after a line or its refusal
    then : Result Line TextRefusal → Result (List Block) TextRefusal
    then one = unless_refused (unless_refused one (λ v. Ok (with_line v r))) (λ next. reading_of taken finished (number + 1) next lines)

    formed : (l : Option Line) → line_of line ≡ l → then (if_formed number r.current l) ≡ Ok blocks →
        ((r : Reading) (blocks : List Block) → reading_of taken finished (number + 1) r lines ≡ Ok blocks → IsSoFar r →
        AreBlocks blocks × (text_so_far r ++ ended_lines lines ≡ transcript_text blocks)) →
        AreBlocks blocks × (text_so_far r ++ ended_lines (line ∷ lines) ≡ transcript_text blocks)
    formed None k e again = no_error (text.Line number) blocks e
    formed (Some v) k e again = fitting (fault_at number v r.current) refl e
      where
        fitting : (f : Option TextRefusal) → fault_at number v r.current ≡ f → then (if_fitting v f) ≡ Ok blocks →
            AreBlocks blocks × (text_so_far r ++ ended_lines (line ∷ lines) ≡ transcript_text blocks)
        fitting (Some refusal) j e = no_error refusal blocks e
        fitting None j e =
            let got = block_line_reads.found line v k in
            let next = step number v r got.0 j so in
            let rest = again (with_line v r) blocks e next.0 in (
              rest.0,
              sym (append_assoc (text_so_far r) (line ++ 10 ∷ []) (ended_lines lines))
                  ∙ ap (λ t. (text_so_far r ++ (t ++ 10 ∷ [])) ++ ended_lines lines) got.1
                  ∙ ap (λ t. t ++ ended_lines lines) (sym next.1)
                  ∙ rest.1,
            )

pub blocks_found : (written : List ℕ) (blocks : List Block) → blocks_of written ≡ Ok blocks → AreBlocks blocks × IsTextOf blocks written
blocks_found written blocks e =
    let got = read_all (lines_of written) 1 begun blocks e (tt, tt) in
    (got.0, elim (lines_ended written) [ inl h ↦ inl (h ∙ got.1) | inr h ↦ inr (h ∙ got.1) ])

-- ---- whatever has the text is read
abbrev Takes : Reading → List ℕ → List Block → Type 0
Takes = Gives taken finished

-- a line that may stand there, and what the rest gives
goes_line : (r : Reading) (v : Line) (rest : List ℕ) (blocks : List Block) → IsLine v →
    ((number : ℕ) → fault_at number v r.current ≡ None) → Takes (with_line v r) rest blocks →
    Takes r (line_text v ++ 10 ∷ rest) blocks
goes_line r v rest blocks is fits more = gives_line taken finished r (with_line v r) (line_text v) rest blocks (line_lacks v is) (λ number. takes number) more
  where
    takes : (number : ℕ) → taken number r (line_text v) ≡ Ok (with_line v r)
    takes number =
        ap (λ o. unless_refused (if_formed number r.current o) (λ line. Ok (with_line line r))) (block_line_reads.only v is)
        ∙ ap (λ f. unless_refused (if_fitting v f) (λ line. Ok (with_line line r))) (fits number)

abbrev within : List Block → Word → List Entry → Reading
within done word made = record { done = done; current = Some (record { word = word; made = made }) }

-- a line with its newline, and what stands behind it
split_line : (line rest : List ℕ) → (line ++ 10 ∷ []) ++ rest ≡ line ++ 10 ∷ rest
split_line line rest = append_assoc line (10 ∷ []) rest

goes_entries : (es made : List Entry) (done : List Block) (word : Word) (rest : List ℕ) (blocks : List Block) (n : ℕ) →
    n ≡ length made + 1 → AreEntries es → length made + length es < 2 ^ 32 →
    Takes (within done word (made ++ es)) rest blocks → Takes (within done word made) (entries_text n es ++ rest) blocks
goes_entries [] made done word rest blocks n is are small more = subst (λ es. Takes (within done word es) rest blocks) (append-nil made) more
goes_entries (e ∷ es) made done word rest blocks n is are small more =
    let number : n < 2 ^ 32 = omega (arith, is, small) in
    let count : length (made ++ e ∷ []) ≡ length made + 1 = length-append made (e ∷ []) in
    let right : eqb n (length made + 1) ≡ true = grind (arith, nat_tests) in
    let later =
    goes_entries es (made ++ e ∷ []) done word rest blocks (n + 1) (omega (arith, is, count)) are.1 (omega (arith, small, count))
    (subst (λ es. Takes (within done word es) rest blocks) (sym (append_assoc made (e ∷ []) es)) more) in
    let whole : (entry_line n e ++ 10 ∷ []) ++ entries_text (n + 1) es ++ rest ≡ entry_line n e ++ 10 ∷ (entries_text (n + 1) es ++ rest) =
    append_assoc (entry_line n e ++ 10 ∷ []) (entries_text (n + 1) es) rest ∙ split_line (entry_line n e) (entries_text (n + 1) es ++ rest) in
    subst (λ t. Takes (within done word made) t blocks) (sym whole)
    (goes_line (within done word made) (Made n e) (entries_text (n + 1) es ++ rest) blocks (number, are.0) (λ number. ap (λ b. cond b None (Some (text.Order number))) right) later)

goes_body : (b : Body) (done : List Block) (word : Word) (rest : List ℕ) (blocks : List Block) → IsBody b →
    Takes (record { done = done ++ block.Heard word (body_read b) ∷ []; current = None }) rest blocks →
    Takes (within done word []) (body_text b ++ rest) blocks
goes_body body.Nothing done word rest blocks is more = goes_line (within done word []) Nothing rest blocks tt (λ number. refl) more
goes_body (body.Refused code) done word rest blocks is more =
    subst (λ t. Takes (within done word []) t blocks) (sym (split_line (codes "refused " ++ code) rest))
    (goes_line (within done word []) (Refused code) rest blocks is (λ number. refl) more)
goes_body (body.Ran log report) done word rest blocks is more =
    let entries : List ℕ = entries_text 1 log.entries in
    let whole : (entries ++ report_text report ++ 10 ∷ []) ++ rest ≡ entries ++ (report_text report ++ 10 ∷ rest) =
    append_assoc (entries ++ report_text report) (10 ∷ []) rest ∙ append_assoc entries (report_text report) (10 ∷ rest) in
    let ready : report.ready ≡ last_count log.entries = is.2.2 in
    let kept : ran (with_ready [] report) (record { word = word; made = log.entries }) ≡ body.Ran (record { entries = log.entries; room = 0 }) report =
    ap (λ ns. body.Ran (record { entries = log.entries; room = 0 }) (with_ready ns report)) (sym ready) in
    subst (λ t. Takes (within done word []) t blocks) (sym whole)
    (goes_entries log.entries [] done word (report_text report ++ 10 ∷ rest) blocks 1 refl is.0 (let small : length log.entries < 2 ^ 32 = is.1 in omega (arith, small))
    (goes_line (within done word log.entries) (Ended (with_ready [] report)) rest blocks (is.2.0, is.2.1, refl) (λ number. refl)
    (subst (λ b. Takes (record { done = done ++ block.Heard word b ∷ []; current = None }) rest blocks) (sym kept) more)))

goes_blocks : (bs done : List Block) → AreBlocks bs → Takes (record { done = done; current = None }) (transcript_text bs) (done ++ map block_read bs)
goes_blocks [] done are = λ number. ap (λ bs. Ok bs) (sym (append-nil done))
goes_blocks (block.Unread refusal ∷ bs) done are =
    let between : Reading = record { done = done; current = None } in
    let rest = goes_blocks bs (done ++ block.Unread refusal ∷ []) are.1 in
    subst (λ t. Takes between t (done ++ map block_read (block.Unread refusal ∷ bs))) (sym (split_line (codes "unread " ++ refusal_code refusal) (transcript_text bs)))
    (goes_line between (Unread refusal) (transcript_text bs) (done ++ map block_read (block.Unread refusal ∷ bs)) are.0 (λ number. refl)
    (subst (λ all. Takes (record { done = done ++ block.Unread refusal ∷ []; current = None }) (transcript_text bs) all) (append_assoc done (block.Unread refusal ∷ []) (map block_read bs)) rest))
goes_blocks (block.Heard word b ∷ bs) done are =
    let between : Reading = record { done = done; current = None } in
    let made : Block = block.Heard word (body_read b) in
    let all : List Block = done ++ map block_read (block.Heard word b ∷ bs) in
    let rest = goes_blocks bs (done ++ made ∷ []) are.1 in
    let whole : (codes "word " ++ word_text word ++ codes "\n" ++ body_text b) ++ transcript_text bs ≡ (codes "word " ++ word_text word) ++ 10 ∷ (body_text b ++ transcript_text bs) =
    append_assoc (codes "word " ++ word_text word ++ codes "\n") (body_text b) (transcript_text bs) ∙ split_line (codes "word " ++ word_text word) (body_text b ++ transcript_text bs) in
    subst (λ t. Takes between t all) (sym whole)
    (goes_line between (Heard word) (body_text b ++ transcript_text bs) all are.0.0 (λ number. refl)
    (goes_body b done word (transcript_text bs) all are.0.1
    (subst (λ all. Takes (record { done = done ++ made ∷ []; current = None }) (transcript_text bs) all) (append_assoc done (made ∷ []) (map block_read bs)) rest)))

-- ---- a text without its very last newline
-- some blocks' text ends with a line that is not empty
abbrev EndsWithLine : List ℕ → Type 0
EndsWithLine written = (front : List ℕ) × (c : ℕ) × (cs : List ℕ) × (lacks 10 (c ∷ cs) ≡ true) × (written ≡ front ++ ((c ∷ cs) ++ 10 ∷ []))

no_empty : (v : Line) → IsLine v → (line : List ℕ) → line_text v ≡ line → (c : ℕ) × (cs : List ℕ) × (line ≡ c ∷ cs)
no_empty v is [] e =
    let none : Option Line = None in
    let no : none ≡ Some v = sym (ap line_of e) ∙ block_line_reads.only v is in
    absurd cc
no_empty v is (c ∷ cs) e = (c, cs, refl)

ends_with : (front : List ℕ) (v : Line) → IsLine v → EndsWithLine (front ++ (line_text v ++ 10 ∷ []))
ends_with front v is =
    let parts = no_empty v is (line_text v) refl in (
      front,
      parts.0,
      parts.1,
      ap (lacks 10) (sym parts.2) ∙ line_lacks v is,
      ap (λ line. front ++ (line ++ 10 ∷ [])) parts.2,
    )

ends_before : (before written : List ℕ) → EndsWithLine written → EndsWithLine (before ++ written)
ends_before before written h = (before ++ h.0, h.1, h.2, h.3, ap (λ t. before ++ t) h.4 ∙ sym (append_assoc before h.0 ((h.1 ∷ h.2) ++ 10 ∷ [])))

body_ends : (b : Body) → IsBody b → EndsWithLine (body_text b)
body_ends body.Nothing is = ends_with [] Nothing tt
body_ends (body.Refused code) is = ends_with [] (Refused code) is
body_ends (body.Ran log report) is =
    subst EndsWithLine (sym (append_assoc (entries_text 1 log.entries) (report_text report) (10 ∷ [])))
    (ends_with (entries_text 1 log.entries) (Ended (with_ready [] report)) (is.2.0, is.2.1, refl))

block_ends : (b : Block) → IsBlock b → EndsWithLine (block_text b)
block_ends (block.Heard word b) is = ends_before (codes "word " ++ word_text word ++ codes "\n") (body_text b) (body_ends b is.1)
block_ends (block.Unread refusal) is = ends_with [] (Unread refusal) is

transcript_ends : (b : Block) (bs : List Block) → AreBlocks (b ∷ bs) → EndsWithLine (transcript_text (b ∷ bs))
transcript_ends b [] are = subst EndsWithLine (sym (append-nil (block_text b))) (block_ends b are.0)
transcript_ends b (c ∷ bs) are = ends_before (block_text b) (transcript_text (c ∷ bs)) (transcript_ends c bs are.1)

same_lines : (written : List ℕ) (blocks : List Block) → AreBlocks blocks → written ++ 10 ∷ [] ≡ transcript_text blocks →
    lines_of written ≡ lines_of (transcript_text blocks)
same_lines written [] are e =
    let long : length (written ++ 10 ∷ []) ≡ length written + 1 = length-append written (10 ∷ []) in
    let none : length (written ++ 10 ∷ []) ≡ 0 = ap length e in
    absurd (omega (arith, long, none))
same_lines written (b ∷ bs) are e =
    let ends = transcript_ends b bs are in
    let line : List ℕ = ends.1 ∷ ends.2 in
    let is : written ≡ ends.0 ++ line =
    append_cancel_right written (ends.0 ++ line) (10 ∷ []) (e ∙ ends.4 ∙ sym (append_assoc ends.0 line (10 ∷ []))) in
    ap lines_of is ∙ lines_lack ends.0 ends.1 ends.2 ends.3 ∙ ap lines_of (sym ends.4)

pub blocks_only : (written : List ℕ) (blocks : List Block) → AreBlocks blocks → IsTextOf blocks written → blocks_of written ≡ Ok (map block_read blocks)
blocks_only written blocks are is =
    elim is [
      | inl same ↦ ap (λ t. reading_of taken finished 1 begun (lines_of t)) same ∙ goes_blocks blocks [] are 1
      | inr longer ↦ ap (λ lines. reading_of taken finished 1 begun lines) (same_lines written blocks are longer) ∙ goes_blocks blocks [] are 1
    ]
