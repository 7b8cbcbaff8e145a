-- What lines come to, on real children.
use Rattle.std.specs.Prelude.{ℕ, Bool, true, false, ◌≡◌, ◌⊎◌, List, [], ◌∷◌, ◌++◌, map, length}
use Rattle.std.specs.Prelude.{Option, Some, None, Result, Ok, Err, OnOk, IsOk, IsErr, is_ok, alloc_error, if◌then◌else◌}
use Rattle.vocabulary.specs.Settings.{Settings}
use Rattle.definitions.specs.Master.{Record}
use Rattle.vocabulary.specs.declared.targets.Target.{Target}
use Rattle.vocabulary.specs.declared.calls.Answer.TheVariants.{Counted}
use Rattle.control_words.specs.declared.words.Word.{Word}
use Rattle.control_words.specs.declared.words.Word.TheVariants.{Hup, Quit, Usr2, Usr2Attended, Beat, Tick}
use Rattle.child_family.specs.declared.family.Family.{Ghosts}
use Rattle.child_family.specs.Talk.{Held}
use Rattle.child_edge.specs.State.{state_of}
use Rattle.child_edge.specs.Table.{reigning_tick}
use Rattle.child_edge.specs.declared.edge.Edge.{Edge}
use Rattle.word_runner.specs.declared.standing.Standing.{Standing}
use Rattle.word_runner.specs.Words.{AreDone}
use Rattle.word_runner.specs.declared.block.Block.{Block}
use Rattle.word_runner.specs.declared.block.Block.TheVariants.{Heard, Unread}
use Rattle.word_runner.specs.declared.block.Body.TheVariants as body
use Rattle.word_runner.specs.declared.enactor.Enacted.{Enacted}
use Rattle.master_on_children.specs.Carried.{IsUnplanned, IsCarriedOut}
use Rattle.master_on_children.specs.Typed.{Typed}
use Rattle.master_on_children.specs.Inbox.{IsNextLine}
use Rattle.master_on_children.specs.declared.attended.Attended.{Attended}
use Rattle.master_on_children.specs.declared.inbox.Inbox.{Inbox}
use Rattle.master_on_children.specs.declared.next.NextRefusal.{NextRefusal}
use Rattle.master_on_children.specs.declared.next.NextRefusal.TheVariants.{Memory, Unreadable, Refused}
use Rattle.master_on_children.specs.declared.said.Said.{Said}

-- a beat for each worker that was heard, and then the tick
abbrev pub tick_words : List ℕ → ℕ → List Word
tick_words heard now = map (λ nr. Beat nr now) heard ++ Tick now ∷ []

-- Which words take the next settings up: a reload does, and each upgrade.
abbrev pub takes_settings : Word → Bool
takes_settings Hup = true
takes_settings Usr2 = true
takes_settings Usr2Attended = true
takes_settings _ = false

-- This block is what was said, unless memory for it was wanted.
abbrev pub IsTold : Block → Said → Type 0
IsTold block said = said.blocks.items ≡ (if is_ok said.done then block ∷ [] else [])

-- Nothing was said, since memory was wanted.
pub record IsShort (said : Said) : Type 0 where
  pub wanted : said.done ≡ Err alloc_error
  pub nothing : said.blocks.items ≡ []

module _ {F I L : Type 0} {f : Ghosts F} (remaining : I → Option (List ℕ)) where
  abbrev pub EnactsOn : Attended F I L f → ℕ → Record → Target → Enacted → Attended F I L f → Type 0
  EnactsOn first place r target e last = IsCarriedOut remaining first r target e last

  abbrev pub DeclinesOn : Attended F I L f → ℕ → Record → Target → List ℕ → Type 0
  DeclinesOn first place r target code = IsUnplanned r target code

  -- These words were acted on, one after another: all of them, unless memory was wanted.
  pub record AreActed (settings : Option Settings) (words : List Word) (old : Standing (Attended F I L f)) (said : Said)
      (new : Standing (Attended F I L f)) : Type 0 where
    pub done : AreDone EnactsOn DeclinesOn settings words 0 old said.blocks.items new
    pub all : OnOk said.done (length said.blocks.items ≡ length words)

  -- All ready workers of the master that reigns are asked at a tick, and each beat that is heard is a word of its own before it.
  abbrev pub IsAsked : ℕ → Standing (Attended F I L f) → Said → Standing (Attended F I L f) → Type 0
  IsAsked now old said new =
      (edge : Edge F f) × (heard : List ℕ)
      × Held (f.told old.world.edge.family) (f.told edge.family) (reigning_tick (state_of old.world.edge.state) now) (state_of edge.state, Counted heard)
      × AreActed None (tick_words heard now) (record old { world = record old.world { edge = edge } }) said new

  -- A tick. Where a master runs, its workers are asked first.
  abbrev pub IsTicked : Option Record → ℕ → Standing (Attended F I L f) → Said → Standing (Attended F I L f) → Type 0
  IsTicked None now old said new = AreActed None (Tick now ∷ []) old said new
  IsTicked (Some r) now old said new = IsAsked now old said new

  -- A word that takes the next settings up, by what their reading gave. Without settings it is refused as its law says.
  abbrev pub IsTakenUp : Result Settings NextRefusal → Word → Standing (Attended F I L f) → Said → Standing (Attended F I L f) → Type 0
  IsTakenUp (Ok settings) word old said new = AreActed (Some settings) (word ∷ []) old said new
  IsTakenUp (Err Unreadable) word old said new = AreActed None (word ∷ []) old said new
  IsTakenUp (Err (Refused code)) word old said new = IsTold (Heard word (body.Refused code)) said × (new ≡ old)
  IsTakenUp (Err Memory) word old said new = IsShort said × (new ≡ old)

  -- The end: a master that runs quits.
  abbrev pub EndComesTo : Option Record → Standing (Attended F I L f) → Said → Standing (Attended F I L f) → Type 0
  EndComesTo None old said new = (said.blocks.items ≡ []) × (new ≡ old)
  EndComesTo (Some r) old said new = AreActed None (Quit ∷ []) old said new

-- where a master stands once a line was taken
abbrev pub taken : {F I L : Type 0} {f : Ghosts F} → Standing (Attended F I L f) → Inbox I → Standing (Attended F I L f)
taken s inbox = record s { world = record s.world { inbox = inbox } }

-- What a reading of the next settings says.
module _ {F I L N : Type 0} {f : Ghosts F} (remaining : I → Option (List ℕ)) (reads : N → Result Settings NextRefusal → N → Type 0) where
  -- A word, by whether it takes the next settings up. Where a master runs, they are read anew for it.
  abbrev pub ComesTo : Bool → Option Record → Word → N → Standing (Attended F I L f) → Said → N → Standing (Attended F I L f) → Type 0
  ComesTo true (Some r) word n old said m new = (read : Result Settings NextRefusal) × reads n read m × IsTakenUp remaining read word old said new
  ComesTo _ _ word n old said m new = AreActed remaining None (word ∷ []) old said new × (m ≡ n)

  -- What a word comes to.
  abbrev pub WordComesTo : Word → N → Standing (Attended F I L f) → Said → N → Standing (Attended F I L f) → Type 0
  WordComesTo (Tick now) n old said m new = IsTicked remaining old.record now old said new × (m ≡ n)
  WordComesTo word n old said m new = ComesTo (takes_settings word) old.record word n old said m new

  -- What a line comes to: what its word does, or a block of its own.
  abbrev pub LineComesTo : Typed → N → Standing (Attended F I L f) → Said → N → Standing (Attended F I L f) → Type 0
  LineComesTo (Ok word) n old said m new = WordComesTo word n old said m new
  LineComesTo (Err refusal) n old said m new = IsTold (Unread refusal) said × (new ≡ old) × (m ≡ n)

  -- These lines came to these blocks, one after another, and memory was never wanted. Each was the first of those that waited, or
  -- the next of the input.
  abbrev pub AreHeard : List Typed → N → Standing (Attended F I L f) → List Block → N → Standing (Attended F I L f) → Type 0
  AreHeard [] n old blocks m new = (blocks ≡ []) × (m ≡ n) × (new ≡ old)
  AreHeard (line ∷ lines) n old blocks m new =
      (inbox : Inbox I) × (said : Said) × (k : N) × (mid : Standing (Attended F I L f)) × (rest : List Block)
      × IsNextLine remaining old.world.inbox (Ok (Some line)) inbox
      × IsOk said.done × LineComesTo line n (taken old inbox) said k mid × (blocks ≡ said.blocks.items ++ rest) × AreHeard lines k mid rest m new

  -- The same, up to the end of the input, where none waits.
  pub record IsHeardOut (lines : List Typed) (n : N) (old : Standing (Attended F I L f)) (blocks : List Block) (m : N)
      (new : Standing (Attended F I L f)) : Type 0 where
    pub before_end : Standing (Attended F I L f)
    pub are_heard : AreHeard lines n old blocks m before_end
    pub ended : IsNextLine remaining before_end.world.inbox (Ok None) new.world.inbox
    pub still : new ≡ taken before_end new.world.inbox

  -- Memory was wanted for the last of these lines. It came to no more blocks than these.
  pub record AreCutShort (lines : List Typed) (n : N) (old : Standing (Attended F I L f)) (blocks : List Block) (m : N)
      (new : Standing (Attended F I L f)) : Type 0 where
    pub before : List Typed
    pub last : Typed
    pub heard : List Block
    pub k : N
    pub mid : Standing (Attended F I L f)
    pub inbox : Inbox I
    pub said : Said
    pub lines_are : lines ≡ before ++ last ∷ []
    pub are_heard : AreHeard before n old heard k mid
    pub is_next : IsNextLine remaining mid.world.inbox (Ok (Some last)) inbox
    pub comes : LineComesTo last k (taken mid inbox) said m new
    pub wanted : IsErr said.done
    pub blocks_are : blocks ≡ heard ++ said.blocks.items

  -- What a master came to up to a word that wanted memory: the first tick, a line, or the end.
  abbrev pub IsShortAtFirst : N → Standing (Attended F I L f) → List Block → N → Standing (Attended F I L f) → Type 0
  IsShortAtFirst n first blocks m last =
      (tick : Said) × IsTicked remaining first.record 0 first tick last × IsErr tick.done × (m ≡ n) × (blocks ≡ tick.blocks.items)

  abbrev pub IsShortAtLine : N → Standing (Attended F I L f) → List Block → N → Standing (Attended F I L f) → Type 0
  IsShortAtLine n first blocks m last =
      (tick : Said) × (ticked : Standing (Attended F I L f)) × (lines : List Typed) × (heard : List Block)
      × IsTicked remaining first.record 0 first tick ticked × IsOk tick.done × AreCutShort lines n ticked heard m last × (blocks ≡ tick.blocks.items ++ heard)

  abbrev pub IsShortAtEnd : N → Standing (Attended F I L f) → List Block → N → Standing (Attended F I L f) → Type 0
  IsShortAtEnd n first blocks m last =
      (tick : Said) × (ticked : Standing (Attended F I L f)) × (lines : List Typed) × (heard : List Block) ×
      (before_end : Standing (Attended F I L f)) × (end : Said)
      × IsTicked remaining first.record 0 first tick ticked × IsOk tick.done × IsHeardOut lines n ticked heard m before_end
      × EndComesTo remaining before_end.record before_end end last × IsErr end.done × (blocks ≡ (tick.blocks.items ++ heard) ++ end.blocks.items)

  abbrev pub IsShortRun : N → Standing (Attended F I L f) → List Block → N → Standing (Attended F I L f) → Type 0
  IsShortRun n first blocks m last = IsShortAtFirst n first blocks m last ⊎ (IsShortAtLine n first blocks m last ⊎ IsShortAtEnd n first blocks m last)

  -- All that a master came to: the first tick, the lines, and the end, and memory was never wanted.
  pub record IsRun (n : N) (first : Standing (Attended F I L f)) (blocks : List Block) (m : N) (last : Standing (Attended F I L f)) : Type 0 where
    pub tick : Said
    pub ticked : Standing (Attended F I L f)
    pub lines : List Typed
    pub heard : List Block
    pub before_end : Standing (Attended F I L f)
    pub end : Said
    pub is_ticked : IsTicked remaining first.record 0 first tick ticked
    pub tick_whole : IsOk tick.done
    pub are_heard : IsHeardOut lines n ticked heard m before_end
    pub is_ended : EndComesTo remaining before_end.record before_end end last
    pub end_whole : IsOk end.done
    pub blocks_are : blocks ≡ tick.blocks.items ++ heard ++ end.blocks.items
