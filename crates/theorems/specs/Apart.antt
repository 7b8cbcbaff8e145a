-- The entries of a stretch, taken for each master.
use Rattle.std.specs.Prelude.{ℕ, ◌≡◌, ◌≢◌, ◌==◌, true, false, List, [], ◌∷◌, ◌++◌, Option, Some, None, ⊤, ◌⊎◌}
use Rattle.definitions.specs.Run.{End, JoinBack, Tree, Branches, Ends, Does, Nothing, Branch, reply_of, call_of, Entry}
use Rattle.definitions.specs.Run.{Lack, lacked_by, lacked_after}
use Rattle.definitions.specs.Master.{PidNote}
use Rattle.call_laws.specs.Pieces.{lacking_after, branch}
use Rattle.definitions.specs.Plans.{Turn, New, Old, weave}

-- what is behind an edge
abbrev pub rest_of : Option (Option PidNote × Tree) → Tree
rest_of None = Ends JoinBack
rest_of (Some edge) = edge.1

-- The turns that the entries of the stretch use: as long as both parts have a step, whose call it is.
abbrev pub turns_used : Tree → Tree → List Entry → List Turn
turns_used new old [] = []
turns_used (Ends end) old (e ∷ entries) = []
turns_used (Does by order set branches) (Ends end) (e ∷ entries) = []
turns_used (Does by order set branches) (Does by' order' set' branches') (e ∷ entries) =
    elim (e.by == by) as (λ b. List Turn) [
      | true ↦ New ∷ turns_used (rest_of (branch branches (reply_of set e.answer))) (Does by' order' set' branches') entries
      | false ↦ Old ∷ turns_used (Does by order set branches) (rest_of (branch branches' (reply_of set' e.answer))) entries
    ]

-- each step is made by the master of the image
abbrev mutual
  pub IsOf : ℕ → Tree → Type 0
  IsOf image (Ends end) = ⊤
  IsOf image (Does by order set branches) = (by ≡ image) × AreOf image branches

  pub AreOf : ℕ → Branches → Type 0
  AreOf image Nothing = ⊤
  AreOf image (Branch replies said rest more) = IsOf image rest × AreOf image more

-- From a tree to a later place of it by these entries; what the last census lacked.
abbrev pub Walks : Tree → List ℕ → List Entry → Tree → Type 0
Walks t lacking [] later = t ≡ later
Walks (Ends end) lacking (e ∷ entries) later = ⊥
Walks (Does by order set branches) lacking (e ∷ entries) later =
    (e.by ≡ by) × (e.call ≡ call_of order lacking)
    × (edge : Option PidNote × Tree) × (branch branches (reply_of set e.answer) ≡ Some edge)
    × Walks edge.1 (lacking_after set e.answer lacking) entries later

-- The same where each master has its own last census.
abbrev pub WalksAll : Tree → List Lack → List Entry → Tree → Type 0
WalksAll t lacked [] later = t ≡ later
WalksAll (Ends end) lacked (e ∷ entries) later = ⊥
WalksAll (Does by order set branches) lacked (e ∷ entries) later =
    (e.by ≡ by) × (e.call ≡ call_of order (lacked_by by lacked))
    × (edge : Option PidNote × Tree) × (branch branches (reply_of set e.answer) ≡ Some edge)
    × WalksAll edge.1 (lacked_after by set e.answer lacked) entries later

-- the last counts are of these two masters
abbrev pub AreCountsOf : ℕ → ℕ → List Lack → Type 0
AreCountsOf a b [] = ⊤
AreCountsOf a b (lack ∷ lacked) = ((lack.by ≡ a) ⊎ (lack.by ≡ b)) × AreCountsOf a b lacked

-- one master's entries
abbrev pub of_master : ℕ → List Entry → List Entry
of_master image [] = []
of_master image (e ∷ entries) = elim (e.by == image) as (λ b. List Entry) [
  | true ↦ e ∷ of_master image entries
  | false ↦ of_master image entries
]

-- the turns that are used are the list's, New after its end
abbrev pub Plays : List Turn → List Turn → Type 0
Plays turns [] = ⊤
Plays [] (u ∷ used) = (u ≡ New) × Plays [] used
Plays (t ∷ turns) (u ∷ used) = (u ≡ t) × Plays turns used

-- Each entry is one of the two masters'.
abbrev pub AreOfBoth : ℕ → ℕ → List Entry → Type 0
AreOfBoth a b [] = ⊤
AreOfBoth a b (e ∷ entries) = ((e.by ≡ a) ⊎ (e.by ≡ b)) × AreOfBoth a b entries

-- A walk of a weave is a walk of each part, merged as the turns say, and behind both ends a walk of what is joined.
-- Where nothing is behind them, it is at both parts, as far as each has come.
pub record IsWalkedApart
    (join : End → Tree) (new : Tree) (turns : List Turn) (old : Tree) (a b : ℕ) (lacked : List Lack) (entries : List Entry) (later : Tree) : Type 0 where
  pub front : List Entry
  pub behind : List Entry
  pub new_later : Tree
  pub old_later : Tree
  pub is : entries ≡ front ++ behind
  pub both : AreOfBoth a b front
  pub of_new : Walks new (lacked_by a lacked) (of_master a front) new_later
  pub of_old : Walks old (lacked_by b lacked) (of_master b front) old_later
  pub used : Plays turns (turns_used new old front)
  pub joins :
      ((behind ≡ []) × (rest : List Turn) × (weave join new_later rest old_later ≡ later))
      ⊎ ((end : End) × (other : End) × (counts : List Lack)
      × (new_later ≡ Ends end) × (old_later ≡ Ends other) × WalksAll (join end) counts behind later)

abbrev pub WalksApart : Type 0
WalksApart =
    (join : End → Tree) (new : Tree) (turns : List Turn) (old : Tree) (a b : ℕ) (lacked : List Lack)
    (entries : List Entry) (later : Tree) →
    a ≢ b → IsOf a new → IsOf b old → AreCountsOf a b lacked → WalksAll (weave join new turns old) lacked entries later →
    IsWalkedApart join new turns old a b lacked entries later

-- And any merge of a walk of the one part with a walk of the other, in which each keeps its own order, is a walk of the weave under
-- the turns that it uses.
abbrev pub MergesAreWoven : Type 0
MergesAreWoven =
    (join : End → Tree) (new old : Tree) (a b : ℕ) (lacked : List Lack) (entries : List Entry)
    (new_later old_later : Tree) →
    a ≢ b → IsOf a new → IsOf b old → AreCountsOf a b lacked → AreOfBoth a b entries →
    Walks new (lacked_by a lacked) (of_master a entries) new_later →
    Walks old (lacked_by b lacked) (of_master b entries) old_later →
    WalksAll (weave join new (turns_used new old entries) old) lacked entries (weave join new_later [] old_later)

-- A turn of New behind the others changes nothing; so the shortest list has none at its end.
abbrev pub LastNewIsNone : Type 0
LastNewIsNone =
    (join : End → Tree) (new : Tree) (turns : List Turn) (old : Tree) → weave join new (turns ++ New ∷ []) old ≡ weave join new turns old
