-- Lines one after another.
use Rattle.std.proofs.Common.{◌≡◌, List, [], ◌∷◌, ◌++◌, Result, Option, refl, sym, subst, ap, ◌∙◌, append_assoc, append-nil}
use Rattle.std.specs.Prelude.{ℕ, Ok, Some, IsOk, OnOk, length}
use Rattle.std.specs.declared.alloc.AllocError.{AllocError}
use Rattle.vocabulary.specs.Settings.{Settings}
use Rattle.control_words.specs.declared.words.Word.{Word}
use Rattle.child_family.specs.declared.family.Family.{Ghosts}
use Rattle.word_runner.specs.declared.standing.Standing.{Standing}
use Rattle.word_runner.specs.Words.{AreDone}
use Rattle.word_runner.specs.declared.block.Block.{Block}
use Rattle.master_on_children.specs.declared.next.NextRefusal.{NextRefusal}
use Rattle.master_on_children.specs.declared.said.Said.{Said}
use Rattle.master_on_children.specs.Typed.{Typed}
use Rattle.master_on_children.specs.Inbox.{IsNextLine}
use Rattle.master_on_children.specs.Lines.{IsShort, EnactsOn, DeclinesOn, AreActed, taken, LineComesTo, AreHeard}
use Rattle.master_on_children.specs.declared.attended.Attended.{Attended}
use Rattle.master_on_children.specs.declared.inbox.Inbox.{Inbox}

module _ {F I L : Type 0} {f : Ghosts F} (remaining : I → Option (List ℕ)) where
  -- where memory is wanted before the first word, nothing was done
  pub short-acted : (settings : Option Settings) (words : List Word) (s : Standing (Attended F I L f)) (said : Said) →
      IsShort said → AreActed remaining settings words s said s
  short-acted settings words s said h = record {
    done = subst (λ (blocks : List Block). AreDone (EnactsOn remaining) (DeclinesOn remaining) settings words 0 s blocks s) (sym h.nothing) refl;
    all = subst (λ (done : Result (Unit {0}) AllocError). OnOk done (length said.blocks.items ≡ length words)) (sym h.wanted) tt;
  }

module _ {F I L N : Type 0} {f : Ghosts F} (remaining : I → Option (List ℕ)) (reads : N → Result Settings NextRefusal → N → Type 0) where
  -- one line more
  pub heard-push : (lines : List Typed) (n : N) (old : Standing (Attended F I L f)) (blocks : List Block) (k : N)
      (mid : Standing (Attended F I L f)) (line : Typed) (inbox : Inbox I) (said : Said) (m : N)
      (new : Standing (Attended F I L f)) →
      AreHeard remaining reads lines n old blocks k mid → IsNextLine remaining mid.world.inbox (Ok (Some line)) inbox →
      IsOk said.done → LineComesTo remaining reads line k (taken mid inbox) said m new →
      AreHeard remaining reads (lines ++ line ∷ []) n old (blocks ++ said.blocks.items) m new
  heard-push [] n old blocks k mid line inbox said m new h next ok comes =
      let there : LineComesTo remaining reads line n (taken mid inbox) said m new = subst
      (λ (x : N). LineComesTo remaining reads line x (taken mid inbox) said m new) h.1 comes in
      let here : LineComesTo remaining reads line n (taken old inbox) said m new = subst
      (λ (s : Standing (Attended F I L f)). LineComesTo remaining reads line n
      (taken s inbox) said m new) h.2 there in
      let first : IsNextLine remaining old.world.inbox (Ok (Some line)) inbox = subst
      (λ (s : Standing (Attended F I L f)). IsNextLine remaining s.world.inbox (Ok (Some line)) inbox) h.2 next in
      (inbox, said, m, new, [], first, ok, here, ap (λ bs. bs ++ said.blocks.items) h.0 ∙ sym (append-nil said.blocks.items), (refl, refl, refl))
  heard-push (l ∷ lines) n old blocks k mid line inbox said m new h next ok comes = (
    h.0,
    h.1,
    h.2,
    h.3,
    h.4 ++ said.blocks.items,
    h.5,
    h.6,
    h.7,
    ap (λ bs. bs ++ said.blocks.items) h.8 ∙ append_assoc h.1.blocks.items h.4 said.blocks.items,
    heard-push lines h.2 h.3 h.4 k mid line inbox said m new h.9 next ok comes,
  )
