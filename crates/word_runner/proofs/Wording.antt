-- Words one after another.
use Rattle.std.proofs.Common.{◌≡◌, ℕ, ◌+◌, List, [], ◌∷◌, ◌++◌, ◌<◌, length, get_or, Option, Some, slice_get, refl, sym, subst, arith}
use Rattle.std.proofs.lemmas.Option.{none-some, same_Some, slice_get-get_or}
use Rattle.vocabulary.specs.Settings.{Settings}
use Rattle.definitions.specs.Master.{Record}
use Rattle.vocabulary.specs.declared.targets.Target.{Target}
use Rattle.control_words.specs.declared.words.Word.{Word}
use Rattle.word_runner.specs.declared.block.Block.{Block}
use Rattle.word_runner.specs.declared.block.Block.TheVariants.{Heard, Unread}
use Rattle.word_runner.specs.declared.block.Body.{Body}
use Rattle.word_runner.specs.declared.enactor.Enacted.{Enacted}
use Rattle.word_runner.specs.declared.standing.Standing.{Standing}
use Rattle.word_runner.specs.Words.{ComesTo, AreDone}

module _ {G : Type 0} (enacts : G → ℕ → Record → Target → Enacted → G → Type 0) (declines : G → ℕ → Record → Target → List ℕ → Type 0) where
  -- one word more
  done-push : (settings : Option Settings) (words : List Word) (place : ℕ) (first : Standing G) (blocks : List Block)
      (middle last : Standing G) (word : Word) (body : Body) (at : ℕ) →
      AreDone enacts declines settings words place first blocks middle → slice_get words (length blocks) ≡ Some word → at ≡ place + length blocks →
      ComesTo enacts declines settings word at middle body last →
      AreDone enacts declines settings words place first (blocks ++ Heard word body ∷ []) last
  done-push settings [] place first [] middle last word body at done is here comes = absurd (none-some word is)
  done-push settings (w ∷ words) place first [] middle last word body at done is here comes =
      let same = same_Some w word is in
      let first_place : at ≡ place = omega (arith, here) in
      let from : ComesTo enacts declines settings word at first body last = subst
      (λ (s : Standing G). ComesTo enacts declines settings word at s body last) done comes in
      let mine : ComesTo enacts declines settings word place first body last = subst
      (λ n. ComesTo enacts declines settings word n first body last) first_place from in
      (last, sym same, subst (λ (x : Word). ComesTo enacts declines settings x place first body last) (sym same) mine, refl)
  done-push settings [] place first (b ∷ blocks) middle last word body at done is here comes = absurd done
  done-push settings (w ∷ words) place first (Unread refusal ∷ blocks) middle last word body at done is here comes = absurd done
  done-push settings (w ∷ words) place first (Heard own heard ∷ blocks) middle last word body at done is here comes = (
    done.0,
    done.1,
    done.2,
    done-push settings words (place + 1) done.0 blocks middle last word body at done.3 is (omega (arith, here)) comes,
  )

  -- the word at a place behind those that are done
  pub done-more : (settings : Option Settings) (words : List Word) (first : Standing G) (blocks : List Block)
      (middle last : Standing G) (n : ℕ) (d : Word) (body : Body) →
      n < length words → length blocks ≡ n → AreDone enacts declines settings words 0 first blocks middle →
      ComesTo enacts declines settings (get_or words n d) n middle body last →
      AreDone enacts declines settings words 0 first (blocks ++ Heard (get_or words n d) body ∷ []) last
  done-more settings words first blocks middle last n d body lt count done comes =
      let word = get_or words n d in
      done-push settings words 0 first blocks middle last word body n done
      (subst (λ k. slice_get words k ≡ Some word) (sym count) (slice_get-get_or words n d lt))
      (omega (arith, count)) comes
