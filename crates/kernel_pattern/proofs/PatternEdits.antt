-- What an exit or a fate that is added makes of a pattern.
use Rattle.std.proofs.Common.{◌≡◌, ℕ, ◌≤◌, cond, nat_eq, Option, Some, None, List, [], ◌∷◌, ◌++◌, map, get_or, set, ap, ◌∙◌}
use Rattle.std.specs.List.{insert}
use Rattle.std.proofs.Math.Seq.{map-set_same}
use Rattle.vocabulary.specs.declared.names.Name.{Name}
use Rattle.vocabulary.specs.declared.calls.Fate.{Fate}
use Rattle.definitions.specs.Run.{Moment}
use Rattle.call_laws.specs.Pieces.{quiet}
use Rattle.kernel_pattern.specs.declared.pattern.PatternEvent.{PatternEvent}
use Rattle.kernel_pattern.specs.Pattern.{moment_at, with_exit, with_fate, IsNameWithin, AreNamesWithin, IsEvent, IsPattern}
use Rattle.kernel_pattern.specs.Events.{seen_event, IsListed, IsUnlisted}
use Rattle.kernel_pattern.proofs.Patterns.{number-listed, moment-listed, names-listed, moment-replaced}
use Rattle.kernel_pattern.proofs.Patterns.{pattern-replaced, moment-unlisted, moment-added, pattern-added}

event-with_exit : (names : List Name) (name : Name) (f : Option Fate) → IsEvent (record { exits = names ++ name ∷ []; fate = f })
event-with_exit [] name f e = let none : name ∷ [] ≡ [] = ap (λ m. m.exits) e in cc
event-with_exit (x ∷ xs) name f e = let none : x ∷ (xs ++ name ∷ []) ≡ [] = ap (λ m. m.exits) e in cc

event-with_fate : (names : List Name) (f : Fate) → IsEvent (record { exits = names; fate = Some f })
event-with_fate names f e = let none : Some f ≡ None = ap (λ m. m.fate) e in cc

within-push : (names : List Name) (name : Name) → AreNamesWithin names → IsNameWithin name → AreNamesWithin (names ++ name ∷ [])
within-push [] name h is = (is, tt)
within-push (x ∷ xs) name h is = (h.0, within-push xs name h.1 is)

-- A pattern, with a moment of its own at one number.
pub record Becomes (es : List PatternEvent) (n : ℕ) (x : Moment) (after : List PatternEvent) : Type 0 where
  pub pattern : IsPattern (map seen_event after)
  pub moments : (m : ℕ) → moment_at (map seen_event after) m ≡ cond (nat_eq m n) x (moment_at (map seen_event es) m)

module _ (es : List PatternEvent) (n k : ℕ) (pattern : IsPattern (map seen_event es)) (h : IsListed es n k)
    (e : PatternEvent) (there : e ≡ get_or es k e) (new : PatternEvent) (same : new.number ≡ e.number) where
  -- where nothing was added
  pub nothing-replaced : new.fate ≡ e.fate → new.exits.items ≡ e.exits.items → map seen_event (set es k new) ≡ map seen_event es
  nothing-replaced fate exits =
      let kept : seen_event new ≡ seen_event e = cc in
      map-set_same seen_event es k new e (kept ∙ ap seen_event there)

  old : moment_at (map seen_event es) n ≡ (seen_event e).1
  old = moment-listed es n k pattern h e there

  replaced : (x : Moment) → (seen_event new).1 ≡ x → IsEvent x → AreNamesWithin new.exits.items → Becomes es n x (set es k new)
  replaced x is event names =
      let number : new.number ≡ n = same ∙ number-listed es n k pattern h e there in
      record {
        pattern = pattern-replaced es n k pattern h e there new number (rw is event) names;
        moments = λ m. rw (← is) (moment-replaced es n k pattern h e there new number m);
      }

  pub exit-replaced : (name : Name) → IsNameWithin name → new.fate ≡ e.fate → new.exits.items ≡ e.exits.items ++ name
      ∷ [] → Becomes es n (with_exit name (moment_at (map seen_event es) n)) (set es k new)
  exit-replaced name within fate exits =
      let was = old in
      replaced (with_exit name (moment_at (map seen_event es) n)) (rw was cc) (event-with_exit (moment_at (map seen_event es) n).exits name (moment_at (map seen_event es) n).fate) (rw exits (within-push e.exits.items name (names-listed es n k pattern h e there) within))

  pub fate-replaced : (f : Fate) → new.exits.items ≡ e.exits.items → new.fate ≡ Some f →
      Becomes es n (with_fate f (moment_at (map seen_event es) n)) (set es k new)
  fate-replaced f exits fate =
      let was = old in
      replaced (with_fate f (moment_at (map seen_event es) n)) (rw was cc) (event-with_fate (moment_at (map seen_event es) n).exits f) (rw exits (names-listed es n k pattern h e there))

module _ (es : List PatternEvent) (n k : ℕ) (pattern : IsPattern (map seen_event es)) (h : IsUnlisted es n k)
    (new : PatternEvent) (le : 1 ≤ n) (same : new.number ≡ n) where
  added : (x : Moment) → (seen_event new).1 ≡ x → IsEvent x → AreNamesWithin new.exits.items → Becomes es n x (insert es k new)
  added x is event names = record {
    pattern = pattern-added es n k pattern h new same le (rw is event) names;
    moments = λ m. rw (← is) (moment-added es n k pattern h new same m);
  }

  pub exit-added : (name : Name) → IsNameWithin name → new.fate ≡ None → new.exits.items ≡ name ∷ [] →
      Becomes es n (with_exit name (moment_at (map seen_event es) n)) (insert es k new)
  exit-added name within fate exits =
      let was : moment_at (map seen_event es) n ≡ quiet = moment-unlisted es n k pattern h in
      added (with_exit name (moment_at (map seen_event es) n)) (rw was cc) (event-with_exit (moment_at (map seen_event es) n).exits name (moment_at (map seen_event es) n).fate) (rw exits (within, tt))

  pub fate-added : (f : Fate) → new.exits.items ≡ [] → new.fate ≡ Some f → Becomes es n (with_fate f (moment_at (map seen_event es) n)) (insert es k new)
  fate-added f exits fate =
      let was : moment_at (map seen_event es) n ≡ quiet = moment-unlisted es n k pattern h in
      added (with_fate f (moment_at (map seen_event es) n)) (rw was cc) (event-with_fate (moment_at (map seen_event es) n).exits f) (rw exits tt)
