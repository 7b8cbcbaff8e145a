-- The sockets that a process holds, one after another.
use Rattle.std.proofs.Common.{◌≡◌, ℕ, ◌+◌, ◌==◌, Bool, true, false, List, [], ◌∷◌, ◌++◌, map, drop, Some, None, slice_get, inl, inr, refl, sym, ap, ◌∙◌, append_assoc, append-nil}
use Rattle.std.specs.Prelude.{filter, if◌then◌else◌}
use Rattle.std.proofs.lemmas.List.{drop_more, drop_all}
use Rattle.std.proofs.lemmas.Option.{slice_get_cases, slice_get_within, get_or_from_slice_get}
use Rattle.kernel_model.specs.declared.readers.HoldRow.{HoldRow}
use Rattle.life_account.specs.declared.opened.OpenAddress.{OpenAddress}
use Rattle.life_account.specs.Tables.{open_hold, with_own}

-- those among some holds
abbrev pub opens : ℕ → List HoldRow → List OpenAddress
opens process holds = map open_hold (filter (λ h. h.process == process) holds)

left : (holds : List HoldRow) (n : ℕ) (h : HoldRow) → slice_get holds n ≡ Some h → drop n holds ≡ h ∷ drop (n + 1) holds
left holds n h is = drop_more holds n h (slice_get_within holds n h is) ∙ ap (λ x. x ∷ drop (n + 1) holds) (get_or_from_slice_get holds n h h is)

pub opens-own : (process : ℕ) (holds : List HoldRow) (n : ℕ) (h : HoldRow) → slice_get holds n ≡ Some h → (h.process == process) ≡ true →
    opens process (drop n holds) ≡ open_hold h ∷ opens process (drop (n + 1) holds)
opens-own process holds n h is own = ap (opens process) (left holds n h is) ∙ rw own refl

pub opens-other : (process : ℕ) (holds : List HoldRow) (n : ℕ) (h : HoldRow) → slice_get holds n ≡ Some h → (h.process == process) ≡ false →
    opens process (drop n holds) ≡ opens process (drop (n + 1) holds)
opens-other process holds n h is own = ap (opens process) (left holds n h is) ∙ rw own refl

pub opens-all : (process : ℕ) (holds : List HoldRow) (n : ℕ) → slice_get holds n ≡ None → opens process (drop n holds) ≡ []
opens-all process holds n over = elim (slice_get_cases holds n).1 [
  | inl there ↦ absurd (let z : Some there.0 ≡ None = sym there.2 ∙ over in cc)
  | inr past ↦ ap (opens process) (drop_all n holds past.0)
]

-- those that were found, and the others
pub opens-next : (process : ℕ) (holds : List HoldRow) (n : ℕ) (h : HoldRow) (kept : List OpenAddress) → slice_get holds n ≡ Some h →
    with_own process h kept ++ opens process (drop (n + 1) holds) ≡ kept ++ opens process (drop n holds)
opens-next process holds n h kept is = go (h.process == process) refl
  where
    go : (b : Bool) → (h.process == process) ≡ b →
        (if b then kept ++ open_hold h ∷ [] else kept) ++ opens process (drop (n + 1) holds) ≡ kept ++ opens process (drop n holds)
    go true own =
        append_assoc kept (open_hold h ∷ []) (opens process (drop (n + 1) holds)) ∙ ap (λ xs. kept ++ xs) (sym (opens-own process holds n h is own))
    go false other = ap (λ xs. kept ++ xs) (sym (opens-other process holds n h is other))

pub opens-over : (process : ℕ) (holds : List HoldRow) (n : ℕ) (kept : List OpenAddress) → slice_get holds n ≡ None →
    kept ++ opens process (drop n holds) ≡ opens process holds → kept ≡ opens process holds
opens-over process holds n kept over all =
    sym (append-nil kept) ∙ ap (λ xs. kept ++ xs) (sym (opens-all process holds n over)) ∙ all
