-- Whose exits are looked at, call by call.
use Rattle.std.proofs.Common.{◌≡◌, ℕ, ◌+◌, ◌<◌, ◌||◌, nat_eq, Bool, true, false, cond, List, [], ◌∷◌, ◌++◌, None, Some}
use Rattle.std.proofs.Common.{length, drop, get_or, refl, sym, ◌∙◌, ap}
use Rattle.std.specs.Prelude.{◌&&◌, if◌then◌else◌}
use Rattle.std.specs.List.{list_any}
use Rattle.vocabulary.specs.declared.names.Name.{Name}
use Rattle.vocabulary.specs.declared.names.Name.TheVariants as name
use Rattle.std.proofs.lemmas.List.{drop_more}
use Rattle.vocabulary.specs.declared.reports.Entry.{Entry}
use Rattle.listener_set.specs.Numbers.{is_in}
use Rattle.definitions.specs.Run.{Moment, Pattern}
use Rattle.kernel_model.specs.Pattern.{moment_at, is_masters, names_master}
use mathlib.Core.Bool.{true≢false}
use Rattle.definitions.specs.Claims.{names_any, refused_among}
use Rattle.call_laws.specs.Pieces.{executing_at, executing_after}
use Rattle.plan_executor.specs.Naming.{is_exit_of}

or_false : (b : Bool) {one other : Bool} → one ≡ other → (b || one) ≡ ((b || false) || other)
or_false true same = refl
or_false false same = same

-- an exit is looked at by one image
pub names_any-list_any : (image : ℕ) (es : List Name) → list_any (is_exit_of image) es ≡ names_any (image ∷ []) es
names_any-list_any image [] = refl
names_any-list_any image (name.Master i ∷ es) = or_false (nat_eq image i) (names_any-list_any image es)
names_any-list_any image (name.Worker g k ∷ es) = names_any-list_any image es
names_any-list_any image (name.Draining g k ∷ es) = names_any-list_any image es

pub nobody : (es : List Name) → names_any [] es ≡ false
nobody [] = refl
nobody (name.Master i ∷ es) = nobody es
nobody (name.Worker g k ∷ es) = nobody es
nobody (name.Draining g k ∷ es) = nobody es

-- a master is among some or among others
is_in-both : (images others : List ℕ) (i : ℕ) → is_in (images ++ others) i ≡ (is_in images i || is_in others i)
is_in-both [] others i = refl
is_in-both (image ∷ images) others i = one (nat_eq image i) _ _ _ (is_in-both images others i)
  where
    one : (b x y z : Bool) → x ≡ (y || z) → (b || x) ≡ ((b || y) || z)
    one true x y z same = refl
    one false x y z same = same

apart : (a b x y : Bool) → ((a || b) || (x || y)) ≡ ((a || x) || (b || y))
apart true b x y = refl
apart false true true y = refl
apart false true false y = refl
apart false false x y = refl

names_any-both : (images others : List ℕ) (es : List Name) → names_any (images ++ others) es ≡ (names_any images es || names_any others es)
names_any-both images others [] = refl
names_any-both images others (name.Master i ∷ es) =
    (λ j. is_in-both images others i j || names_any-both images others es j) ∙ apart (is_in images i) (is_in others i) (names_any images es) (names_any others es)
names_any-both images others (name.Worker g k ∷ es) = names_any-both images others es
names_any-both images others (name.Draining g k ∷ es) = names_any-both images others es

-- Where one leaves, its heir is looked at too.
pub names_any-at : (leaves : Bool) (images others : List ℕ) (es : List Name) →
    names_any (if leaves then images ++ others else images) es
    ≡ (names_any images es || (leaves && names_any others es))
names_any-at true images others es = names_any-both images others es
names_any-at false images others es = same (names_any images es)
  where
    same : (b : Bool) → b ≡ (b || false)
    same true = refl
    same false = refl

-- The entry at a place is looked at, and then those behind it.
pub looked : (executing heirs : List ℕ) (pattern : Pattern) (entries : List Entry) (place : ℕ) (e : Entry)
    (moment : Moment) (names : Bool) → place < length entries → e ≡ get_or entries place e →
    moment ≡ pattern (place + 1) → names_any (executing_at e.call executing heirs) moment.exits ≡ names →
    refused_among executing heirs pattern place (drop place entries)
    ≡ cond names (Some (place + 1))
    (refused_among (executing_after e.call executing heirs) heirs pattern (place + 1) (drop (place + 1) entries))
looked executing heirs pattern entries place e moment names lt is at found =
    let rest = drop (place + 1) entries in
    ap (refused_among executing heirs pattern place) (drop_more entries place e lt ∙ ap (λ x. x ∷ rest) (sym is))
    ∙ ap (λ b. cond b (Some (place + 1)) (refused_among (executing_after e.call executing heirs) heirs pattern (place + 1) rest))
    (ap (λ (m : Moment). names_any (executing_at e.call executing heirs) m.exits) (sym at) ∙ found)

---- Where no master is named

-- the exits of a moment
none-named : (images : List ℕ) (es : List Name) → list_any is_masters es ≡ false → names_any images es ≡ false
none-named images [] h = refl
none-named images (name.Master i ∷ es) h = absurd (true≢false h)
none-named images (name.Worker g k ∷ es) h = none-named images es h
none-named images (name.Draining g k ∷ es) h = none-named images es h

none-at : (images : List ℕ) (es : List (ℕ × Moment)) (n : ℕ) → names_master es ≡ false → names_any images (moment_at es n).exits ≡ false
none-at images [] n h = refl
none-at images (e ∷ es) n h = go (nat_eq e.0 n) (list_any is_masters e.1.exits) (none-named images e.1.exits) (none-at images es n) h
  where
    go : (same here : Bool) → (here ≡ false → names_any images e.1.exits ≡ false) →
        (names_master es ≡ false → names_any images (moment_at es n).exits ≡ false) →
        (here || names_master es) ≡ false → names_any images (cond same e.1 (moment_at es n)).exits ≡ false
    go same true here behind none = absurd (true≢false none)
    go true false here behind none = here refl
    go false false here behind none = behind none

-- nobody's exit is refused
pub unrefused : (executing heirs : List ℕ) (es : List (ℕ × Moment)) (n : ℕ) (entries : List Entry) →
    names_master es ≡ false → refused_among executing heirs (moment_at es) n entries ≡ None
unrefused executing heirs es n [] h = refl
unrefused executing heirs es n (e ∷ entries) h =
    ap (λ b. cond b (Some (n + 1)) (refused_among (executing_after e.call executing heirs) heirs (moment_at es) (n + 1) entries)) (none-at (executing_at e.call executing heirs) es (n + 1) h)
    ∙ unrefused (executing_after e.call executing heirs) heirs es (n + 1) entries h
