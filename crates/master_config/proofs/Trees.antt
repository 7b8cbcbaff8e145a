-- The tree of a text, beside the values that stand for it.
use Rattle.std.proofs.Common.{◌≡◌, ℕ, length, Bool, ◌&&◌, List, [], ◌∷◌, map, String, Global, string_bytes, refl, sym, ◌∙◌, ap}
use Rattle.std.specs.List.{list_all}
use Rattle.std.specs.Map.{keys_of}
use Rattle.std.proofs.lemmas.List.{length-map}
use Rattle.std.proofs.lemmas.List.Folds.{list_all-map}
use Rattle.toml.specs.Data.{Data}
use Rattle.toml.specs.View.{view, items_of, items_view, members_view}
use Rattle.toml.specs.declared.value.Value.{Value}
use Rattle.master_config.specs.Values.{data_of, text_of, texts_of, has_only}

pub data_of-items_of : (ds : List Data) → data_of (items_of ds) ≡ ds
data_of-items_of [] = refl
data_of-items_of (d ∷ ds) = ap (λ es. d ∷ es) (data_of-items_of ds)

-- a test of each item
pub list_all-items_view : (p : Data → Bool) (vs : List Value) → list_all (λ v. p (view v)) vs ≡ list_all p (data_of (items_view vs))
list_all-items_view p vs = sym (list_all-map p view vs) ∙ ap (list_all p) (sym (data_of-items_of (map view vs)))

-- a test of each key
pub list_all-keys : (p : List ℕ → Bool) (es : List (String Global × Value)) → list_all (λ k. p (string_bytes k)) (keys_of es) ≡ has_only p (members_view es)
list_all-keys p [] = refl
list_all-keys p (e ∷ es) = ap (λ b. p (string_bytes e.0) && b) (list_all-keys p es)

-- the texts of items
pub texts_of-items_view : (vs : List Value) → texts_of (items_view vs) ≡ map (λ v. text_of (view v)) vs
texts_of-items_view [] = refl
texts_of-items_view (v ∷ vs) = ap (λ ts. text_of (view v) ∷ ts) (texts_of-items_view vs)

-- how many there are
pub length-data_of : (vs : List Value) → length (data_of (items_view vs)) ≡ length vs
length-data_of vs = ap length (data_of-items_of (map view vs)) ∙ length-map vs view

pub length-texts_of : (vs : List Value) → length (texts_of (items_view vs)) ≡ length vs
length-texts_of vs = ap length (texts_of-items_view vs) ∙ length-map vs (λ v. text_of (view v))

pub list_all-texts_of : (p : List ℕ → Bool) (vs : List Value) → list_all (λ v. p (text_of (view v))) vs ≡ list_all p (texts_of (items_view vs))
list_all-texts_of p vs = sym (list_all-map p (λ v. text_of (view v)) vs) ∙ ap (list_all p) (sym (texts_of-items_view vs))
