use Rattle.std.proofs.Common.{◌≡◌, ℕ, List, length, take, drop, Option, Some, None, true, false, nat_eq, ap, ◌∙◌, sym, Bor}
use Rattle.std.specs.Prelude.{MatchOption, ◌+◌}
use Rattle.std.specs.Cmp.Lexicographic.{pointwise}
use Rattle.plain_text.specs.Cuts.{after_prefix as following}
use Rattle.plain_text.proofs.Prefixes.{prefix_cut, prefix_missing}
use Rattle.plain_text.proofs.cuts.after_prefix.Goals as goal

found : (s p : List ℕ) (r : Option (Bor (List ℕ))) → MatchOption r (pointwise nat_eq (take (length p) s) p ≡ false) (λ x. (pointwise nat_eq (take (length p) s) p ≡ true) × (x.now ≡ drop (length p) s) × (length x.now + length p ≡ length s)) → MatchOption r (following p s ≡ None) (λ rest. following p s ≡ Some rest.now)
found s p None h = prefix_missing p s h
found s p (Some x) h = prefix_cut p s h.0 ∙ ap Some (sym h.1)

pub returns : goal.returns
returns c = found c.args.text.now c.args.prefix.now c.strip_prefix.result c.strip_prefix.ensures.cases
