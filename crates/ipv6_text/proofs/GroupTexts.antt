-- Groups as texts, and how long they are.
use Rattle.std.proofs.Common.{◌≡◌, ℕ, zero, suc, ◌+◌, ◌-◌, ◌*◌, ◌/◌, ◌%◌, ◌≤◌, ◌<◌, Bool, true, false, cond, nat_lt, List, [], ◌∷◌, ◌++◌, length, take, drop, flat_map, codes, refl, arith, IsTrue}
use Rattle.std.proofs.lemmas.List.{length-append, length-drop, length-take}
use Rattle.std.specs.Char.{digit_char}
use Rattle.std.specs.Net.Text.{leading_zero_digits, hex, groups_text, longest_zero_run, hex_groups_text}
use Rattle.ipv6_text.specs.Ipv6Text.{group_after}

pub length-hex : (n : ℕ) → length (hex n) ≤ 4
unfolding hex
length-hex n =
    let digits = digit_char (n / 0x1000) ∷ digit_char (n / 0x100 % 16) ∷ digit_char (n / 0x10 % 16) ∷ digit_char (n % 16) ∷ [] in
    omega (arith, length-drop (leading_zero_digits n) digits)

-- what is left of four digits goes to their end
pub to_the_end : (k a b c d : ℕ) → k < 4 → take (4 - k) (drop k (a ∷ b ∷ c ∷ d ∷ [])) ≡ drop k (a ∷ b ∷ c ∷ d ∷ [])
to_the_end zero a b c d lt = refl
to_the_end (suc zero) a b c d lt = refl
to_the_end (suc (suc zero)) a b c d lt = refl
to_the_end (suc (suc (suc zero))) a b c d lt = refl
to_the_end (suc (suc (suc (suc k)))) a b c d lt = absurd (omega arith)

-- what fits is put behind
pub put_behind : (old bytes new : List ℕ) (is_put : Bool) → length old + length bytes ≤ 4096 → (IsTrue is_put → length old + length bytes ≤ 4096) × (length old + length bytes ≤ 4096 → IsTrue is_put) → new ≡ cond is_put (old ++ bytes) old → new ≡ old ++ bytes
put_behind old bytes new true fits told e = e
put_behind old bytes new false fits told e = let is : false ≡ true = told.1 fits in cc

-- ---- how long a host is
length-more : (groups : List ℕ) → length (flat_map group_after groups) ≤ 5 * length groups
length-more [] = omega arith
length-more (group ∷ groups) =
    omega (arith, length-more groups, length-hex group, length-append (group_after group) (flat_map group_after groups))

length-groups : (groups : List ℕ) → length (groups_text groups) ≤ 5 * length groups
length-groups [] = omega arith
length-groups (group ∷ groups) =
    omega (arith, length-more groups, length-hex group, length-append (hex group) (flat_map group_after groups))

pub length-host : (groups : List ℕ) → length (hex_groups_text groups) ≤ 5 * length groups + 2
unfolding hex_groups_text
length-host groups = at (longest_zero_run groups).0 ((longest_zero_run groups).0 + (longest_zero_run groups).1) (omega arith) (nat_lt 1 (longest_zero_run groups).1)
  where
    at : (start end : ℕ) → start ≤ end → (b : Bool) → length (cond b (groups_text (take start groups) ++ codes "::" ++ groups_text (drop end groups)) (groups_text groups)) ≤ 5 * length groups + 2
    at start end le true =
        let front = length-groups (take start groups) in
        let back = length-groups (drop end groups) in
        omega (arith, le, front, back, length-take start groups, length-drop end groups, length-append (groups_text (take start groups)) (codes "::"), length-append (groups_text (take start groups) ++ codes "::") (groups_text (drop end groups)))
    at start end le false = omega (arith, length-groups groups)
