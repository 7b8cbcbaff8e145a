-- A text is accepted where it is written by the grammar of IPv6 hosts.
use Rattle.std.proofs.Common.{◌≡◌, ℕ, zero, suc, ◌+◌, ◌-◌, ◌*◌, ◌^◌, ◌<◌, ◌≤◌, Bool, true, false, not, List, [], ◌∷◌, ◌++◌, length, get_or, replicate, Option, Some, None, refl, sym, ap, ◌∙◌, subst, arith, inl, inr, IsTrue, lit≤, append-nil, ne_eqb}
use Rattle.std.specs.Prelude.{◌↔◌, ◌&&◌, bytes_eq, take}
use Rattle.std.specs.List.{All}
use Rattle.std.specs.Net.Addr.{segments_of}
use Rattle.std.specs.Net.Grammar.{IsGroup, IsGroupsAfter, IsColonHex, IsIpv6Text}
use Rattle.std.specs.Net.Reader.{read_ipv6, whole_value}
use Rattle.std.specs.Net.Text.{hex_groups_text}
use Rattle.std.specs.declared.net.ipv6_addr.Ipv6Addr.{Ipv6Addr}
use Rattle.std.proofs.lemmas.Bool.{false_from_ne_true}
use Rattle.std.proofs.lemmas.Option.{none-some}
use Rattle.std.proofs.lemmas.List.{length-append, length-replicate}
use Rattle.std.proofs.lemmas.List.Elements.{All-nil, All-cons, All-head, All-tail, All-append, All-same}
use Rattle.std.proofs.lemmas.Int.Digits.{digits_value-lt}
use Rattle.std.proofs.lemmas.Slice.Eq.{bytes_eq-Decides}
use Rattle.std.proofs.Math.Nat.{pow-le-pow_right}
use Rattle.std.proofs.NetLemmas.Ipv6.{read_ipv6_sound, read_ipv6_complete, EndsGroups-nil}
use Rattle.std.proofs.NetLemmas.Texts.{AllSegments, IsColonHex-hex_groups_text}
use Rattle.std.proofs.NetLemmas.Alphabet.{IsHexOrColon, All-hex_groups_text}
use Rattle.ipv6_text.specs.Ipv6Text.{IsIpv6Host, is_mapped, is_written, is_ipv6_host}

-- ---- groups that a text spells have 16 bits
abbrev Fits16 : ℕ → Type 0
Fits16 group = group < 2 ^ 16

group_fits : (text : List ℕ) (group : ℕ) → IsGroup text group → Fits16 group
group_fits text group h =
    let below = digits_value-lt 16 text h.0.0.1 in
    let most : 16 ^ length text ≤ 16 ^ 4 = pow-le-pow_right (lit≤ tt) h.1 in
    omega (arith, h.0.1)

groups_fit : (ipv4 : Bool) (lead text groups : List ℕ) → IsGroupsAfter ipv4 lead text groups → All Fits16 groups
groups_fit ipv4 lead text [] h = All-nil Fits16
groups_fit ipv4 lead text (group ∷ groups) (inl h) =
    All-cons Fits16 group groups (group_fits h.0 group h.3) (groups_fit ipv4 (58 ∷ []) h.1 groups h.4)
groups_fit ipv4 lead text (group ∷ groups) (inr h) =
    let dotted = h.4 in
    let fit = dotted.fit in
    All-same Fits16 (group ∷ groups) _ (h.5 ∙ ap segments_of dotted.value)
    (All-cons Fits16 (dotted.a * 256 + dotted.b) ((dotted.c * 256 + dotted.d) ∷ []) (omega (arith, fit.0, fit.1))
    (All-cons Fits16 (dotted.c * 256 + dotted.d) [] (omega (arith, fit.2, fit.3)) (All-nil Fits16)))

zeros_fit : (n : ℕ) → All Fits16 (replicate n 0)
zeros_fit zero = All-nil Fits16
zeros_fit (suc n) = All-cons Fits16 0 (replicate n 0) (lit≤ tt) (zeros_fit n)

spelled_fit : (text groups : List ℕ) → IsColonHex text groups → (length groups ≡ 8) × All Fits16 groups
spelled_fit text groups (inl h) = (h.1, groups_fit true [] text groups h.0)
spelled_fit text groups (inr h) =
    let gap = 8 - length h.head - length h.tail in
    let zeros : List ℕ = replicate gap 0 in
    let all = All-append Fits16 (h.head ++ zeros) h.tail
    (All-append Fits16 h.head zeros (groups_fit false [] h.head_text h.head h.head_groups) (zeros_fit gap))
    (groups_fit true [] h.tail_text h.tail h.tail_groups) in
    let room = h.room in
    (omega (arith, room, ap length h.value, length-append (h.head ++ zeros) h.tail, length-append h.head zeros, length-replicate {A = ℕ} gap 0), All-same Fits16 groups _ h.value all)

pub each_fits : (groups : List ℕ) → All Fits16 groups → AllSegments groups
each_fits [] h k = omega arith
each_fits (group ∷ groups) h k =
    let later = each_fits groups (All-tail Fits16 group groups h) in
    elim k as (λ j. get_or (group ∷ groups) j 0 < 2 ^ 16) [ zero ↦ All-head Fits16 group groups h | suc j ↦ later j ]

-- ---- what the reader finds
pub read_of : (text groups : List ℕ) → IsColonHex text groups → whole_value (read_ipv6 text) ≡ Some groups
read_of text groups h =
    let read : read_ipv6 text ≡ Some (groups, []) = rw append-nil at (read_ipv6_complete text groups [] h EndsGroups-nil) in
    ap whole_value read

pub found_in : (text groups : List ℕ) → whole_value (read_ipv6 text) ≡ Some groups → IsColonHex text groups
found_in text groups e = at (read_ipv6 text) refl e
  where
    at : (o : Option (List ℕ × List ℕ)) → read_ipv6 text ≡ o → whole_value o ≡ Some groups → IsColonHex text groups
    at None r e = absurd (none-some groups e)
    at (Some (found, [])) r e =
        let h = read_ipv6_sound text found [] r in
        let same : found ≡ groups = cc in
        let whole : text ≡ h.0 = h.1 ∙ append-nil h.0 in
        subst (λ t. IsColonHex t groups) (sym whole) (subst (λ g. IsColonHex h.0 g) same h.2)
    at (Some (found, c ∷ cs)) r e =
        let nothing : None ≡ Some groups = rw (ne_eqb (length (c ∷ cs)) 0 (omega arith)) at e in
        absurd (none-some groups nothing)

pub unread : (text : List ℕ) → ((a : Ipv6Addr) → IsIpv6Text text a → ⊥) → whole_value (read_ipv6 text) ≡ None
unread text none = at (whole_value (read_ipv6 text)) refl
  where
    at : (o : Option (List ℕ)) → whole_value (read_ipv6 text) ≡ o → o ≡ None
    at None e = refl
    at (Some groups) e = absurd (none (record { segments = groups }) (found_in text groups e))

-- ---- the tests
both : (a b : Bool) → (a && b) ≡ true → (a ≡ true) × (b ≡ true)
both true b h = (refl, h)
both false b h = cc

pub written_host : (text : List ℕ) → is_ipv6_host text ≡ true → IsIpv6Host text
written_host text h = at (whole_value (read_ipv6 text)) refl h
  where
    at : (o : Option (List ℕ)) → whole_value (read_ipv6 text) ≡ o → is_written text o ≡ true → IsIpv6Host text
    at None e h = cc
    at (Some groups) e h =
        let tests = both (not (is_mapped groups)) (bytes_eq (hex_groups_text groups) text) h in
        let fit = spelled_fit text groups (found_in text groups e) in
        record {
          groups = groups;
          eight = fit.0;
          fit = fit.1;
          own = λ is. absurd (let mapped : is_mapped groups ≡ true = (bytes_eq-Decides (take 6 groups) _).1 is in cc);
          written = sym ((bytes_eq-Decides (hex_groups_text groups) text).0 tests.1);
        }

pub host_written : (text : List ℕ) → IsIpv6Host text → is_ipv6_host text ≡ true
host_written text h =
    let spelled = IsColonHex-hex_groups_text h.groups h.eight (each_fits h.groups h.fit) in
    let own : is_mapped h.groups ≡ false = false_from_ne_true (is_mapped h.groups) (λ mapped. h.own ((bytes_eq-Decides (take 6 h.groups) _).0 mapped)) in
    let same : bytes_eq (hex_groups_text h.groups) (hex_groups_text h.groups) ≡ true = (bytes_eq-Decides (hex_groups_text h.groups) _).1 refl in
    rw (h.written, read_of (hex_groups_text h.groups) h.groups spelled, own, same) refl

pub grammar : (text : List ℕ) (b : Bool) → b ≡ is_ipv6_host text → IsTrue b ↔ IsIpv6Host text
grammar text b e = (λ is. written_host text (sym e ∙ is), λ h. e ∙ host_written text h)

-- ---- the bytes of a host
pub host_bytes : (text : List ℕ) → IsIpv6Host text → All IsHexOrColon text
host_bytes text h = All-same IsHexOrColon text _ h.written (All-hex_groups_text h.groups (each_fits h.groups h.fit))
