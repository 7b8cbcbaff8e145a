-- An accepted text fits.
use Rattle.std.proofs.Common.{◌≡◌, ℕ, ◌+◌, ◌*◌, ◌≤◌, Bool, true, false, cond, ltb, eqb, nat_eq, List, [], ◌∷◌, ◌++◌, length, Option, Some, None, Result, Ok, Err, refl, sym, ap, ◌∙◌, arith}
use Rattle.std.specs.List.{list_all, slice_split, join_with_byte, before_first, after_first, position_or_len}
use Rattle.std.proofs.lemmas.List.Splits.{join_with_byte-slice_split}
use Rattle.std.proofs.lemmas.List.{length-take, length-drop, length-append}
use Rattle.std.specs.Char.{is_ascii_graphic}
use Rattle.std.proofs.lemmas.Bool.Decides.{nat_tests}
use Rattle.plain_text.specs.NumberText.{is_within}
use Rattle.listener_set.specs.AddressText.{is_dot, is_colon, is_host, path_check, port_check, dotted_check, port_after, host_and_port, bracketed_check, check}
use Rattle.plain_text.specs.Cuts.{cut}
use Rattle.plain_text.proofs.CutTexts.{cut_found}
use Rattle.ipv6_text.specs.Ipv6Text.{is_ipv6_host}
use Rattle.ipv6_text.proofs.HostTexts.{written_host}
use Rattle.ipv6_text.proofs.GroupTexts.{length-host as length-ipv6}
use Rattle.plain_text.proofs.NumberTextLemmas.{both, length-within}

length-join : (c : ℕ) (parts : List (List ℕ)) → list_all (is_within 0 255) parts ≡ true → length (join_with_byte c parts) ≤ 4 * length parts
length-join c [] all = omega arith
length-join c (x ∷ []) all =
    let split = both (is_within 0 255 x) _ all in
    let short : length x ≤ 3 = length-within 3 0 255 x (omega arith) (omega arith) split.0 in
    omega arith
length-join c (x ∷ y ∷ xs) all =
    let split = both (is_within 0 255 x) (list_all (is_within 0 255) (y ∷ xs)) all in
    let short : length x ≤ 3 = length-within 3 0 255 x (omega arith) (omega arith) split.0 in
    let rest : length (join_with_byte c (y ∷ xs)) ≤ 4 * length (y ∷ xs) = length-join c (y ∷ xs) split.1 in
    omega (arith, length-append x (c ∷ join_with_byte c (y ∷ xs)))

-- the two tests of a host
pub host_tests : (host : List ℕ) → is_host host ≡ true → (length (slice_split is_dot host) ≡ 4) × (list_all (is_within 0 255) (slice_split is_dot host) ≡ true)
host_tests host h =
    let split = both (nat_eq (length (slice_split is_dot host)) 4) (list_all (is_within 0 255) (slice_split is_dot host)) h in
    let count : nat_eq (length (slice_split is_dot host)) 4 ≡ true = split.0 in
    (grind (arith, nat_tests), split.1)

length-host : (host : List ℕ) → is_host host ≡ true → length host ≤ 16
length-host host h =
    let tests = host_tests host h in
    let four : length (slice_split is_dot host) ≡ 4 = tests.0 in
    let le : length (join_with_byte 46 (slice_split is_dot host)) ≤ 4 * length (slice_split is_dot host) = length-join 46 (slice_split is_dot host) tests.1 in
    omega (arith, le, four, ap length (join_with_byte-slice_split 46 host))

-- a test that chose Ok
chosen_ok : {E : Type 0} (b : Bool) (x : Result (Unit {0}) E) (e : E) → cond b x (Err e) ≡ Ok tt → (b ≡ true) × (x ≡ Ok tt)
chosen_ok true x e h = (refl, h)
chosen_ok false x e h = cc

refused_or_ok : {E : Type 0} (b : Bool) (x : Result (Unit {0}) E) (e : E) → cond b (Err e) x ≡ Ok tt → (b ≡ false) × (x ≡ Ok tt)
refused_or_ok true x e h = cc
refused_or_ok false x e h = (refl, h)

pub port_tests : (port : List ℕ) → port_check port ≡ Ok tt → is_within 1 65535 port ≡ true
port_tests port h = (chosen_ok (is_within 1 65535 port) _ _ h).0

pub dotted_tests : (text : List ℕ) → dotted_check text ≡ Ok tt → (is_host (before_first is_colon text) ≡ true) × (is_within 1 65535 (after_first is_colon text) ≡ true)
dotted_tests text h =
    let host = chosen_ok (is_host (before_first is_colon text)) _ _ h in
    (host.0, port_tests (after_first is_colon text) host.1)

-- a host in brackets, a colon and a port
pub port_after_tests : (text : List ℕ) → port_after text ≡ Ok tt → (port : List ℕ) × (text ≡ 58 ∷ port) × (is_within 1 65535 port ≡ true)
port_after_tests [] h = cc
port_after_tests (c ∷ port) h =
    let tests = chosen_ok (eqb c 58) _ _ h in
    let colon : eqb c 58 ≡ true = tests.0 in
    let is : c ≡ 58 = grind (arith, nat_tests) in
    (port, ap (λ d. d ∷ port) is, port_tests port tests.1)

pub bracketed_tests : (text : List ℕ) → bracketed_check text ≡ Ok tt → (host port : List ℕ) × (text ≡ host ++ 93 ∷ 58 ∷ port) × (is_ipv6_host host ≡ true) × (is_within 1 65535 port ≡ true)
bracketed_tests text h = at (cut 93 text) refl h
  where
    at : (o : Option (List ℕ × List ℕ)) → cut 93 text ≡ o → host_and_port o ≡ Ok tt → (host port : List ℕ) × (text ≡ host ++ 93 ∷ 58 ∷ port) × (is_ipv6_host host ≡ true) × (is_within 1 65535 port ≡ true)
    at None e h = cc
    at (Some parts) e h =
        let host = chosen_ok (is_ipv6_host parts.0) _ _ h in
        let port = port_after_tests parts.1 host.1 in
        (parts.0, port.0, cut_found 93 text parts e ∙ ap (λ rest. parts.0 ++ 93 ∷ rest) port.1, host.0, port.2)

bracketed_fits : (text : List ℕ) → bracketed_check text ≡ Ok tt → length text ≤ 106
bracketed_fits text h =
    let tests = bracketed_tests text h in
    let host = written_host tests.0 tests.3 in
    let short = length-ipv6 host.groups in
    let port : length tests.1 ≤ 5 = length-within 5 1 65535 tests.1 (omega arith) (omega arith) tests.4 in
    omega (arith, short, host.eight, ap length host.written, ap length tests.2, port, length-append tests.0 (93 ∷ 58 ∷ tests.1))

dotted_fits : (text : List ℕ) → dotted_check text ≡ Ok tt → length text ≤ 107
dotted_fits text h =
    let tests = dotted_tests text h in
    let front : length (before_first is_colon text) ≤ 16 = length-host _ tests.0 in
    let back : length (after_first is_colon text) ≤ 5 = length-within 5 1 65535 _ (omega arith) (omega arith) tests.1 in
    omega (arith, front, back, length-take (position_or_len is_colon text) text, length-drop (position_or_len is_colon text + 1) text)

pub path_tests : (text : List ℕ) → path_check text ≡ Ok tt → (length text ≤ 107) × (list_all is_ascii_graphic text ≡ true)
path_tests text h =
    let first = refused_or_ok (ltb 107 (length text)) _ _ h in
    let short : ltb 107 (length text) ≡ false = first.0 in
    (grind (arith, nat_tests), (chosen_ok (list_all is_ascii_graphic text) _ _ first.1).0)

pub fits_from_check : (text : List ℕ) → check text ≡ Ok tt → length text ≤ 107
fits_from_check [] h = omega arith
fits_from_check (c ∷ cs) h = at (eqb c 47) (eqb c 91) h
  where
    at : (is_slash is_bracket : Bool) → cond is_slash (path_check (c ∷ cs)) (cond is_bracket (bracketed_check cs) (dotted_check (c ∷ cs))) ≡ Ok tt → length (c ∷ cs) ≤ 107
    at true is_bracket h = (path_tests (c ∷ cs) h).0
    at false true h = omega (arith, bracketed_fits cs h)
    at false false h = dotted_fits (c ∷ cs) h
