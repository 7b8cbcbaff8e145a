-- A text is accepted where it is written by the grammar of addresses.
use Rattle.std.proofs.Common.{◌≡◌, ℕ, suc, ◌+◌, ◌^◌, ◌≤◌, ◌<◌, Bool, true, false, cond, ltb, eqb, nat_eq, List, [], ◌∷◌, ◌++◌, length, map, take, drop, Option, Some, None, Result, Ok, Err, refl, sym, ap, ◌∙◌, subst, arith, inl, inr, not, ◌==◌}
use Rattle.std.specs.Prelude.{◌↔◌, IsOk, is_ok}
use Rattle.std.specs.Fmt.{decimal}
use Rattle.std.specs.Str.{all_ascii_digits}
use Rattle.std.specs.Char.{is_ascii_digit, is_ascii_graphic}
use Rattle.std.specs.List.{All, AllPass, list_all, slice_split, join_with_byte, before_first, after_first, position_or_len}
use Rattle.std.proofs.lemmas.Bool.Decides.{nat_tests}
use Rattle.std.proofs.lemmas.Fmt.{decimal_nonempty}
use Rattle.std.proofs.lemmas.List.{length-append, length-drop, length-map, take_at}
use Rattle.std.proofs.Math.Seq.{drop-append-add}
use Rattle.std.proofs.lemmas.List.Elements.{All-nil, All-cons, All-head, All-tail, All-append, All-same}
use Rattle.std.proofs.lemmas.List.Splits.{join_with_byte-slice_split, slice_split_at, slice_split_none}
use Rattle.std.proofs.lemmas.List.Sums.{split_at_first, passes_at_first, AllPass-from_list_all, list_all-from_AllPass}
use Rattle.plain_text.specs.NumberText.{is_within}
use Rattle.listener_set.specs.AddressText.{is_dot, is_colon, is_host, path_check, dotted_check, bracketed_check, check, accepted, reading, IsDotted, IsBracketed, IsAddress}
use Rattle.listener_set.specs.declared.address.AddressRefusal.{AddressRefusal}
use Rattle.std.proofs.NetLemmas.Alphabet.{IsHexOrColon}
use Rattle.plain_text.proofs.CutTexts.{lacks, cut_at}
use Rattle.ipv6_text.proofs.HostTexts.{written_host, host_written, host_bytes}
use Rattle.plain_text.proofs.NumberTextLemmas.{both, decimal-is_within, is_within-decimal, digits-decimal}
use Rattle.listener_set.proofs.AddressLaws.{host_tests, dotted_tests, bracketed_tests, path_tests}

-- ---- an accepted text is written by the grammar
octets_of : (parts : List (List ℕ)) → list_all (is_within 0 255) parts ≡ true → (ns : List ℕ) × (parts ≡ map decimal ns) × All (λ n. n ≤ 255) ns × (length ns ≡ length parts)
octets_of [] h = ([], refl, All-nil (λ n. n ≤ 255), refl)
octets_of (part ∷ parts) h =
    let tests = both (is_within 0 255 part) (list_all (is_within 0 255) parts) h in
    let n = decimal-is_within 0 255 part tests.0 in
    let rest = octets_of parts tests.1 in
    (n.0 ∷ rest.0, (λ i. n.1 i ∷ rest.1 i), All-cons (λ n. n ≤ 255) n.0 rest.0 n.3 rest.2, ap suc rest.3)

within_nonempty : (least most : ℕ) (text : List ℕ) → is_within least most text ≡ true → 0 < length text
within_nonempty least most [] h = cc
within_nonempty least most (c ∷ cs) h = omega arith

colon_stands : (text : List ℕ) → is_within 1 65535 (after_first is_colon text) ≡ true → position_or_len is_colon text < length text
colon_stands text h =
    let some : 0 < length (after_first is_colon text) = within_nonempty 1 65535 _ h in
    omega (arith, some, length-drop (position_or_len is_colon text + 1) text)

byte_is : (c d : ℕ) → eqb c d ≡ true → c ≡ d
byte_is c d h = grind (arith, nat_tests)

dotted_written : (text : List ℕ) → dotted_check text ≡ Ok tt → IsDotted text
dotted_written text h =
    let tests = dotted_tests text h in
    let host = host_tests (before_first is_colon text) tests.0 in
    let octets = octets_of (slice_split is_dot (before_first is_colon text)) host.1 in
    let port = decimal-is_within 1 65535 (after_first is_colon text) tests.1 in
    let stands = colon_stands text tests.1 in
    record {
      octets = octets.0;
      port = port.0;
      four = octets.3 ∙ host.0;
      octets_fit = octets.2;
      port_fits = (port.2, port.3);
      written =
          split_at_first is_colon text 0 stands
          ∙ ap (λ c. before_first is_colon text ++ c ∷ after_first is_colon text) (byte_is _ 58 (passes_at_first is_colon text 0 stands))
          ∙ ap (λ port. before_first is_colon text ++ 58 ∷ port) port.1
          ∙ ap (λ host. host ++ 58 ∷ decimal port.0) (sym (join_with_byte-slice_split 46 (before_first is_colon text)) ∙ ap (join_with_byte 46) octets.1);
    }

bracketed_written : (text : List ℕ) → bracketed_check text ≡ Ok tt → IsBracketed (91 ∷ text)
bracketed_written text h =
    let tests = bracketed_tests text h in
    let port = decimal-is_within 1 65535 tests.1 tests.4 in
    record {
      host = tests.0;
      port = port.0;
      is_host = written_host tests.0 tests.3;
      port_fits = (port.2, port.3);
      written = ap (λ t. 91 ∷ t) (tests.2 ∙ ap (λ port. tests.0 ++ 93 ∷ 58 ∷ port) port.1);
    }

check_written : (text : List ℕ) → check text ≡ Ok tt → IsAddress text
check_written [] h = cc
check_written (c ∷ cs) h = at (eqb c 47) refl (eqb c 91) refl h
  where
    at : (is_slash : Bool) → eqb c 47 ≡ is_slash → (is_bracket : Bool) → eqb c 91 ≡ is_bracket → cond is_slash (path_check (c ∷ cs)) (cond is_bracket (bracketed_check cs) (dotted_check (c ∷ cs))) ≡ Ok tt → IsAddress (c ∷ cs)
    at true e is_bracket k h =
        let tests = path_tests (c ∷ cs) h in
        inr (inr (record { slash = ap Some (byte_is c 47 e); graphic = AllPass-from_list_all is_ascii_graphic (c ∷ cs) tests.1; fits = tests.0 }))
    at false e true k h = inr (inl (subst (λ d. IsBracketed (d ∷ cs)) (sym (byte_is c 91 k)) (bracketed_written cs h)))
    at false e false k h = inl (dotted_written (c ∷ cs) h)

-- ---- a text that is written by the grammar is accepted
module _ (p : ℕ → Bool) (b : Bool) (digits : (c : ℕ) → is_ascii_digit c ≡ true → p c ≡ b) where
  digits_all : (bs : List ℕ) → all_ascii_digits bs ≡ true → All (λ c. p c ≡ b) bs
  digits_all [] all = All-nil (λ c. p c ≡ b)
  digits_all (c ∷ cs) all =
      let tests = both (is_ascii_digit c) (all_ascii_digits cs) all in
      All-cons (λ c. p c ≡ b) c cs (digits c tests.0) (digits_all cs tests.1)

  pub decimal_all : (n : ℕ) → n < 2 ^ 64 → All (λ c. p c ≡ b) (decimal n)
  decimal_all n lt = digits_all (decimal n) (digits-decimal n lt)

  host_all : p 46 ≡ b → (ns : List ℕ) → All (λ n. n ≤ 255) ns → All (λ c. p c ≡ b) (join_with_byte 46 (map decimal ns))
  host_all dot [] fit = All-nil (λ c. p c ≡ b)
  host_all dot (n ∷ []) fit =
      let small : n ≤ 255 = All-head (λ n. n ≤ 255) n [] fit in
      decimal_all n (omega arith)
  host_all dot (n ∷ m ∷ ns) fit =
      let small : n ≤ 255 = All-head (λ n. n ≤ 255) n (m ∷ ns) fit in
      All-append (λ c. p c ≡ b) (decimal n) _ (decimal_all n (omega arith))
      (All-cons (λ c. p c ≡ b) 46 _ dot (host_all dot (m ∷ ns) (All-tail (λ n. n ≤ 255) n (m ∷ ns) fit)))

pub digit_apart : (d : ℕ) → is_ascii_digit d ≡ false → (c : ℕ) → is_ascii_digit c ≡ true → eqb c d ≡ false
digit_apart d off c on = at (eqb c d) refl
  where
    at : (b : Bool) → eqb c d ≡ b → b ≡ false
    at true e = let same : c ≡ d = byte_is c d e in let is : is_ascii_digit d ≡ true = ap is_ascii_digit (sym same) ∙ on in cc
    at false e = refl

parts_again : (n : ℕ) (ns : List ℕ) → All (λ k. k ≤ 255) (n ∷ ns) → slice_split is_dot (join_with_byte 46 (map decimal (n ∷ ns))) ≡ map decimal (n ∷ ns)
parts_again n [] fit =
    let small : n ≤ 255 = All-head (λ k. k ≤ 255) n [] fit in
    slice_split_none is_dot (decimal n) (decimal_all is_dot false (digit_apart 46 refl) n (omega arith))
parts_again n (m ∷ ns) fit =
    let small : n ≤ 255 = All-head (λ k. k ≤ 255) n (m ∷ ns) fit in
    slice_split_at is_dot (decimal n) 46 _ (decimal_all is_dot false (digit_apart 46 refl) n (omega arith)) refl
    ∙ ap (λ parts. decimal n ∷ parts) (parts_again m ns (All-tail (λ k. k ≤ 255) n (m ∷ ns) fit))

octets_within : (ns : List ℕ) → All (λ n. n ≤ 255) ns → list_all (is_within 0 255) (map decimal ns) ≡ true
octets_within [] fit = refl
octets_within (n ∷ ns) fit =
    let small : n ≤ 255 = All-head (λ k. k ≤ 255) n ns fit in
    rw (is_within-decimal 0 255 n (omega arith) small (omega arith)) (octets_within ns (All-tail (λ k. k ≤ 255) n ns fit))

host_accepted : (ns : List ℕ) → length ns ≡ 4 → All (λ n. n ≤ 255) ns → is_host (join_with_byte 46 (map decimal ns)) ≡ true
host_accepted [] four fit = absurd (omega arith)
host_accepted (n ∷ ns) four fit =
    rw (parts_again n ns fit)
    (let count : nat_eq (length (map decimal (n ∷ ns))) 4 ≡ true = (let same = length-map (n ∷ ns) decimal in grind (arith, nat_tests)) in
    rw count (octets_within (n ∷ ns) fit))

first_place : (p : ℕ → Bool) (xs : List ℕ) (y : ℕ) (ys : List ℕ) → All (λ x. p x ≡ false) xs → p y ≡ true → position_or_len p (xs ++ y ∷ ys) ≡ length xs
first_place p [] y ys none on = rw on refl
first_place p (x ∷ xs) y ys none on = rw (All-head (λ x. p x ≡ false) x xs none) (omega (arith, first_place p xs y ys (All-tail (λ x. p x ≡ false) x xs none) on))

pub before_first-at : (p : ℕ → Bool) (xs : List ℕ) (y : ℕ) (ys : List ℕ) → All (λ x. p x ≡ false) xs → p y ≡ true → before_first p (xs ++ y ∷ ys) ≡ xs
before_first-at p xs y ys none on = ap (λ n. take n (xs ++ y ∷ ys)) (first_place p xs y ys none on) ∙ take_at xs (y ∷ ys) (length xs) refl

pub after_first-at : (p : ℕ → Bool) (xs : List ℕ) (y : ℕ) (ys : List ℕ) → All (λ x. p x ≡ false) xs → p y ≡ true → after_first p (xs ++ y ∷ ys) ≡ ys
after_first-at p xs y ys none on = ap (λ n. drop (n + 1) (xs ++ y ∷ ys)) (first_place p xs y ys none on) ∙ drop-append-add xs (y ∷ ys) 1

dotted_accepted : (text : List ℕ) → IsDotted text → dotted_check text ≡ Ok tt
dotted_accepted text h =
    let host = join_with_byte 46 (map decimal h.octets) in
    let lacks = host_all is_colon false (digit_apart 58 refl) refl h.octets h.octets_fit in
    rw (
      h.written,
      before_first-at is_colon host 58 (decimal h.port) lacks refl,
      after_first-at is_colon host 58 (decimal h.port) lacks refl,
      host_accepted h.octets h.four h.octets_fit,
      is_within-decimal 1 65535 h.port h.port_fits.0 h.port_fits.1 (omega arith),
    ) refl

host_nonempty : (ns : List ℕ) → length ns ≡ 4 → All (λ n. n ≤ 255) ns → 0 < length (join_with_byte 46 (map decimal ns))
host_nonempty [] four fit = absurd (omega arith)
host_nonempty (n ∷ []) four fit = absurd (omega arith)
host_nonempty (n ∷ m ∷ ns) four fit =
    let small : n ≤ 255 = All-head (λ n. n ≤ 255) n (m ∷ ns) fit in
    omega (arith, decimal_nonempty n (omega arith), length-append (decimal n) (46 ∷ join_with_byte 46 (map decimal (m ∷ ns))))

is_dotted : (host rest : List ℕ) → 0 < length host → All (λ c. eqb c 47 ≡ false) host → All (λ c. eqb c 91 ≡ false) host → check (host ++ rest) ≡ dotted_check (host ++ rest)
is_dotted [] rest some no_slash no_bracket = absurd (omega arith)
is_dotted (c ∷ cs) rest some no_slash no_bracket = rw (All-head (λ c. eqb c 47 ≡ false) c cs no_slash, All-head (λ c. eqb c 91 ≡ false) c cs no_bracket) refl

-- ---- a host in brackets
hex_or_colon : (c : ℕ) → IsHexOrColon c → (not (c == 93) ≡ true) × (is_ascii_graphic c ≡ true)
hex_or_colon c (inl h) = (grind (arith, nat_tests), grind (arith, nat_tests))
hex_or_colon c (inr h) = (grind (arith, nat_tests), grind (arith, nat_tests))

host_lacks : (host : List ℕ) → All IsHexOrColon host → lacks 93 host ≡ true
host_lacks [] h = refl
host_lacks (c ∷ cs) h = rw ((hex_or_colon c (All-head IsHexOrColon c cs h)).0, host_lacks cs (All-tail IsHexOrColon c cs h)) refl

host_graphic : (host : List ℕ) → All IsHexOrColon host → All (λ c. is_ascii_graphic c ≡ true) host
host_graphic [] h = All-nil (λ c. is_ascii_graphic c ≡ true)
host_graphic (c ∷ cs) h =
    All-cons (λ c. is_ascii_graphic c ≡ true) c cs (hex_or_colon c (All-head IsHexOrColon c cs h)).1 (host_graphic cs (All-tail IsHexOrColon c cs h))

bracketed_accepted : (text : List ℕ) → IsBracketed text → check text ≡ Ok tt
bracketed_accepted text h =
    let host = cut_at 93 h.host (58 ∷ decimal h.port) (host_lacks h.host (host_bytes h.host h.is_host)) in
    rw (h.written, host, host_written h.host h.is_host, is_within-decimal 1 65535 h.port h.port_fits.0 h.port_fits.1 (omega arith)) refl

check_accepts : (text : List ℕ) → IsAddress text → check text ≡ Ok tt
check_accepts text (inl h) =
    let host = join_with_byte 46 (map decimal h.octets) in
    let apart : (c : ℕ) → is_ascii_digit c ≡ false → eqb 46 c ≡ false → All (λ d. eqb d c ≡ false) host = λ c off dot. host_all (λ d. eqb d c) false (digit_apart c off) dot h.octets h.octets_fit in
    ap check h.written
    ∙ is_dotted host (58 ∷ decimal h.port) (host_nonempty h.octets h.four h.octets_fit) (apart 47 refl refl) (apart 91 refl refl)
    ∙ ap dotted_check (sym h.written)
    ∙ dotted_accepted text h
check_accepts text (inr (inl h)) = bracketed_accepted text h
check_accepts [] (inr (inr h)) = let nothing : Option ℕ = None in let none : nothing ≡ Some 47 = h.slash in cc
check_accepts (c ∷ cs) (inr (inr h)) =
    let is : c ≡ 47 = (let e : Some c ≡ Some 47 = h.slash in cc) in
    let slash : eqb c 47 ≡ true = grind (arith, nat_tests) in
    let fits : length (c ∷ cs) ≤ 107 = h.fits in
    let short : ltb 107 (length (c ∷ cs)) ≡ false = grind (arith, nat_tests) in
    rw (slash, short, list_all-from_AllPass is_ascii_graphic (c ∷ cs) h.graphic) refl

pub grammar : (text : List ℕ) (r : Result (List ℕ) AddressRefusal) → r ≡ reading text → IsOk r ↔ IsAddress text
grammar text r e = (
  λ ok. check_written text (at (check text) (ap is_ok (sym e) ∙ ok)),
  λ is. ap is_ok (e ∙ ap (accepted text) (check_accepts text is)),
)
  where
    at : (o : Result (Unit {0}) AddressRefusal) → is_ok (accepted text o) ≡ true → o ≡ Ok tt
    at (Ok u) h = refl
    at (Err x) h = cc

-- ---- an address is graphic
digit_graphic : (c : ℕ) → is_ascii_digit c ≡ true → is_ascii_graphic c ≡ true
digit_graphic c h = grind (arith, nat_tests)

pub address_graphic : (text : List ℕ) → IsAddress text → AllPass is_ascii_graphic text
address_graphic text (inr (inr h)) = h.graphic
address_graphic text (inr (inl h)) =
    let port : h.port ≤ 65535 = h.port_fits.1 in
    let graphic : ℕ → Type 0 = λ c. is_ascii_graphic c ≡ true in
    All-same graphic text _ h.written
    (All-cons graphic 91 (h.host ++ 93 ∷ 58 ∷ decimal h.port) refl (All-append graphic h.host (93 ∷ 58 ∷ decimal h.port) (host_graphic h.host (host_bytes h.host h.is_host))
    (All-cons graphic 93 (58 ∷ decimal h.port) refl (All-cons graphic 58 (decimal h.port) refl (decimal_all is_ascii_graphic true digit_graphic h.port (omega arith))))))
address_graphic text (inl h) =
    let port : h.port ≤ 65535 = h.port_fits.1 in
    let graphic : ℕ → Type 0 = λ c. is_ascii_graphic c ≡ true in
    All-same graphic text _ h.written
    (All-append graphic _ _ (host_all is_ascii_graphic true digit_graphic refl h.octets h.octets_fit)
    (All-cons graphic 58 _ refl (decimal_all is_ascii_graphic true digit_graphic h.port (omega arith))))

pub graphic_from_reading : (text : List ℕ) → reading text ≡ Ok text → AllPass is_ascii_graphic text
graphic_from_reading text h = address_graphic text ((grammar text (reading text) refl).0 (ap is_ok h))
