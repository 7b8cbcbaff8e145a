-- A handover that suits its reader.
use Rattle.std.proofs.Common.{◌≡◌, ◌↔◌, ℕ, Bool, true, false, ◌&&◌, nat_eq, List, [], ◌∷◌, map, Some, refl, sym, ap, ◌∙◌, arith}
use Rattle.std.specs.Prelude.{bytes_eq}
use Rattle.std.proofs.lemmas.Bool.{false≢true}
use Rattle.std.proofs.lemmas.Bool.Decides.{nat_tests}
use Rattle.std.proofs.lemmas.Slice.Eq.{bytes_eq-Decides}
use Rattle.vocabulary.specs.declared.table.Listener.{Listener}
use Rattle.definitions.specs.Table.{Hold}
use Rattle.call_laws.specs.Pieces.{listener_of}
use Rattle.definitions.specs.Calls.{Handover, are_listeners, suits}
use Rattle.kernel_model.proofs.CallSteps.{and-both}

all-listed : (ls : List Listener) (hs : List Hold) → are_listeners ls hs ≡ true → map listener_of hs ≡ ls
all-listed [] [] e = refl
all-listed [] (h ∷ hs) e = absurd (false≢true e)
all-listed (l ∷ ls) [] e = absurd (false≢true e)
all-listed (l ∷ ls) (h ∷ hs) e =
    let parts = and-both (nat_eq l.descriptor h.fd) (bytes_eq l.address h.address && are_listeners ls hs) e in
    let rest = and-both (bytes_eq l.address h.address) (are_listeners ls hs) parts.1 in
    let same = parts.0 in
    let fd : h.fd ≡ l.descriptor = grind (arith, nat_tests) in
    let address = sym ((bytes_eq-Decides l.address h.address).0 rest.0) in
    let first : listener_of h ≡ l = (λ i. record { descriptor = fd i; address = address i }) in
    let more = all-listed ls hs rest.1 in
    (λ i. first i ∷ more i)

listed-again : (hs : List Hold) → are_listeners (map listener_of hs) hs ≡ true
listed-again [] = refl
listed-again (h ∷ hs) =
    let fd : nat_eq h.fd h.fd ≡ true = grind (arith, nat_tests) in
    let address = (bytes_eq-Decides h.address h.address).1 refl in
    rw (fd, address) (listed-again hs)

alike : (a b : Bool) → (a ≡ true → b ≡ true) → (b ≡ true → a ≡ true) → a ≡ b
alike true b f g = sym (f refl)
alike false true f g = absurd (false≢true (g refl))
alike false false f g = refl

-- the handover of the image suits where its listeners are the holds
pub suits-image : (h : Handover) (image : ℕ) (hs : List Hold) (b : Bool) → h.generation.image ≡ image →
    (b ≡ true) ↔ (map listener_of hs ≡ h.listeners) → b ≡ suits (Some h) image hs
suits-image h image hs b same is =
    let own : nat_eq h.generation.image image ≡ true = grind (arith, nat_tests) in
    alike b (are_listeners h.listeners hs) (λ t. ap (λ ls. are_listeners ls hs) (sym (is.0 t)) ∙ listed-again hs) (λ t. is.1 (all-listed h.listeners hs t))
    ∙ sym (ap (λ c. c && are_listeners h.listeners hs) own)
