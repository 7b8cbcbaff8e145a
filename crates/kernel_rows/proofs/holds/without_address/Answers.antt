use Rattle.std.proofs.Common.{◌≡◌, ℕ, ◌∷◌, [], ◌++◌, not, false, filter, bytes_eq, sym, ap, subst, ◌∙◌, append_assoc, append-nil, refl}
use Rattle.std.proofs.lemmas.List.Elements.{filter-append}
use Rattle.listener_set.specs.Numbers.{RisesFrom}
use Rattle.listener_set.specs.Descriptors.{descriptors_of}
use Rattle.definitions.specs.Table.{Hold}
use Rattle.call_laws.specs.Pieces.{is_at}
use Rattle.kernel_rows.specs.Holds.{address_of, seen_holds}
use Rattle.kernel_rows.proofs.Closing.{taken_out, seen-filter}
use Rattle.kernel_rows.proofs.holds.without_address.Goals as goal

pub loop-descriptor-preserved-then-is_at : goal.loop-descriptor-preserved-then-is_at
loop-descriptor-preserved-then-is_at c =
    let done = c.loop-descriptor.yielded in
    let rest = c.next.new.self in
    let p : ℕ × ℕ = (c.in-Some.descriptor, c.in-Some.socket) in
    let outside = λ (q : ℕ × ℕ). not (bytes_eq (address_of c.args.addresses.now q.1) c.args.address.now) in
    let turn : c.loop-descriptor.descriptor-iterator ≡ p ∷ rest = c.in-Some.ensures.steps in
    let whole : done ++ p ∷ rest ≡ c.args.holds.now = ap (λ xs. done ++ xs) (sym turn) ∙ c.loop-descriptor.invariant.split in
    let rising = subst (λ ps. RisesFrom 3 (descriptors_of ps)) (sym whole) c.iter-descriptor-items.ensures.descriptors.rising in
    let inside : outside p ≡ false = ap not (sym c.is_at.ensures ∙ c.if-is_at.true) in
    let front : filter outside (done ++ p ∷ []) ≡ filter outside done = filter-append outside done (p ∷ []) ∙ rw inside (append-nil (filter outside done)) in
    record {
      split = append_assoc done (p ∷ []) rest ∙ whole;
      rest =
          c.take.ensures.after ∙ rw (c.loop-descriptor.invariant.rest, turn) (taken_out outside done rest p 3 rising)
          ∙ ap (λ xs. xs ++ rest) (sym front);
    }

pub returns : goal.returns
returns c =
    let addresses = c.args.addresses.now in
    let a = c.args.address.now in
    let outside = λ (q : ℕ × ℕ). not (bytes_eq (address_of addresses q.1) a) in
    let ended : c.loop-descriptor.descriptor-iterator ≡ [] = c.in-None.ensures.steps.0 in
    let all : c.loop-descriptor.yielded ≡ c.args.holds.now = sym (append-nil c.loop-descriptor.yielded) ∙ ap (λ xs. c.loop-descriptor.yielded ++ xs) (sym ended) ∙ c.loop-descriptor.invariant.split in
    let left : c.loop-descriptor.rest ≡ filter outside c.args.holds.now = c.loop-descriptor.invariant.rest ∙ rw (ended, all) (append-nil (filter outside c.args.holds.now)) in
    ap (seen_holds addresses) left ∙ seen-filter addresses outside (λ (h : Hold). not (is_at a h)) (λ p. refl) c.args.holds.now
