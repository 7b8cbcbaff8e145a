use Rattle.std.proofs.Common.{◌≡◌, ◌<◌, None, Result, Ok, Err, OnErr, length, map, refl, sym, ap, subst, ◌∙◌, arith}
use Rattle.std.specs.FinMap.{find, put}
use Rattle.std.proofs.lemmas.Result.{on_ok_weaker}
use Rattle.kernel_service.specs.declared.service.Served.{Served}
use Rattle.kernel_service.specs.Services.{Counts, Services, address_cmp, with_count, IsService}
use Rattle.kernel_service.specs.Served.{seen_count, seen_served}
use Rattle.kernel_service.proofs.Services.{service-put, counts-with, counts-found}
use Rattle.kernel_service.proofs.ServedPlaces.{served-kept, served-found, served-put, served-absent}
use Rattle.kernel_service.proofs.service.Service.add.Goals as goal
use Rattle.kernel_service.proofs.service.Service.add.Goals.{else-place-len-via-then-place-len+else-is_of, else-place-len-via-else-place-len}

on_err : {T E P : Type 0} (r : Result T E) → P → OnErr r P
on_err (Ok x) p = tt
on_err (Err e) p = p

pub invariant_of-self : goal.invariant_of-self
invariant_of-self c =
    let e = c.index_mut-entry.result.now in
    let new : Served = record { address = e.address; counts = c.set_given.new.counts } in
    let all = served-kept c.self.inside.entries.items c.place_of-place.result e new c.index_mut-entry.ensures.value refl (ap (map seen_count) c.in_err-set_given.ensures.err) in
    subst IsService (sym all) c.self.invariant

pub returns-in_err-set_given-clause-err : goal.returns-in_err-set_given-clause-err
returns-in_err-set_given-clause-err c =
    let e = c.index_mut-entry.result.now in
    let new : Served = record { address = e.address; counts = c.set_given.new.counts } in
    let all = served-kept c.self.inside.entries.items c.place_of-place.result e new c.index_mut-entry.ensures.value refl (ap (map seen_count) c.in_err-set_given.ensures.err) in
    on_err c.from_residual.result (all ∙ c.self.view_is)

pub invariant_of-self-then-is_of : goal.invariant_of-self-then-is_of
invariant_of-self-then-is_of c =
    let es = c.self.inside.entries.items in
    let k = c.place_of-place.result in
    let a = c.args.address.now in
    let e = c.index_mut-entry.result.now in
    let within : k < length es = omega (arith, c.deref.ensures.len, ap length c.deref.ensures.value) in
    let new : Served = record { address = e.address; counts = c.set_given.new.counts } in
    let old = served-found es _ k a c.place_of-place.ensures.place c.deref.ensures.value e c.index.result.now within c.index_mut-entry.ensures.value c.index.ensures (sym c.if-is_of.ensures) in
    let put_is = served-put es _ k a c.place_of-place.ensures.place c.deref.ensures.value e c.index.result.now within c.index_mut-entry.ensures.value c.index.ensures (sym c.if-is_of.ensures) new _ refl c.in_ok-set_given.ensures.ok in
    subst IsService (sym put_is) (service-put a _ (map seen_served es) c.self.invariant (counts-with c.args.count _ (counts-found a _ (map seen_served es) c.self.invariant old) c.requires))

pub returns-then-is_of-clause-ok : goal.returns-then-is_of-clause-ok
returns-then-is_of-clause-ok c =
    let es = c.self.inside.entries.items in
    let k = c.place_of-place.result in
    let a = c.args.address.now in
    let e = c.index_mut-entry.result.now in
    let within : k < length es = omega (arith, c.deref.ensures.len, ap length c.deref.ensures.value) in
    let new : Served = record { address = e.address; counts = c.set_given.new.counts } in
    let old = served-found es _ k a c.place_of-place.ensures.place c.deref.ensures.value e c.index.result.now within c.index_mut-entry.ensures.value c.index.ensures (sym c.if-is_of.ensures) in
    let put_is = served-put es _ k a c.place_of-place.ensures.place c.deref.ensures.value e c.index.result.now within c.index_mut-entry.ensures.value c.index.ensures (sym c.if-is_of.ensures) new _ refl c.in_ok-set_given.ensures.ok in
    rw (← c.self.view_is, old) put_is

pub insert-requires-clause-absent : goal.insert-requires-clause-absent
insert-requires-clause-absent c =
    let none = served-absent c.self.inside.entries.items _ c.place_of-place.result c.args.address.now c.place_of-place.ensures.place c.deref.ensures.value c.self.invariant (λ lt. elim c.else-place-len.branch [
      | else-place-len-via-then-place-len+else-is_of w ↦ (w.index.result.now, w.index.ensures, sym w.is_of.ensures ∙ w.if-is_of.false)
      | else-place-len-via-else-place-len w ↦ absurd (omega (arith, c.deref.ensures.len, ap length c.deref.ensures.value))
    ]) in
    subst (λ (s : Services). find address_cmp c.args.address.now s ≡ None) c.self.view_is none

pub returns-clause-ok : goal.returns-clause-ok
returns-clause-ok c =
    let a = c.args.address.now in
    let none = served-absent c.self.inside.entries.items _ c.place_of-place.result a c.place_of-place.ensures.place c.deref.ensures.value c.self.invariant (λ lt. elim c.else-place-len.branch [
      | else-place-len-via-then-place-len+else-is_of w ↦ (w.index.result.now, w.index.ensures, sym w.is_of.ensures ∙ w.if-is_of.false)
      | else-place-len-via-else-place-len w ↦ absurd (omega (arith, c.deref.ensures.len, ap length c.deref.ensures.value))
    ]) in
    let counts = c.in_ok-set_given-2.ensures.ok ∙ ap (λ xs. with_count c.args.count (map seen_count xs)) c.new-counts.ensures.items in
    let nowhere : find address_cmp a c.args.self.now ≡ None = subst (λ (s : Services). find address_cmp a s ≡ None) c.self.view_is none in
    rw nowhere (on_ok_weaker c.insert.result (λ p. p ∙ ap (λ (cs : Counts). put address_cmp a cs c.args.self.now) counts) c.insert.ensures.ok)
