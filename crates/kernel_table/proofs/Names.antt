-- What is known of names stays true of the same table, and where one row leaves.
use Rattle.std.proofs.Common.{◌≡◌, ℕ, Bool, true, false, List, [], get_or, Option, Some, None, sym, ap, subst, ◌∙◌, arith}
use Rattle.std.specs.Prelude.{IfSome}
use Rattle.std.specs.List.{filter_map, list_any, remove, slice_get}
use Rattle.definitions.specs.Table.{Process, Table, is_active, is_worker}
use Rattle.call_laws.specs.Pieces.{is_any}
use Rattle.definitions.specs.Calls.{drop_where}
use Rattle.kernel_table.specs.declared.lone_names.LoneNames.{LoneNames}
use Rattle.kernel_rows.specs.declared.process.Holder.{Holder}
use Rattle.kernel_rows.specs.declared.process.Row.TheVariants.{Foreign}
use Rattle.kernel_rows.specs.declared.process.WorkerName.{WorkerName}
use Rattle.kernel_table.specs.declared.store.Store.{Store}
use Rattle.kernel_table.specs.Free.{AreFree}
use Rattle.kernel_table.specs.Lone.{AreLone}
use Rattle.kernel_table.specs.Names.{KnowsNames, IsLoneAt}
use Rattle.kernel_rows.specs.Places.{is_worker_row}
use Rattle.kernel_rows.specs.Seen.{seen_holder, seen_rows}
use Rattle.kernel_table.specs.Seen.{seen}
use Rattle.kernel_rows.proofs.Bearing.{borne-at}
use Rattle.kernel_rows.proofs.Lists.{list_any-map}
use Rattle.kernel_rows.proofs.Lone.{any-at}
use Rattle.kernel_table.proofs.Leaving.{dropped-count, removed-one, lone-inactive, active-any}

module _ (s s' : Store) (table : seen s' ≡ seen s) (free : s'.free ≡ s.free) (known : KnowsNames s) where
  still-free : AreFree s'.free (seen s').rows
  still-free = subst (λ (t : Table). AreFree s'.free t.rows) (sym table) (subst (λ f. AreFree f (seen s).rows) (sym free) known.free)

  pub KnowsNames-same : s'.lone ≡ s.lone → KnowsNames s'
  KnowsNames-same lone = record {
    free = still-free;
    lone = subst (λ (t : Table). IfSome s'.lone (λ l. AreLone l t.rows)) (sym table) (subst (λ o. IfSome o (λ l. AreLone l (seen s).rows)) (sym lone) known.lone);
  }

  pub KnowsNames-copied : s'.lone ≡ None → KnowsNames s'
  KnowsNames-copied none = record { free = still-free; lone = subst (λ o. IfSome o (λ l. AreLone l (seen s').rows)) (sym none) tt }

AreLone-dropped : (lone : LoneNames) (test : Process → Bool) (rows : List Process) → AreLone lone rows → AreLone lone (filter_map (drop_where test) rows)
AreLone-dropped lone test rows known k small off =
    let most = known k small off in
    let less = dropped-count test (is_worker is_any lone.parent lone.generation k) rows in
    omega (arith, most, less)

pub lone-dropped : (o : Option LoneNames) (test : Process → Bool) (rows : List Process) →
    IfSome o (λ l. AreLone l rows) → IfSome o (λ l. AreLone l (filter_map (drop_where test) rows))
lone-dropped None test rows known = tt
lone-dropped (Some lone) test rows known = AreLone-dropped lone test rows known

-- the rows once the only worker of a name is taken out
pub row-out : (s : Store) (name : WorkerName) (place : ℕ) (items : List Holder) → items ≡ remove s.holders.items place →
    IsLoneAt s name place → seen_rows s.addresses.items items
    ≡ filter_map (drop_where (is_worker is_any name.parent name.generation name.nr)) (seen s).rows
row-out s name place items taken lone =
    let d : Holder = record { row = Foreign 0; holds = [] } in
    ap (seen_rows s.addresses.items) taken
    ∙ removed-one (is_worker is_any name.parent name.generation name.nr) (seen_holder s.addresses.items) s.holders.items place d lone.found.there (lone.found.named s.addresses.items d) lone.alone

-- whether a worker of the name is Starting or Ready, where the only one of the name is known
pub lone-stance : (s : Store) (name : WorkerName) (place : ℕ) → IsLoneAt s name place → (b : Bool) →
    b ≡ is_worker_row is_active name (slice_get (seen s).rows place) →
    list_any (is_worker is_active name.parent name.generation name.nr) (seen s).rows ≡ b
lone-stance s name place lone b is = at b (sym (is ∙ borne-at is_active name (seen_holder s.addresses.items) s.holders.items place h lone.found.there))
  where
    h : Holder
    h = record { row = Foreign 0; holds = [] }

    at : (b : Bool) → is_worker is_active name.parent name.generation name.nr
        (seen_holder s.addresses.items (get_or s.holders.items place h)) ≡ b →
        list_any (is_worker is_active name.parent name.generation name.nr) (seen s).rows ≡ b
    at true here =
        let active = is_worker is_active name.parent name.generation name.nr in
        list_any-map active (seen_holder s.addresses.items) s.holders.items ∙ any-at (λ x. active (seen_holder s.addresses.items x)) s.holders.items place h lone.found.there here
    at false here =
        lone-inactive (is_worker is_any name.parent name.generation name.nr) (seen_holder s.addresses.items) (is_worker is_active name.parent name.generation name.nr) (active-any name.parent name.generation name.nr)
        s.holders.items place h lone.found.there (lone.found.named s.addresses.items h) here lone.alone
