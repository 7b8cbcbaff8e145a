use Rattle.std.proofs.Common.{◌+◌, List, None, ap, ◌∙◌, refl, arith}
use Rattle.kernel_table.specs.declared.store.Store.{Store}
use Rattle.definitions.specs.Table.{Address}
use Rattle.kernel_rows.specs.HolderList.{HolderList}
use Rattle.kernel_rows.specs.Seen.{seen_rows}
use Rattle.vocabulary.specs.Settings.{Settings}
use Rattle.call_laws.specs.Start.{booted}
use Rattle.kernel_model.specs.Boot.{first_pairs}
use Rattle.kernel_model.proofs.Booting.{seen-booted, sound-booted}
use Rattle.kernel_model.proofs.boot.first_store.Goals as goal

pub returns-clause-table : goal.returns-clause-table
returns-clause-table c =
    let s : Store = record { holders = c.of-holders.result; addresses = c.in_ok-from_slice.field-0; files = c.in_ok-files.field-0; next_process = 101 + c.from.result; limits = c.args.limits; last = 0; newest = 0; free = c.among-free.result; lone = None } in
    let posts = rw c.first.ensures.posts at c.in_ok-slots.ensures in
    let rows = λ (addresses : List Address). ap (λ (h : HolderList). seen_rows addresses h.items) c.of-holders.ensures ∙ posts addresses in
    seen-booted s c.settings.inside.listeners c.settings.inside.groups c.args.workers c.settings.inside.pid c.args.limits c.first_holds-holds.result
    (c.in_ok-from_slice.ensures.items ∙ c.as_slice.ensures.items) (c.first_holds-holds.ensures ∙ ap first_pairs c.len.ensures.count) rows c.in_ok-files.ensures (ap (λ k. 101 + k) c.from.ensures) refl
    ∙ ap (λ (x : Settings). booted x.listeners x.groups c.args.workers x.pid c.args.limits) c.settings.view_is

pub returns-clause-sound : goal.returns-clause-sound
returns-clause-sound c =
    let s : Store = record { holders = c.of-holders.result; addresses = c.in_ok-from_slice.field-0; files = c.in_ok-files.field-0; next_process = 101 + c.from.result; limits = c.args.limits; last = 0; newest = 0; free = c.among-free.result; lone = None } in
    let posts = rw c.first.ensures.posts at c.in_ok-slots.ensures in
    let rows = λ (addresses : List Address). ap (λ (h : HolderList). seen_rows addresses h.items) c.of-holders.ensures ∙ posts addresses in
    sound-booted s c.settings.inside.listeners c.settings.inside.groups c.args.workers c.settings.inside.pid c.args.limits c.first_holds-holds.result
    (c.in_ok-from_slice.ensures.items ∙ c.as_slice.ensures.items) (c.first_holds-holds.ensures ∙ ap first_pairs c.len.ensures.count) rows c.in_ok-files.ensures (ap (λ k. 101 + k) c.from.ensures) refl
    (rw c.of-holders.ensures (omega (arith, c.in_ok-slots.slots.ok.0, c.in_ok-slots.slots.ok.1))) c.requires.few c.requires.most c.len.ensures.most (record { free = c.among-free.ensures.free c.in_ok-from_slice.field-0.items; lone = tt })
