use Rattle.std.proofs.Common.{◌≡◌, ◌+◌, length, ap, ◌∙◌, arith, rules}
use Rattle.listener_set.specs.Descriptors.{put_pair}
use Rattle.kernel_table.proofs.Opening.{lowest_free-seen, opened-table}
use Rattle.kernel_table.proofs.Free.{AreFree-addresses}
use Rattle.kernel_table.proofs.store.Store.add_socket.Goals as goal

pub returns-clause-descriptor : goal.returns-clause-descriptor
returns-clause-descriptor c =
    let lowest = rw c.unwrap-descriptor.ensures at c.put.ensures.lowest in
    lowest ∙ lowest_free-seen c.args.self.now.addresses.items c.args.caller.now.holds

pub returns-clause-table : goal.returns-clause-table
returns-clause-table c =
    let s = c.args.self.now in
    let addresses = s.addresses.items in
    let fd = c.unwrap-descriptor.result in
    let count : c.len.result ≡ length addresses = omega (arith, c.len.ensures, s.addresses.ok.0) in
    let put = rw c.unwrap-descriptor.ensures at c.put.ensures.after in
    let more = rw c.unwrap.ensures at c.push.ensures.items in
    c.edit.ensures.table
    ∙ opened-table s c.args.address.now c.args.caller.now fd c.push.new.self.items c.put.new.self more (put ∙ ap (λ n. put_pair c.args.caller.now.holds fd (n + 1)) count) c.requires.kept c.requires.own

pub returns-clause-grows : goal.returns-clause-grows
returns-clause-grows c =
    let s = c.args.self.now in
    record { sizes = search rules; names = λ known. c.edit.ensures.room.names (record { free = AreFree-addresses s.free s.addresses.items c.push.new.self.items s.holders.items known.free; lone = tt }) }
