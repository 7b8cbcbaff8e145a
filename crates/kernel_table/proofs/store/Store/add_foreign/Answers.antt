use Rattle.std.proofs.Common.{◌≡◌, ℕ, ◌+◌, List, [], ◌∷◌, ◌++◌, length, refl, ap, ◌∙◌, arith, rules}
use Rattle.listener_set.specs.Descriptors.{descriptors_of, lowest_unused, put_pair}
use Rattle.kernel_rows.specs.declared.process.Row.TheVariants as row
use Rattle.kernel_rows.specs.declared.process.Holder.{Holder}
use Rattle.kernel_table.proofs.Foreigners.{foreign-table}
use Rattle.kernel_table.proofs.Free.{AreFree-pushed}
use Rattle.kernel_table.proofs.store.Store.add_foreign.Goals as goal

pub returns-clause-table : goal.returns-clause-table
returns-clause-table c =
    let s = c.args.self.now in
    let fd = c.unwrap.result in
    let socket = c.len.result + 1 in
    let count : c.len.result ≡ length s.addresses.items = omega (arith, c.len.ensures, s.addresses.ok.0) in
    let low = rw c.unwrap.ensures at c.put.ensures.lowest in
    let after = rw c.unwrap.ensures at c.put.ensures.after in
    let more = rw c.unwrap-2.ensures at c.push.ensures.items in
    let pushed = c.push-2.ensures.items in
    let holds : c.put.new.self ≡ (fd, socket) ∷ [] = after ∙ ap (λ (ps : List (ℕ × ℕ)). put_pair ps fd socket) c.new-holds.ensures in
    let all : c.push-2.new.self.items ≡ s.holders.items ++ (record { row = row.Foreign s.next_process; holds = (fd, socket) ∷ [] }) ∷ [] =
    pushed ∙ ap (λ (hs : List (ℕ × ℕ)). let h : Holder = record { row = row.Foreign s.next_process; holds = hs } in s.holders.items ++ h ∷ []) holds in
    foreign-table s c.args.address.now c.push.new.self.items c.push-2.new.self.items fd socket more all (low ∙ ap (λ (ps : List (ℕ × ℕ)). lowest_unused (descriptors_of ps)) c.new-holds.ensures) (ap (λ n. n + 1) count) c.requires.kept

pub returns-clause-grows : goal.returns-clause-grows
returns-clause-grows c =
    let s = c.args.self.now in
    let pushed = c.push-2.ensures.items in
    record { sizes = search rules; names = λ known. record { free = AreFree-pushed s.free s.addresses.items c.push.new.self.items s.holders.items _ _ pushed (λ k. refl) known.free; lone = tt } }
