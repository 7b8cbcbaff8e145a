use Rattle.std.proofs.Common.{◌<◌, ◌≤◌, ◌+◌, ◌∙◌, sym, ap, length, arith}
use Rattle.std.proofs.lemmas.Bool.Decides.{nat_tests}
use Rattle.toml.specs.View.{array_view}
use Rattle.master_config.specs.Values.{◌>>=◌, texts_of}
use Rattle.master_config.specs.Listening.{listeners_read}
use Rattle.master_config.proofs.Trees.{length-texts_of}
use Rattle.master_config.proofs.Rules.{many_listeners, few_listeners, some_listeners}
use Rattle.master_config.proofs.listening.listeners_in.Goals as goal

pub returns-then-len-clause-listeners : goal.returns-then-len-clause-listeners
returns-then-len-clause-listeners c =
    let v = c.in_ok-items.items.now in
    let ls = c.args.before.now in
    let some : 0 < length (texts_of (array_view v)) = grind (arith, nat_tests, length-texts_of v.items, v.ok.0) in
    let many : 64 < length ls + length (texts_of (array_view v)) = omega (arith, length-texts_of v.items, v.ok.0, c.len-2.ensures.count, c.len-2.ensures.most) in
    many_listeners ls (texts_of (array_view v)) some many ∙ ap (λ r. r >>= (λ items. listeners_read ls (texts_of items))) c.in_ok-items.ensures

pub returns-clause-listeners : goal.returns-clause-listeners
returns-clause-listeners c =
    let v = c.in_ok-items.items.now in
    let ls = c.args.before.now in
    let some : 0 < length (texts_of (array_view v)) = grind (arith, nat_tests, length-texts_of v.items, v.ok.0) in
    let few : length ls + length (texts_of (array_view v)) ≤ 64 = omega (arith, length-texts_of v.items, v.ok.0, c.len-2.ensures.count, c.len-2.ensures.most) in
    c.read_all.ensures ∙ few_listeners ls (texts_of (array_view v)) some few ∙ ap (λ r. r >>= (λ items. listeners_read ls (texts_of items))) c.in_ok-items.ensures

pub returns-clause-some : goal.returns-clause-some
returns-clause-some c =
    let v = c.in_ok-items.items.now in
    let some : 0 < length (texts_of (array_view v)) = grind (arith, nat_tests, length-texts_of v.items, v.ok.0) in
    some_listeners c.args.before.now (texts_of (array_view v)) c.read_all.result some (sym c.read_all.ensures)
