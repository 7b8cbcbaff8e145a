-- Each death is survived.
use Rattle.std.proofs.Common.{◌≡◌, ◌||◌, Bool, true, false, List, [], ◌∷◌, map, refl, sym, ap, ◌∙◌}
use Rattle.std.specs.Prelude.{bytes_eq, ◌&&◌}
use Rattle.std.specs.List.{AllByRecursion}
use Rattle.listener_set.specs.AddressList.{has}
use Rattle.vocabulary.specs.Settings.{Settings}
use Rattle.vocabulary.specs.declared.table.Listener.{Listener}
use Rattle.vocabulary.specs.declared.targets.Target.{Target}
use Rattle.definitions.specs.Table.{Address, Table}
use Rattle.definitions.specs.After.{listens_on}
use Rattle.definitions.specs.Master.{Record, addresses_of}
use Rattle.lives.specs.Deaths.{LivesOutliveMasters}
use Rattle.death_explorer.specs.Leftovers.{are_held}
use Rattle.death_explorer.specs.Survived.{IsSurvived}

named : (ls : List Listener) (a : Address) → listens_on ls a ≡ has (map (λ (l : Listener). l.address) ls) a
named [] a = refl
named (l ∷ ls) a = ap (λ b. bytes_eq l.address a || b) (named ls a)

both : (a b : Bool) → (a && b) ≡ true → (a ≡ true) × (b ≡ true)
both true b is = (refl, is)
both false b is = absurd (let z = is in cc)

all-named : (r : Record) (addresses : List Address) → are_held addresses r ≡ true → AllByRecursion (λ a. has (addresses_of r) a ≡ true) addresses
all-named r [] is = tt
all-named r (a ∷ addresses) is =
    let h = both (listens_on r.listeners a) (are_held addresses r) is in
    (sym (named r.listeners a) ∙ h.0, all-named r addresses h.1)

pub survived : LivesOutliveMasters → (s : Settings) (t : Table) (r : Record) (target : Target) → IsSurvived s t r target
survived lives s t r target stands range held turns pattern =
    lives t r (record { target = target; turns = turns; pattern = pattern }) s stands range (all-named r s.listeners held)
