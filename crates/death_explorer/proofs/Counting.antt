-- Deaths, counted call by call.
use Rattle.std.proofs.Common.{◌≡◌, ℕ, ◌+◌, ◌<◌, Bool, true, false, List, [], ◌∷◌, ◌++◌, length, drop, get_or, refl, sym, ap, ◌∙◌}
use Rattle.std.specs.Prelude.{if◌then◌else◌, None}
use Rattle.std.proofs.lemmas.List.{drop_more}
use Rattle.vocabulary.specs.Settings.{Settings}
use Rattle.vocabulary.specs.declared.reports.Entry.{Entry}
use Rattle.definitions.specs.Table.{Table}
use Rattle.definitions.specs.Calls.{Handed, step_with}
use Rattle.definitions.specs.Master.{Record}
use Rattle.call_laws.specs.Pieces.{executing_at, executing_after}
use Rattle.death_explorer.specs.declared.counts.DeathCounts.{DeathCounts}
use Rattle.death_explorer.specs.Deaths.{Left, deaths_at, deaths_met, counted, counted_all}

-- some, and then others
pub counted-both : (r : Record) (s : Settings) (some others : List Left) (c : DeathCounts) → counted_all r s (some ++ others) c ≡ counted_all r s others (counted_all r s some c)
counted-both r s [] others c = refl
counted-both r s (left ∷ some) others c = counted-both r s some others (counted r s left c)

-- the deaths of some masters, and of others
pub deaths-both : (order n : ℕ) (t : Table) (images others : List ℕ) → deaths_at order n t (images ++ others) ≡ deaths_at order n t images ++ deaths_at order n t others
deaths-both order n t [] others = refl
deaths-both order n t (i ∷ images) others = ap (λ more. deaths_at order n t (i ∷ []) ++ more) (deaths-both order n t images others)

-- where one leaves, its heir's death is counted too
pub counted-leaving : (r : Record) (s : Settings) (order n : ℕ) (t : Table) (images others : List ℕ) (leaves : Bool) (c : DeathCounts) → leaves ≡ true →
    counted_all r s (deaths_at order n t (if leaves then images ++ others else images)) c
    ≡ counted_all r s (deaths_at order n t others) (counted_all r s (deaths_at order n t images) c)
counted-leaving r s order n t images others true c is = ap (λ ds. counted_all r s ds c) (deaths-both order n t images others) ∙ counted-both r s (deaths_at order n t images) (deaths_at order n t others) c
counted-leaving r s order n t images others false c is = absurd (let z = is in cc)

-- The deaths at the call at a place, and then those behind it.
pub met-next :
    (handed : Handed) (order : ℕ) (executing heirs : List ℕ) (n : ℕ) (t : Table) (entries : List Entry) (e : Entry) → n < length entries → e ≡ get_or entries n e →
    deaths_met handed order executing heirs n t (drop n entries)
    ≡ deaths_at order (n + 1) t (executing_at e.call executing heirs)
    ++ deaths_met handed order (executing_after e.call executing heirs) heirs (n + 1) (step_with handed e.by e.call None t).table (drop (n + 1) entries)
met-next handed order executing heirs n t entries e inside is =
    ap (deaths_met handed order executing heirs n t) (drop_more entries n e inside ∙ ap (λ x. x ∷ drop (n + 1) entries) (sym is))

pub counted-staying : (r : Record) (s : Settings) (order n : ℕ) (t : Table) (images others : List ℕ) (leaves : Bool) (c : DeathCounts) → leaves ≡ false →
    counted_all r s (deaths_at order n t (if leaves then images ++ others else images)) c ≡ counted_all r s (deaths_at order n t images) c
counted-staying r s order n t images others true c is = absurd (let z = is in cc)
counted-staying r s order n t images others false c is = refl
