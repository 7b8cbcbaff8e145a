-- The tables of a run, call by call.
use Rattle.std.proofs.Common.{◌≡◌, ℕ, ◌+◌, ◌<◌, ◌≤◌, Bool, List, [], ◌∷◌, length, drop, get_or, refl, sym, ap, ◌∙◌}
use Rattle.std.proofs.lemmas.List.{drop_more, drop_all}
use Rattle.vocabulary.specs.declared.reports.Entry.{Entry}
use Rattle.definitions.specs.Table.{Table}
use Rattle.definitions.specs.Calls.{Handed, after_exits, step_with}
use Rattle.definitions.specs.Run.{Pattern}
use Rattle.life_account.specs.declared.opened.OpenAddress.{OpenAddress}
use Rattle.life_account.specs.Tables.{after_table, after_tables}
use Rattle.life_account.specs.Account.{stepped}

-- what is left of the addresses after the tables of these calls, the first of which is number n + 1
abbrev pub after_calls : Bool → ℕ → Handed → Pattern → ℕ → Table → List Entry → List OpenAddress → List OpenAddress
after_calls counts word handed pattern n t entries kept = after_tables counts word (stepped handed pattern n t entries) kept

-- the call at a place, and then those behind it
pub calls-next :
    (counts : Bool) (word : ℕ) (handed : Handed) (pattern : Pattern) (n : ℕ) (t : Table) (entries : List Entry) (e : Entry) (kept : List OpenAddress) →
    n < length entries → e ≡ get_or entries n e →
    after_calls counts word handed pattern n t (drop n entries) kept
    ≡ after_calls counts word handed pattern (n + 1)
    (step_with handed e.by e.call (pattern (n + 1)).fate (after_exits (pattern (n + 1)).exits t)).table (drop (n + 1) entries)
    (after_table counts (record { word = word; call = n }) (after_exits (pattern (n + 1)).exits t)
    (after_table counts (record { word = word; call = n }) t kept))
calls-next counts word handed pattern n t entries e kept inside is =
    ap (λ es. after_calls counts word handed pattern n t es kept) (drop_more entries n e inside ∙ ap (λ x. x ∷ drop (n + 1) entries) (sym is))

-- after the last one
pub calls-over :
    (counts : Bool) (word : ℕ) (handed : Handed) (pattern : Pattern) (n : ℕ) (t : Table) (entries : List Entry) (kept : List OpenAddress) →
    length entries ≤ n →
    after_calls counts word handed pattern n t (drop n entries) kept ≡ after_table counts (record { word = word; call = n }) t kept
calls-over counts word handed pattern n t entries kept past =
    ap (λ es. after_calls counts word handed pattern n t es kept) (drop_all n entries past)
