-- Conversations that were held, call by call.
use Rattle.std.proofs.Common.{refl, sym, ◌∙◌, ap, subst, ℕ, Bool, List, [], ◌∷◌, ◌++◌, append_assoc, append-nil, Option, Some, None, Result}
use Rattle.child_family.specs.Told.{Told, Tells, Hearing, Role, StartFault, started_child, said, heard, stopped_child, awaited_child, wrote_file, renamed_file, removed_file}
use Rattle.child_family.specs.Talk.{Talk, ends, starts_child, says, hears, stops_child, awaits_child, writes_file, renames_file, removes_file, IsHeld, Held}

-- nothing was told, and nothing was to be told
pub held-end : {A : Type 0} (now : Option (List Told)) (a : A) → Held now now (ends a) a
held-end None a = record { told = tt }
held-end (Some xs) a = record { told = (xs, [], refl, sym (append-nil xs), (refl, refl)) }

-- one call, and then a conversation
held-step : {A : Type 0} (old mid new : Option (List Told)) (call : Told) (talk next : Talk A) (a : A) → Tells old mid call → Held mid new next a
    → ((more : List Told) → IsHeld next more a → IsHeld talk (call ∷ more) a) → Held old new talk a
held-step old mid None call talk next a t h join = record { told = tt }
held-step {A} old mid (Some zs) call talk next a t h join =
    let k = h.told in
    let F : Option (List Told) → Type 0 = λ o. Tells old o call in
    let first : Tells old (Some k.0) call = subst F k.2 t in
    let m = first.told in
    record { told = (m.0, call ∷ k.1, m.1, k.3 ∙ ap (λ l. l ++ k.1) m.2 ∙ append_assoc m.0 (call ∷ []) k.1, join k.1 k.4) }

pub held-starts_child : {A : Type 0} {old mid new : Option (List Told)} {role : Role} {then : Result ℕ StartFault → Talk A} {a : A} (r : Result ℕ StartFault) → Tells old mid (started_child role r) → Held mid new (then r) a → Held old new (starts_child role then) a
held-starts_child r t h = held-step _ _ _ _ _ _ _ t h (λ more k. (r, more, refl, k))

pub held-says : {A : Type 0} {old mid new : Option (List Told)} {id : ℕ} {text : List ℕ} {then : Bool → Talk A} {a : A} (r : Bool) → Tells old mid (said id text r) → Held mid new (then r) a → Held old new (says id text then) a
held-says r t h = held-step _ _ _ _ _ _ _ t h (λ more k. (r, more, refl, k))

pub held-hears : {A : Type 0} {old mid new : Option (List Told)} {id : ℕ} {then : Hearing → Talk A} {a : A} (r : Hearing) → Tells old mid (heard id r) → Held mid new (then r) a → Held old new (hears id then) a
held-hears r t h = held-step _ _ _ _ _ _ _ t h (λ more k. (r, more, refl, k))

pub held-stops_child : {A : Type 0} {old mid new : Option (List Told)} {id : ℕ} {then : Talk A} {a : A} → Tells old mid (stopped_child id) → Held mid new then a → Held old new (stops_child id then) a
held-stops_child t h = held-step _ _ _ _ _ _ _ t h (λ more k. (more, refl, k))

pub held-awaits_child : {A : Type 0} {old mid new : Option (List Told)} {id : ℕ} {then : Bool → Talk A} {a : A} (r : Bool) → Tells old mid (awaited_child id r) → Held mid new (then r) a → Held old new (awaits_child id then) a
held-awaits_child r t h = held-step _ _ _ _ _ _ _ t h (λ more k. (r, more, refl, k))

pub held-writes_file : {A : Type 0} {old mid new : Option (List Told)} {path text : List ℕ} {then : Bool → Talk A} {a : A} (r : Bool) → Tells old mid (wrote_file path text r) → Held mid new (then r) a → Held old new (writes_file path text then) a
held-writes_file r t h = held-step _ _ _ _ _ _ _ t h (λ more k. (r, more, refl, k))

pub held-renames_file : {A : Type 0} {old mid new : Option (List Told)} {from to : List ℕ} {then : Bool → Talk A} {a : A} (r : Bool) → Tells old mid (renamed_file from to r) → Held mid new (then r) a → Held old new (renames_file from to then) a
held-renames_file r t h = held-step _ _ _ _ _ _ _ t h (λ more k. (r, more, refl, k))

pub held-removes_file : {A : Type 0} {old mid new : Option (List Told)} {path : List ℕ} {then : Bool → Talk A} {a : A} (r : Bool) → Tells old mid (removed_file path r) → Held mid new (then r) a → Held old new (removes_file path then) a
held-removes_file r t h = held-step _ _ _ _ _ _ _ t h (λ more k. (r, more, refl, k))
