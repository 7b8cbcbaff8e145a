-- The rules for lists of texts, case by case.
use Rattle.std.proofs.Common.{◌≡◌, ℕ, ◌+◌, ◌<◌, ◌≤◌, Bool, true, false, cond, if◌then◌else◌, nat_le, nat_lt, List, [], ◌∷◌, ◌++◌, length, get_or, map, drop, Result, Ok, Err, IfOk, refl, sym, ◌∙◌, ap, arith}
use Rattle.std.proofs.lemmas.Bool.Decides.{nat_tests}
use Rattle.std.proofs.lemmas.List.{drop_more, length_push, get_or-map, length-map}
use Rattle.std.proofs.lemmas.List.Sums.{sum_by-cons}
use Rattle.std.specs.List.{list_all}
use Rattle.listener_set.specs.AddressText.{reading}
use Rattle.listener_set.specs.AddressList.{has}
use Rattle.worker_groups.specs.declared.groups.Group.{Group}
use Rattle.worker_groups.specs.Groups.{AreGroups, addresses_in}
use Rattle.listener_set.specs.declared.address.AddressRefusal.{AddressRefusal}
use Rattle.toml.specs.Data.{Data, Items, Members}
use Rattle.toml.specs.View.{view}
use Rattle.toml.specs.declared.value.Value.{Value}
use Rattle.master_config.specs.Values.{◌>>=◌, text_of, data_of}
use Rattle.master_config.specs.Arguments.{is_argument}
use Rattle.master_config.specs.Configuration.{is_command}
use Rattle.master_config.specs.Listening.{accepted_at, added_at, listener_read, listeners_after, listeners_read}
use Rattle.master_config.specs.Groups.{Pools, no_pools, group_in, groups_after, groups_read, tables_read, is_mixed, pools_in}
use Rattle.master_config.specs.declared.key.Key.TheVariants.{Groups, Listeners}
use Rattle.master_config.specs.declared.refusal.ConfigRefusal.{ConfigRefusal}
use Rattle.master_config.specs.declared.refusal.ConfigRefusal.TheVariants.{OutOfRange, Doubled, Mixed}

abbrev pub Addresses : Type 0
Addresses = List (List ℕ)

-- ---- the command
pub no_command : (texts : Addresses) → length texts ≡ 0 → false ≡ is_command texts
no_command [] h = refl
no_command (t ∷ ts) h = absurd (omega (arith, h))

pub long_command : (texts : Addresses) → 16 < length texts → false ≡ is_command texts
long_command texts h =
    let over : nat_le (length texts) 16 ≡ false = grind (arith, nat_tests) in
    let there : nat_lt 0 (length texts) ≡ true = grind (arith, nat_tests) in
    rw (there, over) refl

pub short_command : (texts : Addresses) → 0 < length texts → length texts ≤ 16 → list_all is_argument texts ≡ is_command texts
short_command texts some few =
    let under : nat_le (length texts) 16 ≡ true = grind (arith, nat_tests) in
    let there : nat_lt 0 (length texts) ≡ true = grind (arith, nat_tests) in
    rw (there, under) refl

-- ---- the listeners
pub many_listeners : (ls texts : Addresses) → 0 < length texts → 64 < length ls + length texts → Err (OutOfRange Listeners) ≡ listeners_read ls texts
many_listeners ls [] some h = absurd (omega (arith, some))
many_listeners ls (t ∷ ts) some h =
    let over : nat_lt 64 (length ls + length (t ∷ ts)) ≡ true = grind (arith, nat_tests, h) in
    rw over refl

pub few_listeners : (ls texts : Addresses) → 0 < length texts → length ls + length texts ≤ 64 → listeners_after ls 0 texts ≡ listeners_read ls texts
few_listeners ls [] some few = absurd (omega (arith, some))
few_listeners ls (t ∷ ts) some few =
    let under : nat_lt 64 (length ls + length (t ∷ ts)) ≡ false = grind (arith, nat_tests, few) in
    rw under refl

ok_same : (a b : Addresses) → ◌≡◌ {A = Result Addresses ConfigRefusal} (Ok a) (Ok b) → a ≡ b
ok_same a b e = cc

pub length-listener_read : (index : ℕ) (ls : Addresses) (text : List ℕ) (new : Addresses) → listener_read index ls text ≡ Ok new → length new ≡ length ls + 1
length-listener_read index ls text new e = read (reading text) e
  where
    added : (address : List ℕ) (b : Bool) → cond b (Err (Doubled index)) (Ok (ls ++ address ∷ [])) ≡ Ok new → length new ≡ length ls + 1
    added address true e = cc
    added address false e = ap length (sym (ok_same (ls ++ address ∷ []) new e)) ∙ length_push ls address

    read : (r : Result (List ℕ) AddressRefusal) → (accepted_at index r >>= added_at index ls) ≡ Ok new → length new ≡ length ls + 1
    read (Ok address) e = added address (has ls address) e
    read (Err refusal) e = cc

pub length-listeners_after : (texts : Addresses) (ls : Addresses) (index : ℕ) (r : Result Addresses ConfigRefusal) → listeners_after ls index texts ≡ r → IfOk r (λ all. length all ≡ length ls + length texts)
length-listeners_after [] ls index (Ok all) e = ap length (sym (ok_same ls all e)) ∙ omega arith
length-listeners_after [] ls index (Err x) e = tt
length-listeners_after (t ∷ ts) ls index r e = first (listener_read index ls t) refl e (λ more. length-listeners_after ts more (index + 1) r)
  where
    first : (s : Result Addresses ConfigRefusal) → listener_read index ls t ≡ s → (s >>= (λ more. listeners_after more (index + 1) ts)) ≡ r → ((more : Addresses) → listeners_after more (index + 1) ts ≡ r → IfOk r (λ all. length all ≡ length more + length ts)) → IfOk r (λ all. length all ≡ length ls + length (t ∷ ts))
    first (Ok more) was e rest = grown r (length-listener_read index ls t more was) (rest more e)
      where
        grown : (q : Result Addresses ConfigRefusal) → length more ≡ length ls + 1 → IfOk q (λ all. length all ≡ length more + length ts) → IfOk q (λ all. length all ≡ length ls + length (t ∷ ts))
        grown (Ok all) longer h = omega (arith, longer, h)
        grown (Err x) longer h = tt
    first (Err x) was e rest = elsewhere r e
      where
        elsewhere : (q : Result Addresses ConfigRefusal) → Err x ≡ q → IfOk q (λ all. length all ≡ length ls + length (t ∷ ts))
        elsewhere (Ok all) e = cc
        elsewhere (Err y) e = tt

pub some_listeners : (ls texts : Addresses) (r : Result Addresses ConfigRefusal) → 0 < length texts → listeners_after ls 0 texts ≡ r → IfOk r (λ all. length ls < length all)
some_listeners ls texts r some e = more r (length-listeners_after texts ls 0 r e)
  where
    more : (q : Result Addresses ConfigRefusal) → IfOk q (λ all. length all ≡ length ls + length texts) → IfOk q (λ all. length ls < length all)
    more (Ok all) h = omega (arith, h, some)
    more (Err x) h = tt

-- ---- one text after another
abbrev pub texts_in : List Value → Addresses
texts_in vs = map (λ v. text_of (view v)) vs

-- the text of an item, before those behind it
text_first : (vs : List Value) (index : ℕ) (value : Value) (text : List ℕ) → index < length vs → value ≡ get_or vs index value → text ≡ text_of (view value) → drop index (texts_in vs) ≡ text ∷ drop (index + 1) (texts_in vs)
text_first vs index value text inside is says =
    let f : Value → List ℕ = λ v. text_of (view v) in
    let here : get_or (texts_in vs) index [] ≡ text = get_or-map f vs index value [] inside ∙ ap f (sym is) ∙ sym says in
    drop_more (texts_in vs) index [] (omega (arith, length-map vs f)) ∙ ap (λ t. t ∷ drop (index + 1) (texts_in vs)) here

pub listeners_step : (vs : List Value) (index : ℕ) (value : Value) (text : List ℕ) (ls : Addresses) → index < length vs → value ≡ get_or vs index value → text ≡ text_of (view value) → listeners_after ls index (drop index (texts_in vs)) ≡ (listener_read index ls text >>= (λ more. listeners_after more (index + 1) (drop (index + 1) (texts_in vs))))
listeners_step vs index value text ls inside is says = ap (listeners_after ls index) (text_first vs index value text inside is says)

-- ---- the groups
pub pools_from : (members : Members) (value : Data) (items : Items) → Ok items ≡ tables_read value → is_mixed members ≡ false → groups_read (data_of items) ≡ pools_in members value
pools_from members value items are pure = ap (λ b. if b then Err Mixed else groups_read (data_of items)) (sym pure) ∙ ap (λ r. r >>= (λ those. if is_mixed members then Err Mixed else groups_read (data_of those))) are

pub few_groups : (values : List Data) → 0 < length values → length values ≤ 16 → groups_after no_pools 0 values ≡ groups_read values
few_groups [] some few = absurd (omega (arith, some))
few_groups (v ∷ vs) some few =
    let under : nat_lt 16 (length (v ∷ vs)) ≡ false = grind (arith, nat_tests, few) in
    rw under refl

pub no_groups : (values : List Data) → length values ≡ 0 → Err (OutOfRange Groups) ≡ groups_read values
no_groups [] none = refl
no_groups (v ∷ vs) none = absurd (omega (arith, none))

pub many_groups : (values : List Data) → 16 < length values → Err (OutOfRange Groups) ≡ groups_read values
many_groups [] many = refl
many_groups (v ∷ vs) many =
    let over : nat_lt 16 (length (v ∷ vs)) ≡ true = grind (arith, nat_tests, many) in
    rw over refl

-- the group of an item, before those behind it
pub groups_step : (vs : List Value) (index : ℕ) (value : Value) (pools : Pools) → index < length vs → value ≡ get_or vs index value → groups_after pools index (drop index (map view vs)) ≡ (group_in index pools (view value) >>= (λ more. groups_after more (index + 1) (drop (index + 1) (map view vs))))
groups_step vs index value pools inside is =
    let here : get_or (map view vs) index (view value) ≡ view value = get_or-map view vs index value (view value) inside ∙ ap view (sym is) in
    ap (groups_after pools index) (drop_more (map view vs) index (view value) (omega (arith, length-map vs view)) ∙ ap (λ d. d ∷ drop (index + 1) (map view vs)) here)

-- groups have an address
pub some_addresses : (gs : List Group) → AreGroups gs → 1 ≤ addresses_in gs
some_addresses [] are = absurd (omega (arith, are.some))
some_addresses (g ∷ gs) are =
    omega (arith, sum_by-cons (λ (x : Group). x.addresses) g gs, are.listening.0)
