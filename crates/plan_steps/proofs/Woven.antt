-- Trees with two parts: how high they are, that they answer, and what follows a reply.
use Rattle.std.proofs.Common.{◌≡◌, ℕ, zero, suc, ◌+◌, ◌-◌, ◌≤◌, max, Bool, true, false, ◌&&◌, List, [], ◌∷◌, refl, ◌∙◌, ap, arith, Option, None, Some, is_some}
use Rattle.std.proofs.lemmas.Bool.{and_from, and_parts}
use Rattle.std.specs.List.{list_all}
use Rattle.vocabulary.specs.declared.calls.Reply.{Reply}
use Rattle.vocabulary.specs.declared.plans.PidNote.{PidNote}
use Rattle.vocabulary.specs.declared.plans.End.{End}
use Rattle.vocabulary.specs.declared.plans.End.TheVariants.{Done, RolledBack, ShortOld, ShortTarget, Split, JoinReady, JoinBack, Join}
use Rattle.call_laws.specs.Pieces.{branch, among}
use Rattle.definitions.specs.Run.{Tree, Branches, Ends, Does, Nothing, Branch}
use Rattle.call_laws.specs.Lengths.{height, highest}
use Rattle.plan_steps.specs.Fit.{is_fit, are_fit, short_after}
use Rattle.call_replies.specs.Replies.{order_replies}
use Rattle.definitions.specs.Plans.{Turn, New, Old, graft, graft_all, beside, beside_all, weave, weave_all, joined}
use Rattle.plan_steps.specs.declared.parts.Parts.{Parts}
use Rattle.plan_steps.specs.declared.step.Next.TheVariants.{To}
use Rattle.plan_steps.specs.declared.step.Step.{Step}
use Rattle.plan_steps.specs.Steps.{tree_behind, first_tree}
use Rattle.plan_steps.specs.Stretches.{one_more, to_split, farthest, beside_height, aside, asides}
use Rattle.plan_steps.specs.Woven.{part_end, woven, length_in, answers, all_answer, plan_answers}

-- ---- heights

mutual
  graft_height : (then : End → Tree) (m : ℕ) → ((e : End) → height (then e) ≤ m) → (t : Tree) → height (graft then t) ≤ height t + m
  graft_height then m le (Ends end) = omega (arith, le end)
  graft_height then m le (Does by order set branches) = omega (arith, graft_highest then m le branches)

  graft_highest : (then : End → Tree) (m : ℕ) → ((e : End) → height (then e) ≤ m) → (bs : Branches) → highest (graft_all then bs) ≤ highest bs + m
  graft_highest then m le Nothing = omega arith
  graft_highest then m le (Branch replies said rest more) = omega (arith, graft_height then m le rest, graft_highest then m le more)

mutual
  beside_high : (goes : List Turn → Tree → Tree) (a m : ℕ) →
      ((turns : List Turn) (old : Tree) → height (goes turns old) ≤ a + height old + m) →
      (turns : List Turn) (old : Tree) → height (beside goes turns old) ≤ a + height old + m
  beside_high goes a m le turns (Ends end) = le turns (Ends end)
  beside_high goes a m le [] (Does by order set branches) = le [] (Does by order set branches)
  beside_high goes a m le (New ∷ turns) (Does by order set branches) = le turns (Does by order set branches)
  beside_high goes a m le (Old ∷ turns) (Does by order set branches) = omega (arith, beside_highest goes a m le turns branches)

  beside_highest : (goes : List Turn → Tree → Tree) (a m : ℕ) →
      ((turns : List Turn) (old : Tree) → height (goes turns old) ≤ a + height old + m) →
      (turns : List Turn) (bs : Branches) → highest (beside_all goes turns bs) ≤ a + highest bs + m
  beside_highest goes a m le turns Nothing = omega arith
  beside_highest goes a m le turns (Branch replies said rest more) = omega (arith, beside_high goes a m le turns rest, beside_highest goes a m le turns more)

mutual
  weave_height : (join : End → Tree) (m : ℕ) → ((e : End) → height (join e) ≤ m) →
      (new : Tree) (turns : List Turn) (old : Tree) → height (weave join new turns old) ≤ height new + height old + m
  weave_height join m le (Ends end) turns old = omega (arith, graft_height (λ e. join end) m (λ e. le end) old)
  weave_height join m le (Does by order set branches) turns old =
      beside_high (λ later still. Does by order set (weave_all join branches later still)) (suc (highest branches)) m
      (λ later still. omega (arith, weave_highest join m le branches later still)) turns old

  weave_highest : (join : End → Tree) (m : ℕ) → ((e : End) → height (join e) ≤ m) →
      (bs : Branches) (turns : List Turn) (old : Tree) →
      highest (weave_all join bs turns old) ≤ highest bs + height old + m
  weave_highest join m le Nothing turns old = omega arith
  weave_highest join m le (Branch replies said rest more) turns old =
      omega (arith, weave_height join m le rest turns old, weave_highest join m le more turns old)

joined_height : (ready back : Tree) (e : End) → height (joined ready back e) ≤ max (height ready) (height back)
joined_height ready back Done = omega arith
joined_height ready back RolledBack = omega arith
joined_height ready back ShortOld = omega arith
joined_height ready back ShortTarget = omega arith
joined_height ready back Split = omega arith
joined_height ready back JoinReady = omega arith
joined_height ready back JoinBack = omega arith
joined_height ready back Join = omega arith

-- what does not lead to the parts is as high as it was
mutual
  off_height : (ready back new old : Tree) (turns : List Turn) (t : Tree) → to_split t ≡ 0 → height (graft (part_end ready back new old turns) t) ≤ height t
  off_height ready back new old turns (Ends Done) off = omega arith
  off_height ready back new old turns (Ends RolledBack) off = omega arith
  off_height ready back new old turns (Ends ShortOld) off = omega arith
  off_height ready back new old turns (Ends ShortTarget) off = omega arith
  off_height ready back new old turns (Ends Split) off = absurd (omega (arith, off))
  off_height ready back new old turns (Ends JoinReady) off = omega arith
  off_height ready back new old turns (Ends JoinBack) off = omega arith
  off_height ready back new old turns (Ends Join) off = omega arith
  off_height ready back new old turns (Does by order set branches) off =
      omega (arith, off_highest ready back new old turns branches (none_left (farthest branches) off))
    where
      none_left : (n : ℕ) → one_more n ≡ 0 → n ≡ 0
      none_left zero h = refl
      none_left (suc n) h = absurd (omega (arith, h))

  off_highest : (ready back new old : Tree) (turns : List Turn) (bs : Branches) → farthest bs ≡ 0 →
      highest (graft_all (part_end ready back new old turns) bs) ≤ highest bs
  off_highest ready back new old turns Nothing off = omega arith
  off_highest ready back new old turns (Branch replies said rest more) off =
      omega (arith, off_height ready back new old turns rest (omega (arith, off)), off_highest ready back new old turns more (omega (arith, off)))

one_higher : (n high tall behind m : ℕ) → (n ≡ 0 → high ≤ tall) → high ≤ (n - 1) + max m behind →
    suc high ≤ (one_more n - 1) + max m (beside_height (one_more n) (suc tall) behind)
one_higher zero high tall behind m off on = omega (arith, off refl)
one_higher (suc n) high tall behind m off on = omega (arith, on)

-- what leads to the parts is as high as what lies before them, and the higher of them and what lies aside
mutual
  on_height : (ready back new old : Tree) (turns : List Turn) (m : ℕ) →
      height (weave (joined ready back) new turns old) ≤ m → (t : Tree) →
      height (graft (part_end ready back new old turns) t) ≤ (to_split t - 1) + max m (aside t)
  on_height ready back new old turns m le (Ends Done) = omega arith
  on_height ready back new old turns m le (Ends RolledBack) = omega arith
  on_height ready back new old turns m le (Ends ShortOld) = omega arith
  on_height ready back new old turns m le (Ends ShortTarget) = omega arith
  on_height ready back new old turns m le (Ends Split) = omega (arith, le)
  on_height ready back new old turns m le (Ends JoinReady) = omega arith
  on_height ready back new old turns m le (Ends JoinBack) = omega arith
  on_height ready back new old turns m le (Ends Join) = omega arith
  on_height ready back new old turns m le (Does by order set branches) =
      one_higher (farthest branches) (highest (graft_all (part_end ready back new old turns) branches))
      (highest branches) (asides branches) m (off_highest ready back new old turns branches)
      (on_highest ready back new old turns m le branches)

  on_highest : (ready back new old : Tree) (turns : List Turn) (m : ℕ) →
      height (weave (joined ready back) new turns old) ≤ m → (bs : Branches) →
      highest (graft_all (part_end ready back new old turns) bs) ≤ (farthest bs - 1) + max m (asides bs)
  on_highest ready back new old turns m le Nothing = omega arith
  on_highest ready back new old turns m le (Branch replies said rest more) =
      omega (arith, on_height ready back new old turns m le rest, on_highest ready back new old turns m le more)

-- no order of turns makes a path longer
pub woven_height : (steps : List Step) (parts : Option Parts) (turns : List Turn) → height (woven steps parts turns) ≤ length_in steps parts
woven_height steps None turns = omega arith
woven_height steps (Some p) turns =
    let ready = tree_behind steps (To p.ready) in
    let back = tree_behind steps (To p.back) in
    let new = tree_behind steps (To p.new) in
    let old = tree_behind steps (To p.old) in
    let first = first_tree steps in
    let most = height new + height old + max (height ready) (height back) in
    omega (
      arith,
      on_height ready back new old turns most
          (weave_height (joined ready back) (max (height ready) (height back))
          (joined_height ready back) new turns old) first,
    )

-- ---- replies

-- what follows a reply, with another rest
abbrev pub on_rest : (Tree → Tree) → Option (Option PidNote × Tree) → Option (Option PidNote × Tree)
on_rest f None = None
on_rest f (Some e) = Some (e.0, f e.1)

abbrev pub picked : Bool → Option (Option PidNote × Tree) → Option (Option PidNote × Tree) → Option (Option PidNote × Tree)
picked b found others = elim b as (λ _. Option (Option PidNote × Tree)) [ true ↦ found | false ↦ others ]

pick_rest : (f : Tree → Tree) (b : Bool) (said : Option PidNote) (rest : Tree) (x y : Option (Option PidNote × Tree)) →
    x ≡ on_rest f y → picked b (Some (said, f rest)) x ≡ on_rest f (picked b (Some (said, rest)) y)
pick_rest f true said rest x y e = refl
pick_rest f false said rest x y e = e

pub graft_branch : (then : End → Tree) (bs : Branches) (r : Reply) → branch (graft_all then bs) r ≡ on_rest (graft then) (branch bs r)
graft_branch then Nothing r = refl
graft_branch then (Branch replies said rest more) r =
    pick_rest (graft then) (among replies r) said rest (branch (graft_all then more) r) (branch more r)
    (graft_branch then more r)

pub weave_branch : (join : End → Tree) (bs : Branches) (turns : List Turn) (old : Tree) (r : Reply) →
    branch (weave_all join bs turns old) r ≡ on_rest (λ t. weave join t turns old) (branch bs r)
weave_branch join Nothing turns old r = refl
weave_branch join (Branch replies said rest more) turns old r =
    pick_rest (λ t. weave join t turns old) (among replies r) said rest (branch (weave_all join more turns old) r)
    (branch more r) (weave_branch join more turns old r)

pub beside_branch : (goes : List Turn → Tree → Tree) (turns : List Turn) (bs : Branches) (r : Reply) →
    branch (beside_all goes turns bs) r ≡ on_rest (beside goes turns) (branch bs r)
beside_branch goes turns Nothing r = refl
beside_branch goes turns (Branch replies said rest more) r =
    pick_rest (beside goes turns) (among replies r) said rest (branch (beside_all goes turns more) r) (branch more r) (beside_branch goes turns more r)

some_rest : (f : Tree → Tree) (o : Option (Option PidNote × Tree)) → is_some (on_rest f o) ≡ is_some o
some_rest f None = refl
some_rest f (Some e) = refl

-- ---- each step answers

-- the same test of each, by one that holds of the same
alike : {X : Type 0} (p q : X → Bool) → ((x : X) → p x ≡ true → q x ≡ true) → (xs : List X) → list_all p xs ≡ true → list_all q xs ≡ true
alike p q weaker [] h = refl
alike p q weaker (x ∷ xs) h =
    let parts = and_parts (p x) (list_all p xs) h in
    and_from (q x) (list_all q xs) (weaker x parts.0) (alike p q weaker xs parts.1)

mutual
  pub graft_answers : (then : End → Tree) → ((e : End) → answers (then e) ≡ true) → (t : Tree) → answers t ≡ true → answers (graft then t) ≡ true
  graft_answers then ends (Ends end) h = ends end
  graft_answers then ends (Does by order set branches) h =
      let parts = and_parts (list_all (λ r. is_some (branch branches r)) (order_replies order)) (all_answer branches) h in
      and_from (list_all (λ r. is_some (branch (graft_all then branches) r)) (order_replies order)) (all_answer (graft_all then branches))
      (alike (λ r. is_some (branch branches r)) (λ r. is_some (branch (graft_all then branches) r))
      (λ r has. ap is_some (graft_branch then branches r) ∙ (some_rest (graft then) (branch branches r) ∙ has))
      (order_replies order) parts.0)
      (graft_all_answer then ends branches parts.1)

  graft_all_answer : (then : End → Tree) → ((e : End) → answers (then e) ≡ true) → (bs : Branches) →
      all_answer bs ≡ true → all_answer (graft_all then bs) ≡ true
  graft_all_answer then ends Nothing h = refl
  graft_all_answer then ends (Branch replies said rest more) h =
      let parts = and_parts (list_all (λ r. answers rest) replies) (all_answer more) h in
      and_from (list_all (λ r. answers (graft then rest)) replies) (all_answer (graft_all then more))
      (alike (λ r. answers rest) (λ r. answers (graft then rest)) (λ r has. graft_answers then ends rest has) replies parts.0)
      (graft_all_answer then ends more parts.1)

mutual
  beside_answers : (goes : List Turn → Tree → Tree) →
      ((turns : List Turn) (old : Tree) → answers old ≡ true → answers (goes turns old) ≡ true) →
      (turns : List Turn) (old : Tree) → answers old ≡ true → answers (beside goes turns old) ≡ true
  beside_answers goes on turns (Ends end) h = on turns (Ends end) h
  beside_answers goes on [] (Does by order set branches) h = on [] (Does by order set branches) h
  beside_answers goes on (New ∷ turns) (Does by order set branches) h = on turns (Does by order set branches) h
  beside_answers goes on (Old ∷ turns) (Does by order set branches) h =
      let parts = and_parts (list_all (λ r. is_some (branch branches r)) (order_replies order)) (all_answer branches) h in
      and_from (list_all (λ r. is_some (branch (beside_all goes turns branches) r)) (order_replies order)) (all_answer (beside_all goes turns branches))
      (alike (λ r. is_some (branch branches r)) (λ r. is_some (branch (beside_all goes turns branches) r))
      (λ r has. ap is_some (beside_branch goes turns branches r) ∙
      (some_rest (beside goes turns) (branch branches r) ∙ has)) (order_replies order) parts.0)
      (beside_all_answer goes on turns branches parts.1)

  beside_all_answer : (goes : List Turn → Tree → Tree) →
      ((turns : List Turn) (old : Tree) → answers old ≡ true → answers (goes turns old) ≡ true) →
      (turns : List Turn) (bs : Branches) → all_answer bs ≡ true → all_answer (beside_all goes turns bs) ≡ true
  beside_all_answer goes on turns Nothing h = refl
  beside_all_answer goes on turns (Branch replies said rest more) h =
      let parts = and_parts (list_all (λ r. answers rest) replies) (all_answer more) h in
      and_from (list_all (λ r. answers (beside goes turns rest)) replies) (all_answer (beside_all goes turns more))
      (alike (λ r. answers rest) (λ r. answers (beside goes turns rest)) (λ r has. beside_answers goes on turns rest has) replies parts.0)
      (beside_all_answer goes on turns more parts.1)

mutual
  pub weave_answers : (join : End → Tree) → ((e : End) → answers (join e) ≡ true) →
      (new : Tree) (turns : List Turn) (old : Tree) → answers new ≡ true → answers old ≡ true →
      answers (weave join new turns old) ≡ true
  weave_answers join ends (Ends end) turns old h k = graft_answers (λ e. join end) (λ e. ends end) old k
  weave_answers join ends (Does by order set branches) turns old h k =
      let parts = and_parts (list_all (λ r. is_some (branch branches r)) (order_replies order)) (all_answer branches) h in
      beside_answers (λ later still. Does by order set (weave_all join branches later still))
      (λ later still on.
      and_from (list_all (λ r. is_some (branch (weave_all join branches later still) r)) (order_replies order))
      (all_answer (weave_all join branches later still))
      (alike (λ r. is_some (branch branches r)) (λ r. is_some (branch (weave_all join branches later still) r))
      (λ r has. ap is_some (weave_branch join branches later still r) ∙
      (some_rest (λ t. weave join t later still) (branch branches r) ∙ has)) (order_replies order) parts.0)
      (weave_all_answer join ends branches later still parts.1 on)) turns old k

  weave_all_answer : (join : End → Tree) → ((e : End) → answers (join e) ≡ true) →
      (bs : Branches) (turns : List Turn) (old : Tree) → all_answer bs ≡ true → answers old ≡ true →
      all_answer (weave_all join bs turns old) ≡ true
  weave_all_answer join ends Nothing turns old h k = refl
  weave_all_answer join ends (Branch replies said rest more) turns old h k =
      let parts = and_parts (list_all (λ r. answers rest) replies) (all_answer more) h in
      and_from (list_all (λ r. answers (weave join rest turns old)) replies) (all_answer (weave_all join more turns old))
      (alike (λ r. answers rest) (λ r. answers (weave join rest turns old)) (λ r has. weave_answers join ends rest turns old has k) replies parts.0)
      (weave_all_answer join ends more turns old parts.1 k)

pub joined_answers : (ready back : Tree) → answers ready ≡ true → answers back ≡ true → (e : End) → answers (joined ready back e) ≡ true
joined_answers ready back h k Done = k
joined_answers ready back h k RolledBack = k
joined_answers ready back h k ShortOld = k
joined_answers ready back h k ShortTarget = k
joined_answers ready back h k Split = k
joined_answers ready back h k JoinReady = h
joined_answers ready back h k JoinBack = k
joined_answers ready back h k Join = k

part_answers : (ready back new old : Tree) (turns : List Turn) → answers ready ≡ true → answers back ≡ true →
    answers new ≡ true → answers old ≡ true → (e : End) → answers (part_end ready back new old turns e) ≡ true
part_answers ready back new old turns a b c d Done = refl
part_answers ready back new old turns a b c d RolledBack = refl
part_answers ready back new old turns a b c d ShortOld = refl
part_answers ready back new old turns a b c d ShortTarget = refl
part_answers ready back new old turns a b c d Split = weave_answers (joined ready back) (joined_answers ready back a b) new turns old c d
part_answers ready back new old turns a b c d JoinReady = refl
part_answers ready back new old turns a b c d JoinBack = refl
part_answers ready back new old turns a b c d Join = refl

-- the steps of a plan answer under all turns
pub woven_answers : (steps : List Step) (parts : Option Parts) (turns : List Turn) → plan_answers steps parts ≡ true → answers (woven steps parts turns) ≡ true
woven_answers steps None turns h = h
woven_answers steps (Some p) turns h =
    let ready = tree_behind steps (To p.ready) in
    let back = tree_behind steps (To p.back) in
    let new = tree_behind steps (To p.new) in
    let old = tree_behind steps (To p.old) in
    let one = and_parts (answers (first_tree steps)) (answers new && (answers old && (answers ready && answers back))) h in
    let two = and_parts (answers new) (answers old && (answers ready && answers back)) one.1 in
    let three = and_parts (answers old) (answers ready && answers back) two.1 in
    let four = and_parts (answers ready) (answers back) three.1 in
    graft_answers (part_end ready back new old turns) (part_answers ready back new old turns four.0 four.1 two.0 three.0) (first_tree steps) one.0

-- a tree that is fit answers
mutual
  pub fit_answers : (short : Bool) (t : Tree) → is_fit short t ≡ true → answers t ≡ true
  fit_answers short (Ends end) h = refl
  fit_answers short (Does by order set branches) h =
      let both = and_parts _ (list_all (λ r. is_some (branch branches r)) (order_replies order) && are_fit short branches) h in
      let parts = and_parts (list_all (λ r. is_some (branch branches r)) (order_replies order)) (are_fit short branches) both.1 in
      and_from (list_all (λ r. is_some (branch branches r)) (order_replies order)) (all_answer branches) parts.0 (all_fit_answer short branches parts.1)

  all_fit_answer : (short : Bool) (bs : Branches) → are_fit short bs ≡ true → all_answer bs ≡ true
  all_fit_answer short Nothing h = refl
  all_fit_answer short (Branch replies said rest more) h =
      let parts = and_parts (list_all (λ r. is_fit (short_after short r) rest) replies) (are_fit short more) h in
      and_from (list_all (λ r. answers rest) replies) (all_answer more)
      (alike (λ r. is_fit (short_after short r) rest) (λ r. answers rest) (λ r has. fit_answers (short_after short r) rest has) replies parts.0)
      (all_fit_answer short more parts.1)
