-- What is lacking after a run is within the account.
use Rattle.std.proofs.Common.{◌≡◌, ℕ, ◌+◌, ◌≤◌, Bool, true, false, cond, not, List, [], ◌∷◌, Option, Some, None, sym, ap, ◌∙◌, arith, length, ◌⊎◌, inl, inr, ⊎_elim}
use Rattle.std.specs.Prelude.{⊤, filter, ◌&&◌}
use Rattle.std.proofs.lemmas.Option.{none-some, same_Some}
use Rattle.listener_set.specs.Numbers.{numbers_below, is_in, lacks}
use Rattle.listener_set.specs.declared.generation.Generation.{Generation}
use Rattle.vocabulary.specs.Settings.{Settings}
use Rattle.vocabulary.specs.declared.table.Listener.{Listener}
use Rattle.vocabulary.specs.declared.plans.Side.TheVariants as side
use Rattle.vocabulary.specs.declared.reports.Outcome.TheVariants as outcome
use Rattle.definitions.specs.Table.{Table}
use Rattle.definitions.specs.Master.{Record, Target, Workers, Mend, Reopen, Reload, Upgrade, Attended, Stop, Posts, sides_of, numbers_wanted, layout_wanted}
use Rattle.definitions.specs.Run.{Done, RolledBack, ShortOld, ShortTarget, Split, JoinReady, JoinBack, Join, Progress, Ending, At, Lost, Outcome, outcome_of}
use Rattle.definitions.specs.After.{renewed, reloaded, upgraded, next_config, next_image, posts_wanted, target_record, old_record, named_record}
use Rattle.definitions.specs.Claims.{IsPaid}
use Rattle.call_laws.specs.Pieces.{lacked_last}
use Rattle.call_laws.proofs.Choices.{and-left, and-right}
use Rattle.table_laws.proofs.Counts.{Distinct, filter-distinct}
use Rattle.table_laws.proofs.Sets.{in-filter-of, in-filter-on, shorter, below-distinct}
use Rattle.table_laws.proofs.Shares.{shortfalls-sum}
use Rattle.lives.specs.Lives.{Task, missing_workers, owed_after, owed_when_done, AllowsTarget, run_at, reported_at, record_left_by, table_after, IsStanding, IsCarriedOut}
use Rattle.lives.proofs.Counting.{EndCount, IsStop, plan-counts, run-counts}
use Rattle.lives.proofs.Standing.{left-is, promised}

---- What one set lacks of another by way of a third

-- those of the first that the second has and the third lacks
abbrev between : List ℕ → List ℕ → ℕ → Bool
between B C k = is_in B k && not (is_in C k)

split-lacks : (S B C : List ℕ) → length (lacks S C) ≤ length (lacks S B) + length (filter (between B C) S)
split-lacks [] B C = omega arith
split-lacks (x ∷ S) B C = go (is_in B x) (is_in C x) (split-lacks S B C)
  where
    go :
        (b c : Bool) → length (lacks S C) ≤ length (lacks S B) + length (filter (between B C) S) →
        length (cond (not c) (x ∷ lacks S C) (lacks S C)) ≤
        length (cond (not b) (x ∷ lacks S B) (lacks S B)) + length (cond (b && not c) (x ∷ filter (between B C) S) (filter (between B C) S))
    go true true h = omega (arith, h)
    go true false h = omega (arith, h)
    go false true h = omega (arith, h)
    go false false h = omega (arith, h)

cut : (S B C : List ℕ) → Distinct S → length (lacks S C) ≤ length (lacks S B) + length (lacks B C)
cut S B C d =
    let few =
    shorter (filter (between B C) S) (lacks B C) (filter-distinct (between B C) S d)
    (λ k e. let on = (in-filter-of (between B C) S k e).1 in in-filter-on (λ j. not (is_in C j)) B k (and-left (is_in B k) _ on) (and-right (is_in B k) _ on)) in
    omega (arith, split-lacks S B C, few)

---- How many are wanted

abbrev IsReopen : Target → Type 0
IsReopen Reopen = ⊤
IsReopen (Workers n) = ⊥
IsReopen (Mend overdue) = ⊥
IsReopen (Reload s) = ⊥
IsReopen (Upgrade s) = ⊥
IsReopen (Attended s) = ⊥
IsReopen (Stop quick) = ⊥

renewed-wanted :
    (r : Record) (s : Settings) (posts : Posts) (ls : Option (List Listener)) (g : Option Generation) (x : Record) →
    renewed r s posts ls g ≡ Some x → numbers_below s.workers ≡ numbers_below x.wanted
renewed-wanted r s posts None g x e = absurd (none-some x e)
renewed-wanted r s posts (Some ls) None x e = absurd (none-some x e)
renewed-wanted r s posts (Some ls) (Some g) x e = ap (λ (y : Record). numbers_below y.wanted) (same_Some _ x e)

-- but for a reopening a target wants all numbers below the wanted count
wants-all :
    (r : Record) (target : Target) (x : Record) → (IsReopen target → ⊥) → target_record r target ≡ Some x →
    numbers_wanted r target ≡ numbers_below x.wanted
wants-all r (Workers n) x other e = ap (λ (y : Record). numbers_below y.wanted) (same_Some (record r { wanted = n }) x e)
wants-all r (Mend overdue) x other e = ap (λ (y : Record). numbers_below y.wanted) (same_Some r x e)
wants-all r Reopen x other e = absurd (other tt)
wants-all r (Reload s) x other e = renewed-wanted r s (posts_wanted r (Reload s)) (reloaded s.listeners r.listeners) (next_config r.generation) x e
wants-all r (Upgrade s) x other e = renewed-wanted r s (posts_wanted r (Upgrade s)) (upgraded s.listeners r.listeners) (next_image r.generation) x e
wants-all r (Attended s) x other e = renewed-wanted r s (posts_wanted r (Attended s)) (upgraded s.listeners r.listeners) (next_image r.generation) x e
wants-all r (Stop quick) x other e = absurd (none-some x e)

old-is : (r : Record) (target : Target) (x : Record) → old_record r target ≡ Some x → r ≡ x
old-is r (Workers n) x e = same_Some r x e
old-is r (Mend overdue) x e = same_Some r x e
old-is r Reopen x e = same_Some r x e
old-is r (Reload s) x e = same_Some r x e
old-is r (Upgrade s) x e = same_Some r x e
old-is r (Attended s) x e = same_Some r x e
old-is r (Stop quick) x e = absurd (none-some x e)

---- After a run

module _ (r left : Record) (q : Progress) (x : Record) (ready : left.ready ≡ q.ready) (wanted : left.wanted ≡ x.wanted) where
  lacking-is : missing_workers left ≡ length (lacks (numbers_below x.wanted) q.ready)
  lacking-is = λ i. length (lacks (numbers_below (wanted i)) (ready i))

  -- where the old numbers are wanted
  lacking-old : r ≡ x → missing_workers left ≤ missing_workers r + length (lacks r.ready q.ready)
  lacking-old same =
      let more = cut (numbers_below r.wanted) r.ready q.ready (below-distinct r.wanted) in
      omega (arith, lacking-is, more, ap (λ (y : Record). length (lacks (numbers_below y.wanted) q.ready)) same)

  lacking-all :
      (target : Target) → (IsReopen target → ⊥) → target_record r target ≡ Some x →
      missing_workers left ≡ length (lacks (numbers_wanted r target) q.ready)
  lacking-all target other e = lacking-is ∙ ap (λ l. length (lacks l q.ready)) (sym (wants-all r target x other e))

  lacking-target :
      (target : Target) → target_record r target ≡ Some x →
      missing_workers left ≤ missing_workers r + length (lacks (numbers_wanted r target) q.ready)
  lacking-target (Workers n) e = omega (arith, lacking-all (Workers n) (λ h. h) e)
  lacking-target (Mend overdue) e = omega (arith, lacking-all (Mend overdue) (λ h. h) e)
  lacking-target Reopen e = lacking-old (same_Some r x e)
  lacking-target (Reload s) e = omega (arith, lacking-all (Reload s) (λ h. h) e)
  lacking-target (Upgrade s) e = omega (arith, lacking-all (Upgrade s) (λ h. h) e)
  lacking-target (Attended s) e = omega (arith, lacking-all (Attended s) (λ h. h) e)
  lacking-target (Stop quick) e = omega (arith, lacking-all (Stop quick) (λ h. h) e)

  none-lacking :
      (target : Target) → (IsReopen target → ⊥) → target_record r target ≡ Some x →
      lacks (numbers_wanted r target) q.ready ≡ [] → missing_workers left ≡ 0
  none-lacking target other e full = lacking-all target other e ∙ ap length full

  when-done :
      (target : Target) (owed : ℕ) → missing_workers r ≤ owed → target_record r target ≡ Some x →
      lacks (numbers_wanted r target) q.ready ≡ [] → missing_workers left ≤ owed_when_done owed target
  when-done (Workers n) owed le e full = omega (arith, none-lacking (Workers n) (λ h. h) e full)
  when-done (Mend overdue) owed le e full = omega (arith, none-lacking (Mend overdue) (λ h. h) e full)
  when-done Reopen owed le e full = omega (arith, lacking-old (same_Some r x e), ap length full, le)
  when-done (Reload s) owed le e full = omega (arith, none-lacking (Reload s) (λ h. h) e full)
  when-done (Upgrade s) owed le e full = omega (arith, none-lacking (Upgrade s) (λ h. h) e full)
  when-done (Attended s) owed le e full = omega (arith, none-lacking (Attended s) (λ h. h) e full)
  when-done (Stop quick) owed le e full = omega (arith, none-lacking (Stop quick) (λ h. h) e full)

  pub within-account :
      (target : Target) (owed : ℕ) (e : Ending) → missing_workers r ≤ owed → 1 ≤ length r.posts.groups →
      1 ≤ length (layout_wanted r target).groups → EndCount r.ready (numbers_wanted r target) e q →
      IsPaid r.retries (outcome_of (sides_of r target) e (lacked_last q.lacked)) q →
      named_record (outcome_of (sides_of r target) e (lacked_last q.lacked)) r target ≡ Some x →
      missing_workers left ≤ owed_after owed r target (outcome_of (sides_of r target) e (lacked_last q.lacked)) q
  within-account target owed (At Done) le some some' count paid named = when-done target owed le named count
  within-account target owed (At RolledBack) le some some' count paid named =
      omega (arith, le, lacking-old (old-is r target x named), ap length count)
  within-account target owed (At ShortOld) le some some' count paid named =
      omega (arith, le, paid, lacking-old (old-is r target x named), ap length count, shortfalls-sum r.posts.groups (lacked_last q.lacked) some)
  within-account target owed (At ShortTarget) le some some' count paid named =
      omega (arith, le, paid, lacking-target target named, ap length count, shortfalls-sum (layout_wanted r target).groups (lacked_last q.lacked) some')
  within-account target owed (At Split) le some some' count paid named = absurd count
  within-account target owed (At JoinReady) le some some' count paid named = absurd count
  within-account target owed (At JoinBack) le some some' count paid named = absurd count
  within-account target owed (At Join) le some some' count paid named = absurd count
  within-account target owed Lost le some some' count paid named = absurd paid

-- a target wants a group at least
some-groups : (r : Record) (target : Target) → 1 ≤ length r.posts.groups → AllowsTarget r target → 1 ≤ length (layout_wanted r target).groups
some-groups r (Workers n) some h = some
some-groups r (Mend overdue) some h = some
some-groups r Reopen some h = some
some-groups r (Reload s) some h = h.0.groups.some
some-groups r (Upgrade s) some h = h.0.groups.some
some-groups r (Attended s) some h = h.0.groups.some
some-groups r (Stop quick) some h = some

not-stop : (target : Target) → (IsStop target → ⊥) ⊎ IsStop target
not-stop (Workers n) = inl (λ h. h)
not-stop (Mend overdue) = inl (λ h. h)
not-stop Reopen = inl (λ h. h)
not-stop (Reload s) = inl (λ h. h)
not-stop (Upgrade s) = inl (λ h. h)
not-stop (Attended s) = inl (λ h. h)
not-stop (Stop quick) = inr tt

-- a stop leaves no record
stop-leaves : (o : Outcome) (r : Record) (target : Target) (x : Record) → IsStop target → named_record o r target ≡ Some x → ⊥
stop-leaves outcome.Done r (Stop quick) x h e = none-some x e
stop-leaves outcome.RolledBack r (Stop quick) x h e = none-some x e
stop-leaves (outcome.Degraded side.Old shortfalls) r (Stop quick) x h e = none-some x e
stop-leaves (outcome.Degraded side.Target shortfalls) r (Stop quick) x h e = none-some x e
stop-leaves outcome.Lost r (Stop quick) x h e = none-some x e
stop-leaves _ r _ x h e = absurd h

pub accounted-after :
    (t : Table) (r : Record) (task : Task) (owed : ℕ) (left : Record) → IsStanding t r → IsCarriedOut t r task →
    missing_workers r ≤ owed → record_left_by t r task ≡ Some left →
    missing_workers left ≤ owed_after owed r task.target (reported_at t r task).outcome (run_at t r task).last
accounted-after t r task owed left s c le e =
    let is = left-is r task.target (reported_at t r task) (table_after t r task) left e in
    let some = s.start.record_in_range.groups.some in
    ⊎_elim
    (λ no_stop.
    within-account r left (run_at t r task).last is.named (ap (λ (y : Record). y.ready) is.is) (ap (λ (y : Record). y.wanted) is.is)
    task.target owed (run_at t r task).ending le some (some-groups r task.target some c.allows)
    (run-counts r.ready (numbers_wanted r task.target) _ _ task.pattern _ (plan-counts r task.target task.turns no_stop))
    (promised t r task s c).paid is.by_name)
    (λ stop. absurd (stop-leaves (reported_at t r task).outcome r task.target is.named stop is.by_name)) (not-stop task.target)
