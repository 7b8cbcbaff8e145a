-- By cases on the outcome and the target.
use Rattle.std.proofs.Common.{◌≡◌, ℕ, Bool, true, false, Option, Some, None, List, refl, sym, ap, ◌∙◌}
use Rattle.std.specs.Bool.{then_some}
use Rattle.vocabulary.specs.declared.plans.Side.TheVariants as side
use Rattle.vocabulary.specs.declared.reports.Outcome.TheVariants as outcome
use Rattle.vocabulary.specs.declared.reports.Outcome.{Outcome}
use Rattle.vocabulary.specs.Settings.{Settings}
use Rattle.definitions.specs.Table.{Generation}
use Rattle.definitions.specs.Master.{Record, Target, Workers, Mend, Reopen, Reload, Upgrade, Attended, Stop}
use Rattle.definitions.specs.Master.{generation_wanted, Posts, Listener, reload_generation, upgrade_generation}
use Rattle.definitions.specs.Master.{has_next}
use Rattle.definitions.specs.After.{record_from, named_record, target_record, old_record, renewed, reported}
use Rattle.definitions.specs.After.{keeps_rules, posts_wanted, reloaded, upgraded, next_config, next_image}
use Rattle.further_theorems.specs.Left.{Wants, wants_now, wants_of, wants_then, told, IsLeft, RecordsAreLeft}

-- what is known of a record before it is reported
pub record IsNamed (r : Record) (wants : Wants) (generation : Generation) (x : Record) : Type 0 where
  pub wants_are : wants_now x ≡ wants
  pub generation_is : x.generation ≡ generation
  pub path_is : x.pid_path ≡ r.pid_path

itself : (r x : Record) → Some r ≡ Some x → IsNamed r (wants_now r) r.generation x
itself r x e =
    let same : r ≡ x = cc (e) in
    record {
      wants_are = ap wants_now (sym same);
      generation_is = ap (λ (y : Record). y.generation) (sym same);
      path_is = ap (λ (y : Record). y.pid_path) (sym same);
    }

resized : (r x : Record) (n : ℕ) → Some (record r { wanted = n }) ≡ Some x → IsNamed r (record {
  workers = n;
  retries = r.retries;
  timeout = r.timeout;
}) r.generation x
resized r x n e =
    let same : record r { wanted = n } ≡ x = cc (e) in
    record {
      wants_are = ap wants_now (sym same);
      generation_is = ap (λ (y : Record). y.generation) (sym same);
      path_is = ap (λ (y : Record). y.pid_path) (sym same);
    }

given : (b : Bool) (g : Generation) (h : Generation) → then_some b g ≡ Some h → h ≡ g
given true g h e = sym (cc (e))
given false g h e = absurd (cc (e))

anew : (r x : Record) (s : Settings) (posts : Posts) (ls : Option (List Listener)) (o : Option Generation)
    (g : Generation) → ((h : Generation) → o ≡ Some h → h ≡ g) → renewed r s posts ls o ≡ Some x → IsNamed r
    (wants_of s) g x
anew r x s posts None o g is e = absurd (cc (e))
anew r x s posts (Some ls) None g is e = absurd (cc (e))
anew r x s posts (Some ls) (Some h) g is e =
    let same : record r {
      listeners = ls;
      posts = posts;
      generation = h;
      wanted = s.workers;
      retries = s.retries;
      timeout = s.timeout;
    } ≡ x = cc (e) in
    record {
      wants_are = ap wants_now (sym same);
      generation_is = ap (λ (y : Record). y.generation) (sym same) ∙
          is h refl;
      path_is = ap (λ (y : Record). y.pid_path) (sym same);
    }

of-target : (r x : Record) (target : Target) → target_record r target ≡ Some x → IsNamed r (wants_then r target)
    (generation_wanted r target) x
of-target r x (Workers n) e = resized r x n e
of-target r x (Mend overdue) e = itself r x e
of-target r x Reopen e = itself r x e
of-target r x (Reload s) e = anew r x s (posts_wanted r (Reload s)) (reloaded s.listeners r.listeners)
    (next_config r.generation) (reload_generation r.generation) (given (has_next r.generation.config)
    (reload_generation r.generation)) e
of-target r x (Upgrade s) e = anew r x s (posts_wanted r (Upgrade s)) (upgraded s.listeners r.listeners)
    (next_image r.generation) (upgrade_generation r.generation) (given _ (upgrade_generation r.generation)) e
of-target r x (Attended s) e = anew r x s (posts_wanted r (Attended s)) (upgraded s.listeners r.listeners)
    (next_image r.generation) (upgrade_generation r.generation) (given _ (upgrade_generation r.generation)) e
of-target r x (Stop quick) e = absurd (cc (e))

of-old : (r x : Record) (target : Target) → old_record r target ≡ Some x → IsNamed r (wants_now r) r.generation x
of-old r x (Workers n) e = itself r x e
of-old r x (Mend overdue) e = itself r x e
of-old r x Reopen e = itself r x e
of-old r x (Reload s) e = itself r x e
of-old r x (Upgrade s) e = itself r x e
of-old r x (Attended s) e = itself r x e
of-old r x (Stop quick) e = absurd (cc (e))

of-named : (r x : Record) (target : Target) (o : Outcome) → named_record o r target ≡ Some x → IsNamed r (told o
    (wants_now r) (wants_then r target)) (told o r.generation (generation_wanted r target)) x
of-named r x target outcome.Done e = of-target r x target e
of-named r x target outcome.RolledBack e = of-old r x target e
of-named r x target (outcome.Degraded side.Old shortfalls) e = of-old r x target e
of-named r x target (outcome.Degraded side.Target shortfalls) e = of-target r x target e
of-named r x target outcome.Lost e = absurd (cc (e))

pub records-are-left : RecordsAreLeft
records-are-left r target report pid left e = go (named_record report.outcome r target) refl e
  where
    kept : (b : Bool) (y : Record) → then_some b y ≡ Some left → left ≡ y
    kept true y e = sym (cc (e))
    kept false y e = absurd (cc (e))

    go : (o : Option Record) → named_record report.outcome r target ≡ o → record_from o report pid ≡ Some left →
        IsLeft r target report pid left
    go None is e = absurd (cc (e))
    go (Some x) is e =
        let named = of-named r x target report.outcome is in
        let same : left ≡ reported x report pid = kept (keeps_rules (reported x report pid))
        (reported x report pid) e in
        record {
          wants = ap wants_now same ∙ named.wants_are;
          generation = ap (λ (y : Record). y.generation) same ∙ named.generation_is;
          pid_path = ap (λ (y : Record). y.pid_path) same ∙ named.path_is;
          ready = ap (λ (y : Record). y.ready) same;
          note = ap (λ (y : Record). y.note) same;
          pid_is = ap (λ (y : Record). y.pid) same;
        }
