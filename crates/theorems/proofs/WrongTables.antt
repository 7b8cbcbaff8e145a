-- Tables and runs that break a claim.
use Rattle.std.proofs.Common.{◌≡◌, ℕ, ◌+◌, Bool, true, false, length, refl, sym, ap, ◌∙◌, subst, arith, ⊎_elim}
use Rattle.std.specs.Prelude.{is_some, count_by, List, [], None, Some}
use Rattle.vocabulary.specs.declared.calls.Call.TheVariants.{Adopt}
use Rattle.vocabulary.specs.declared.plans.End.TheVariants as end
use Rattle.definitions.specs.Run.{Ends}
use Rattle.definitions.specs.Plans.{tries}
use Rattle.listener_set.specs.declared.generation.Generation.{Generation}
use Rattle.definitions.specs.Table.{Hold, Table, Caller, same_generation, live_master, service}
use Rattle.call_laws.specs.Pieces.{share, is_serving_as}
use Rattle.definitions.specs.Claims.{IsFewerAt}
use Rattle.theorems.specs.Examples.{first, port, other_port, holds, two_workers, count_if}
use Rattle.theorems.specs.GroupRuns.{both_holds, grouped_with, three_workers, three_ready}
use Rattle.theorems.specs.WrongTables.{none_left, other_unserved, heir, WrongTables}
use Rattle.table_laws.proofs.Effects.{same-is}

no : true ≡ false → ⊥
no e = cc

abbrev counts : Table → Generation → ℕ
counts t g = count_by (is_serving_as port g) t.rows

-- Of the generation that had two workers, two are lacking, and no other can have lost one.
two_less : IsFewerAt 1 (service two_workers port) (service none_left port) → ⊥
two_less h = go (same_generation first h.0) refl
  where
    go : (b : Bool) → same_generation first h.0 ≡ b → ⊥
    go true e =
        let less : counts two_workers first ≡ counts none_left first + 1 =
        subst (λ g. counts two_workers g ≡ counts none_left g + 1) (sym (same-is first h.0 e)) h.1 in
        absurd (cc (less))
    go false e = absurd (cc (h.2 first e))

-- At the first group's address no generation has one less.
none_less : IsFewerAt 1 (service three_workers port) (service other_unserved port) → ⊥
none_less h = go (same_generation first h.0) refl
  where
    same : (b : Bool) → same_generation first h.0 ≡ b → counts three_workers h.0 ≡ counts other_unserved h.0
    same true e = rw e refl
    same false e = rw e refl

    go : (b : Bool) → same_generation first h.0 ≡ b → ⊥
    go b e = absurd (omega (arith, h.1, same b e))

-- The master holds both sockets.
holds-both : (hs : List Hold) → live_master 1 (grouped_with both_holds).rows ≡ Some (record { number = 100; holds = hs }) → both_holds ≡ hs
holds-both hs lives =
    let found : record { number = 100; holds = both_holds } ≡ record { number = 100; holds = hs } = cc in
    ap (λ (c : Caller). c.holds) found

-- The other group's worker holds one of them.
not_all : (hs : List Hold) → both_holds ≡ hs → both_holds ≡ share three_ready.posts 2 hs → ⊥
not_all hs same is =
    let two : length both_holds ≡ length (share three_ready.posts 2 both_holds) = ap length is ∙ ap (λ l. length (share three_ready.posts 2 l)) (sym same) in
    absurd (omega (arith, two))

pub wrong_tables : WrongTables
wrong_tables = record {
  done = λ h. let e = ap (λ o. count_if o first) (h port) in absurd (cc);
  rolled_back = λ h. no (ap is_some (h other_port));
  degraded = λ h. two_less (h.2 port);
  lost = λ h. h;
  kept = λ h. no (sym (h port 1 (refl, refl) refl));
  floor = λ h. absurd (omega (arith, h port (refl, refl)));
  ended_first = λ h. absurd (omega (arith, h port (refl, refl)));
  faults_before = λ h. absurd (omega (arith, h port (refl, refl)));
  first_question = λ h. absurd (omega (arith, h port (refl, refl)));
  aside = λ h. let e = ap length (h.rows heir refl) in absurd (cc e);
  aside_files = λ h. absurd (cc (h.files));
  aside_gone = λ h. let e = ap (λ (t : Table). length t.rows) (h.gone refl) in absurd (cc e);
  turn_ignored =
      ((refl, refl, (None, tries 2 Adopt [] (Ends end.Done) (Ends end.RolledBack)), refl, (refl, refl, (None, Ends end.Done), refl, refl)), λ h. absurd (cc (h.0)));
  agrees = λ h. h.running.1.1.1.0 refl;
  orphan = (
    record {
      holds = holds;
      lives = refl;
      alone = refl;
      listeners = refl;
      running = (tt, ((λ e. (refl, refl)), ((λ e. (refl, refl)), ((λ e. absurd (omega (arith, e))), tt))));
      ready = λ k. refl;
      files = (refl, refl);
    },
    λ h. no (sym h.parents.1.1.1.0),
  );
  files = λ h. absurd (cc (h.0));
  stop_note = λ h. absurd (cc (h.0));
  file_gone = λ h. absurd (cc (h.1));
  stopped = λ h. no (h.1);
  blamed = λ h. absurd (omega (arith, h.0 refl));
  blamed_falsely = λ h. absurd (omega (arith, h.1 refl));
  cause = λ h. absurd (cc);
  paid = λ h. absurd (omega (arith, h));
  stays = λ h. ⊎_elim (λ a. no (sym a)) (λ a. no (sym a)) (h 102 1 refl refl);
  goes = λ h. no (h 101 0 refl refl);
  kills = λ h. no (sym (h.0 102 1 refl refl));
  leaves = λ h. no (sym h.0);
  settled = λ h. ⊎_elim (λ a. let e = ap length a.1 in absurd (omega (arith, e))) (λ a. absurd (cc (a.0))) h;
  settled_by_count = λ h. ⊎_elim (λ a. absurd (cc)) (λ a. let e = ap length a.2 in absurd (omega (arith, e))) h;
  settled_early = λ h. ⊎_elim (λ a. absurd (cc (a.0))) (λ a. absurd (omega (arith, a.3))) h;
  side_after = λ h. h.running.1.1.1.0 refl;
  shares = λ h. not_all h.holds (holds-both h.holds h.lives) (h.running.1.1.1.0 refl).1;
  summed = λ h. absurd (omega (arith, h.0));
  misplaced = λ h. let e = ap (λ o. count_if o first) (h port) in absurd (cc);
  named_wrongly = λ h. none_less (h.2 port);
  swapped = λ h. no (sym (h.1 0 port (omega arith)));
}
