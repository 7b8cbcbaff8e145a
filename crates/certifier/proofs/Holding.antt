-- What the end of a replay says of all its entries.
use Rattle.std.proofs.Common.{◌≡◌, ℕ, ◌+◌, length, List, [], ◌∷◌, ◌++◌, replicate, Result, Ok, Err, sym, ◌∙◌, ap, subst}
use Rattle.std.specs.Prelude.{IfOk, IfErr}
use Rattle.definitions.specs.Plans.{Turn, New}
use Rattle.theorems.specs.Apart.{Plays}
use Rattle.definitions.specs.Run.{Entry, Report}
use Rattle.definitions.specs.Master.{Sides}
use Rattle.definitions.specs.Calls.{Handed}
use Rattle.plan_walk.specs.Path.{Trail, IsOver, Reports, trail_after}
use Rattle.plan_walk.specs.Walk.{trail_under, sides_in}
use Rattle.kernel_model.specs.Pattern.{moment_at}
use Rattle.kernel_model.specs.State.{State}
use Rattle.kernel_pattern.specs.declared.section.Section.{Section}
use Rattle.certifier.specs.declared.replay.Replay.{Replay}
use Rattle.certifier.specs.declared.replay.Certificate.{Certificate}
use Rattle.mismatches.specs.declared.Mismatch.{Mismatch}
use Rattle.mismatches.specs.declared.Mismatch.TheVariants as mismatch
use Rattle.certifier.specs.Turns.{IsTrimmed, used_in}
use Rattle.certifier.specs.Places.{Place, Start, place_at, place_under, place_after_all, trail_to, AreNext}
use Rattle.certifier.specs.Places.{AreNextUnder, IsPathUnder, HasTaken, EndsWell, EndsBadly, StopsBy, Shows, Holds}
use Rattle.certifier.specs.Places.{IsLed, FailsBy}
use Rattle.certifier.proofs.Explaining.{next-trail}
use Rattle.certifier.proofs.Turns.{append-none, plays-first, steady-news, goes-on}

module _ (handed : Handed) (heirs : List ℕ) (sides : Sides) (from : Start) (entries : List Entry) (x : Replay)
    (taken : HasTaken handed heirs sides from entries x) where
  -- the turns that are told lead to what the turns that were used do
  same-told : from.trail x.turns.told ≡ from.trail (used_in x.turns ++ [])
  same-told = sym (ap from.trail (append-none (used_in x.turns)) ∙ steady-news from.trail taken.steady x.turns.told x.turns.late)

  same-start : place_at from x.turns.told ≡ place_at from (used_in x.turns ++ [])
  same-start = ap (λ (t : Trail). record { trail = t; table = from.table; executing = from.executing }) same-told

  ---- What it has shown

  module _ (section : Section) (pattern : section.pattern ≡ x.pattern) (told : section.turns ≡ x.turns.told) where
    pub shows-all : Shows handed heirs from entries section
    shows-all = record {
      next =
          subst (λ (turns : List Turn). AreNextUnder handed heirs from turns entries) (sym told)
          (subst (λ (p : Place). AreNext handed heirs p entries) (sym same-start) (taken.next []));
      turns = record {
        used = λ turns path. subst (Plays turns) (sym told) (plays-first turns x.turns.told (replicate x.turns.late New) (taken.only turns path));
        trimmed = subst IsTrimmed (sym told) taken.trimmed;
      };
      shown = λ n. ap (λ p. moment_at p n) pattern ∙ taken.pattern n;
    }

    -- the trail to which the entries lead under the section's turns
    trail-told : trail_to from section.turns entries ≡ trail_under x.walk []
    trail-told =
        ap (λ (turns : List Turn). trail_to from turns entries) told
        ∙ (sym (next-trail handed heirs (place_at from x.turns.told) entries)
        ∙ (ap (λ (p : Place). (place_after_all handed heirs p entries).trail) same-start ∙ sym (ap (λ (p : Place). p.trail) (taken.place []))))

  ---- How it ends

  -- under turns that they are a path under, entries lead to where the replay has come
  ended : (turns : List Turn) → IsPathUnder from turns entries → (rest : List Turn) × (trail_to from turns entries ≡ trail_under x.walk rest)
  ended turns path =
      let more = goes-on from.trail taken.steady turns (used_in x.turns) (taken.only turns path) in
      let rest = more.one ∷ more.rest in (
        rest,
        ap (λ (t : Trail). trail_after t entries) more.same
            ∙ (sym (next-trail handed heirs (place_at from (used_in x.turns ++ rest)) entries) ∙ sym (ap (λ (p : Place). p.trail) (taken.place rest))),
      )

  told-so : (report : Report) (turns : List Turn) →
      Reports (sides_in x.walk) (trail_under x.walk turns) report ≡ Reports sides (trail_under x.walk turns) report
  told-so report turns = ap (λ (s : Sides). Reports s (trail_under x.walk turns) report) taken.sides_are

  pub ends-well : (report : Report) (result : Result Certificate Mismatch) →
      IfOk result (λ it. EndsWell x report it.section) →
      IfOk result (λ it. Holds handed heirs sides from entries report it.section)
  ends-well report (Ok it) h =
      let trail = trail-told it.section h.pattern h.turns in
      record {
        shows = shows-all it.section h.pattern h.turns;
        over = subst (λ (t : Trail). IsOver t.rest) (sym trail) (h.over []);
        reports = subst (λ (t : Trail). Reports sides t report) (sym trail) (subst (λ (X : Type 0). X) (told-so report []) (h.reports []));
      }
  ends-well report (Err why) h = tt

  -- the kernel of the replay is led by its entries
  pub ends-led : (calls : ℕ) → x.kernel.room + length entries ≡ calls →
      (report : Report) (result : Result Certificate Mismatch) → IfOk result (λ it. EndsWell x report it.section) →
      IfOk result (λ it. it.kernel ≡ x.kernel) →
      IfOk result (λ it. IsLed handed heirs calls (place_at from it.section.turns) entries it.kernel)
  ends-led calls room report (Ok it) h same = record {
    table =
        ap (λ (k : State). k.table) same
        ∙ (ap (λ (p : Place). p.table) (taken.place [])
        ∙ (ap (λ (p : Place). (place_after_all handed heirs p entries).table) (sym same-start) ∙ ap (λ (turns : List Turn). (place_under handed heirs from turns entries).table) (sym h.turns)));
    room = ap (λ (k : State). k.room + length entries) same ∙ room;
  }
  ends-led calls room report (Err why) h same = tt

  pub ends-badly : (report : Report) (result : Result Certificate Mismatch) → IfErr result (EndsBadly x report) →
      IfErr result (FailsBy handed heirs sides from entries report)
  ends-badly report (Ok it) h = tt
  ends-badly report (Err mismatch.Refused) h = absurd h
  ends-badly report (Err (mismatch.Step n)) h = absurd h
  ends-badly report (Err mismatch.Memory) h = absurd h
  ends-badly report (Err mismatch.Short) h = record {
    turns = used_in x.turns ++ [];
    next = taken.next [];
    left = λ others path over. let it = ended others path in h it.0 (subst (λ (t : Trail). IsOver t.rest) it.1 over);
  }
  ends-badly report (Err mismatch.Report) h = record {
    turns = used_in x.turns ++ [];
    next = taken.next [];
    over = λ others path. let it = ended others path in subst (λ (t : Trail). IsOver t.rest) (sym it.1) (h.0 it.0);
    other = λ others path reports. let it = ended others path in h.1 it.0 (subst (λ (X : Type 0). X) (sym (told-so report it.0)) (subst (λ (t : Trail). Reports sides t report) it.1 reports));
  }

-- a replay that stops
pub stops-so : (handed : Handed) (heirs : List ℕ) (sides : Sides) (from : Start) (entries : List Entry)
    (report : Report) (why : Mismatch) → StopsBy handed heirs from entries why →
    FailsBy handed heirs sides from entries report why
stops-so handed heirs sides from entries report mismatch.Refused h = h
stops-so handed heirs sides from entries report (mismatch.Step n) h = h
stops-so handed heirs sides from entries report mismatch.Short h = absurd h
stops-so handed heirs sides from entries report mismatch.Report h = absurd h
stops-so handed heirs sides from entries report mismatch.Memory h = h
