-- What the replay of a target's entries says of the target.
use Rattle.std.proofs.Common.{◌≡◌, ◌⊎◌, inl, inr, ℕ, ◌+◌, ◌-◌, ◌<◌, ◌≤◌, List, [], ◌∷◌, ◌++◌, take, drop, None, Result}
use Rattle.std.proofs.Common.{Ok, Err, true, refl, sym, ◌∙◌, ap, subst, arith}
use Rattle.std.specs.Prelude.{◌↔◌, IfOk, IfErr}
use Rattle.std.specs.Result.{IsErrOf}
use Rattle.std.proofs.lemmas.Bool.{false≢true, cases_order}
use Rattle.std.proofs.lemmas.List.{take-append-drop}
use Rattle.std.proofs.Math.Seq.{take-add}
use Rattle.definitions.specs.Table.{Table}
use Rattle.definitions.specs.Master.{Record, handover_for, sides_of}
use Rattle.vocabulary.specs.declared.targets.Target.{Target}
use Rattle.definitions.specs.Plans.{Turn, plan_tree}
use Rattle.call_laws.specs.Lengths.{plan_length}
use Rattle.definitions.specs.Run.{Entry, Report}
use Rattle.call_laws.specs.Pieces.{lacked_last}
use Rattle.plan_walk.specs.Path.{KeepsPathLaw}
use Rattle.definitions.specs.Claims.{refused_among, refusal_of, heirs_of}
use Rattle.kernel_model.specs.Pattern.{moment_at}
use Rattle.kernel_pattern.specs.declared.section.Section.{Section}
use Rattle.kernel_model.specs.Room.{LacksNumbers}
use Rattle.service_state.specs.Targets.{lacks_generation}
use Rattle.reload_planner.specs.declared.refusal.PlanRefusal.{PlanRefusal}
use Rattle.reload_planner.specs.declared.refusal.PlanRefusal.TheVariants as planner
use Rattle.plan_executor.specs.declared.enactment.EnactRefusal.{EnactRefusal}
use Rattle.plan_executor.specs.declared.enactment.EnactRefusal.TheVariants as refusal
use Rattle.plan_executor.specs.Refusals.{HasNoPlan, IsRefused}
use Rattle.plan_executor.proofs.Exact.{no_plan}
use Rattle.kernel_model.specs.State.{State}
use Rattle.std.proofs.lemmas.Option.{none-some}
use Rattle.plan_executor.proofs.Reporting.{whole-run}
use Rattle.plan_executor.specs.Lawful.{IsWholeRun}
use Rattle.plan_executor.specs.Merged.{ActsApart}
use Rattle.mismatches.specs.declared.Mismatch.{Mismatch}
use Rattle.mismatches.specs.declared.Mismatch.TheVariants as mismatch
use Rattle.certifier.specs.Shown.{moments_shown}
use Rattle.certifier.specs.Places.{AreNext, place_after_all, place_under, AreShown, Shows, StopsBy, Holds, FailsBy}
use Rattle.certifier.specs.Explained.{trail_by, IsExplainedBy, IsExplained, IsReady, IsUnready, IsStrange, IsNoBeginning, IsMismatch}
use Rattle.plan_executor.specs.Codes.{mismatch_of}
use Rattle.certifier.specs.Certified.{AreTurnsOf, IsBeginning, IsCertified, EnactsSo}
use Rattle.certifier.proofs.Asking.{not-lost}
use Rattle.certifier.proofs.Steps.{next-front}
use Rattle.certifier.proofs.Turns.{trimmed-fewest}
use Rattle.certifier.proofs.Explaining.{origin, begins, goes-through, next-follows, next-edges, next-replays, next-spares, is-explained, is-next}

---- The turns that entries show

pub turns-of : (t : Table) (r : Record) (target : Target) (entries : List Entry) (turns : List Turn) →
    AreShown (origin t r target) entries turns → AreTurnsOf r target entries turns
turns-of t r target entries turns shown = record {
  used = shown.used;
  fewest = λ others path. trimmed-fewest others turns (shown.used others path) shown.trimmed;
  trimmed = shown.trimmed;
}

---- Entries that are to begin a run

module _ (t : Table) (r : Record) (target : Target) (entries : List Entry) (ready : IsReady t r target) where
  pub begun : (section : Section) →
      Shows (handover_for r target) (heirs_of r target) (origin t r target) entries section →
      IsBeginning t r target entries section
  begun section h =
      record {
        ready = ready;
        explained = is-explained t r target section.turns entries h.next;
        turns = turns-of t r target entries section.turns h.turns;
        shown = h.shown;
      }

  pub unbegun : (why : Mismatch) → StopsBy (handover_for r target) (heirs_of r target) (origin t r target) entries why →
      (why ≡ mismatch.Memory) ⊎ IsNoBeginning t r target entries why
  unbegun mismatch.Refused h = absurd h
  unbegun (mismatch.Step n) h = inr (record {
    ready = ready;
    before = h.before;
    number = h.number;
    within = h.within;
    explained = (h.turns, is-explained t r target h.turns (take h.before entries) h.next);
    strange = λ all. h.stops all.0 (is-next t r target all.0 (take n entries) all.1);
  })
  unbegun mismatch.Short h = absurd h
  unbegun mismatch.Report h = absurd h
  unbegun mismatch.Memory h = inl refl

---- Transcripts

module _ (t : Table) (r : Record) (target : Target) (entries : List Entry) (report : Report) (ready : IsReady t r target) where
  ---- A transcript that holds

  pub whole : (section : Section) → Holds (handover_for r target) (heirs_of r target) (sides_of r target) (origin t r target) entries report section →
      IsWholeRun r target section.turns (moment_at section.pattern) t entries
      (place_under (handover_for r target) (heirs_of r target)
      (origin t r target) section.turns entries).table report
  whole section h =
      let handed = handover_for r target in
      let heirs = heirs_of r target in
      let sides = sides_of r target in
      let turns = section.turns in
      let pattern = section.pattern in
      let p = begins t r target turns in
      let next = h.shows.next in
      let goes = goes-through (moment_at pattern) (moments_shown handed t entries) h.shows.shown in
      let trail = trail_by r target turns entries in
      let law : KeepsPathLaw (plan_tree r target turns) r.note sides entries report = record {
        path = next-follows handed heirs p entries next;
        report_is = h.reports;
        lost = λ lost. absurd (not-lost sides trail.rest (lacked_last trail.lacked) report.outcome (next-edges handed heirs p entries refl next) h.reports.outcome lost);
      } in
      whole-run r target turns (moment_at pattern) t (place_after_all handed heirs p entries).table entries report law (next-replays handed heirs (moment_at pattern) 0 p entries goes next)

  -- no executing master exits in its run
  pub spares : (section : Section) →
      Holds (handover_for r target) (heirs_of r target) (sides_of r target) (origin t r target) entries report section →
      refusal_of r target section.turns (moment_at section.pattern) t ≡ None
  spares section h =
      let handed = handover_for r target in
      let heirs = heirs_of r target in
      let p = begins t r target section.turns in
      let goes = goes-through (moment_at section.pattern) (moments_shown handed t entries) h.shows.shown in
      ap (refused_among (r.generation.image ∷ []) heirs (moment_at section.pattern) 0) (whole section h).entries_are ∙ next-spares handed heirs (moment_at section.pattern) 0 p entries goes h.shows.next

  pub certified : (section : Section) →
      Holds (handover_for r target) (heirs_of r target) (sides_of r target) (origin t r target) entries report section →
      ActsApart r target section.turns entries → IsCertified t r target entries report section
  certified section h apart = record {
    ready = ready;
    shown = h.shows.shown;
    turns = turns-of t r target entries section.turns h.shows.turns;
    last = (place_under (handover_for r target) (heirs_of r target) (origin t r target) section.turns entries).table;
    is_run = whole section h;
    spared = spares section h;
    apart = apart;
  }

  ---- One that does not

  pub mismatched : (why : Mismatch) →
      FailsBy (handover_for r target) (heirs_of r target) (sides_of r target) (origin t r target) entries report why →
      (why ≡ mismatch.Memory) ⊎ IsMismatch t r target entries report why
  mismatched mismatch.Refused h = unbegun t r target entries ready mismatch.Refused h
  mismatched (mismatch.Step n) h = unbegun t r target entries ready (mismatch.Step n) h
  mismatched mismatch.Short h = inr (record {
    ready = ready;
    explained = (h.turns, is-explained t r target h.turns entries h.next);
    unfinished = h.left;
  })
  mismatched mismatch.Report h = inr (record {
    ready = ready;
    explained = (h.turns, is-explained t r target h.turns entries h.next);
    over = h.over;
    other = h.other;
  })
  mismatched mismatch.Memory h = unbegun t r target entries ready mismatch.Memory h

---- At most one mismatch fits

not-both : (t : Table) (r : Record) (target : Target) → IsUnready t r target → IsReady t r target → ⊥
not-both t r target (inl disagrees) ready = disagrees ready.agrees
not-both t r target (inr (inl planless)) ready = false≢true (sym ready.has_plan ∙ planless)
not-both t r target (inr (inr lacks)) ready = ready.numbers lacks

-- the first of explained entries are explained
front-explained : (t : Table) (r : Record) (target : Target) (es more whole : List Entry) → whole ≡ es ++ more →
    IsExplained t r target whole → IsExplained t r target es
front-explained t r target es more whole split all =
    let handed = handover_for r target in
    let heirs = heirs_of r target in
    let p = begins t r target all.0 in
    (all.0, is-explained t r target all.0 es (next-front handed heirs p es more (subst (AreNext handed heirs p) split (is-next t r target all.0 whole all.1))))

pub all-explained : (t : Table) (r : Record) (target : Target) (es : List Entry) (k : ℕ) → IsExplained t r target es → IsExplained t r target (take k es)
all-explained t r target es k = front-explained t r target (take k es) (drop k es) es (sym (take-append-drop k es))

fewer-explained : (t : Table) (r : Record) (target : Target) (es : List Entry) (j k : ℕ) → j ≤ k →
    IsExplained t r target (take k es) → IsExplained t r target (take j es)
fewer-explained t r target es j k le =
    let more : k ≡ j + (k - j) = omega (arith, le) in
    front-explained t r target (take j es) (take (k - j) (drop j es)) (take k es) (ap (λ n. take n es) more ∙ take-add j (k - j) es)

-- nothing stops before the first that does
not-earlier : (t : Table) (r : Record) (target : Target) (es : List Entry) (n m : ℕ) → IsStrange t r target es n → IsStrange t r target es m → n < m → ⊥
not-earlier t r target es n m h k lt =
    let number = k.number in
    h.strange (fewer-explained t r target es n k.before (omega (arith, lt, number)) k.explained)

same-step : (t : Table) (r : Record) (target : Target) (es : List Entry) (n m : ℕ) → IsStrange t r target es n → IsStrange t r target es m → n ≡ m
same-step t r target es n m h k = elim (cases_order n m) [
  | inl same ↦ same
  | inr (inl lt) ↦ absurd (not-earlier t r target es n m h k lt)
  | inr (inr lt) ↦ absurd (not-earlier t r target es m n k h lt)
]

one-beginning : (t : Table) (r : Record) (target : Target) (es : List Entry) (why other : Mismatch) →
    IsNoBeginning t r target es why → IsNoBeginning t r target es other → why ≡ other
one-beginning t r target es mismatch.Refused mismatch.Refused h k = refl
one-beginning t r target es mismatch.Refused (mismatch.Step m) h k = absurd (not-both t r target h k.ready)
one-beginning t r target es (mismatch.Step n) mismatch.Refused h k = absurd (not-both t r target k h.ready)
one-beginning t r target es (mismatch.Step n) (mismatch.Step m) h k = ap mismatch.Step (same-step t r target es n m h k)
one-beginning t r target es mismatch.Short other h k = absurd h
one-beginning t r target es mismatch.Report other h k = absurd h
one-beginning t r target es mismatch.Memory other h k = absurd h
one-beginning t r target es why mismatch.Short h k = absurd k
one-beginning t r target es why mismatch.Report h k = absurd k
one-beginning t r target es why mismatch.Memory h k = absurd k

one : (t : Table) (r : Record) (target : Target) (es : List Entry) (report : Report) (why other : Mismatch) →
    IsMismatch t r target es report why → IsMismatch t r target es report other → why ≡ other
one t r target es report mismatch.Refused mismatch.Refused h k = refl
one t r target es report mismatch.Refused (mismatch.Step m) h k = one-beginning t r target es mismatch.Refused (mismatch.Step m) h k
one t r target es report mismatch.Refused mismatch.Short h k = absurd (not-both t r target h k.ready)
one t r target es report mismatch.Refused mismatch.Report h k = absurd (not-both t r target h k.ready)
one t r target es report mismatch.Refused mismatch.Memory h k = absurd k
one t r target es report (mismatch.Step n) mismatch.Refused h k = one-beginning t r target es (mismatch.Step n) mismatch.Refused h k
one t r target es report (mismatch.Step n) (mismatch.Step m) h k = one-beginning t r target es (mismatch.Step n) (mismatch.Step m) h k
one t r target es report (mismatch.Step n) mismatch.Short h k = absurd (h.strange (all-explained t r target es n k.explained))
one t r target es report (mismatch.Step n) mismatch.Report h k = absurd (h.strange (all-explained t r target es n k.explained))
one t r target es report (mismatch.Step n) mismatch.Memory h k = absurd k
one t r target es report mismatch.Short mismatch.Refused h k = absurd (not-both t r target k h.ready)
one t r target es report mismatch.Short (mismatch.Step m) h k = absurd (k.strange (all-explained t r target es m h.explained))
one t r target es report mismatch.Short mismatch.Short h k = refl
one t r target es report mismatch.Short mismatch.Report h k = absurd (h.unfinished h.explained.0 h.explained.1.path (k.over h.explained.0 h.explained.1.path))
one t r target es report mismatch.Short mismatch.Memory h k = absurd k
one t r target es report mismatch.Report mismatch.Refused h k = absurd (not-both t r target k h.ready)
one t r target es report mismatch.Report (mismatch.Step m) h k = absurd (k.strange (all-explained t r target es m h.explained))
one t r target es report mismatch.Report mismatch.Short h k = absurd (k.unfinished h.explained.0 h.explained.1.path (h.over h.explained.0 h.explained.1.path))
one t r target es report mismatch.Report mismatch.Report h k = refl
one t r target es report mismatch.Report mismatch.Memory h k = absurd k
one t r target es report mismatch.Memory other h k = absurd h

-- none where the entries begin a run
none-unbegun : (t : Table) (r : Record) (target : Target) (es : List Entry) → IsReady t r target →
    IsExplained t r target es → (why : Mismatch) → IsNoBeginning t r target es why → ⊥
none-unbegun t r target es ready all mismatch.Refused h = not-both t r target h ready
none-unbegun t r target es ready all (mismatch.Step n) h = h.strange (all-explained t r target es n all)
none-unbegun t r target es ready all mismatch.Short h = h
none-unbegun t r target es ready all mismatch.Report h = h
none-unbegun t r target es ready all mismatch.Memory h = h

-- none where the transcript holds
none-fits : (t : Table) (r : Record) (target : Target) (es : List Entry) (report : Report) → IsReady t r target →
    (section : Section) → Holds (handover_for r target) (heirs_of r target) (sides_of r target)
    (origin t r target) es report section → (why : Mismatch) → IsMismatch t r target es report why → ⊥
none-fits t r target es report ready section holds why h = fits why h
  where
    all : IsExplainedBy t r target section.turns es
    all = is-explained t r target section.turns es holds.shows.next

    fits : (why : Mismatch) → IsMismatch t r target es report why → ⊥
    fits mismatch.Refused h = none-unbegun t r target es ready (section.turns, all) mismatch.Refused h
    fits (mismatch.Step n) h = none-unbegun t r target es ready (section.turns, all) (mismatch.Step n) h
    fits mismatch.Short h = h.unfinished section.turns all.path holds.over
    fits mismatch.Report h = h.other section.turns all.path holds.reports
    fits mismatch.Memory h = h

---- What a certified section enacts

pub enacts-so : (first : State) (r : Record) (target : Target) (es : List Entry) (report : Report) (section : Section) →
    IsCertified first.table r target es report section → EnactsSo first r target es report section
enacts-so first r target es report section is = record {
  unrefused = unrefused;
  same_entries = λ last e enacted. sym enacted.is_run.entries_are ∙ is.is_run.entries_are;
  same_report = λ last e enacted. enacted.is_run.report_is ∙ sym is.is_run.report_is;
}
  where
    unrefused : (why : EnactRefusal) → IsRefused first.table r target section.turns (moment_at section.pattern) why → ⊥
    unrefused refusal.Memory h = h
    unrefused refusal.RecordDisagrees h = h is.ready.agrees
    unrefused (refusal.Plan p) h = no_plan r target p h.no_plan is.ready.has_plan
    unrefused refusal.NoNumbers h = is.ready.numbers h.lacks
    unrefused (refusal.MasterNamed k) h = none-some k (sym is.spared ∙ h.first)

---- What a certification answers

-- the result is a mismatch exactly where that fits, want of memory aside
abbrev pub IsExactly : {T : Type 0} → (Mismatch → Type 0) → Result T Mismatch → Type 0
IsExactly fits result = (why : Mismatch) → IsErrOf result mismatch.Memory ⊎ (IsErrOf result why ↔ fits why)

abbrev pub IsExact : {T : Type 0} → Table → Record → Target → List Entry → Report → Result T Mismatch → Type 0
IsExact t r target es report result = IsExactly (IsMismatch t r target es report) result

-- At most one mismatch fits, and a target that can't be carried out is refused.
pub record IsPlain (t : Table) (r : Record) (target : Target) (fits : Mismatch → Type 0) : Type 0 where
  pub one : (why other : Mismatch) → fits why → fits other → why ≡ other
  pub refused : IsUnready t r target → fits mismatch.Refused

pub plain-beginnings : (t : Table) (r : Record) (target : Target) (es : List Entry) → IsPlain t r target (IsNoBeginning t r target es)
plain-beginnings t r target es = record { one = one-beginning t r target es; refused = λ unready. unready }

pub plain-mismatches : (t : Table) (r : Record) (target : Target) (es : List Entry) (report : Report) → IsPlain t r target (IsMismatch t r target es report)
plain-mismatches t r target es report = record { one = one t r target es report; refused = λ unready. unready }

-- a target that a planner refuses has no plan
planless : (r : Record) (target : Target) (refusal : PlanRefusal) → HasNoPlan r target refusal → lacks_generation r target ≡ true
planless r target planner.Unplanned none = absurd none
planless r target planner.TooLarge none = absurd none
planless r target planner.NoGeneration none = none
planless r target planner.Memory none = absurd none

exact-held : {T : Type 0} (fits : Mismatch → Type 0) (x : T) → ((why : Mismatch) → fits why → ⊥) → IsExactly {T = T} fits (Ok x)
exact-held fits x none why = inr (λ h. cc, λ h. absurd (none why h))

module _ (t : Table) (r : Record) (target : Target) (fits : Mismatch → Type 0) (plain : IsPlain t r target fits) where
  exact-mismatch : {T : Type 0} (result : Result T Mismatch) (because : Mismatch) → result ≡ Err because → fits because → IsExactly fits result
  exact-mismatch result because is holds why =
      inr (λ h. let same : because ≡ why = cc in subst fits same holds, λ h. let same : because ≡ why = plain.one because why holds h in cc)

  exact-stopped : {T : Type 0} (why : Mismatch) → (why ≡ mismatch.Memory) ⊎ fits why → IsExactly {T = T} fits (Err why)
  exact-stopped why (inl memory) = λ _. inl (ap Err memory)
  exact-stopped {T = T} why (inr is) = exact-mismatch {T = T} (Err why) why refl is

  ---- Targets that can't be carried out

  pub exact-unready : {T : Type 0} (result : Result T Mismatch) → result ≡ Err mismatch.Refused → IsUnready t r target → IsExactly fits result
  exact-unready result is unready = exact-mismatch result mismatch.Refused is (plain.refused unready)

  pub exact-planless : {T : Type 0} (result : Result T Mismatch) (why : EnactRefusal) → result ≡ Err (mismatch_of why) →
      (why ≡ refusal.Memory) ⊎ ((p : PlanRefusal) × (why ≡ refusal.Plan p) × HasNoPlan r target p) →
      IsExactly fits result
  exact-planless result why is (inl memory) = λ _. inl (is ∙ ap (λ w. Err (mismatch_of w)) memory)
  exact-planless result why is (inr none) = exact-unready result (is ∙ ap (λ w. Err (mismatch_of w)) none.1) (inr (inl (planless r target none.0 none.2)))

  pub exact-short : {T : Type 0} (result : Result T Mismatch) (why : EnactRefusal) → result ≡ Err (mismatch_of why) →
      (why ≡ refusal.Memory) ⊎ ((why ≡ refusal.NoNumbers) × LacksNumbers t (plan_length r target)) →
      IsExactly fits result
  exact-short result why is (inl memory) = λ _. inl (is ∙ ap (λ w. Err (mismatch_of w)) memory)
  exact-short result why is (inr none) = exact-unready result (is ∙ ap (λ w. Err (mismatch_of w)) none.0) (inr (inr none.1))

---- Targets that could be carried out

-- what entries come to that are to begin a run
pub answered-beginning : (t : Table) (r : Record) (target : Target) (es : List Entry) → IsReady t r target → (result : Result Section Mismatch) →
    IfOk result (Shows (handover_for r target) (heirs_of r target) (origin t r target) es) →
    IfErr result (StopsBy (handover_for r target) (heirs_of r target) (origin t r target) es) →
    IfOk result (IsBeginning t r target es) × IsExactly (IsNoBeginning t r target es) result
answered-beginning t r target es ready (Ok section) shows stops =
    let is = begun t r target es ready section shows in (is, exact-held (IsNoBeginning t r target es) section (none-unbegun t r target es ready (section.turns, is.explained)))
answered-beginning t r target es ready (Err why) shows stops =
    (tt, exact-stopped t r target (IsNoBeginning t r target es) (plain-beginnings t r target es) why (unbegun t r target es ready why stops))

-- entries that begin a run are refused, if at all, for want of memory
pub complete-beginning : {T : Type 0} (t : Table) (r : Record) (target : Target) (es : List Entry) (section : Section)
    (result : Result T Mismatch) → IsExactly (IsNoBeginning t r target es) result → IsBeginning t r target es section →
    IfErr result (λ why. why ≡ mismatch.Memory)
complete-beginning t r target es section (Ok x) exact is = tt
complete-beginning t r target es section (Err why) exact is = elim (exact why) [
  | inl memory ↦ (let e : why ≡ mismatch.Memory = cc in e)
  | inr iff ↦ absurd (none-unbegun t r target es is.ready (section.turns, is.explained) why (iff.0 refl))
]

-- what a transcript comes to
pub answered : {T : Type 0} (section_in : T → Section) (t : Table) (r : Record) (target : Target) (es : List Entry)
    (report : Report) → IsReady t r target → (result : Result T Mismatch) →
    IfOk result (λ it. Holds (handover_for r target) (heirs_of r target) (sides_of r target) (origin t r target) es report (section_in it)) →
    IfErr result (FailsBy (handover_for r target) (heirs_of r target) (sides_of r target) (origin t r target) es report) →
    IsExact t r target es report result
answered section_in t r target es report ready (Ok it) holds fails = exact-held (IsMismatch t r target es report) it (none-fits t r target es report ready (section_in it) holds)
answered section_in t r target es report ready (Err why) holds fails =
    exact-stopped t r target (IsMismatch t r target es report) (plain-mismatches t r target es report) why (mismatched t r target es report ready why fails)

-- exact is exact whatever else is given
pub exact-of : {T U : Type 0} (t : Table) (r : Record) (target : Target) (es : List Entry) (report : Report) (x : T)
    (y : U) → IsExact {T = T} t r target es report (Ok x) → IsExact {T = U} t r target es report (Ok y)
exact-of t r target es report x y exact why = elim (exact why) [
  | inl memory ↦ absurd cc
  | inr iff ↦ inr (λ h. absurd cc, λ is. absurd (let wrong = iff.1 is in cc))
]

pub exact-failed : {T U : Type 0} (t : Table) (r : Record) (target : Target) (es : List Entry) (report : Report)
    (why : Mismatch) → IsExact {T = T} t r target es report (Err why) → IsExact {T = U} t r target es report (Err why)
exact-failed t r target es report why exact other = elim (exact other) [
  | inl memory ↦ (let e : why ≡ mismatch.Memory = cc in inl (ap Err e))
  | inr iff ↦ inr (λ h. (let e : why ≡ other = cc in iff.0 (ap Err e)), λ is. (let h = iff.1 is in let e : why ≡ other = cc in ap Err e))
]
