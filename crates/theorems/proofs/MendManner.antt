-- The manner of a mend.
use Rattle.std.proofs.Common.{◌≡◌, ℕ, ◌<◌, true, false, not, List, [], ◌∷◌, Option, Some, None, refl, sym, ap, ◌∙◌, subst, ⊎_elim}
use Rattle.std.specs.Prelude.{⊤, ◌||◌, ◌==◌, filter}
use Rattle.std.specs.List.{AllByRecursion, list_any}
use Rattle.listener_set.specs.Numbers.{is_in, numbers_below}
use Rattle.listener_set.specs.declared.generation.Generation.{Generation}
use Rattle.vocabulary.specs.declared.targets.Target.TheVariants.{Mend}
use Rattle.vocabulary.specs.declared.plans.Side.TheVariants.{Target}
use Rattle.vocabulary.specs.declared.plans.Order.TheVariants.{Make}
use Rattle.vocabulary.specs.declared.calls.Call.TheVariants.{Kill}
use Rattle.vocabulary.specs.declared.calls.Fate.{Fate}
use Rattle.vocabulary.specs.declared.calls.Reply.TheVariants as reply
use Rattle.vocabulary.specs.declared.calls.Answer.TheVariants as answer
use Rattle.definitions.specs.Table.{Process, Table, Caller, number_of, bears, is_worker}
use Rattle.call_laws.specs.Pieces.{is_any, among, kills, noted}
use Rattle.definitions.specs.Calls.{gives, each_row, drop_where, step_by, step_with, Handed}
use Rattle.definitions.specs.Master.{Crew, Record, crew_of}
use Rattle.definitions.specs.Run.{Tree, reply_of, Nothing, Pattern, Progress, Ending, At, Lost, after_call, start_at}
use Rattle.definitions.specs.Plans.{plan_tree, mend_tree, starts_any, settle, then_edge}
use Rattle.definitions.specs.Claims.{has_ready, IsStart, run_of}
use Rattle.theorems.proofs.Headlines.{InManner}
use Rattle.table_laws.proofs.Rows.{FitsIn, every-filter_map}
use Rattle.call_laws.proofs.Choices.{pick}
use Rattle.table_laws.proofs.Views.{eqb-off}
use Rattle.table_laws.proofs.Sets.{in-filter-of, in-filter-on, in-cases}
use Rattle.table_laws.proofs.Small.{not-is, true-false, or-elim}
use Rattle.theorems.proofs.Mend.{mend_headline}
use Rattle.run_laws.proofs.Logic.{Course, Along, Behind, Anyhow, Unasked, from-along, are-mild-anyhow}
use Rattle.call_laws.proofs.Cases.{unfailing}
use Rattle.run_laws.proofs.Lights.{Light, no_claim, light-step, all-go, calm-along}
use Rattle.run_laws.proofs.Processes.{Fact, Lets, one-found, fact-exits, fact-steps, fact-census}
use Rattle.run_laws.proofs.Staying.{Unlost, Stands, standing}
use Rattle.run_laws.proofs.Taken.{not-killed, OnlyOurs, InAny, IsOther, gone-lasts, loosens, loose-lasts}
use Rattle.run_laws.proofs.Firsts.{first-in, first-low, first-stands, first-untouched}
use Rattle.run_laws.proofs.Calms.{IsCalm, calm-settle, calm-kills, calm-starts-any}
use Rattle.run_laws.proofs.Manners.{stays-from}
use Rattle.theorems.proofs.ReopenManner.{not-lost}
use Rattle.theorems.proofs.WorkersManner.{own_course, own-acts, free-number}

---- A process that is not overdue

module _ (t : Table) (r : Record) (overdue : List ℕ) (pattern : Pattern) (s : IsStart t r) (p k : ℕ) (on : has_ready t p k ≡ true) where
  abbrev g : Generation
  g = r.generation

  abbrev crew : Crew
  crew = crew_of r

  abbrev low : k < 1024
  low = first-low t r s p k on

  abbrev co : Course
  co = own_course r pattern

  abbrev dead : List ℕ
  dead = filter (is_in r.ready) overdue

  abbrev missing : List ℕ
  missing = filter (λ j. not (is_in r.ready j) || is_in overdue j) (numbers_below r.wanted)

  abbrev rest : Tree
  rest = starts_any g.image crew missing (settle g.image crew (numbers_below r.wanted) Target r.retries)

  abbrev post : Ending → Progress → Type 0
  post e q = ⊤ → Stands r.pid g.image p g k low q.table

  abbrev light : Light g.image (Unlost p) Unasked
  light = standing r.pid g.image p g k low

  ends : (e : Ending) (q : Progress) → light.Holds q.table → post e q
  ends e q st need = st

  free-dead : is_in overdue k ≡ false → (x : ℕ) → is_in dead x ≡ true → bears g x g k ≡ false
  free-dead off x e =
      free-number g x k
      (λ same. true-false (is_in overdue k) (subst (λ z. is_in overdue z ≡ true) (sym same) (in-filter-of (is_in r.ready) overdue x e).0) off)

  free-missing : is_in overdue k ≡ false → (x : ℕ) → is_in missing x ≡ true → bears g x g k ≡ false
  free-missing off x e =
      let o = (in-filter-of (λ j. not (is_in r.ready j) || is_in overdue j) (numbers_below r.wanted) x e).1 in
      free-number g x k
      (λ same. ⊎_elim (λ a. true-false (is_in r.ready x) (subst (λ z. is_in r.ready z ≡ true) same (first-in t r s p k on)) (not-is (is_in r.ready x) a)) (λ a. true-false (is_in overdue x) a (subst (λ z. is_in overdue z ≡ false) same off)) (or-elim (not (is_in r.ready x)) (is_in overdue x) o))

  stays-along :
      is_in overdue k ≡ false → Along no_claim post (Unlost p) Unasked co
      (mend_tree g.image crew r.ready r.retries overdue r.wanted) (start_at t r.note)
  stays-along off =
      calm-along g.image (Unlost p) Unasked light post ends co (own-acts r pattern) (mend_tree g.image crew r.ready r.retries overdue r.wanted)
      (calm-kills g.image (Unlost p) Unasked light post ends co (own-acts r pattern) g dead rest (λ x e. (tt, free-dead off x e))
      (calm-starts-any g.image (Unlost p) Unasked light post ends co (own-acts r pattern) crew missing (settle g.image crew (numbers_below r.wanted) Target r.retries) (λ x e. (tt, free-missing off x e))
      (calm-settle g.image (Unlost p) Unasked light post ends co (own-acts r pattern) Target crew (numbers_below r.wanted) r.retries tt)))
      (start_at t r.note) (first-stands t r s p k on)

  ---- A process that is overdue

  -- It is gone.
  abbrev gone : Light g.image Anyhow Unasked
  gone = record {
    number = r.pid;
    Holds = Fact r.pid g.image p (IsOther p);
    Gentle = Lets (λ h x. ⊤);
    Fits = λ h S. ⊤;
    May = λ h x t. ⊤;
    exits = λ es t sp mild h. fact-exits r.pid g.image p (IsOther p) (λ h x. ⊤) (gone-lasts r.pid p) es t sp h;
    steps = λ handed call fate t gentle h. fact-steps r.pid g.image p (IsOther p) (λ h x. ⊤) (gone-lasts r.pid p) handed call fate t gentle h;
    idles = λ call t gentle h. tt;
    forks = λ h x fds. tt;
    waits = λ h x. tt;
    censuses = λ h. tt;
    counted = λ handed h fate t fact. fact-census r.pid g.image p (IsOther p) handed h fate t fact;
    lacking = λ h S t x fits fact on off. tt;
    may_exits = λ es t h x sp mild fact may. tt;
    may_steps = λ handed call fate t h x gentle fact may. tt;
    kill_due = λ h x t fact may. tt;
    kills = λ handed h x fate t fact may. fact-steps r.pid g.image p (IsOther p) (λ h x. ⊤) (gone-lasts r.pid p) handed (Kill h x) fate t tt fact;
  }

  abbrev goes_away : Ending → Progress → Type 0
  goes_away (At e) q = Fact r.pid g.image p (IsOther p) q.table
  goes_away Lost q = ⊤

  gone-ends : (e : Ending) (q : Progress) → gone.Holds q.table → goes_away e q
  gone-ends (At e) q h = h
  gone-ends Lost q h = tt

  abbrev Named : Table → Type 0
  Named t' = Fact r.pid g.image p (OnlyOurs r.pid g.image p g k low (InAny r.pid g.image p g k low)) t'

  kill-step :
      (handed : Handed) (x : ℕ) (fate : Option Fate) (t' : Table) → Named t' → step_with handed g.image (Kill g x) fate t' ≡
      gives answer.Fine (each_row (drop_where (is_worker is_any r.pid g x)) t')
  kill-step handed x fate t' named =
      let (hs, found) = one-found r.pid g.image t'.rows named.one.all named.one.some in
      ap (λ (o : Option Caller). step_by handed g.image o (Kill g x) fate t') found ∙ unfailing handed g.image
      (record { number = r.pid; holds = hs }) (Kill g x) fate t' tt

  still-named : (handed : Handed) (x : ℕ) (fate : Option Fate) (t' : Table) → Named t' → Named (step_with handed g.image (Kill g x) fate t').table
  still-named handed x fate t' named =
      fact-steps r.pid g.image p (OnlyOurs r.pid g.image p g k low (InAny r.pid g.image p g k low)) (λ h x. ⊤)
      (loose-lasts r.pid g.image p g k low) handed (Kill g x) fate t' tt named

  killed-gone :
      (handed : Handed) (fate : Option Fate) (t' : Table) → Named t' →
      Fact r.pid g.image p (IsOther p) (step_with handed g.image (Kill g k) fate t').table
  killed-gone handed fate t' named =
      let after = subst (λ st. Named st.table) (kill-step handed k fate t' named) (still-named handed k fate t' named) in
      subst (λ st. Fact r.pid g.image p (IsOther p) st.table) (sym (kill-step handed k fate t' named)) (record {
        one = after.one;
        all =
            every-filter_map (OnlyOurs r.pid g.image p g k low (InAny r.pid g.image p g k low)) (IsOther p)
            (drop_where (is_worker is_any r.pid g k))
            (λ row h. pick (FitsIn (IsOther p)) (is_worker is_any r.pid g k row) None (Some row) (λ e. tt) (λ e. not-killed r.pid g.image p g k low row h e))
            t'.rows named.all;
        below = after.below;
        above = after.above;
      })

  abbrev RestCalm : Type 0
  RestCalm = IsCalm g.image Anyhow Unasked gone goes_away gone-ends co (own-acts r pattern) rest

  rest-calm : RestCalm
  rest-calm =
      calm-starts-any g.image Anyhow Unasked gone goes_away gone-ends co (own-acts r pattern) crew missing
      (settle g.image crew (numbers_below r.wanted) Target r.retries) (λ x e. tt)
      (calm-settle g.image Anyhow Unasked gone goes_away gone-ends co (own-acts r pattern) Target crew (numbers_below r.wanted) r.retries tt)

  going : (ks : List ℕ) → is_in ks k ≡ true → (q : Progress) → Named q.table → Along no_claim goes_away Anyhow Unasked co (kills g.image g ks rest) q
  going [] e q named = absurd (cc e)
  going (x ∷ ks) e q named =
      let more = kills g.image g ks rest in
      light-step g.image Anyhow Unasked gone goes_away gone-ends co (own-acts r pattern) (Make (Kill g x)) [] (then_edge more) q Named refl
      (λ es sp mild h. fact-exits r.pid g.image p (OnlyOurs r.pid g.image p g k low (InAny r.pid g.image p g k low)) (λ h x. ⊤) (loose-lasts r.pid g.image p g k low) es q.table sp h)
      named
      (λ q' h is. tt)
      (λ q' fate h is.
      let st = step_with co.handed g.image (Kill g x) fate q'.table in
      let next = after_call r.generation.image (Make (Kill g x)) [] st q' in
      ⊎_elim
      (λ same.
      let gone_now : Fact r.pid g.image p (IsOther p) st.table =
      subst (λ z. Fact r.pid g.image p (IsOther p) (step_with co.handed g.image (Kill g z) fate q'.table).table)
      (sym same) (killed-gone co.handed fate q'.table h) in
      all-go g.image Anyhow Unasked gone goes_away gone-ends co (own-acts r pattern) (then_edge more) (reply_of [] st.answer) next gone_now
      (calm-along g.image Anyhow Unasked gone goes_away gone-ends co (own-acts r pattern) more (calm-kills g.image Anyhow Unasked gone goes_away gone-ends co (own-acts r pattern) g ks rest (λ y e'. tt) rest-calm) next gone_now, tt))
      (λ later.
      let on_more = going ks later (noted None next) (still-named co.handed x fate q'.table h) in
      elim (among (reply.Fine ∷ []) (reply_of [] st.answer)) as
      (λ b. elim b as (λ c. Type 0) [ true ↦ Along no_claim goes_away Anyhow Unasked co more (noted None next) | false ↦ Behind no_claim goes_away Anyhow Unasked co Nothing (reply_of [] st.answer) next ]) [
        | true ↦ on_more
        | false ↦ (tt, tt)
      ])
      (in-cases x k ks e))

  away : is_in overdue k ≡ true → Along no_claim goes_away Anyhow Unasked co (mend_tree g.image crew r.ready r.retries overdue r.wanted) (start_at t r.note)
  away overdue_it =
      going dead (in-filter-on (is_in r.ready) overdue k overdue_it (first-in t r s p k on)) (start_at t r.note)
      (loosens r.pid g.image p g k low t (first-untouched t r s p k on))

no-process : (p : ℕ) (rows : List Process) → AllByRecursion (IsOther p) rows → list_any (λ row. number_of row == p) rows ≡ false
no-process p [] all = refl
no-process p (row ∷ rows) all = rw (eqb-off (number_of row) p all.0) (no-process p rows all.1)

-- Who went away is not there at an end.
ended :
    (t : Table) (r : Record) (overdue : List ℕ) (pattern : Pattern) (s : IsStart t r) (p k : ℕ)
    (on : has_ready t p k ≡ true) (e : Ending) (q : Progress) → (e ≡ Lost → ⊥) → goes_away t r overdue pattern s p k on
    e q → list_any (λ row. number_of row == p) q.table.rows ≡ false
ended t r overdue pattern s p k on (At e) q not_lost h = no-process p q.table.rows h.all
ended t r overdue pattern s p k on Lost q not_lost h = absurd (not_lost refl)

pub mend_manner : (overdue : List ℕ) → InManner (Mend overdue)
mend_manner overdue t r turns pattern a =
    let ran = run_of r (Mend overdue) [] pattern t in
    let co = own_course r pattern in
    let tree = plan_tree r (Mend overdue) [] in
    let at = start_at t r.note in
    let keeps = mend_headline t r overdue turns pattern a in (
      λ p k on need. stays-from t r a.start p k on co tree (λ e q. ⊤)
          (stays-along t r overdue pattern a.start p k on (not-is (is_in overdue k) need)) a.spared tt,
      λ p k on over.
          let post = goes_away t r overdue pattern a.start p k on in
          let all = from-along no_claim post Anyhow Unasked co tree at (away t r overdue pattern a.start p k on over) a.spared (are-mild-anyhow co tree at) in
          ended t r overdue pattern a.start p k on ran.ending ran.last (not-lost r (Mend overdue) t ran.ending ran.last keeps.says) all.last,
    )
