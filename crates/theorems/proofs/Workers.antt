-- The headline for a change of the number of workers.
use Rattle.theorems.proofs.Same.{Goes, Like, first, scene, whole, new-full, old-full, start-band, new-short, old-short, Level, ground, covers}
use Rattle.theorems.proofs.Ends.{first-few}
use Rattle.definitions.specs.Table.{Process, same_generation, Table, bears}
use Rattle.std.proofs.Common.{◌≡◌, ℕ, ◌+◌, ◌<◌, ◌≤◌, Bool, true, false, not, List, [], ◌∷◌, length, refl, sym, ap, ◌∙◌, subst, arith, ◌⊎◌, inl, inr, ⊎_elim}
use Rattle.std.specs.Prelude.{◌++◌, ◌&&◌, filter, reverse, min, nat_lt}
use Rattle.std.proofs.lemmas.Bool.Decides.{nat_tests}
use Rattle.listener_set.specs.declared.generation.Generation.{Generation}
use Rattle.listener_set.specs.Numbers.{is_in, numbers_below}
use Rattle.definitions.specs.Plans.{workers_tree, settle, plan_tree}
use Rattle.call_laws.specs.Pieces.{quits}
use Rattle.vocabulary.specs.declared.plans.Side.TheVariants.{Old, Target}
use Rattle.vocabulary.specs.declared.targets.Target.TheVariants.{Workers}
use Rattle.definitions.specs.Master.{want, Crew, served, Record, crew_of, layout_of}
use Rattle.definitions.specs.Run.{Pattern, Progress, start_at}
use Rattle.definitions.specs.Claims.{run_of, IsStart, Floor}
use Rattle.theorems.proofs.Headlines.{WorkersHeadline}
use Rattle.table_laws.proofs.Rows.{weigh, both-true, every-more}
use Rattle.call_laws.proofs.Choices.{and-left, and-right}
use Rattle.table_laws.proofs.Views.{ready_in, Names, named, View, Looks}
use Rattle.table_laws.proofs.Effects.{none, same-is, bears-is}
use Rattle.table_laws.proofs.Counts.{Distinct, filter-distinct, in-earlier, in-later}
use Rattle.table_laws.proofs.Sets.{weigh-part, Within, in-here, in-there, in-cases, in-filter-on, in-filter-of, below-of, below-on, below-distinct}
use Rattle.table_laws.proofs.Begins.{rising-distinct}
use Rattle.table_laws.proofs.Small.{in-reverse, every-is_in, not-is, off-from, or-elim, true-false}
use Rattle.run_laws.proofs.Rules.{Enough, Ground, Scene, view, plus, also, Band, Only, weigh-sub, band-part, band-anew}
use Rattle.run_laws.proofs.Rules.{band-still, rule-quits, rule-starts, rule-settle}

-- what is known before the rest of the starts
pub record Started (g : Generation) (R : List ℕ) (n : ℕ) (ks done : List ℕ) (r t : Names) (count : ℕ) : Type 0 where
  pub only : (h : Generation) (k : ℕ) → r h k ≡ true → (h ≡ g) × ((is_in R k ≡ true) ⊎ (is_in done k ≡ true))
  pub fresh : (k : ℕ) → is_in ks k ≡ true → (is_in R k ≡ false) × (is_in done k ≡ false) × (k < n)
  pub apart : Distinct ks
  pub started : (k : ℕ) → is_in done k ≡ true → (is_in R k ≡ false) × (k < n)
  pub all : (k : ℕ) → k < n → (is_in R k ≡ true) ⊎ ((is_in done k ≡ true) ⊎ (is_in ks k ≡ true))
  pub names : (h : Generation) (k : ℕ) → t h k ≡ true → named g (is_in (done ++ R)) h k ≡ true
  pub counted : count ≡ length (done ++ R)

not-in-of : (r : Names) (g : Generation) (k : ℕ) → (r g k ≡ true → ⊥) → r g k ≡ false
not-in-of r g k h = go (r g k) h
  where
    go : (b : Bool) → (b ≡ true → ⊥) → b ≡ false
    go true h = absurd (h refl)
    go false h = refl

pub one-more :
    (g : Generation) (R : List ℕ) (n x : ℕ) (ks done : List ℕ) (r t : Names) (count : ℕ) →
    Started g R n (x ∷ ks) done r t count →
    (r g x ≡ false) × Started g R n ks (x ∷ done) (plus r g x) (also g x t) (count + 1)
one-more g R n x ks done r t count s =
    let f = s.fresh x (in-here x x ks refl) in (
      not-in-of r g x (λ on. ⊎_elim (λ a. true-false (is_in R x) a f.0) (λ a. true-false (is_in done x) a f.1) (s.only g x on).1),
      record {
        only =
            λ h k e. ⊎_elim
            (λ a. let o = s.only h k a in (o.0, ⊎_elim (λ b. inl b) (λ b. inr (in-there x k done b)) o.1))
            (λ a. let is = bears-is g x h k a in (is.0, inr (in-here x k done (sym is.1))))
            (or-elim (r h k) (bears g x h k) e);
        fresh = λ k e.
            let o = s.fresh k (in-there x k ks e) in
            (o.0, off-from (x ∷ done) k (λ on. ⊎_elim (λ same. true-false (is_in ks x) (subst (λ y. is_in ks y ≡ true) (sym same) e) s.apart.0) (λ a. true-false (is_in done k) a o.1) (in-cases x k done on)), o.2);
        apart = s.apart.1;
        started = λ k e. ⊎_elim (λ same. (subst (λ y. is_in R y ≡ false) same f.0, subst (λ y. y < n) same f.2)) (λ a. s.started k a) (in-cases x k done e);
        all =
            λ k lt. ⊎_elim (λ a. inl a)
            (λ a. ⊎_elim (λ b. inr (inl (in-there x k done b))) (λ b. ⊎_elim (λ same. inr (inl (in-here x k done same))) (λ c. inr (inr c)) (in-cases x k ks b)) a)
            (s.all k lt);
        names =
            λ h k e. ⊎_elim
            (λ a. let o = s.names h k a in both-true (same_generation h g) (is_in (x ∷ (done ++ R)) k) (and-left _ _ o) (in-there x k (done ++ R) (and-right (same_generation h g) _ o)))
            (λ a. let is = bears-is g x h k a in both-true (same_generation h g) (is_in (x ∷ (done ++ R)) k) (and-left _ _ a) (in-here x k (done ++ R) (sym is.1)))
            (or-elim (t h k) (bears g x h k) e);
        counted = omega (arith, s.counted);
      },
    )

-- The names of those that are done or were there from the start are no more than those of a set of them, but for what is counted.
pub started-part :
    (v : View) (g : Generation) (R : List ℕ) (n : ℕ) (done : List ℕ) (r names : Names) (count : ℕ) (ks T : List ℕ) →
    Started g R n ks done r names count → Distinct T → Within T (done ++ R) → (rows : List Process) → Looks v rows →
    weigh (ready_in v.number names) rows + length T ≤ weigh (ready_in v.number (named g (is_in T))) rows + count
started-part v g R n done r names count ks T st dT within rows looks =
    omega
    (arith, weigh-sub v.number names (named g (is_in (done ++ R))) st.names rows, weigh-part v.number g rows looks.once (done ++ R) T dT within, st.counted)

-- the numbers below n are among those that are done or were there, once none is left
pub all-within :
    (g : Generation) (R : List ℕ) (n : ℕ) (done : List ℕ) (r names : Names) (count : ℕ) →
    Started g R n [] done r names count → Within (numbers_below n) (done ++ R)
all-within g R n done r names count st k e =
    ⊎_elim (λ a. in-later done R k a) (λ a. ⊎_elim (λ x. in-earlier done R k x) (λ x. absurd (cc)) a) (st.all k (below-of n k e))

-- The target wants the numbers below n.
abbrev like_workers : (rec : Record) (n : ℕ) → n ≤ 1024 → Like rec (Workers n)
like_workers rec n low = record {
  set = numbers_below n;
  wanted = n;
  floor = λ a. min (served (layout_of rec) rec.ready a) (served (layout_of rec) (numbers_below n) a);
  layout = refl;
  wants = refl;
  below = λ k e. below-of n k e;
  most = low;
  done = refl;
  short = λ m. refl;
  rolled_back = refl;
  short_old = λ m. refl;
  leaves = λ t ran h. h;
}

module _ (t : Table) (rec : Record) (n : ℕ) (pattern : Pattern) (s : IsStart t rec) (low : n ≤ 1024) where
  abbrev g : Generation
  g = rec.generation

  abbrev crew : Crew
  crew = crew_of rec

  abbrev R : List ℕ
  R = rec.ready

  abbrev like : Like rec (Workers n)
  like = like_workers rec n low

  abbrev u : View
  u = first t rec (Workers n) pattern s like

  abbrev sc : Scene rec.pid rec.generation.image
  sc = scene t rec (Workers n) pattern s like

  abbrev G : Ground u sc
  G = ground t rec (Workers n) pattern s like

  ---- The plan

  low-R : (k : ℕ) → is_in R k ≡ true → k < 1024
  low-R k e = let lt = every-is_in (λ j. j < rec.wanted) R s.record_in_range.ready k e in omega (arith, lt, s.record_in_range.wanted)

  dR : Distinct R
  dR = rising-distinct R s.rising

  -- those that were there, and those that are wanted, are enough
  enough-old : Enough rec.pid sc.floor sc.serves (named g (is_in R)) (length R)
  enough-old = covers t rec (Workers n) pattern s like R dR (λ a. omega arith)

  enough-new : Enough rec.pid sc.floor sc.serves (named g (is_in (numbers_below n))) (length (numbers_below n))
  enough-new = covers t rec (Workers n) pattern s like (numbers_below n) (below-distinct n) (λ a. omega arith)

  abbrev fresh_numbers : List ℕ
  fresh_numbers = filter (λ k. not (is_in R k)) (numbers_below n)

  abbrev surplus : List ℕ
  surplus = reverse (filter (λ k. not (nat_lt k n)) R)

  -- the way back of the numbers that were forked, of which some became Ready
  back :
      (forked ks done : List ℕ) (ss r names : Names) (count c : ℕ) (q : Progress) →
      ((k : ℕ) → is_in forked k ≡ true → is_in fresh_numbers k ≡ true) → Only g forked ss →
      Started g R n ks done r names count →
      ((ks ≡ fresh_numbers) × (done ≡ [])) ⊎ ((k : ℕ) → is_in fresh_numbers k ≡ true → is_in forked k ≡ true) →
      Band u sc ss r names count c true [] q →
      Goes t rec (Workers n) pattern s like (quits g.image g forked (settle g.image crew R Old rec.retries)) q
  back forked ks done ss r names count c q within only st covers b =
      let b1 =
      band-part u sc G ss r names (named g (is_in R)) count (length R) c true [] q
      (λ rows looks. started-part (view u ss r) g R n done r names count ks R st dR (in-later done R) rows looks)
      enough-old b in
      rule-quits u sc G (settle g.image crew R Old rec.retries) g forked ss r (named g (is_in R)) (length R) c true [] q
      (λ k e. off (same_generation g g) (is_in R k) (not-is (is_in R k) (in-filter-of (λ j. not (is_in R j)) (numbers_below n) k (within k e)).1))
      (λ s' r' q' less_s less b'. rule-settle u sc G Old crew R (λ k. refl) dR low-R rec.retries true (old-full t rec (Workers n) pattern s like) (old-short t rec (Workers n) pattern s like) rec.retries 0 (omega arith) true (λ e. refl) r' [] q'
      (λ h k e. let l = less h k e in let o = st.only h k l.0 in (o.0, ⊎_elim (λ a. a) (λ a. absurd (true-false (is_in forked k) (was k a) (l.1 o.0))) o.1))
      (band-still u sc G s' none r' (named g (is_in R)) (length R) 0 true [] q' (λ h k e. let l = less_s h k e in let o = only h k l.0 in absurd (true-false (is_in forked k) o.1 (l.1 o.0)))
      (band-anew u sc G s' r' (named g (is_in R)) (length R) c true [] q' b')))
      b1
    where
      off : (a b : Bool) → b ≡ false → (a && b) ≡ false
      off true b e = e
      off false b e = refl

      was : (k : ℕ) → is_in done k ≡ true → is_in forked k ≡ true
      was k a =
          ⊎_elim (λ z. absurd (cc (a, ap (λ l. is_in l k) z.1)))
          (λ all. all k (let o = st.started k a in in-filter-on (λ j. not (is_in R j)) (numbers_below n) k (below-on n k o.1) (ap not o.0)))
          covers

  on :
      (done : List ℕ) (r names : Names) (count c : ℕ) (q : Progress) → Started g R n [] done r names count → Band u sc
      none r names count c false [] q → Goes t rec (Workers n) pattern s like
      (quits g.image g surplus (settle g.image crew (numbers_below n) Target rec.retries)) q
  on done r names count c q st b =
      let within = all-within g R n done r names count st in
      let b1 =
      band-part u sc G none r names (named g (is_in (numbers_below n))) count (length (numbers_below n)) c false []
      q (started-part (view u none r) g R n done r names count [] (numbers_below n) st (below-distinct n) within)
      enough-new b in
      rule-quits u sc G (settle g.image crew (numbers_below n) Target rec.retries) g surplus none r
      (named g (is_in (numbers_below n))) (length (numbers_below n)) c false [] q
      (λ k e. let o = in-filter-of (λ j. not (nat_lt j n)) R k (sym (in-reverse (filter (λ j. not (nat_lt j n)) R) k) ∙ e) in
      off (same_generation g g) (is_in (numbers_below n) k)
      (off-from (numbers_below n) k (λ in_it. let lt = below-of n k in_it in let no_lt = not-is (nat_lt k n) o.1 in let yes_lt : nat_lt k n ≡ true = grind (arith, nat_tests) in true-false (nat_lt k n) yes_lt no_lt)))
      (λ s' r' q' less_s less b'. rule-settle u sc G Target crew (numbers_below n) (λ k. refl) (below-distinct n) (λ k e. omega (arith, below-of n k e)) rec.retries false (new-full t rec (Workers n) pattern s like false) (new-short t rec (Workers n) pattern s like) rec.retries 0 (omega arith) false (λ e. e) r' [] q'
      (λ h k e.
      let l = less h k e in
      let o = st.only h k l.0 in
      (o.0, ⊎_elim (λ a. kept k a (l.1 o.0)) (λ a. below-on n k (st.started k a).1) o.1))
      (band-still u sc G s' none r' (named g (is_in (numbers_below n))) (length (numbers_below n)) 0 false [] q' (λ h k e. (less_s h k e).0) (band-anew u sc G s' r' (named g (is_in (numbers_below n))) (length (numbers_below n)) c false [] q' b')))
      b1
    where
      off : (a b : Bool) → b ≡ false → (a && b) ≡ false
      off true b e = e
      off false b e = refl

      kept : (k : ℕ) → is_in R k ≡ true → is_in surplus k ≡ false → is_in (numbers_below n) k ≡ true
      kept k a off = go (nat_lt k n) refl
        where
          go : (b : Bool) → nat_lt k n ≡ b → is_in (numbers_below n) k ≡ true
          go true e = below-on n k (grind (arith, nat_tests))
          go false e =
              let in_it = in-filter-on (λ j. not (nat_lt j n)) R k a (ap not e) in
              absurd (true-false (is_in surplus k) (in-reverse (filter (λ j. not (nat_lt j n)) R) k ∙ in_it) off)

  begun : Started g R n fresh_numbers [] u.ready (named g (is_in R)) (length R)
  begun = record {
    only = λ h k e. (same-is h g (and-left _ _ e), inl (and-right (same_generation h g) _ e));
    fresh = λ k e. let o = in-filter-of (λ j. not (is_in R j)) (numbers_below n) k e in (not-is (is_in R k) o.1, refl, below-of n k o.0);
    apart = filter-distinct (λ k. not (is_in R k)) (numbers_below n) (below-distinct n);
    started = λ k e. absurd (cc);
    all = λ k lt. cover k lt (is_in R k) refl;
    names = λ h k e. e;
    counted = refl;
  }
    where
      cover : (k : ℕ) → k < n → (b : Bool) → is_in R k ≡ b → (is_in R k ≡ true) ⊎ ((is_in [] k ≡ true) ⊎ (is_in fresh_numbers k ≡ true))
      cover k lt true e = inl e
      cover k lt false e = inr (inr (in-filter-on (λ j. not (is_in R j)) (numbers_below n) k (below-on n k lt) (ap not e)))

  goes : Goes t rec (Workers n) pattern s like (workers_tree g.image crew R rec.retries n) (start_at t rec.note)
  goes =
      rule-starts u sc G (Started g R n)
      (quits g.image g surplus (settle g.image crew (numbers_below n) Target rec.retries))
      (λ forked. quits g.image g forked (settle g.image crew R Old rec.retries)) crew (λ k. refl) (one-more g R n) []
      false 0 fresh_numbers u.ready (named g (is_in R)) (length R)
      (λ done r names count q st b. on done r names count 0 q st b)
      (λ forked ks done ss r names count q within only st covers b. back forked ks done ss r names count 1 q within only st covers b)
      (start_at t rec.note) begun
      (start-band t rec (Workers n) pattern s like (λ a. omega arith))

pub workers_headline : WorkersHeadline
workers_headline t rec n turns pattern a =
    let like = like_workers rec n a.accepts in
    let first = start_at t rec.note in
    let all = whole t rec (Workers n) pattern a.start like (plan_tree rec (Workers n) []) (goes t rec n pattern a.start a.accepts) a.spared in
    let target = want rec (Workers n) in (
      all.0,
      every-more (Level t rec (Workers n) pattern a.start like) (Floor (λ q. 0) t rec (Workers n))
          (λ q h address common. omega (arith, first-few t rec a.start address, h address common))
          (run_of rec (Workers n) [] pattern t).passed all.1,
    )
