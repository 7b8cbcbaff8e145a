-- The headline for a mend.
use Rattle.call_laws.proofs.Choices.{and-left, and-right}
use Rattle.table_laws.proofs.Begins.{rising-distinct}
use Rattle.table_laws.proofs.Effects.{none, same-is}
use Rattle.table_laws.proofs.Small.{every-is_in, off-from, true-false, not-is}
use Rattle.table_laws.proofs.Counts.{Distinct, filter-distinct, in-filter}
use Rattle.table_laws.proofs.Sets.{below-of, in-filter-of, in-filter-on, below-distinct, below-on, weigh-part}
use Rattle.table_laws.proofs.Views.{Names, View, named}
use Rattle.std.proofs.Common.{◌≡◌, ℕ, ◌+◌, ◌<◌, ◌≤◌, Bool, true, false, not, List, [], ◌∷◌, length, refl, sym, ap, ◌∙◌, arith, ◌⊎◌, inl, inr, ⊎_elim}
use Rattle.std.specs.Prelude.{◌&&◌, filter, ◌||◌}
use Rattle.listener_set.specs.Numbers.{numbers_below, is_in}
use Rattle.listener_set.specs.declared.generation.Generation.{Generation}
use Rattle.definitions.specs.Table.{same_generation, Table, bears}
use Rattle.definitions.specs.Master.{Crew, Record, crew_of}
use Rattle.vocabulary.specs.declared.targets.Target.TheVariants.{Mend}
use Rattle.vocabulary.specs.declared.plans.Side.TheVariants.{Target}
use Rattle.definitions.specs.Run.{Tree, Pattern, Progress, start_at}
use Rattle.definitions.specs.Plans.{plan_tree, mend_tree, forks_any, awaits_any, settle}
use Rattle.definitions.specs.Claims.{IsStart}
use Rattle.theorems.proofs.Headlines.{MendHeadline}
use Rattle.theorems.proofs.Same.{Like, first, scene, Goes, new-full, new-short, start-band, whole, ground}
use Rattle.theorems.proofs.Workers.{Started, one-more, started-part, all-within}
use Rattle.run_laws.proofs.Rules.{Ground, Less, Scene, view, plus, also, Band, band-part, band-anew, band-still}
use Rattle.run_laws.proofs.Rules.{rule-kills, rule-forks-any, rule-awaits-any, rule-settle}

-- a name that failed is done too
one-more-any :
    (g : Generation) (R : List ℕ) (n x : ℕ) (ks done : List ℕ) (r t : Names) (count : ℕ) → Started g R n (x ∷ ks) done r
    t count → (r g x ≡ false) × Started g R n ks (x ∷ done) (plus r g x) (also g x t) (count + 1) × Started g R n ks
    (x ∷ done) r (also g x t) (count + 1)
one-more-any g R n x ks done r t count s =
    let o = one-more g R n x ks done r t count s in
    let more = o.1 in (
      o.0,
      more,
      record {
        only = λ h k e. more.only h k (left (r h k) (bears g x h k) e);
        fresh = more.fresh;
        apart = more.apart;
        started = more.started;
        all = more.all;
        names = more.names;
        counted = more.counted;
      },
    )
  where
    left : (a b : Bool) → a ≡ true → (a || b) ≡ true
    left true b e = refl
    left false b e = cc

-- The target wants all numbers below the wanted count.
abbrev like_mend : (rec : Record) (overdue : List ℕ) → rec.wanted ≤ 1024 → Like rec (Mend overdue)
like_mend rec overdue low = record {
  set = numbers_below rec.wanted;
  wanted = rec.wanted;
  floor = λ a. 0;
  layout = refl;
  wants = refl;
  below = λ k e. below-of rec.wanted k e;
  most = low;
  done = refl;
  short = λ m. refl;
  rolled_back = refl;
  short_old = λ m. refl;
  leaves = λ t ran h. h;
}

module _ (t : Table) (rec : Record) (overdue : List ℕ) (pattern : Pattern) (s : IsStart t rec) where
  abbrev g : Generation
  g = rec.generation

  abbrev crew : Crew
  crew = crew_of rec

  abbrev n : ℕ
  n = rec.wanted

  abbrev R : List ℕ
  R = rec.ready

  abbrev like : Like rec (Mend overdue)
  like = like_mend rec overdue s.record_in_range.wanted

  abbrev u : View
  u = first t rec (Mend overdue) pattern s like

  abbrev sc : Scene rec.pid rec.generation.image
  sc = scene t rec (Mend overdue) pattern s like

  abbrev G : Ground u sc
  G = ground t rec (Mend overdue) pattern s like

  low : n ≤ 1024
  low = s.record_in_range.wanted

  ---- The plan

  abbrev K : List ℕ
  K = filter (λ k. not (is_in overdue k)) R

  abbrev dead : List ℕ
  dead = filter (is_in R) overdue

  abbrev missing : List ℕ
  missing = filter (λ k. not (is_in R k) || is_in overdue k) (numbers_below n)

  dR : Distinct R
  dR = rising-distinct R s.rising

  dK : Distinct K
  dK = filter-distinct (λ k. not (is_in overdue k)) R dR

  kept-low : (k : ℕ) → is_in K k ≡ true → k < n
  kept-low k e = every-is_in (λ k. k < n) R s.record_in_range.ready k (in-filter-of (λ j. not (is_in overdue j)) R k e).0

  abbrev ending : Tree
  ending = settle g.image crew (numbers_below n) Target rec.retries

  -- when all was tried
  on :
      (done : List ℕ) (r names : Names) (count : ℕ) (w : Bool) (q : Progress) → Started g K n [] done r names count →
      Band u sc none r names count 0 w [] q → Goes t rec (Mend overdue) pattern s like ending q
  on done r names count w q st b =
      let within = all-within g K n done r names count st in
      let b1 =
      band-part u sc G none r names (named g (is_in (numbers_below n))) count (length (numbers_below n)) 0 w [] q
      (started-part (view u none r) g K n done r names count [] (numbers_below n) st (below-distinct n) within)
      (λ a e. absurd (omega (arith, e))) b in
      rule-settle u sc G Target crew (numbers_below n) (λ k. refl) (below-distinct n)
      (λ k e. omega (arith, below-of n k e, low)) rec.retries false (new-full t rec (Mend overdue) pattern s like false)
      (new-short t rec (Mend overdue) pattern s like) rec.retries 0 (omega arith) w (λ e. absurd (cc e)) r [] q
      (λ h k e. let o = st.only h k e in (o.0, below-on n k (⊎_elim (λ a. kept-low k a) (λ a. (st.started k a).1) o.1)))
      b1

  -- what is started is what is not kept
  missing-is : (k : ℕ) → (not (is_in R k) || is_in overdue k) ≡ not (is_in K k)
  missing-is k = go (is_in R k) (is_in overdue k) ∙ ap not (sym (in-filter (λ j. not (is_in overdue j)) R k))
    where
      go : (a b : Bool) → (not a || b) ≡ not (a && not b)
      go true true = refl
      go true false = refl
      go false b = refl

  -- what was killed is not kept
  not-kept : (k : ℕ) → is_in dead k ≡ true → is_in K k ≡ false
  not-kept k e =
      off-from K k
      (λ on_it. let o = in-filter-of (is_in R) overdue k e in let z = in-filter-of (λ j. not (is_in overdue j)) R k on_it in true-false (is_in overdue k) o.0 (not-is (is_in overdue k) z.1))

  kept-of : (k : ℕ) → is_in R k ≡ true → is_in dead k ≡ false → is_in K k ≡ true
  kept-of k e off = go (is_in overdue k) refl
    where
      go : (b : Bool) → is_in overdue k ≡ b → is_in K k ≡ true
      go true is = absurd (true-false (is_in dead k) (in-filter-on (is_in R) overdue k is e) off)
      go false is = in-filter-on (λ j. not (is_in overdue j)) R k e (ap not is)

  begun : (r : Names) → Less g u.ready dead r → Started g K n missing [] r (named g (is_in K)) (length K)
  begun r less = record {
    only =
        λ h k e. let l = less h k e in let is_g = same-is h g (and-left _ _ l.0) in
        (is_g, inl (kept-of k (and-right (same_generation h g) _ l.0) (l.1 is_g)));
    fresh =
        λ k e. let o = in-filter-of (λ j. not (is_in R j) || is_in overdue j) (numbers_below n) k e in
        (not-is (is_in K k) (sym (missing-is k) ∙ o.1), refl, below-of n k o.0);
    apart = filter-distinct (λ k. not (is_in R k) || is_in overdue k) (numbers_below n) (below-distinct n);
    started = λ k e. absurd (cc);
    all = λ k lt. cover k lt (is_in K k) refl;
    names = λ h k e. e;
    counted = refl;
  }
    where
      cover : (k : ℕ) → k < n → (b : Bool) → is_in K k ≡ b → (is_in K k ≡ true) ⊎ ((is_in [] k ≡ true) ⊎ (is_in missing k ≡ true))
      cover k lt true e = inl e
      cover k lt false e = inr (inr (in-filter-on (λ j. not (is_in R j) || is_in overdue j) (numbers_below n) k (below-on n k lt) (missing-is k ∙ ap not e)))

  off-name : (k : ℕ) → is_in K k ≡ false → named g (is_in K) g k ≡ false
  off-name k e = go (same_generation g g) (is_in K k) e
    where
      go : (a b : Bool) → b ≡ false → (a && b) ≡ false
      go true b e = e
      go false b e = refl

  goes : Goes t rec (Mend overdue) pattern s like (mend_tree g.image crew R rec.retries overdue n) (start_at t rec.note)
  goes =
      let b0 = start-band t rec (Mend overdue) pattern s like (λ a. omega arith) in
      let b1 =
      band-part u sc G none u.ready (named g (is_in R)) (named g (is_in K)) (length R) (length K) 0 false []
      (start_at t rec.note)
      (λ rows looks. weigh-part u.number g rows looks.once R K dK (λ k e. (in-filter-of (λ j. not (is_in overdue j)) R k e).0))
      (λ a e. absurd (omega (arith, e))) b0 in
      rule-kills u sc G (forks_any g.image crew missing (awaits_any g.image g missing ending)) g dead none u.ready
      (named g (is_in K)) (length K) 0 false [] (start_at t rec.note)
      (λ k e. off-name k (not-kept k e))
      (λ s1 r1 q1 less_s less b2. rule-forks-any u sc G (awaits_any g.image g missing ending) crew (λ k. refl) missing none r1 (named g (is_in K)) (length K) 0 false [] q1
      (λ s2 c2 w2 q2 within more up b3. rule-awaits-any u sc G (Started g K n) ending g (λ a. refl) (one-more-any g K n) [] 0 missing [] s2 r1 (named g (is_in K)) (length K) w2 q2
      (λ done s3 r3 t3 n3 w3 q3 st less3 up3 b4. on done r3 t3 n3 w3 q3 st (band-still u sc G s3 none r3 t3 n3 0 w3 [] q3
      (λ h k e. let l = less3 h k e in ⊎_elim (λ a. a) (λ a. absurd (true-false (is_in missing k) a.1 (l.1 a.0))) (within h k l.0)) b4))
      (begun r1 less) (band-anew u sc G s2 r1 (named g (is_in K)) (length K) c2 w2 [] q2 b3))
      (band-still u sc G s1 none r1 (named g (is_in K)) (length K) 0 false [] q1 (λ h k e. (less_s h k e).0) b2))
      b1

pub mend_headline : MendHeadline
mend_headline t rec overdue turns pattern a =
    (whole t rec (Mend overdue) pattern a.start (like_mend rec overdue a.start.record_in_range.wanted) (plan_tree rec (Mend overdue) []) (goes t rec overdue pattern a.start) a.spared).0
