-- Old workers are started again while the new ones serve: each start that fails is owed.
use Rattle.std.proofs.Common.{◌≡◌, ℕ, ◌+◌, ◌≤◌, Bool, true, false, List, [], ◌∷◌, refl, sym, subst, arith, inl, inr, ⊎_elim}
use Rattle.std.specs.Prelude.{not, ◌||◌, ◌==◌}
use Rattle.vocabulary.specs.declared.table.Limits.{Limits}
use Rattle.vocabulary.specs.declared.plans.PidNote.{PidNote}
use Rattle.vocabulary.specs.declared.calls.Call.TheVariants.{Kill}
use Rattle.listener_set.specs.Numbers.{is_in}
use Rattle.listener_set.specs.declared.generation.Generation.{Generation}
use Rattle.definitions.specs.Table.{Address, File}
use Rattle.definitions.specs.Master.{Crew, fds_of}
use Rattle.definitions.specs.Run.{Tree, Progress, Ending, Return, Nothing}
use Rattle.vocabulary.specs.declared.calls.Reply.TheVariants as reply
use Rattle.call_laws.proofs.Choices.{and-left, and-right}
use Rattle.definitions.specs.Plans.{on, forks_any, awaits_any, then_edge, does, await_any_edges}
use Rattle.call_laws.specs.Pieces.{share}
use Rattle.table_laws.proofs.Rows.{or-left, or-right}
use Rattle.table_laws.proofs.Views.{Names, View, eqb-is}
use Rattle.table_laws.proofs.Effects.{bears-is, bears-refl}
use Rattle.table_laws.proofs.Sets.{in-here, in-there}
use Rattle.table_laws.proofs.Small.{or-elim}
use Rattle.definitions.specs.Table.{bears}
use Rattle.run_laws.proofs.Logic.{Anyhow, Course, Along, Unasked}
use Rattle.run_laws.proofs.Rules.{Scene, Ground, IsGood, Band, plus, minus, also, Less, Within_or, Joins, grounded}
use Rattle.run_laws.proofs.Rules.{rule-fork-on, rule-await, rule-kill, enough-also, weigh-sub}

-- A plain scene in which so many faults count beside the losses for the floor.
abbrev pub owed_scene :
    (exc : ℕ → ℕ) → ((n : ℕ) → exc n ≤ exc (n + 1)) → (m image : ℕ) → (Address → ℕ) → (Address → Names) → List File → PidNote → Limits → List Return → ℕ → Scene m image
owed_scene exc more m image floor serves files note limits returns owed = record {
  floor = floor;
  serves = serves;
  files = files;
  note = note;
  limits = limits;
  returns = returns;
  excused = owed;
  Mild = Anyhow;
  Holds = λ rows losses faults. owed ≤ exc faults;
  exits = λ es rows losses more faults sp mild e h. h;
  changes = λ test f rows losses faults mine stays h. h;
  drops = λ test rows losses faults mine h. h;
  grows = λ n g x hs rows losses faults h. h;
  fails = λ rows losses faults h. omega (arith, h, more faults);
}

pub less-cons : (g : Generation) (r r' : Names) (x : ℕ) (ks : List ℕ) → Less g (minus r g x) ks r' → Less g r (x ∷ ks) r'
less-cons g r r' x ks less h k e =
    let a = less h k e in
    (and-left (r h k) _ a.0, λ is. go (x == k) refl (a.1 is) (subst (λ y. not (bears g x y k) ≡ true) is (and-right (r h k) _ a.0)))
  where
    go : (b : Bool) → (x == k) ≡ b → is_in ks k ≡ false → not (bears g x g k) ≡ true → (b || is_in ks k) ≡ false
    go true is f e' =
        let on = bears-refl g x in
        let same : bears g x g k ≡ true = subst (λ y. bears g x g y ≡ true) (eqb-is x k is) on in
        absurd (cc)
    go false is f e' = f

module _ (exc : ℕ → ℕ) (more : (n : ℕ) → exc n ≤ exc (n + 1)) (u : View) (floor : Address → ℕ) (serves : Address → Names) (files : List File) (note : PidNote) (limits : Limits)
    (returns : List Return) (inv : Progress → Type 0) (post : Ending → Progress → Type 0) (co : Course)
    (acts : is_in co.executing u.image ≡ true)
    (good : (owed : ℕ) → IsGood u (owed_scene exc more u.number u.image floor serves files note limits returns owed) inv) where
  abbrev pub sc : ℕ → Scene u.number u.image
  sc owed = owed_scene exc more u.number u.image floor serves files note limits returns owed

  abbrev pub gr : (owed : ℕ) → Ground u (sc owed)
  gr owed = grounded inv post co acts (good owed)

  abbrev pub Goes : Tree → Progress → Type 0
  Goes t p = Along inv post Anyhow Unasked co t p

  -- A name whose start failed joins the names: its fault is owed.
  one-owed :
      (full : (n : ℕ) → n ≤ exc n) (g : Generation) (x : ℕ) (s r t : Names) (n owed : ℕ) (w : Bool) (ls : List ℕ) (p : Progress) →
      Band u (sc owed) s r t n 1 w ls p → Band u (sc p.faults) s r (also g x t) (n + 1) 0 w ls p
  one-owed full g x s r t n owed w ls p b =
      let sub = weigh-sub u.number t (also g x t) (λ h k e. or-left (t h k) (bears g x h k) e) p.table.rows in
      record {
        looks = b.looks;
        enough = enough-also u.number floor serves t n g x b.enough;
        secured = λ a e. omega (arith, b.budget, sub);
        budget = omega (arith, b.budget, sub);
        lacking = b.lacking;
        marks = b.marks;
        still = b.still;
        beside = full p.faults;
      }

  pub fewer :
      (s r t : Names) (n c owed : ℕ) (w : Bool) (ls : List ℕ) (p : Progress) → Band u (sc owed) s r t n c w ls p →
      Band u (sc owed) s r t n 0 w ls p
  fewer s r t n c owed w ls p b = record {
    looks = b.looks;
    enough = b.enough;
    secured = b.secured;
    budget = omega (arith, b.budget);
    lacking = b.lacking;
    marks = b.marks;
    still = b.still;
    beside = b.beside;
  }

  -- Fork these, whatever is answered.
  pub forks-owed :
      (rest : Tree) (crew : Crew) (ks : List ℕ) →
      ((k : ℕ) → is_in ks k ≡ true → u.held crew.generation k ≡ share crew.posts k u.holds) → (s r t : Names)
      (n owed : ℕ) (w : Bool) (ls : List ℕ) (p : Progress) →
      ((s' : Names) (w' : Bool) (q : Progress) → Within_or u (sc owed) (gr owed) crew.generation ks s s' → (w ≡ true → w' ≡ true) → Band u (sc owed) s' r t n 0 w' ls q → Goes rest q)
      → Band u (sc owed) s r t n 0 w ls p → Goes (forks_any u.image crew ks rest) p
  forks-owed rest crew [] same s r t n owed w ls p next b = next s w p (λ h k e. inl e) (λ e. e) b
  forks-owed rest crew (x ∷ ks) same s r t n owed w ls p next b =
      let later = forks_any u.image crew ks rest in
      let same' : (k : ℕ) → is_in ks k ≡ true → u.held crew.generation k ≡ share crew.posts k u.holds = λ k e. same k (in-there x k ks e) in
      rule-fork-on u (sc owed) (gr owed) (on (reply.Forked ∷ reply.Again ∷ reply.NoMemory ∷ []) later Nothing) crew.generation x (fds_of crew.posts x) s r t n 0 w ls p (same x (in-here x x ks refl))
      (λ q b'. forks-owed rest crew ks same' (plus s crew.generation x) r t n owed w ls q
      (λ s' w' q' within up b''. next s' w' q' (λ h k e. ⊎_elim (λ a. ⊎_elim (λ z. inl z) (λ z. let is = bears-is crew.generation x h k z in inr (is.0, in-here x k ks (sym is.1))) (or-elim (s h k) (bears crew.generation x h k) a)) (λ a. inr (a.0, in-there x k ks a.1)) (within h k e)) up b'')
      b')
      (λ q b'.
      let h = forks-owed rest crew ks same' s r t n owed true ls q
      (λ s' w' q' within up b''. next s' w' q' (λ h k e. ⊎_elim (λ a. inl a) (λ a. inr (a.0, in-there x k ks a.1)) (within h k e)) (λ e. up refl) b'')
      (fewer s r t n 1 owed true ls q b') in
      (h, h)) b

  -- Wait for these, whatever is answered: each joins the names, by being Ready or by its fault.
  pub awaits-owed :
      (full : (n : ℕ) → n ≤ exc n) (Q : List ℕ → List ℕ → Names → Names → ℕ → Type 0) (rest : Tree) (g : Generation) →
      ((x : ℕ) (ks done : List ℕ) (r t : Names) (n : ℕ) → Q (x ∷ ks) done r t n → (r g x ≡ false) × Q ks (x ∷ done) (plus r g x) (also g x t) (n + 1) × Q ks (x ∷ done) r (also g x t) (n + 1))
      → (ls : List ℕ) (ks done : List ℕ) (s r t : Names) (n owed : ℕ) (w : Bool) (p : Progress) →
      ((done' : List ℕ) (s' r' t' : Names) (n' owed' : ℕ) (w' : Bool) (q : Progress) → Q [] done' r' t' n' → Less g s ks s' → (w ≡ true → w' ≡ true) → Band u (sc owed') s' r' t' n' 0 w' ls q → Goes rest q)
      → Q ks done r t n → Band u (sc owed) s r t n 0 w ls p → Goes (awaits_any u.image g ks rest) p
  awaits-owed full Q rest g more ls [] done s r t n owed w p next h b = next done s r t n owed w p h (λ j k e. (e, λ is. refl)) (λ e. e) b
  awaits-owed full Q rest g more ls (x ∷ ks) done s r t n owed w p next h b =
      let after = more x ks done r t n h in
      let tree = awaits_any u.image g ks rest in
      let joins : Joins u (sc owed) (gr owed) g x t (also g x t) n (n + 1) 0 0 =
      record
      { has = or-right (t g x) (bears g x g x) (bears-refl g x); sub = λ h k e. or-left (t h k) (bears g x h k) e; more = omega arith; count = omega arith; enough = enough-also u.number floor serves t n g x b.enough }
      in
      let failed = λ (q : Progress) (b' : Band u (sc owed) (minus s g x) r t n 1 true ls q).
      awaits-owed full Q rest g more ls ks (x ∷ done) (minus s g x) r (also g x t) (n + 1) q.faults true q
      (λ done' s' r' t' n' owed' w' q' h' less up b''. next done' s' r' t' n' owed' w' q' h' (less-cons g s s' x ks less) (λ e. up refl) b'')
      after.2 (one-owed full g x (minus s g x) r t n owed true ls q b') in
      rule-await u (sc owed) (gr owed) (await_any_edges tree (does u.image (Kill g x) (then_edge tree))) g x s r t (also g x t) n (n + 1) 0 0 w ls p after.0 joins
      (λ q b'. awaits-owed full Q rest g more ls ks (x ∷ done) (minus s g x) (plus r g x) (also g x t) (n + 1) owed w q
      (λ done' s' r' t' n' owed' w' q' h' less up b''. next done' s' r' t' n' owed' w' q' h' (less-cons g s s' x ks less) up b'')
      after.1 b')
      (λ q b'. rule-kill u (sc owed) (gr owed) tree g x s r t n 1 true ls q after.0 failed b')
      failed b
