-- The pieces of plans as trees whose calls are gentle to a light fact.
use Rattle.std.proofs.Common.{◌≡◌, ℕ, zero, suc, true, false, List, [], ◌∷◌, refl, subst, ⊎_elim, inl, inr}
use Rattle.std.specs.Prelude.{⊤}
use Rattle.listener_set.specs.Numbers.{is_in}
use Rattle.listener_set.specs.declared.generation.Generation.{Generation}
use Rattle.definitions.specs.Table.{Address}
use Rattle.vocabulary.specs.declared.calls.Call.TheVariants.{OpenAt, CloseAt, Quit, Kill, Usr1}
use Rattle.vocabulary.specs.declared.calls.Reply.{Reply}
use Rattle.vocabulary.specs.declared.plans.End.{End}
use Rattle.vocabulary.specs.declared.plans.Side.{Side}
use Rattle.definitions.specs.Run.{Tree, Branches, Ends, Does, Nothing, Branch, Progress, Ending, At, Lost}
use Rattle.call_laws.specs.Pieces.{among, quits, kills, usr1s, closes, census, census_edges, noted}
use Rattle.definitions.specs.Plans.{settle, forks, awaits, starts, forks_any, awaits_any, starts_any, opens, full_end}
use Rattle.definitions.specs.Plans.{short_end}
use Rattle.definitions.specs.Master.{Crew, fds_of}
use Rattle.table_laws.proofs.Sets.{in-here, in-there, in-cases}
use Rattle.run_laws.proofs.Logic.{Exiting, Asked, Unasked, Course, course_after, Along, Behind}
use Rattle.run_laws.proofs.Lights.{Light, no_claim, Calm, ByItself, settle-along}

module _ (image : ℕ) (mild : Exiting) (due : Asked) (light : Light image mild due)
    (post : Ending → Progress → Type 0) (ends : (e : Ending) (q : Progress) → light.Holds q.table → post e q)
    (co : Course) (acts : is_in co.executing image ≡ true) where
  abbrev pub IsCalm : Tree → Type 0
  IsCalm t = Calm image mild due light post ends co acts t

  -- What goes by itself is calm.
  pub by-itself : (t : Tree) → ByItself image mild due light post ends co acts t → IsCalm t
  by-itself (Ends end) h = tt
  by-itself (Does by order set bs) h = inr h

  pub calm-settle : (side : Side) (crew : Crew) (S : List ℕ) (rounds : ℕ) → light.Fits crew.generation S → IsCalm (settle image crew S side rounds)
  calm-settle side crew S rounds fits =
      by-itself (settle image crew S side rounds)
      (λ p holds. settle-along image mild due light post ends co acts side crew S rounds p fits holds)

  pub calm-quits :
      (g : Generation) (ks : List ℕ) (rest : Tree) → ((k : ℕ) → is_in ks k ≡ true → light.Gentle (Quit g k)) →
      IsCalm rest → IsCalm (quits image g ks rest)
  calm-quits g [] rest gentle calm = calm
  calm-quits g (x ∷ ks) rest gentle calm =
      inl
      (refl, (gentle x (in-here x x ks refl), refl), (calm-quits g ks rest (λ k e. gentle k (in-there x k ks e)) calm, tt))

  pub calm-kills :
      (g : Generation) (ks : List ℕ) (rest : Tree) → ((k : ℕ) → is_in ks k ≡ true → light.Gentle (Kill g k)) →
      IsCalm rest → IsCalm (kills image g ks rest)
  calm-kills g [] rest gentle calm = calm
  calm-kills g (x ∷ ks) rest gentle calm =
      inl
      (refl, (gentle x (in-here x x ks refl), refl), (calm-kills g ks rest (λ k e. gentle k (in-there x k ks e)) calm, tt))

  pub calm-usr1s : (g : Generation) (ks : List ℕ) (rest : Tree) → ((k : ℕ) → light.Gentle (Usr1 g k)) → IsCalm rest → IsCalm (usr1s image g ks rest)
  calm-usr1s g [] rest gentle calm = calm
  calm-usr1s g (x ∷ ks) rest gentle calm = inl (refl, (gentle x, refl), (calm-usr1s g ks rest gentle calm, tt))

  pub calm-closes : (addresses : List Address) (rest : Tree) → ((a : Address) → light.Gentle (CloseAt a)) → IsCalm rest → IsCalm (closes image addresses rest)
  calm-closes [] rest gentle calm = calm
  calm-closes (a ∷ more) rest gentle calm = inl (refl, (gentle a, refl), (calm-closes more rest gentle calm, tt))

  pub calm-opens :
      (addresses done : List Address) (ok bad : List Address → Tree) → ((a : Address) → light.Gentle (OpenAt a)) →
      ((done : List Address) → IsCalm (ok done)) → ((done : List Address) → IsCalm (bad done)) →
      IsCalm (opens image addresses done ok bad)
  calm-opens [] done ok bad gentle on_ok on_bad = on_ok done
  calm-opens (a ∷ more) done ok bad gentle on_ok on_bad =
      inl (refl, (gentle a, refl), (calm-opens more (a ∷ done) ok bad gentle on_ok on_bad, (on_bad done, tt)))

  -- The forked numbers are among those of the list.
  calm-forks :
      (crew : Crew) (all ks done : List ℕ) (ok bad : List ℕ → Tree) →
      ((k : ℕ) → is_in ks k ≡ true → is_in all k ≡ true) → ((k : ℕ) → is_in done k ≡ true → is_in all k ≡ true) →
      ((done : List ℕ) → ((k : ℕ) → is_in done k ≡ true → is_in all k ≡ true) → IsCalm (ok done)) →
      ((done : List ℕ) → ((k : ℕ) → is_in done k ≡ true → is_in all k ≡ true) → IsCalm (bad done)) →
      IsCalm (forks image crew ks done ok bad)
  calm-forks crew all [] done ok bad left within on_ok on_bad = on_ok done within
  calm-forks crew all (x ∷ ks) done ok bad left within on_ok on_bad =
      let within' =
      λ (k : ℕ) (e : is_in (x ∷ done) k ≡ true). ⊎_elim
      (λ same. subst (λ y. is_in all y ≡ true) same (left x (in-here x x ks refl))) (λ a. within k a)
      (in-cases x k done e) in
      inl
      (refl, (light.forks crew.generation x (fds_of crew.posts x), refl), (calm-forks crew all ks (x ∷ done) ok bad (λ k e. left k (in-there x k ks e)) within' on_ok on_bad, (on_bad done within, tt)))

  calm-awaits :
      (g : Generation) (ks : List ℕ) (ok bad : Tree) → ((k : ℕ) → is_in ks k ≡ true → light.Gentle (Kill g k)) →
      IsCalm ok → IsCalm bad → IsCalm (awaits image g ks ok bad)
  calm-awaits g [] ok bad gentle on_ok on_bad = on_ok
  calm-awaits g (x ∷ ks) ok bad gentle on_ok on_bad =
      inl
      (refl, (light.waits g x, refl), (calm-awaits g ks ok bad (λ k e. gentle k (in-there x k ks e)) on_ok on_bad, (on_bad, (inl (refl, (gentle x (in-here x x ks refl), refl), (on_bad, tt)), tt))))

  pub calm-starts :
      (crew : Crew) (ks : List ℕ) (ok : Tree) (bad : List ℕ → Tree) →
      ((k : ℕ) → is_in ks k ≡ true → light.Gentle (Kill crew.generation k)) → IsCalm ok →
      ((forked : List ℕ) → ((k : ℕ) → is_in forked k ≡ true → is_in ks k ≡ true) → IsCalm (bad forked)) →
      IsCalm (starts image crew ks ok bad)
  calm-starts crew ks ok bad gentle on_ok on_bad =
      calm-forks crew ks ks [] (λ forked. awaits image crew.generation ks ok (bad forked)) bad (λ k e. e)
      (λ k e. absurd (cc e))
      (λ forked within. calm-awaits crew.generation ks ok (bad forked) gentle on_ok (on_bad forked within)) on_bad

  calm-forks-any : (crew : Crew) (ks : List ℕ) (rest : Tree) → IsCalm rest → IsCalm (forks_any image crew ks rest)
  calm-forks-any crew [] rest calm = calm
  calm-forks-any crew (x ∷ ks) rest calm = inl (refl, (light.forks crew.generation x (fds_of crew.posts x), refl), (calm-forks-any crew ks rest calm, tt))

  calm-awaits-any :
      (g : Generation) (ks : List ℕ) (rest : Tree) → ((k : ℕ) → is_in ks k ≡ true → light.Gentle (Kill g k)) →
      IsCalm rest → IsCalm (awaits_any image g ks rest)
  calm-awaits-any g [] rest gentle calm = calm
  calm-awaits-any g (x ∷ ks) rest gentle calm =
      let more = calm-awaits-any g ks rest (λ k e. gentle k (in-there x k ks e)) calm in
      inl (refl, (light.waits g x, refl), (more, (inl (refl, (gentle x (in-here x x ks refl), refl), (more, tt)), tt)))

  pub calm-starts-any :
      (crew : Crew) (ks : List ℕ) (rest : Tree) →
      ((k : ℕ) → is_in ks k ≡ true → light.Gentle (Kill crew.generation k)) → IsCalm rest →
      IsCalm (starts_any image crew ks rest)
  calm-starts-any crew ks rest gentle calm =
      calm-forks-any crew ks (awaits_any image crew.generation ks rest)
      (calm-awaits-any crew.generation ks rest gentle calm)

  pub calm-census : (g : Generation) (S : List ℕ) (full short : Tree) → IsCalm full → IsCalm short → IsCalm (census image g S (census_edges full short))
  calm-census g S full short on_full on_short = inl (refl, (light.censuses g, refl), (on_full, (on_short, tt)))

---- Trees of which nothing is asked

-- all ends of a tree
abbrev mutual
  pub AllEnds : (End → Type 0) → Tree → Type 0
  AllEnds Q (Ends end) = Q end
  AllEnds Q (Does by order set branches) = AllEndsBehind Q branches

  pub AllEndsBehind : (End → Type 0) → Branches → Type 0
  AllEndsBehind Q Nothing = ⊤
  AllEndsBehind Q (Branch replies said rest more) = AllEnds Q rest × AllEndsBehind Q more

-- Where nothing is asked at any end, nothing is asked along the tree.
mutual
  pub free-along :
      (mild : Exiting) (post : Ending → Progress → Type 0) (co : Course) → ((q : Progress) → post Lost q) →
      (t : Tree) (p : Progress) → AllEnds (λ e. (q : Progress) → post (At e) q) t →
      Along no_claim post mild Unasked co t p
  free-along mild post co lost (Ends end) p all = (tt, all p)
  free-along mild post co lost (Does by order set bs) p all = λ spared calm. (tt, tt, tt, free-behind mild post (course_after order co) lost bs _ _ all)

  free-behind :
      (mild : Exiting) (post : Ending → Progress → Type 0) (co : Course) → ((q : Progress) → post Lost q) →
      (bs : Branches) (r : Reply) (p : Progress) → AllEndsBehind (λ e. (q : Progress) → post (At e) q) bs →
      Behind no_claim post mild Unasked co bs r p
  free-behind mild post co lost Nothing r p all = (tt, lost p)
  free-behind mild post co lost (Branch replies said rest more) r p all =
      let here = free-along mild post co lost rest (noted said p) all.0 in
      let there = free-behind mild post co lost more r p all.1 in
      elim (among replies r) as
      (λ b. elim b as (λ c. Type 0) [ true ↦ Along no_claim post mild Unasked co rest (noted said p) | false ↦ Behind no_claim post mild Unasked co more r p ]) [
        | true ↦ here
        | false ↦ there
      ]

pub ends-settle :
    (Q : End → Type 0) (by : ℕ) (crew : Crew) (S : List ℕ) (side : Side) (rounds : ℕ) → Q (full_end side) →
    Q (short_end side) → AllEnds Q (settle by crew S side rounds)
ends-settle Q by crew S side zero full short = (full, (short, tt))
ends-settle Q by crew S side (suc rounds) full short =
    let rest = ends-settle Q by crew S side rounds full short in
    (full, (((rest, ((rest, tt), tt)), (rest, tt)), tt))

pub ends-quits : (Q : End → Type 0) (by : ℕ) (g : Generation) (ks : List ℕ) (rest : Tree) → AllEnds Q rest → AllEnds Q (quits by g ks rest)
ends-quits Q by g [] rest all = all
ends-quits Q by g (x ∷ ks) rest all = (ends-quits Q by g ks rest all, tt)

pub ends-closes : (Q : End → Type 0) (by : ℕ) (addresses : List Address) (rest : Tree) → AllEnds Q rest → AllEnds Q (closes by addresses rest)
ends-closes Q by [] rest all = all
ends-closes Q by (a ∷ more) rest all = (ends-closes Q by more rest all, tt)
