-- A walk of a weave is a walk of each part.
use Rattle.std.proofs.Common.{◌≡◌, ◌≢◌, ℕ, ◌==◌, Bool, true, false, List, [], ◌∷◌, Option, Some, None, refl, sym, ap}
use Rattle.std.proofs.Common.{arith, ◌∙◌, ◌⊎◌, subst, inl, inr, ⊎_elim, if◌then◌else◌}
use Rattle.std.proofs.lemmas.Bool.Decides.{nat_tests}
use Rattle.vocabulary.specs.declared.calls.Answer.{Answer}
use Rattle.vocabulary.specs.declared.calls.Answer.TheVariants as answer
use Rattle.definitions.specs.Run.{Tree, Branches, Ends, Does, Nothing, Branch, End, Order, Reply, reply_of, call_of}
use Rattle.definitions.specs.Run.{Entry, Lack, lacked_by, lacked_after}
use Rattle.definitions.specs.Master.{PidNote}
use Rattle.call_laws.specs.Pieces.{among, lacking_after, branch}
use Rattle.definitions.specs.Run as run
use Rattle.definitions.specs.Plans.{Turn, New, Old, graft, graft_all, beside, beside_all, weave, weave_all}
use Rattle.theorems.specs.Apart.{turns_used, rest_of, IsOf, AreOf, Walks, WalksAll, AreCountsOf, of_master, Plays}
use Rattle.theorems.specs.Apart.{IsWalkedApart, WalksApart, AreOfBoth, MergesAreWoven}

eq-refl : (a b : ℕ) → a ≡ b → (a == b) ≡ true
eq-refl a b e = grind (arith, nat_tests)

eq-off : (a b : ℕ) → a ≢ b → (a == b) ≡ false
eq-off a b e = grind (arith, nat_tests)

---- The last counts

pub own-after : (a : ℕ) (set : List ℕ) (x : Answer) (lacked : List Lack) → lacked_by a (lacked_after a set x lacked) ≡ lacking_after set x (lacked_by a lacked)
own-after a set (answer.Opened fd) lacked = refl
own-after a set answer.InUse lacked = refl
own-after a set answer.TooMany lacked = refl
own-after a set answer.Denied lacked = refl
own-after a set answer.NoMemory lacked = refl
own-after a set answer.Fine lacked = refl
own-after a set answer.Forked lacked = refl
own-after a set answer.Again lacked = refl
own-after a set answer.IsReady lacked = refl
own-after a set answer.Gone lacked = refl
own-after a set answer.Late lacked = refl
own-after a set (answer.Counted ns) lacked = rw (eq-refl a a refl) refl
own-after a set answer.Spawned lacked = refl
own-after a set answer.NoImage lacked = refl
own-after a set answer.Adopted lacked = refl
own-after a set answer.Refused lacked = refl
own-after a set answer.IoFault lacked = refl
own-after a set answer.IsAlive lacked = refl
own-after a set answer.Go lacked = refl
own-after a set answer.Back lacked = refl
own-after a set answer.MasterGone lacked = refl

-- the newest of another master is the last count of the other of two
beside-other : (a b : ℕ) → a ≢ b → (lacked : List Lack) → AreCountsOf a b lacked → lacked_by b (run.newest_of_others a lacked) ≡ lacked_by b lacked
beside-other a b ne [] theirs = refl
beside-other a b ne (lack ∷ lacked) theirs =
    ⊎_elim
    (λ is. rw (eq-refl lack.by a is, eq-off lack.by b (λ e. ne (sym is ∙ e))) (beside-other a b ne lacked theirs.1))
    (λ is. rw (eq-off lack.by a (λ e. ne (sym e ∙ is)), eq-refl lack.by b is) refl)
    theirs.0

pub other-after :
    (a b : ℕ) → a ≢ b → (set : List ℕ) (x : Answer) (lacked : List Lack) → AreCountsOf a b lacked →
    lacked_by b (lacked_after a set x lacked) ≡ lacked_by b lacked
other-after a b ne set (answer.Opened fd) lacked theirs = refl
other-after a b ne set answer.InUse lacked theirs = refl
other-after a b ne set answer.TooMany lacked theirs = refl
other-after a b ne set answer.Denied lacked theirs = refl
other-after a b ne set answer.NoMemory lacked theirs = refl
other-after a b ne set answer.Fine lacked theirs = refl
other-after a b ne set answer.Forked lacked theirs = refl
other-after a b ne set answer.Again lacked theirs = refl
other-after a b ne set answer.IsReady lacked theirs = refl
other-after a b ne set answer.Gone lacked theirs = refl
other-after a b ne set answer.Late lacked theirs = refl
other-after a b ne set (answer.Counted ns) lacked theirs = rw (eq-off a b ne) (beside-other a b ne lacked theirs)
other-after a b ne set answer.Spawned lacked theirs = refl
other-after a b ne set answer.NoImage lacked theirs = refl
other-after a b ne set answer.Adopted lacked theirs = refl
other-after a b ne set answer.Refused lacked theirs = refl
other-after a b ne set answer.IoFault lacked theirs = refl
other-after a b ne set answer.IsAlive lacked theirs = refl
other-after a b ne set answer.Go lacked theirs = refl
other-after a b ne set answer.Back lacked theirs = refl
other-after a b ne set answer.MasterGone lacked theirs = refl

swapped : (a b : ℕ) (lacked : List Lack) → AreCountsOf a b lacked → AreCountsOf b a lacked
swapped a b [] theirs = tt
swapped a b (lack ∷ lacked) theirs = (⊎_elim (λ e. inr e) (λ e. inl e) theirs.0, swapped a b lacked theirs.1)

beside-theirs : (a b m : ℕ) (lacked : List Lack) → AreCountsOf a b lacked → AreCountsOf a b (run.newest_of_others m lacked)
beside-theirs a b m [] theirs = tt
beside-theirs a b m (lack ∷ lacked) theirs =
    elim (lack.by == m) as (λ x. AreCountsOf a b (if x then run.newest_of_others m lacked else lack ∷ [])) [
      | true ↦ beside-theirs a b m lacked theirs.1
      | false ↦ (theirs.0, tt)
    ]

-- after an answer to one of two masters the last counts are theirs
pub theirs-after :
    (a b m : ℕ) → (m ≡ a) ⊎ (m ≡ b) → (set : List ℕ) (x : Answer) (lacked : List Lack) → AreCountsOf a b lacked →
    AreCountsOf a b (lacked_after m set x lacked)
theirs-after a b m of set (answer.Opened fd) lacked theirs = theirs
theirs-after a b m of set answer.InUse lacked theirs = theirs
theirs-after a b m of set answer.TooMany lacked theirs = theirs
theirs-after a b m of set answer.Denied lacked theirs = theirs
theirs-after a b m of set answer.NoMemory lacked theirs = theirs
theirs-after a b m of set answer.Fine lacked theirs = theirs
theirs-after a b m of set answer.Forked lacked theirs = theirs
theirs-after a b m of set answer.Again lacked theirs = theirs
theirs-after a b m of set answer.IsReady lacked theirs = theirs
theirs-after a b m of set answer.Gone lacked theirs = theirs
theirs-after a b m of set answer.Late lacked theirs = theirs
theirs-after a b m of set (answer.Counted ns) lacked theirs = (of, beside-theirs a b m lacked theirs)
theirs-after a b m of set answer.Spawned lacked theirs = theirs
theirs-after a b m of set answer.NoImage lacked theirs = theirs
theirs-after a b m of set answer.Adopted lacked theirs = theirs
theirs-after a b m of set answer.Refused lacked theirs = theirs
theirs-after a b m of set answer.IoFault lacked theirs = theirs
theirs-after a b m of set answer.IsAlive lacked theirs = theirs
theirs-after a b m of set answer.Go lacked theirs = theirs
theirs-after a b m of set answer.Back lacked theirs = theirs
theirs-after a b m of set answer.MasterGone lacked theirs = theirs

-- the edges of a part, each with what the function makes of its rest
abbrev on_rest : (Tree → Tree) → Option (Option PidNote × Tree) → Option (Option PidNote × Tree)
on_rest f None = None
on_rest f (Some edge) = Some (edge.0, f edge.1)

pick-rest :
    (f : Tree → Tree) (b : Bool) (said : Option PidNote) (rest : Tree) (x y : Option (Option PidNote × Tree)) → x ≡
    on_rest f y → elim b as (λ c. Option (Option PidNote × Tree)) [ true ↦ Some (said, f rest) | false ↦ x ] ≡ on_rest f
    (elim b as (λ c. Option (Option PidNote × Tree)) [ true ↦ Some (said, rest) | false ↦ y ])
pick-rest f true said rest x y e = refl
pick-rest f false said rest x y e = e

graft-branch : (on : End → Tree) (bs : Branches) (r : Reply) → branch (graft_all on bs) r ≡ on_rest (graft on) (branch bs r)
graft-branch on Nothing r = refl
graft-branch on (Branch replies said rest more) r =
    pick-rest (graft on) (among replies r) said rest (branch (graft_all on more) r) (branch more r)
    (graft-branch on more r)

weave-branch :
    (join : End → Tree) (bs : Branches) (turns : List Turn) (old : Tree) (r : Reply) →
    branch (weave_all join bs turns old) r ≡ on_rest (λ t. weave join t turns old) (branch bs r)
weave-branch join Nothing turns old r = refl
weave-branch join (Branch replies said rest more) turns old r =
    pick-rest (λ t. weave join t turns old) (among replies r) said rest (branch (weave_all join more turns old) r)
    (branch more r) (weave-branch join more turns old r)

beside-branch :
    (goes : List Turn → Tree → Tree) (turns : List Turn) (bs : Branches) (r : Reply) →
    branch (beside_all goes turns bs) r ≡ on_rest (λ t. beside goes turns t) (branch bs r)
beside-branch goes turns Nothing r = refl
beside-branch goes turns (Branch replies said rest more) r =
    pick-rest (λ t. beside goes turns t) (among replies r) said rest (branch (beside_all goes turns more) r)
    (branch more r) (beside-branch goes turns more r)

branch-of : (image : ℕ) (bs : Branches) (r : Reply) → AreOf image bs → (edge : Option PidNote × Tree) → branch bs r ≡ Some edge → IsOf image edge.1
branch-of image Nothing r of edge e = absurd (cc)
branch-of image (Branch replies said rest more) r of edge e = go (among replies r) e (branch-of image more r of.1 edge)
  where
    go :
        (b : Bool) → elim b as (λ c. Option (Option PidNote × Tree))
        [ true ↦ Some (said, rest) | false ↦ branch more r ] ≡ Some edge →
        (branch more r ≡ Some edge → IsOf image edge.1) → IsOf image edge.1
    go true is ih = subst (λ t. IsOf image t) (ap (λ (x : Option (Option PidNote × Tree)). rest_of x) is) of.0
    go false is ih = ih is

---- Entries

mine : (a : ℕ) (e : Entry) (es : List Entry) → e.by ≡ a → of_master a (e ∷ es) ≡ e ∷ of_master a es
mine a e es is = ap (λ b. elim b as (λ c. List Entry) [ true ↦ e ∷ of_master a es | false ↦ of_master a es ]) (eq-refl e.by a is)

others : (a : ℕ) (e : Entry) (es : List Entry) → e.by ≢ a → of_master a (e ∷ es) ≡ of_master a es
others a e es ne = ap (λ b. elim b as (λ c. List Entry) [ true ↦ e ∷ of_master a es | false ↦ of_master a es ]) (eq-off e.by a ne)

used-new :
    (a : ℕ) (order : Order) (set : List ℕ) (bs : Branches) (b : ℕ) (order' : Order) (set' : List ℕ) (bs' : Branches)
    (e : Entry) (es : List Entry) (edge : Option PidNote × Tree) → branch bs (reply_of set e.answer) ≡ Some edge → e.by
    ≡ a → turns_used (Does a order set bs) (Does b order' set' bs') (e ∷ es) ≡ New ∷ turns_used edge.1
    (Does b order' set' bs') es
used-new a order set bs b order' set' bs' e es edge is own =
    ap
    (λ x. elim x as (λ c. List Turn) [
      | true ↦ New
          ∷ turns_used (rest_of (branch bs (reply_of set e.answer))) (Does b order' set' bs') es
      | false ↦ Old
          ∷ turns_used (Does a order set bs) (rest_of (branch bs' (reply_of set' e.answer))) es
    ])
    (eq-refl e.by a own)
    ∙ ap (λ o. New ∷ turns_used (rest_of o) (Does b order' set' bs') es) is

used-old :
    (a : ℕ) (order : Order) (set : List ℕ) (bs : Branches) (b : ℕ) (order' : Order) (set' : List ℕ) (bs' : Branches)
    (e : Entry) (es : List Entry) (edge : Option PidNote × Tree) → branch bs' (reply_of set' e.answer) ≡ Some edge →
    e.by ≢ a → turns_used (Does a order set bs) (Does b order' set' bs') (e ∷ es) ≡ Old ∷ turns_used
    (Does a order set bs) edge.1 es
used-old a order set bs b order' set' bs' e es edge is own =
    ap
    (λ x. elim x as (λ c. List Turn) [
      | true ↦ New
          ∷ turns_used (rest_of (branch bs (reply_of set e.answer))) (Does b order' set' bs') es
      | false ↦ Old
          ∷ turns_used (Does a order set bs) (rest_of (branch bs' (reply_of set' e.answer))) es
    ])
    (eq-off e.by a own)
    ∙ ap (λ o. Old ∷ turns_used (Does a order set bs) (rest_of o) es) is

---- One step

module _ (join : End → Tree) (a b : ℕ) (ne : a ≢ b) (later : Tree) where
  new-cons :
      (order : Order) (set : List ℕ) (bs : Branches) (turns turns' : List Turn) (old : Tree) (lacked : List Lack) →
      AreCountsOf a b lacked → (e : Entry) (es : List Entry) (edge : Option PidNote × Tree) →
      branch bs (reply_of set e.answer) ≡ Some edge → e.by ≡ a → e.call ≡ call_of order (lacked_by a lacked) →
      (P : IsWalkedApart join edge.1 turns' old a b (lacked_after a set e.answer lacked) es later) →
      Plays turns (turns_used (Does a order set bs) old (e ∷ P.front)) →
      IsWalkedApart join (Does a order set bs) turns old a b lacked (e ∷ es) later
  new-cons order set bs turns turns' old lacked th e es edge is own call P used = record {
    front = e ∷ P.front;
    behind = P.behind;
    new_later = P.new_later;
    old_later = P.old_later;
    is = ap (λ x. e ∷ x) P.is;
    both = (inl own, P.both);
    of_new =
        subst (λ x. Walks (Does a order set bs) (lacked_by a lacked) x P.new_later) (sym (mine a e P.front own))
        (own, call, edge, is, (subst (λ l. Walks edge.1 l (of_master a P.front) P.new_later) (own-after a set e.answer lacked) P.of_new));
    of_old =
        subst (λ x. Walks old (lacked_by b lacked) x P.old_later) (sym (others b e P.front (λ x. ne (sym own ∙ x))))
        (subst (λ l. Walks old l (of_master b P.front) P.old_later) (other-after a b ne set e.answer lacked th) P.of_old);
    used = used;
    joins = P.joins;
  }

  old-cons :
      (order : Order) (set : List ℕ) (bs : Branches) (turns turns' : List Turn) (new : Tree) (lacked : List Lack) →
      AreCountsOf a b lacked → (e : Entry) (es : List Entry) (edge : Option PidNote × Tree) →
      branch bs (reply_of set e.answer) ≡ Some edge → e.by ≡ b → e.call ≡ call_of order (lacked_by b lacked) →
      (P : IsWalkedApart join new turns' edge.1 a b (lacked_after b set e.answer lacked) es later) →
      Plays turns (turns_used new (Does b order set bs) (e ∷ P.front)) →
      IsWalkedApart join new turns (Does b order set bs) a b lacked (e ∷ es) later
  old-cons order set bs turns turns' new lacked th e es edge is own call P used = record {
    front = e ∷ P.front;
    behind = P.behind;
    new_later = P.new_later;
    old_later = P.old_later;
    is = ap (λ x. e ∷ x) P.is;
    both = (inr own, P.both);
    of_old =
        subst (λ x. Walks (Does b order set bs) (lacked_by b lacked) x P.old_later) (sym (mine b e P.front own))
        (own, call, edge, is, (subst (λ l. Walks edge.1 l (of_master b P.front) P.old_later) (own-after b set e.answer lacked) P.of_old));
    of_new =
        subst (λ x. Walks new (lacked_by a lacked) x P.new_later) (sym (others a e P.front (λ x. ne (sym x ∙ own))))
        (subst (λ l. Walks new l (of_master a P.front) P.new_later) (other-after b a (λ x. ne (sym x)) set e.answer lacked (swapped a b lacked th)) P.of_new);
    used = used;
    joins = P.joins;
  }

  -- the edge that a walk takes, of a tree whose edges are those of a part with `f` of each rest
  taken :
      (bs bs' : Branches) (f : Tree → Tree) (r : Reply) (lacked : List Lack) (es : List Entry)
      (edge' : Option PidNote × Tree) → branch bs' r ≡ on_rest f (branch bs r) → branch bs' r ≡ Some edge' → WalksAll
      edge'.1 lacked es later → (edge : Option PidNote × Tree) × (branch bs r ≡ Some edge) × WalksAll (f edge.1) lacked
      es later
  taken bs bs' f r lacked es edge' same at walk = go (branch bs r) refl (sym same ∙ at)
    where
      go :
          (o : Option (Option PidNote × Tree)) → branch bs r ≡ o → on_rest f o ≡ Some edge' →
          (edge : Option PidNote × Tree) × (branch bs r ≡ Some edge) × WalksAll (f edge.1) lacked es later
      go None is e = absurd (cc)
      go (Some edge) is e = (edge, is, subst (λ x. WalksAll x lacked es later) (sym (ap (λ (x : Option (Option PidNote × Tree)). rest_of x) e)) walk)

  pub apart :
      (entries : List Entry) (new : Tree) (turns : List Turn) (old : Tree) (lacked : List Lack) →
      AreCountsOf a b lacked → IsOf a new → IsOf b old → WalksAll (weave join new turns old) lacked entries later →
      IsWalkedApart join new turns old a b lacked entries later
  apart [] new turns old lacked th of_a of_b walk = record {
    front = [];
    behind = [];
    new_later = new;
    old_later = old;
    is = refl;
    both = tt;
    of_new = refl;
    of_old = refl;
    used = tt;
    joins = inl (refl, turns, walk);
  }
  apart (e ∷ es) (Ends end) turns (Ends other) lacked th of_a of_b walk = record {
    front = [];
    behind = e ∷ es;
    new_later = Ends end;
    old_later = Ends other;
    is = refl;
    both = tt;
    of_new = refl;
    of_old = refl;
    used = tt;
    joins = inr (end, other, lacked, refl, refl, walk);
  }
  apart (e ∷ es) (Ends end) turns (Does i order set bs) lacked th of_a of_b walk =
      subst
      (λ j. WalksAll (weave join (Ends end) turns (Does j order set bs)) lacked (e ∷ es) later →
      IsWalkedApart join (Ends end) turns (Does j order set bs) a b lacked (e ∷ es) later)
      (sym of_b.0)
      (λ w.
      let t =
      taken bs (graft_all (λ x. join end) bs) (graft (λ x. join end)) (reply_of set e.answer)
      (lacked_after b set e.answer lacked) es w.2 (graft-branch (λ x. join end) bs (reply_of set e.answer)) w.3 w.4
      in
      old-cons order set bs turns turns (Ends end) lacked th e es t.0 t.1 w.0 w.1
      (apart es (Ends end) turns t.0.1 (lacked_after b set e.answer lacked)
      (theirs-after a b b (inr refl) set e.answer lacked th) tt
      (branch-of b bs (reply_of set e.answer) of_b.1 t.0 t.1) t.2)
      tt) walk
  apart (e ∷ es) (Does i order set bs) turns (Ends other) lacked th of_a of_b walk =
      subst
      (λ j. WalksAll (weave join (Does j order set bs) turns (Ends other)) lacked (e ∷ es) later →
      IsWalkedApart join (Does j order set bs) turns (Ends other) a b lacked (e ∷ es) later)
      (sym of_a.0)
      (λ w.
      let t =
      taken bs (weave_all join bs turns (Ends other)) (λ x. weave join x turns (Ends other)) (reply_of set e.answer)
      (lacked_after a set e.answer lacked) es w.2 (weave-branch join bs turns (Ends other) (reply_of set e.answer))
      w.3 w.4 in
      new-cons order set bs turns turns (Ends other) lacked th e es t.0 t.1 w.0 w.1
      (apart es t.0.1 turns (Ends other) (lacked_after a set e.answer lacked)
      (theirs-after a b a (inl refl) set e.answer lacked th)
      (branch-of a bs (reply_of set e.answer) of_a.1 t.0 t.1) tt t.2)
      tt) walk
  apart (e ∷ es) (Does i order set bs) [] (Does j order' set' bs') lacked th of_a of_b walk =
      subst
      (λ x. WalksAll (weave join (Does x order set bs) [] (Does j order' set' bs')) lacked (e ∷ es) later →
      IsWalkedApart join (Does x order set bs) [] (Does j order' set' bs') a b lacked (e ∷ es) later)
      (sym of_a.0)
      (λ w.
      let old = Does j order' set' bs' in
      let t =
      taken bs (weave_all join bs [] old) (λ x. weave join x [] old) (reply_of set e.answer)
      (lacked_after a set e.answer lacked) es w.2 (weave-branch join bs [] old (reply_of set e.answer)) w.3 w.4 in
      let P =
      apart es t.0.1 [] old (lacked_after a set e.answer lacked)
      (theirs-after a b a (inl refl) set e.answer lacked th) (branch-of a bs (reply_of set e.answer) of_a.1 t.0 t.1)
      of_b t.2 in
      new-cons order set bs [] [] old lacked th e es t.0 t.1 w.0 w.1 P
      (subst (λ u. Plays [] u) (sym (used-new a order set bs j order' set' bs' e P.front t.0 t.1 w.0)) (refl, P.used))) walk
  apart (e ∷ es) (Does i order set bs) (New ∷ turns) (Does j order' set' bs') lacked th of_a of_b walk =
      subst
      (λ x. WalksAll (weave join (Does x order set bs) (New ∷ turns) (Does j order' set' bs')) lacked (e ∷ es) later →
      IsWalkedApart join (Does x order set bs) (New ∷ turns) (Does j order' set' bs') a b lacked (e ∷ es) later)
      (sym of_a.0)
      (λ w.
      let old = Does j order' set' bs' in
      let t =
      taken bs (weave_all join bs turns old) (λ x. weave join x turns old) (reply_of set e.answer)
      (lacked_after a set e.answer lacked) es w.2 (weave-branch join bs turns old (reply_of set e.answer)) w.3 w.4
      in
      let P =
      apart es t.0.1 turns old (lacked_after a set e.answer lacked)
      (theirs-after a b a (inl refl) set e.answer lacked th) (branch-of a bs (reply_of set e.answer) of_a.1 t.0 t.1)
      of_b t.2 in
      new-cons order set bs (New ∷ turns) turns old lacked th e es t.0 t.1 w.0 w.1 P
      (subst (λ u. Plays (New ∷ turns) u) (sym (used-new a order set bs j order' set' bs' e P.front t.0 t.1 w.0)) (refl, P.used))) walk
  apart (e ∷ es) (Does i order set bs) (Old ∷ turns) (Does j order' set' bs') lacked th of_a of_b walk =
      subst
      (λ x. IsOf a (Does x order set bs) →
      WalksAll (weave join (Does x order set bs) (Old ∷ turns) (Does j order' set' bs')) lacked (e ∷ es) later →
      IsWalkedApart join (Does x order set bs) (Old ∷ turns) (Does j order' set' bs') a b lacked (e ∷ es) later)
      (sym of_a.0)
      (λ own_a.
      subst
      (λ x. WalksAll (weave join (Does a order set bs) (Old ∷ turns) (Does x order' set' bs')) lacked (e ∷ es) later →
      IsWalkedApart join (Does a order set bs) (Old ∷ turns) (Does x order' set' bs') a b lacked (e ∷ es) later)
      (sym of_b.0)
      (λ w.
      let new = Does a order set bs in
      let goes : List Turn → Tree → Tree = λ later still. Does a order set (weave_all join bs later still) in
      let t =
      taken bs' (beside_all goes turns bs') (λ x. beside goes turns x) (reply_of set' e.answer)
      (lacked_after b set' e.answer lacked) es w.2 (beside-branch goes turns bs' (reply_of set' e.answer)) w.3 w.4
      in
      let P =
      apart es new turns t.0.1 (lacked_after b set' e.answer lacked)
      (theirs-after a b b (inr refl) set' e.answer lacked th) own_a
      (branch-of b bs' (reply_of set' e.answer) of_b.1 t.0 t.1) t.2 in
      old-cons order' set' bs' (Old ∷ turns) turns new lacked th e es t.0 t.1 w.0 w.1 P
      (subst (λ u. Plays (Old ∷ turns) u)
      (sym (used-old a order set bs b order' set' bs' e P.front t.0 t.1 (λ x. ne (sym x ∙ w.0))))
      (refl, P.used)))) of_a walk

pub walks-apart : WalksApart
walks-apart join new turns old a b lacked entries later ne of_a of_b th walk = apart join a b ne later entries new turns old lacked th of_a of_b walk

---- Any merge

used-alone : (t : Tree) (o : End) (es : List Entry) → turns_used t (Ends o) es ≡ []
used-alone t o [] = refl
used-alone (Ends end) o (e ∷ es) = refl
used-alone (Does by order set bs) o (e ∷ es) = refl

-- the edge of a weave, where the part has it
edge-of :
    (bs bs' : Branches) (f : Tree → Tree) (r : Reply) (edge : Option PidNote × Tree) →
    branch bs' r ≡ on_rest f (branch bs r) → branch bs r ≡ Some edge → branch bs' r ≡ Some (edge.0, f edge.1)
edge-of bs bs' f r edge same at = same ∙ ap (on_rest f) at

module _ (join : End → Tree) (a b : ℕ) (ne : a ≢ b) (nl ol : Tree) where
  -- what is known behind an entry
  abbrev Behind : List Entry → Type 0
  Behind es =
      (new old : Tree) (lacked : List Lack) → AreCountsOf a b lacked → IsOf a new → IsOf b old → AreOfBoth a b es →
      Walks new (lacked_by a lacked) (of_master a es) nl → Walks old (lacked_by b lacked) (of_master b es) ol →
      WalksAll (weave join new (turns_used new old es) old) lacked es (weave join nl [] ol)

  by-new :
      (e : Entry) (es : List Entry) → Behind es → (new old : Tree) (lacked : List Lack) → AreCountsOf a b lacked →
      IsOf a new → IsOf b old → e.by ≡ a → AreOfBoth a b es → Walks new (lacked_by a lacked) (e ∷ of_master a es) nl →
      Walks old (lacked_by b lacked) (of_master b es) ol →
      WalksAll (weave join new (turns_used new old (e ∷ es)) old) lacked (e ∷ es) (weave join nl [] ol)
  by-new e es behind (Ends end) old lacked th of_a of_b is both wn wo = absurd wn
  by-new e es behind (Does i order set bs) (Ends other) lacked th of_a of_b is both (own, call, edge, at, rest) wo =
      let r = reply_of set e.answer in
      let own_is : i ≡ a = of_a.0 in
      let lacked' = lacked_after i set e.answer lacked in
      let of_edge = branch-of a bs r of_a.1 edge at in
      let ih = behind edge.1 (Ends other) lacked' (theirs-after a b i (inl own_is) set e.answer lacked th) of_edge tt both
      (subst (λ l. Walks edge.1 l (of_master a es) nl)
      (sym
      (subst (λ j. lacked_by a (lacked_after j set e.answer lacked)
      ≡ lacking_after set e.answer (lacked_by a lacked)) (sym own_is) (own-after a set e.answer lacked)))
      (subst (λ j. Walks edge.1 (lacking_after set e.answer (lacked_by j lacked)) (of_master a es) nl) refl rest))
      (subst (λ l. Walks (Ends other) l (of_master b es) ol)
      (sym (subst (λ j. lacked_by b (lacked_after j set e.answer lacked) ≡ lacked_by b lacked) (sym own_is)
      (other-after a b ne set e.answer lacked th))) wo)
      in (
        own,
        (call ∙ ap (λ j. call_of order (lacked_by j lacked)) (sym own_is)),
        (edge.0, weave join edge.1 [] (Ends other)),
        edge-of bs (weave_all join bs [] (Ends other)) (λ x. weave join x [] (Ends other)) r edge (weave-branch join bs [] (Ends other) r) at,
        subst (λ ts. WalksAll (weave join edge.1 ts (Ends other)) lacked' es (weave join nl [] ol)) (used-alone edge.1 other es) ih,
      )
  by-new e es behind (Does i order set bs) (Does j order' set' bs') lacked th of_a of_b is both (own, call, edge, at, rest) wo =
      let r = reply_of set e.answer in
      let own_is : i ≡ a = of_a.0 in
      let old = Does j order' set' bs' in
      let lacked' = lacked_after i set e.answer lacked in
      let of_edge = branch-of a bs r of_a.1 edge at in
      let ts = turns_used edge.1 old es in
      let ih = behind edge.1 old lacked' (theirs-after a b i (inl own_is) set e.answer lacked th) of_edge of_b both
      (subst (λ l. Walks edge.1 l (of_master a es) nl)
      (sym
      (subst (λ j. lacked_by a (lacked_after j set e.answer lacked)
      ≡ lacking_after set e.answer (lacked_by a lacked)) (sym own_is) (own-after a set e.answer lacked))) rest)
      (subst (λ l. Walks old l (of_master b es) ol)
      (sym (subst (λ j. lacked_by b (lacked_after j set e.answer lacked) ≡ lacked_by b lacked) (sym own_is)
      (other-after a b ne set e.answer lacked th))) wo)
      in
      subst (λ us. WalksAll (weave join (Does i order set bs) us old) lacked (e ∷ es) (weave join nl [] ol))
      (sym (used-new i order set bs j order' set' bs' e es edge at own)) (
        own,
        (call ∙ ap (λ j. call_of order (lacked_by j lacked)) (sym own_is)),
        (edge.0, weave join edge.1 ts old),
        edge-of bs (weave_all join bs ts old) (λ x. weave join x ts old) r edge (weave-branch join bs ts old r) at,
        ih,
      )

  by-old :
      (e : Entry) (es : List Entry) → Behind es → (new old : Tree) (lacked : List Lack) → AreCountsOf a b lacked →
      IsOf a new → IsOf b old → e.by ≡ b → AreOfBoth a b es → Walks new (lacked_by a lacked) (of_master a es) nl →
      Walks old (lacked_by b lacked) (e ∷ of_master b es) ol →
      WalksAll (weave join new (turns_used new old (e ∷ es)) old) lacked (e ∷ es) (weave join nl [] ol)
  by-old e es behind new (Ends other) lacked th of_a of_b is both wn wo = absurd wo
  by-old e es behind (Ends end) (Does j order set bs) lacked th of_a of_b is both wn (own, call, edge, at, rest) =
      let r = reply_of set e.answer in
      let own_is : j ≡ b = of_b.0 in
      let lacked' = lacked_after j set e.answer lacked in
      let of_edge = branch-of b bs r of_b.1 edge at in
      let ih = behind (Ends end) edge.1 lacked' (theirs-after a b j (inr own_is) set e.answer lacked th) tt of_edge both
      (subst (λ l. Walks (Ends end) l (of_master a es) nl)
      (sym (subst (λ i. lacked_by a (lacked_after i set e.answer lacked) ≡ lacked_by a lacked) (sym own_is)
      (other-after b a (λ x. ne (sym x)) set e.answer lacked (swapped a b lacked th)))) wn)
      (subst (λ l. Walks edge.1 l (of_master b es) ol)
      (sym
      (subst (λ i. lacked_by b (lacked_after i set e.answer lacked)
      ≡ lacking_after set e.answer (lacked_by b lacked)) (sym own_is) (own-after b set e.answer lacked))) rest)
      in (
        own,
        (call ∙ ap (λ i. call_of order (lacked_by i lacked)) (sym own_is)),
        (edge.0, graft (λ x. join end) edge.1),
        edge-of bs (graft_all (λ x. join end) bs) (graft (λ x. join end)) r edge
            (graft-branch (λ x. join end) bs r) at,
        ih,
      )
  by-old e es behind (Does i order set bs) (Does j order' set' bs') lacked th of_a of_b is both wn (own, call, edge, at, rest) =
      let r = reply_of set' e.answer in
      let own_is : j ≡ b = of_b.0 in
      let new = Does i order set bs in
      let lacked' = lacked_after j set' e.answer lacked in
      let of_edge = branch-of b bs' r of_b.1 edge at in
      let ts = turns_used new edge.1 es in
      let goes : List Turn → Tree → Tree = λ later still. Does i order set (weave_all join bs later still) in
      let ih = behind new edge.1 lacked' (theirs-after a b j (inr own_is) set' e.answer lacked th) of_a of_edge both
      (subst (λ l. Walks new l (of_master a es) nl)
      (sym (subst (λ i. lacked_by a (lacked_after i set' e.answer lacked) ≡ lacked_by a lacked) (sym own_is)
      (other-after b a (λ x. ne (sym x)) set' e.answer lacked (swapped a b lacked th)))) wn)
      (subst (λ l. Walks edge.1 l (of_master b es) ol)
      (sym
      (subst (λ i. lacked_by b (lacked_after i set' e.answer lacked)
      ≡ lacking_after set' e.answer (lacked_by b lacked)) (sym own_is) (own-after b set' e.answer lacked))) rest)
      in
      subst (λ us. WalksAll (weave join new us (Does j order' set' bs')) lacked (e ∷ es) (weave join nl [] ol))
      (sym (used-old i order set bs j order' set' bs' e es edge at (λ x. ne (sym of_a.0 ∙ sym x ∙ is)))) (
        own,
        (call ∙ ap (λ i. call_of order' (lacked_by i lacked)) (sym own_is)),
        (edge.0, beside goes ts edge.1),
        edge-of bs' (beside_all goes ts bs') (λ x. beside goes ts x) r edge (beside-branch goes ts bs' r) at,
        ih,
      )

  woven :
      (entries : List Entry) (new old : Tree) (lacked : List Lack) → AreCountsOf a b lacked → IsOf a new → IsOf b old →
      AreOfBoth a b entries → Walks new (lacked_by a lacked) (of_master a entries) nl →
      Walks old (lacked_by b lacked) (of_master b entries) ol →
      WalksAll (weave join new (turns_used new old entries) old) lacked entries (weave join nl [] ol)
  woven [] new old lacked th of_a of_b both wn wo = ap (λ t. weave join t [] old) wn ∙ ap (λ t. weave join nl [] t) wo
  woven (e ∷ es) new old lacked th of_a of_b both wn wo =
      ⊎_elim
      (λ is. by-new e es (woven es) new old lacked th of_a of_b is both.1
      (subst (λ l. Walks new (lacked_by a lacked) l nl) (mine a e es is) wn)
      (subst (λ l. Walks old (lacked_by b lacked) l ol) (others b e es (λ x. ne (sym is ∙ x))) wo))
      (λ is. by-old e es (woven es) new old lacked th of_a of_b is both.1
      (subst (λ l. Walks new (lacked_by a lacked) l nl) (others a e es (λ x. ne (sym x ∙ is))) wn)
      (subst (λ l. Walks old (lacked_by b lacked) l ol) (mine b e es is) wo))
      both.0

pub merges-woven : MergesAreWoven
merges-woven join new old a b lacked entries nl ol ne of_a of_b th both wn wo = woven join a b ne nl ol entries new old lacked th of_a of_b both wn wo
