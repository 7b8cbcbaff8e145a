-- An upgrade's old master mends its workers beside a step of the new one.
use Rattle.std.proofs.Common.{◌≡◌, ◌≢◌, ℕ, zero, suc, ◌+◌, Bool, true, false, List, [], ◌∷◌, length, refl, ◌∙◌, arith}
use Rattle.std.specs.Prelude.{not}
use Rattle.definitions.specs.Table.{same_generation}
use Rattle.listener_set.specs.Numbers.{is_in}
use Rattle.vocabulary.specs.declared.plans.End.{End}
use Rattle.vocabulary.specs.declared.plans.End.TheVariants.{Join}
use Rattle.vocabulary.specs.declared.plans.Order.TheVariants.{ForkLacking, AwaitLacking, KillLacking}
use Rattle.vocabulary.specs.declared.plans.Turn.{Turn}
use Rattle.vocabulary.specs.declared.plans.Turn.TheVariants as turn
use Rattle.definitions.specs.Master.{fds_of}
use Rattle.vocabulary.specs.declared.calls.Reply.{Reply}
use Rattle.vocabulary.specs.declared.calls.Reply.TheVariants as reply
use Rattle.definitions.specs.Run.{Tree, Branches, Nothing, Ends, Does, Progress}
use Rattle.definitions.specs.Plans.{beside, graft, old_part, on, round, await_any_edges, then_edge}
use Rattle.call_laws.specs.Pieces.{census, census_edges, fork_edges}
use Rattle.table_laws.proofs.Rows.{both-true}
use Rattle.table_laws.proofs.Views.{Names, named}
use Rattle.table_laws.proofs.Effects.{none, same-refl}
use Rattle.run_laws.proofs.Rules.{plus, minus, seen, Only, Joins, Ground, grounded, rule-count-on, Edge, rule-fork}
use Rattle.run_laws.proofs.Rules.{rule-await, rule-kill, band-still, in-filter, not-true, unseen, only-plus, only-seen}
use Rattle.run_laws.proofs.Rules.{to-fork, to-await, to-kill, over}
use Rattle.theorems.proofs.UpgradeStage.{Given, g, old_crew, R, co, acts, inv, post, Goes, low-R, dR}
use Rattle.theorems.proofs.UpgradeNew.{Doing, Held, v, sc, good}

-- where the old part stands: before a count, with so many rounds left behind it; at a start, a wait or a kill of the number that
-- the last count lacked first; or at an end
pub data Place : Type 0 where
  Counts : ℕ → Place
  Forks : ℕ → ℕ → List ℕ → Place
  Waits : ℕ → ℕ → List ℕ → Place
  Kills : ℕ → ℕ → List ℕ → Place
  Over : End → Place

module _ (c : Given) where
  abbrev pub by : ℕ
  by = c.rec.generation.image

  abbrev pub mending : ℕ → Tree
  mending rounds = old_part by (old_crew c) (R c) rounds

  abbrev pub killing : Tree → Tree
  killing rest = Does by (KillLacking (g c)) [] (then_edge rest)

  abbrev pub waiting : Tree → Tree → Tree
  waiting rest late = Does by (AwaitLacking (g c)) [] (await_any_edges rest late)

  abbrev pub tree_at : Place → Tree
  tree_at (Counts rounds) = mending rounds
  tree_at (Forks rounds x xs) = round by (old_crew c) (mending rounds)
  tree_at (Waits rounds x xs) = waiting (mending rounds) (killing (mending rounds))
  tree_at (Kills rounds x xs) = killing (mending rounds)
  tree_at (Over end) = Ends end

module _ (c : Given) (m : ℕ) (ne : m ≢ c.rec.pid) where
  -- which of its workers may be Starting
  abbrev pub starting : Place → Names
  starting (Counts rounds) = none
  starting (Forks rounds x xs) = none
  starting (Waits rounds x xs) = plus none (g c) x
  starting (Kills rounds x xs) = plus none (g c) x
  starting (Over end) = none

  -- A number is lacking, and no Ready worker bears it.
  pub record Lacks (r : Names) (w : Bool) (ls : List ℕ) (x : ℕ) (xs : List ℕ) : Type 0 where
    pub only : Only (g c) (R c) r
    pub off : r (g c) x ≡ false
    pub in_it : is_in (R c) x ≡ true
    pub caused : w ≡ true
    pub listed : ls ≡ x ∷ xs

  abbrev pub Knows : Place → Names → Bool → List ℕ → Type 0
  Knows (Counts rounds) r w ls = Only (g c) (R c) r
  Knows (Forks rounds x xs) r w ls = Lacks r w ls x xs
  Knows (Waits rounds x xs) r w ls = Lacks r w ls x xs
  Knows (Kills rounds x xs) r w ls = Lacks r w ls x xs
  Knows (Over end) r w ls = Only (g c) (R c) r

  -- What is known of both masters, wherever the old part stands.
  pub record At (up_to : Bool) (x : Doing c m ne) (place : Place) (q : Progress) : Type 0 where
    pub r : Names
    pub k : ℕ
    pub w : Bool
    pub ls : List ℕ
    pub knows : Knows place r w ls
    pub up : up_to ≡ true → w ≡ true
    pub held : Held c m ne x (starting place) r k w ls q

  -- A cause more is known.
  pub knows-on : (place : Place) (r : Names) (w : Bool) (ls : List ℕ) → Knows place r w ls → Knows place r true ls
  knows-on (Counts rounds) r w ls h = h
  knows-on (Forks rounds x xs) r w ls h = record { only = h.only; off = h.off; in_it = h.in_it; caused = refl; listed = h.listed }
  knows-on (Waits rounds x xs) r w ls h = record { only = h.only; off = h.off; in_it = h.in_it; caused = refl; listed = h.listed }
  knows-on (Kills rounds x xs) r w ls h = record { only = h.only; off = h.off; in_it = h.in_it; caused = refl; listed = h.listed }
  knows-on (Over end) r w ls h = h

  abbrev gr : (x : Doing c m ne) → Ground (v c m ne) (sc c m ne x)
  gr x = grounded (inv c) (post c) (co c) (acts c) (good c m ne x)

  abbrev names : Names
  names = named (g c) (is_in (R c))

  ---- The steps of the old part, whatever follows them

  module _ (up_to : Bool) (x : Doing c m ne) where
    abbrev From : Place → Tree → Type 0
    From place tree = (q : Progress) → At up_to x place q → Goes c (co c) tree q

    abbrev Edges : Branches → Reply → Progress → Type 0
    Edges bs r q = Edge (v c m ne) (sc c m ne x) (gr x) bs r q

    count-step-on :
        (bs : Branches) (end : End) → ((q : Progress) → At up_to x (Over end) q → Edges bs reply.Full q) →
        ((y : ℕ) (ys : List ℕ) (r : Names) (k : ℕ) (q : Progress) → Lacks r true (y ∷ ys) y ys → Held c m ne x none r k true (y ∷ ys) q → Edges bs reply.Short q)
        → (q : Progress) (r : Names) (k : ℕ) (w : Bool) (ls : List ℕ) → (up_to ≡ true → w ≡ true) → Only (g c) (R c) r →
        Held c m ne x none r k w ls q → Goes c (co c) (census (by c) (g c) (R c) bs) q
    count-step-on bs end on_full on_short q r k w ls up only b =
        rule-count-on (v c m ne) (sc c m ne x) (gr x) bs (g c) (R c) r names (length (R c)) k w ls q (dR c) (low-R c)
        (λ j e. low-R c j (only (g c) j e).1) (λ rows looks. omega arith)
        (λ cs q' e b' is saw exact. on_full q' (record {
          r = seen r (g c) cs;
          k = k;
          w = w;
          ls = [];
          knows = only-seen (v c m ne) (sc c m ne x) (gr x) (g c) (R c) cs r only;
          up = up;
          held = b';
        }))
        (λ cs y ys q' e b' is saw exact.
        let lack = in-filter (v c m ne) (sc c m ne x) (gr x) (λ j. not (is_in cs j)) (R c) y ys e in
        on_short y ys (seen r (g c) cs) k q' (record {
          only = only-seen (v c m ne) (sc c m ne x) (gr x) (g c) (R c) cs r only;
          off =
              unseen (v c m ne) (sc c m ne x) (gr x) (r (g c) y) (is_in cs y) (same_generation (g c) (g c))
              (not-true (v c m ne) (sc c m ne x) (gr x) (is_in cs y) lack.1) (same-refl (g c));
          in_it = lack.0;
          caused = refl;
          listed = refl;
        }) b')
        b

    count-step :
        (ok short : Tree) (end : End) → ((q : Progress) → At up_to x (Over end) q → Goes c (co c) ok q) →
        ((y : ℕ) (ys : List ℕ) (r : Names) (k : ℕ) (q : Progress) → Lacks r true (y ∷ ys) y ys → Held c m ne x none r k true (y ∷ ys) q → Goes c (co c) short q)
        → (q : Progress) (r : Names) (k : ℕ) (w : Bool) (ls : List ℕ) → (up_to ≡ true → w ≡ true) → Only (g c) (R c) r →
        Held c m ne x none r k w ls q → Goes c (co c) (census (by c) (g c) (R c) (census_edges ok short)) q
    count-step ok short end on_full on_short = count-step-on (census_edges ok short) end on_full on_short

    -- The last count: whatever it says.
    last-step :
        (rest : Tree) (end : End) → ((q : Progress) → At up_to x (Over end) q → Goes c (co c) rest q) → (q : Progress) →
        At up_to x (Counts 0) q →
        Goes c (co c) (census (by c) (g c) (R c) (on (reply.Full ∷ reply.Short ∷ []) rest Nothing)) q
    last-step rest end next q a =
        count-step-on (on (reply.Full ∷ reply.Short ∷ []) rest Nothing) end next
        (λ y ys r k q' lack b'. next q' (record { r = r; k = k; w = true; ls = y ∷ ys; knows = lack.only; up = λ e. refl; held = b' }))
        q a.r a.k a.w a.ls a.up a.knows a.held

    fork-step :
        (wait rest : Tree) (rounds y : ℕ) (ys : List ℕ) → From (Waits rounds y ys) wait → From (Counts rounds) rest →
        From (Forks rounds y ys) (Does (by c) (ForkLacking (old_crew c)) [] (fork_edges wait rest))
    fork-step wait rest rounds y ys on_ok on_bad q a =
        let lack = a.knows in
        to-fork (v c m ne) (sc c m ne x) (gr x) (old_crew c) (fork_edges wait rest) q y ys (a.held.lacking ∙ lack.listed)
        (rule-fork (v c m ne) (sc c m ne x) (gr x) wait rest (g c) y (fds_of (old_crew c).posts y) none a.r names (length (R c)) a.k a.w a.ls q refl
        (λ q' b'. on_ok q' (record { r = a.r; k = a.k; w = a.w; ls = a.ls; knows = lack; up = a.up; held = b' }))
        (λ q' b'. on_bad q' (record { r = a.r; k = a.k + 1; w = true; ls = a.ls; knows = lack.only; up = λ e. refl; held = b' })) a.held)

    wait-step :
        (rest late : Tree) (rounds y : ℕ) (ys : List ℕ) → From (Counts rounds) rest → From (Kills rounds y ys) late →
        From (Waits rounds y ys) (waiting c rest late)
    wait-step rest late rounds y ys on_rest on_late q a =
        let lack = a.knows in
        let s = plus none (g c) y in
        let joins : Joins (v c m ne) (sc c m ne x) (gr x) (g c) y names names (length (R c)) (length (R c)) a.k (a.k + 1) =
        record
        { has = both-true (same_generation (g c) (g c)) (is_in (R c) y) (same-refl (g c)) lack.in_it; sub = λ h j e. e; more = omega arith; count = omega arith; enough = a.held.enough }
        in
        to-await (v c m ne) (sc c m ne x) (gr x) (g c) (await_any_edges rest late) q y ys (a.held.lacking ∙ lack.listed)
        (rule-await (v c m ne) (sc c m ne x) (gr x) (await_any_edges rest late) (g c) y s a.r names names (length (R c)) (length (R c)) a.k (a.k + 1) a.w a.ls q lack.off joins
        (λ q' b'. on_rest q' (record {
          r = plus a.r (g c) y;
          k = a.k + 1;
          w = a.w;
          ls = a.ls;
          knows = only-plus (v c m ne) (sc c m ne x) (gr x) (g c) (R c) a.r y lack.in_it lack.only;
          up = a.up;
          held = idle (plus a.r (g c) y) (a.k + 1) a.w a.ls q' b';
        }))
        (λ q' b'. on_late q' (record {
          r = a.r;
          k = a.k + 1;
          w = true;
          ls = a.ls;
          knows = record { only = lack.only; off = lack.off; in_it = lack.in_it; caused = refl; listed = lack.listed };
          up = λ e. refl;
          held = b';
        }))
        (λ q' b'. on_rest q' (record {
          r = a.r;
          k = a.k + 1;
          w = true;
          ls = a.ls;
          knows = lack.only;
          up = λ e. refl;
          held = idle a.r (a.k + 1) true a.ls q' b';
        }))
        a.held)
      where
        idle :
            (r : Names) (k : ℕ) (w : Bool) (ls : List ℕ) (q : Progress) →
            Held c m ne x (minus (plus none (g c) y) (g c) y) r k w ls q → Held c m ne x none r k w ls q
        idle r k w ls q b =
            band-still (v c m ne) (sc c m ne x) (gr x) (minus (plus none (g c) y) (g c) y) none r names (length (R c)) k
            w ls q (over (v c m ne) (sc c m ne x) (gr x) (g c) y) b

    kill-step : (rest : Tree) (rounds y : ℕ) (ys : List ℕ) → From (Counts rounds) rest → From (Kills rounds y ys) (killing c rest)
    kill-step rest rounds y ys on_rest q a =
        let lack = a.knows in
        let s = plus none (g c) y in
        to-kill (v c m ne) (sc c m ne x) (gr x) (g c) (then_edge rest) q y ys (a.held.lacking ∙ lack.listed)
        (rule-kill (v c m ne) (sc c m ne x) (gr x) rest (g c) y s a.r names (length (R c)) a.k a.w a.ls q lack.off
        (λ q' b'. on_rest q' (record {
          r = a.r;
          k = a.k;
          w = a.w;
          ls = a.ls;
          knows = lack.only;
          up = a.up;
          held = band-still (v c m ne) (sc c m ne x) (gr x) (minus s (g c) y) none a.r names (length (R c)) a.k a.w a.ls q' (over (v c m ne) (sc c m ne x) (gr x) (g c) y) b';
        }))
        a.held)

  ---- Beside a step of the new part

  -- From wherever the old part stands, under whatever turns.
  abbrev pub Cont : Doing c m ne → (List Turn → Tree → Tree) → Type 0
  Cont x goes = (turns : List Turn) (place : Place) (q : Progress) → At false x place q → Goes c (co c) (goes turns (tree_at c place)) q

  module _ (x : Doing c m ne) (goes : List Turn → Tree → Tree) (on : Cont x goes) where
    mutual
      at-counts : (rounds : ℕ) (turns : List Turn) (q : Progress) → At false x (Counts rounds) q → Goes c (co c) (beside goes turns (mending c rounds)) q
      at-counts zero [] q a = on [] (Counts zero) q a
      at-counts zero (turn.New ∷ turns) q a = on turns (Counts zero) q a
      at-counts zero (turn.Old ∷ turns) q a =
          last-step false x (goes turns (Ends Join)) Join (on turns (Over Join)) q a
      at-counts (suc rounds) [] q a = on [] (Counts (suc rounds)) q a
      at-counts (suc rounds) (turn.New ∷ turns) q a = on turns (Counts (suc rounds)) q a
      at-counts (suc rounds) (turn.Old ∷ turns) q a =
          count-step false x (goes turns (Ends Join)) (beside goes turns (round (by c) (old_crew c) (mending c rounds)))
          Join (λ q' a'. on turns (Over Join) q' a')
          (λ y ys r k q' lack b'. at-forks rounds y ys turns q' (record { r = r; k = k; w = true; ls = y ∷ ys; knows = lack; up = λ e. refl; held = b' }))
          q a.r a.k a.w a.ls a.up a.knows a.held

      at-forks :
          (rounds y : ℕ) (ys : List ℕ) (turns : List Turn) (q : Progress) → At false x (Forks rounds y ys) q →
          Goes c (co c) (beside goes turns (tree_at c (Forks rounds y ys))) q
      at-forks rounds y ys [] q a = on [] (Forks rounds y ys) q a
      at-forks rounds y ys (turn.New ∷ turns) q a = on turns (Forks rounds y ys) q a
      at-forks rounds y ys (turn.Old ∷ turns) q a =
          fork-step false x (beside goes turns (tree_at c (Waits rounds y ys))) (beside goes turns (mending c rounds))
          rounds y ys (at-waits rounds y ys turns) (at-counts rounds turns) q a

      at-waits :
          (rounds y : ℕ) (ys : List ℕ) (turns : List Turn) (q : Progress) → At false x (Waits rounds y ys) q →
          Goes c (co c) (beside goes turns (tree_at c (Waits rounds y ys))) q
      at-waits rounds y ys [] q a = on [] (Waits rounds y ys) q a
      at-waits rounds y ys (turn.New ∷ turns) q a = on turns (Waits rounds y ys) q a
      at-waits rounds y ys (turn.Old ∷ turns) q a =
          wait-step false x (beside goes turns (mending c rounds)) (beside goes turns (tree_at c (Kills rounds y ys)))
          rounds y ys (at-counts rounds turns) (at-kills rounds y ys turns) q a

      at-kills :
          (rounds y : ℕ) (ys : List ℕ) (turns : List Turn) (q : Progress) → At false x (Kills rounds y ys) q →
          Goes c (co c) (beside goes turns (tree_at c (Kills rounds y ys))) q
      at-kills rounds y ys [] q a = on [] (Kills rounds y ys) q a
      at-kills rounds y ys (turn.New ∷ turns) q a = on turns (Kills rounds y ys) q a
      at-kills rounds y ys (turn.Old ∷ turns) q a = kill-step false x (beside goes turns (mending c rounds)) rounds y ys (at-counts rounds turns) q a

    pub olds-beside : (turns : List Turn) (place : Place) (q : Progress) → At false x place q → Goes c (co c) (beside goes turns (tree_at c place)) q
    olds-beside turns (Counts rounds) q a = at-counts rounds turns q a
    olds-beside turns (Forks rounds y ys) q a = at-forks rounds y ys turns q a
    olds-beside turns (Waits rounds y ys) q a = at-waits rounds y ys turns q a
    olds-beside turns (Kills rounds y ys) q a = at-kills rounds y ys turns q a
    olds-beside turns (Over end) q a = on turns (Over end) q a

  ---- Alone, where the new part has ended

  module _ (up_to : Bool) (x : Doing c m ne) (rest : Tree) (on : (end : End) (q : Progress) → At up_to x (Over end) q → Goes c (co c) rest q) where
    abbrev ended : Tree → Tree
    ended t = graft (λ e. rest) t

    abbrev Again : Tree → ℕ → Type 0
    Again tree rounds = (q : Progress) → At up_to x (Counts rounds) q → Goes c (co c) tree q

    alone-kills :
        (rounds y : ℕ) (ys : List ℕ) → Again (ended (mending c rounds)) rounds → (q : Progress) →
        At up_to x (Kills rounds y ys) q → Goes c (co c) (ended (tree_at c (Kills rounds y ys))) q
    alone-kills rounds y ys again q a = kill-step up_to x (ended (mending c rounds)) rounds y ys again q a

    alone-waits :
        (rounds y : ℕ) (ys : List ℕ) → Again (ended (mending c rounds)) rounds → (q : Progress) →
        At up_to x (Waits rounds y ys) q → Goes c (co c) (ended (tree_at c (Waits rounds y ys))) q
    alone-waits rounds y ys again q a =
        wait-step up_to x (ended (mending c rounds)) (ended (tree_at c (Kills rounds y ys))) rounds y ys again
        (alone-kills rounds y ys again) q a

    alone-forks :
        (rounds y : ℕ) (ys : List ℕ) → Again (ended (mending c rounds)) rounds → (q : Progress) →
        At up_to x (Forks rounds y ys) q → Goes c (co c) (ended (tree_at c (Forks rounds y ys))) q
    alone-forks rounds y ys again q a =
        fork-step up_to x (ended (tree_at c (Waits rounds y ys))) (ended (mending c rounds)) rounds y ys
        (alone-waits rounds y ys again) again q a

    alone-counts : (rounds : ℕ) → Again (ended (mending c rounds)) rounds
    alone-counts zero q a =
        last-step up_to x rest Join (on Join) q a
    alone-counts (suc rounds) q a =
        count-step up_to x rest (ended (round (by c) (old_crew c) (mending c rounds))) Join (on Join)
        (λ y ys r k q' lack b'. alone-forks rounds y ys (alone-counts rounds) q' (record { r = r; k = k; w = true; ls = y ∷ ys; knows = lack; up = λ e. refl; held = b' }))
        q a.r a.k a.w a.ls a.up a.knows a.held

    pub olds-alone : (place : Place) (q : Progress) → At up_to x place q → Goes c (co c) (ended (tree_at c place)) q
    olds-alone (Counts rounds) q a = alone-counts rounds q a
    olds-alone (Forks rounds y ys) q a = alone-forks rounds y ys (alone-counts rounds) q a
    olds-alone (Waits rounds y ys) q a = alone-waits rounds y ys (alone-counts rounds) q a
    olds-alone (Kills rounds y ys) q a = alone-kills rounds y ys (alone-counts rounds) q a
    olds-alone (Over end) q a = on end q a
