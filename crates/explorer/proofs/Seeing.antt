-- What is found in a table, and what stays found.
use Rattle.std.proofs.Common.{◌≡◌, ◌≤◌, ◌<◌, ℕ, true, List, Option, Some, None, sym, ap, subst, ◌∙◌}
use Rattle.std.proofs.Common.{arith, inl, inr}
use Rattle.std.specs.Prelude.{nat_lt, Contains, ◌⊎◌, IsTrue}
use Rattle.std.specs.List.{AllByRecursion}
use Rattle.std.proofs.lemmas.Bool.Decides.{nat_tests}
use Rattle.definitions.specs.Table.{Table}
use Rattle.definitions.specs.Run.{Progress}
use Rattle.table_laws.proofs.Rows.{every-more}
use Rattle.explorer.specs.declared.events.Tried.{Tried}
use Rattle.explorer.specs.declared.findings.Findings.{Findings}
use Rattle.explorer.specs.declared.findings.Least.{Least}
use Rattle.explorer.specs.declared.findings.Most.{Most}
use Rattle.explorer.specs.Readiness.{HaveAtLeast}
use Rattle.explorer.specs.Least.{bound_of, IsLeastSince}
use Rattle.explorer.specs.Most.{exceeds, IsAtMost, IsMostSince}
use Rattle.explorer.specs.Looking.{IsSameSo, IsSeenIn, IsLooked}
use Rattle.explorer.specs.Searched.{Subject, passed_under, IsSeenAt, AreSeen, IsWider, IsLeastAt, IsPlaceOfMost, IsOnward}
use Rattle.explorer.proofs.Fewest.{fewer-needed}

---- What was seen stays so

pub wider-same : (a b : Findings) → IsSameSo a b → IsWider a b
wider-same a b is = record {
  common = is.common;
  fewer = omega (arith, ap bound_of is.least);
  more = λ n le. subst (IsAtMost n) (sym is.most) le;
}

pub wider-on : (a b c : Findings) → IsWider a b → IsWider b c → IsWider a c
wider-on a b c is then = record {
  common = then.common ∙ is.common;
  fewer = omega (arith, is.fewer, then.fewer);
  more = λ n le. then.more n (is.more n le);
}

pub widen : (a b : Findings) (t : Table) → IsWider a b → IsSeenIn a t → IsSeenIn b t
widen a b t is seen = (
  subst (λ v. HaveAtLeast v.items t (bound_of b.least)) (sym is.common) (fewer-needed t (bound_of a.least) (bound_of b.least) a.common.items is.fewer seen.0),
  is.more _ seen.1,
)

pub widen-all : (a b : Findings) (ps : List Progress) → IsWider a b → AllByRecursion (IsSeenAt a) ps → AllByRecursion (IsSeenAt b) ps
widen-all a b ps is all = every-more (IsSeenAt a) (IsSeenAt b) (λ p seen. widen a b p.table is seen) ps all

pub widen-runs : (s : Subject) (a b : Findings) (runs : List Tried) → IsWider a b → AreSeen s a runs → AreSeen s b runs
widen-runs s a b runs is all =
    every-more (λ tried. AllByRecursion (IsSeenAt a) (passed_under s tried)) (λ tried. AllByRecursion (IsSeenAt b) (passed_under s tried))
    (λ tried seen. widen-all a b (passed_under s tried) is seen) runs all

---- A table that is looked at

fewer-since : (t : Table) (run : Tried) (calls : ℕ) (a b : Findings) → IsLeastSince t run calls a b → bound_of b.least ≤ bound_of a.least
fewer-since t run calls a b (inl same) = omega (arith, ap bound_of same)
fewer-since t run calls a b (inr (least, is, found)) = omega (arith, ap bound_of is, found.fewer)

below : (n m : ℕ) → nat_lt n m ≡ true → n < m
below n m is = grind (arith, nat_tests)

grown : (n : ℕ) (before : Option Most) (most : Most) → IsTrue (exceeds most.workers before) → IsAtMost n before → n ≤ most.workers
grown n None most more le = absurd le
grown n (Some x) most more le = omega (arith, below x.workers most.workers more, le)

more-since : (t : Table) (run : Tried) (calls : ℕ) (a b : Findings) → IsMostSince t run calls a b → (n : ℕ) → IsAtMost n a.most → IsAtMost n b.most
more-since t run calls a b (inl same) n le = subst (IsAtMost n) (sym same) le
more-since t run calls a b (inr (most, is, found)) n le = subst (IsAtMost n) (sym is) (grown n a.most most found.more le)

pub wider-looked : (t : Table) (run : Tried) (calls : ℕ) (a b : Findings) → IsLooked t run calls a b → IsWider a b
wider-looked t run calls a b is = record {
  common = is.common;
  fewer = fewer-since t run calls a b is.least;
  more = more-since t run calls a b is.most;
}

---- Where it is found

pub onward-same : (s : Subject) (a b : Findings) → IsSameSo a b → IsOnward s a b
onward-same s a b is = record {
  wider = wider-same a b is;
  least = λ least found. inl (sym is.least ∙ found);
  most = λ most found. inl (sym is.most ∙ found);
}

module _ (s : Subject) (a b c : Findings) where
  least-on : IsWider b c → (least : Least) → (a.least ≡ Some least) ⊎ IsLeastAt s b least → (a.least ≡ Some least) ⊎ IsLeastAt s c least
  least-on is least (inl same) = inl same
  least-on is least (inr at) = inr (record {
    passed = at.passed;
    there = at.there;
    calls = at.calls;
    address = subst (λ v. Contains v.items least.address) (sym is.common) at.address;
    ready = at.ready;
  })

  least-then : IsOnward s a b → IsWider b c → (least : Least) → (b.least ≡ Some least) ⊎ IsLeastAt s c least →
      (a.least ≡ Some least) ⊎ IsLeastAt s c least
  least-then is wide least (inl same) = least-on wide least (is.least least same)
  least-then is wide least (inr at) = inr at

  most-then : IsOnward s a b → (most : Most) → (b.most ≡ Some most) ⊎ IsPlaceOfMost s most → (a.most ≡ Some most) ⊎ IsPlaceOfMost s most
  most-then is most (inl same) = is.most most same
  most-then is most (inr at) = inr at

  pub onward-on : IsOnward s a b → IsOnward s b c → IsOnward s a c
  onward-on is then = record {
    wider = wider-on a b c is.wider then.wider;
    least = λ least found. least-then is then.wider least (then.least least found);
    most = λ most found. most-then is most (then.most most found);
  }

some-same : {X : Type 0} (x y : X) → Some x ≡ Some y → x ≡ y
some-same x y e = cc

module _ (s : Subject) (p : Progress) (run : Tried) (a b : Findings) (there : Contains (passed_under s run) p) where
  least-found : b.common ≡ a.common → IsLeastSince p.table run p.calls a b → (least : Least) → b.least ≡ Some least →
      (a.least ≡ Some least) ⊎ IsLeastAt s b least
  least-found common (inl same) least found = inl (sym same ∙ found)
  least-found common (inr (x, is, at)) least found =
      let same : x ≡ least = some-same x least (sym is ∙ found) in
      inr (subst (IsLeastAt s b) same (record {
        passed = p;
        there = subst (λ tried. Contains (passed_under s tried) p) (sym at.tried) there;
        calls = at.made;
        address = subst (λ v. Contains v.items x.address) (sym common) at.address;
        ready = at.ready;
      }))

  most-found : IsMostSince p.table run p.calls a b → (most : Most) → b.most ≡ Some most → (a.most ≡ Some most) ⊎ IsPlaceOfMost s most
  most-found (inl same) most found = inl (sym same ∙ found)
  most-found (inr (x, is, at)) most found =
      let same : x ≡ most = some-same x most (sym is ∙ found) in
      inr (subst (IsPlaceOfMost s) same (record {
        passed = p;
        there = subst (λ tried. Contains (passed_under s tried) p) (sym at.tried) there;
        calls = at.made;
        workers = at.workers;
      }))

  pub onward-looked : IsLooked p.table run p.calls a b → IsOnward s a b
  onward-looked is = record {
    wider = wider-looked p.table run p.calls a b is;
    least = least-found is.common is.least;
    most = most-found is.most;
  }
