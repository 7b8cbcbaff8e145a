-- What is found of all runs.
use Rattle.std.proofs.Common.{◌≡◌, ◌≤◌, Some, List, inl, inr, subst, ◌∙◌, sym, Bool}
use Rattle.std.specs.Prelude.{◌⊎◌, IsTrue}
use Rattle.std.specs.List.{AllByRecursion}
use Rattle.definitions.specs.Table.{Address}
use Rattle.definitions.specs.Run.{Progress}
use Rattle.table_laws.proofs.Rows.{every-more}
use Rattle.explorer.specs.declared.events.Tried.{Tried}
use Rattle.explorer.specs.declared.findings.Findings.{Findings}
use Rattle.explorer.specs.declared.findings.Least.{Least}
use Rattle.explorer.specs.declared.findings.Most.{Most}
use Rattle.explorer.specs.Explored.{all_tried}
use Rattle.explorer.specs.Least.{bound_of}
use Rattle.explorer.specs.Most.{living_in, IsAtMost}
use Rattle.explorer.specs.Readiness.{ready_at, is_common, AreCommon}
use Rattle.explorer.specs.Searched.{Subject, passed_under, IsSeenAt, IsLeastAt, IsPlaceOfLeast, IsPlaceOfMost, AreFewest, AreMost}
use Rattle.explorer.proofs.Common.{has-contained, has-at-least}
use Rattle.explorer.proofs.Searching.{IsWhole}

module _ (s : Subject) (pairs : Bool) (old before after : Findings) where
  abbrev runs : List Tried
  runs = all_tried s.state s.target s.turns s.table pairs

  placed : before.least ≡ old.least → AreCommon s.table s.state s.target after.common.items → (least : Least) →
      (before.least ≡ Some least) ⊎ IsLeastAt s after least → (old.least ≡ Some least) ⊎ IsPlaceOfLeast s least
  placed same common least (inl is) = inl (sym same ∙ is)
  placed same common least (inr at) = inr (record {
    passed = at.passed;
    there = at.there;
    calls = at.calls;
    common = sym (common least.address) ∙ has-contained after.common.items least.address at.address;
    ready = at.ready;
  })

  pub are-fewest : before.least ≡ old.least → AreCommon s.table s.state s.target before.common.items → IsWhole s pairs before after →
      AreFewest s pairs old after
  are-fewest same common is =
      let common' : AreCommon s.table s.state s.target after.common.items = subst (λ v. AreCommon s.table s.state s.target v.items) (sym is.onward.wider.common) common in
      record {
        place = λ least found. placed same common' least (is.onward.least least found);
        fewest = every-more (λ tried. AllByRecursion (IsSeenAt after) (passed_under s tried)) (λ tried. AllByRecursion (λ (p : Progress). (a : Address)
            → IsTrue (is_common s.table s.state s.target a) → bound_of after.least ≤ ready_at p.table a) (passed_under s tried))
            (λ tried all. every-more (IsSeenAt after) _ (λ p seen a is_in. has-at-least p.table (bound_of after.least) after.common.items seen.0 a (common' a ∙ is_in)) (passed_under s tried) all) runs is.seen;
      }

  most-placed : before.most ≡ old.most → (most : Most) → (before.most ≡ Some most) ⊎ IsPlaceOfMost s most → (old.most ≡ Some most) ⊎ IsPlaceOfMost s most
  most-placed same most (inl is) = inl (sym same ∙ is)
  most-placed same most (inr at) = inr at

  pub are-most : before.most ≡ old.most → IsWhole s pairs before after → AreMost s pairs old after
  are-most same is = record {
    place = λ most found. most-placed same most (is.onward.most most found);
    most = every-more (λ tried. AllByRecursion (IsSeenAt after) (passed_under s tried)) (λ tried. AllByRecursion (λ (p : Progress). IsAtMost (living_in p.table) after.most) (passed_under s tried))
        (λ tried all. every-more (IsSeenAt after) _ (λ p seen. seen.1) (passed_under s tried) all) runs is.seen;
  }
