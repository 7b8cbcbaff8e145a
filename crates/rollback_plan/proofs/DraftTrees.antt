-- Trees that stand in a draft.
use Rattle.std.proofs.Common.{◌≡◌, ℕ, ◌-◌, ◌<◌, ◌≤◌, true, List, [], ◌++◌, length, refl, ◌∙◌, ap, arith, length-append, append_assoc, slice_get, unwrap_or}
use Rattle.std.proofs.lemmas.Bool.{lt-ltb, ltb-true}
use Rattle.vocabulary.specs.declared.plans.End.TheVariants.{Done}
use Rattle.definitions.specs.Run.{Tree, Ends}
use Rattle.rollback_plan.specs.declared.draft.Draft.{Draft}
use Rattle.plan_steps.specs.declared.step.Place.{Place}
use Rattle.plan_steps.specs.declared.step.Next.{Next}
use Rattle.plan_steps.specs.declared.step.Next.TheVariants.{To, Over, Both}
use Rattle.plan_steps.specs.declared.step.Step.{Step}
use Rattle.plan_steps.specs.Steps.{at_place, trees_after, tree_among, is_below}
use Rattle.plan_steps.proofs.Trees.{tree_more}
use Rattle.rollback_plan.specs.Drafts.{trees_of, tree_at, IsMade, LeadsTo, Extends, Keeps, is_plain}

-- ---- what a draft keeps

pub keeps_on : (old mid new : Draft) → Keeps old mid → Keeps mid new → Keeps old new
keeps_on old mid new k l =
    record {
      more = k.more ++ l.more;
      is = l.is ∙ (ap (λ ts. ts ++ l.more) k.is ∙ append_assoc (trees_of old) k.more l.more);
      splits = λ a b h. l.splits a b (k.splits a b h);
    }

pub extended : (old new : Draft) → Keeps old new → Extends old new
extended old new k =
    record {
      more = k.more;
      is = k.is;
    }

-- the tree at a place of a draft, counted from 0
pub at_place_is : (steps : List Step) (place : Place) → at_place steps place.0 ≡ tree_among 0 (trees_after [] steps) (To place)
at_place_is steps place = ap (λ k. unwrap_or (slice_get (trees_after [] steps) k) (Ends Done)) (let same : place.0 ≡ place.0 - 0 = omega arith in same)

pub longer_by : (old new : Draft) → Extends old new → length (trees_of old) ≤ length (trees_of new)
longer_by old new k = omega (arith, ap length k.is, length-append (trees_of old) k.more)

pub longer : (old new : Draft) → Keeps old new → length (trees_of old) ≤ length (trees_of new)
longer old new k = longer_by old new (extended old new k)

-- what leads to one place leads below
pub plain_below : (n : ℕ) (next : Next) → is_plain n next ≡ true → is_below n next ≡ true
plain_below n (Over end) h = refl
plain_below n (Both new old) h = cc
plain_below n (To place) h = h

plain_le : (n m : ℕ) (next : Next) → n ≤ m → is_plain n next ≡ true → is_plain m next ≡ true
plain_le n m (Over end) h p = refl
plain_le n m (Both new old) h p = cc
plain_le n m (To place) h p = lt-ltb place.0 m (omega (arith, h, ltb-true place.0 n p))

pub tree_extended : (old new : Draft) (next : Next) → Extends old new → is_below (length (trees_of old)) next ≡ true →
    tree_among 0 (trees_of new) next ≡ tree_among 0 (trees_of old) next
tree_extended old new next k h = ap (λ ts. tree_among 0 ts next) k.is ∙ tree_more (trees_of old) k.more next h

pub tree_kept : (old new : Draft) (next : Next) → Keeps old new → is_below (length (trees_of old)) next ≡ true →
    tree_among 0 (trees_of new) next ≡ tree_among 0 (trees_of old) next
tree_kept old new next k h = tree_extended old new next (extended old new k) h

-- what leads to one place leads there still
pub plain_kept : (old new : Draft) (next : Next) → Keeps old new → is_plain (length (trees_of old)) next ≡ true → is_plain (length (trees_of new)) next ≡ true
plain_kept old new next k h = plain_le (length (trees_of old)) (length (trees_of new)) next (longer old new k) h

pub leads_kept : (old new : Draft) (next : Next) (tree : Tree) → Keeps old new → LeadsTo old next tree → LeadsTo new next tree
leads_kept old new next tree k there =
    record {
      plain = plain_kept old new next k there.plain;
      is = tree_kept old new next k (plain_below (length (trees_of old)) next there.plain) ∙ there.is;
    }

-- a place leads to its tree
pub leads_to : (d : Draft) (place : Place) (tree : Tree) → IsMade d place tree → LeadsTo d (To place) tree
leads_to d place tree made =
    record {
      plain = lt-ltb place.0 (length (trees_of d)) made.below;
      is = made.is;
    }

pub at_kept : (old new : Draft) (place : Place) → Keeps old new → place.0 < length (trees_of old) → tree_at new place ≡ tree_at old place
at_kept old new place k h = tree_kept old new (To place) k (lt-ltb place.0 (length (trees_of old)) h)

pub made_extended : (old new : Draft) (place : Place) (tree : Tree) → Extends old new → IsMade old place tree → IsMade new place tree
made_extended old new place tree k made =
    record {
      below = omega (arith, longer_by old new k, made.below);
      is = tree_extended old new (To place) k (lt-ltb place.0 (length (trees_of old)) made.below) ∙ made.is;
    }

pub made_kept : (old new : Draft) (place : Place) (tree : Tree) → Keeps old new → IsMade old place tree → IsMade new place tree
made_kept old new place tree k made = made_extended old new place tree (extended old new k) made
