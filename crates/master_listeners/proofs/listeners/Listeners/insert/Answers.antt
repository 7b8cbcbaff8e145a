use Rattle.std.proofs.Common.{◌≡◌, ◌≤◌, ◌<◌, ◌+◌, ◌-◌, length, take, arith, set, ap, subst, sym, ◌∙◌}
use borrow.Rule.Slice.PartMut.{put_mid}
use Rattle.std.specs.Prelude.{insert}
use Rattle.listener_set.specs.PaddedLemmas.{length-padded}
use Rattle.listener_set.proofs.PaddedLists.{blanks-left}
use Rattle.master_listeners.specs.Listeners.{AreListed}
use Rattle.master_listeners.proofs.Insertion.{take-inserted, drop-inserted, length-inserted}
use Rattle.master_listeners.proofs.listeners.Listeners.insert.Goals as goal

module _ (c : goal.After-self-3-1) where
  count : length c.args.self.now ≡ c.self.inside.len
  count = rw c.self.view_is at (length-padded c.self.invariant.padded)

  room : c.self.inside.len < length c.self.inside.items
  room = omega (arith, count, c.self.invariant.padded.size)

  place : c.args.place ≤ c.self.inside.len
  place = omega (arith, count)

  now : take (c.self.inside.len + 1)
      (put_mid c.args.place (c.self.inside.len + 1 - c.args.place)
      (set c.self.inside.items c.self.inside.len c.args.listener.now) c.rotate_right.new.self)
      ≡ insert c.args.self.now c.args.place c.args.listener.now
  now =
      take-inserted c.self.inside.items c.self.inside.len c.args.place c.args.listener.now room place c.rotate_right.new.self c.rotate_right.ensures.after
      ∙ ap (λ ls. insert ls c.args.place c.args.listener.now) c.self.view_is

pub invariant_of-self : goal.invariant_of-self
invariant_of-self c = record {
  padded = record {
    size = length-inserted c.self.inside.items c.self.inside.len c.args.place c.args.listener.now (room c) (place c) c.rotate_right.new.self c.rotate_right.ensures.after ∙ c.self.invariant.padded.size;
    fits = omega (arith, count c);
    blanks = drop-inserted c.self.inside.items c.self.inside.len c.args.place c.args.listener.now (room c) (place c) c.rotate_right.new.self c.rotate_right.ensures.after ∙ blanks-left c.self.invariant.padded;
  };
  listed = subst AreListed (sym (now c)) c.requires.listed;
}

pub returns : goal.returns
returns c = now c
