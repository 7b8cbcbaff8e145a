use Rattle.std.proofs.Common.{◌≡◌, length, take}
use Rattle.definitions.specs.After.{descriptors_by}
use Rattle.service_state.proofs.posting.posts_of.Given as goal

abbrev pub invariant-loop-place : goal.invariant-loop-place
invariant-loop-place l = record {
  groups : l.posts.groups ≡ l.settings.groups;
  each : length l.posts.descriptors ≡ length l.settings.groups;
  set : take l.place l.posts.descriptors ≡ take l.place (descriptors_by l.settings.groups l.settings.listeners l.listeners);
}
