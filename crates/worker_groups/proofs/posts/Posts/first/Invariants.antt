use Rattle.std.proofs.Common.{◌≡◌, ◌≤◌, ◌+◌, ◌++◌, length, take, drop}
use Rattle.worker_groups.specs.Groups.{addresses_in}
use Rattle.worker_groups.specs.Crews.{descriptors_first}
use Rattle.worker_groups.proofs.posts.Posts.first.Given as goal

abbrev pub invariant-loop-place : goal.invariant-loop-place
invariant-loop-place l = record {
  groups : l.posts.groups ≡ l.all;
  each : length l.posts.descriptors ≡ length l.all;
  set : take l.place l.posts.descriptors ++ descriptors_first l.next (drop l.place l.all) ≡ descriptors_first 3 l.all;
  from : 3 ≤ l.next;
  room : l.next + addresses_in (drop l.place l.all) ≤ 67;
}
