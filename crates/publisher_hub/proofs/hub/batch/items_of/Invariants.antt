use Rattle.std.proofs.Common.{◌≡◌, ◌≤◌, length, take, vec_len}
use Rattle.std.specs.Vec.{vec_capacity}
use Rattle.publisher_hub.specs.Batch.{items_from}
use Rattle.publisher_hub.proofs.hub.batch.items_of.Given as goal

abbrev pub invariant-loop-place : goal.invariant-loop-place
invariant-loop-place l = record {
  items : l.items.items ≡ items_from l.stamp.source l.stamp.seq l.stamp.serial (take l.place l.texts);
  many : vec_len l.items ≡ l.place;
  room : length l.texts ≤ vec_capacity l.items;
}
