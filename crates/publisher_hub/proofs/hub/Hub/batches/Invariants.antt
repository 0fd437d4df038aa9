use Rattle.std.proofs.Common.{◌≡◌, ◌≤◌, vec_len}
use Rattle.std.specs.Vec.{vec_capacity}
use Rattle.publisher_hub.specs.Batch.{AreBatches, items_from}
use Rattle.publisher_hub.proofs.hub.Hub.batches.Given as goal

abbrev pub invariant-loop : goal.invariant-loop
invariant-loop g l = record {
  many : vec_len l.batches ≡ l.counter;
  room : l.many ≤ vec_capacity l.batches;
  batches : AreBatches (items_from l.stamp.source l.stamp.seq l.stamp.serial l.texts) l.batches.items;
}
