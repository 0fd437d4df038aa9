use Rattle.std.proofs.Common.{◌≡◌, ◌+◌, ◌-◌, ◌≤◌, List, length, vec_len}
use Rattle.std.specs.Vec.{vec_capacity}
use Rattle.flow_rules.specs.declared.item.Item.{Item}
use Rattle.publisher_hub.specs.Batch.{AreBatches}
use Rattle.publisher_hub.proofs.PartialRounds.PuttingBatches.{IsPuttingBatches}
use Rattle.publisher_hub.proofs.hub.batch.put_batches.Given as goal

abbrev pub invariant-loop-number : goal.invariant-loop-number
invariant-loop-number g l = record {
  puts : (items : List Item) → AreBatches items l.initial.batches.items
      → IsPuttingBatches g.F.Feed.meaning g.F.Feed.does l.next items l.live l.number-index l.initial.entries l.entries l.lag l.initial.due.items l.due.items;
  left : (items : List Item) → AreBatches items l.initial.batches.items → AreBatches items l.batches.items;
  many : vec_len l.batches ≡ length l.live - l.number-index;
  places : vec_len l.due + (length l.live - l.number-index) ≤ vec_capacity l.due;
}
