use Rattle.std.proofs.Common.{◌≡◌, ◌≤◌, vec_len}
use Rattle.std.specs.Vec.{vec_capacity}
use Rattle.publisher_hub.specs.Gathering.{AreShares}
use Rattle.publisher_hub.specs.Offering.{item_of}
use Rattle.publisher_hub.proofs.hub.gathering.share_out.Given as goal

abbrev pub invariant-loop : goal.invariant-loop
invariant-loop l = record {
  many : vec_len l.shares ≡ l.counter;
  room : l.many ≤ vec_capacity l.shares;
  shares : AreShares (item_of l.stamp l.text) l.shares.items;
}
