use Rattle.std.proofs.Common.{◌-◌, length}
use Rattle.publisher_hub.specs.Gathering.{CanGather}
use Rattle.publisher_hub.specs.Offering.{item_of}
use Rattle.publisher_hub.proofs.PartialRounds.Putting.{IsPutting}
use Rattle.publisher_hub.proofs.hub.publish.put_all.Given as goal

abbrev pub invariant-loop-number : goal.invariant-loop-number
invariant-loop-number g l = record {
  puts : IsPutting g.F.Feed.meaning g.F.Feed.does (item_of l.stamp l.text) l.live l.number-index l.initial.entries l.entries l.gathering l.initial.due l.due;
  room : CanGather (length l.live - l.number-index) l.gathering l.due;
}
