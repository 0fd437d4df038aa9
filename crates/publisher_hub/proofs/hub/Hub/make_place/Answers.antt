-- What was tested says whether there is a place.
use Rattle.std.proofs.Common.{arith}
use Rattle.std.proofs.lemmas.List.{length-map}
use Rattle.publisher_hub.specs.Entry.{entry_of}
use Rattle.publisher_hub.proofs.hub.Hub.make_place.Goals as goal

pub returns-then-len-ge-MOST_ENTRIES-clause-refusals : goal.returns-then-len-ge-MOST_ENTRIES-clause-refusals
returns-then-len-ge-MOST_ENTRIES-clause-refusals g c = let mapped = length-map c.args.self.now.entries.items (entry_of g.F.Feed.meaning) in (omega arith, omega arith)

pub returns-clause-ok : goal.returns-clause-ok
returns-clause-ok g c = record {
  entry_place = c.in_ok-reserve_place.ensures.entry_place;
  number_place = c.in_ok-reserve_place.ensures.number_place;
  few_live = rw c.reserve_place.ensures.live (omega arith);
  few_entries = rw c.reserve_place.ensures.entries (omega arith);
}
