-- The producer's end heard once of a second subscribing, and nothing else of the subscription changed.
use Rattle.std.proofs.Common.{rules, refl}
use Rattle.publisher_hub.proofs.entry.Entry.double.Goals as goal

pub returns : goal.returns
returns g c = record {
  before = c.in-Some.feed;
  after = _;
  live = c.requires.live;
  was = c.in-Some.is;
  now = refl;
  means = search rules;
  exact = search rules;
}
