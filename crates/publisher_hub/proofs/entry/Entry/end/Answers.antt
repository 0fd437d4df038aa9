-- The producer's end was closed once, and nothing else of the subscription changed.
use Rattle.std.proofs.Common.{rules, refl}
use Rattle.publisher_hub.proofs.entry.Entry.end.Goals as goal

pub returns : goal.returns
returns g c = record {
  before = c.in-Some.feed;
  after = _;
  live = c.if-self.false;
  was = c.in-Some.is;
  now = refl;
  means = search rules;
  exact = search rules;
}
