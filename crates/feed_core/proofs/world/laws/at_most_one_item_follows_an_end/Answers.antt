-- What every event keeps.
use Rattle.feed_core.proofs.Interleavings.Laws.{ends_within_one_item}
use Rattle.feed_core.proofs.world.laws.at_most_one_item_follows_an_end.Goals as goal

pub returns : goal.returns
returns c = ends_within_one_item
