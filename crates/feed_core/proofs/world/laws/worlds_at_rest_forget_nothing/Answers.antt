-- What every event keeps.
use Rattle.feed_core.proofs.Interleavings.Laws.{nothing_is_forgotten}
use Rattle.feed_core.proofs.world.laws.worlds_at_rest_forget_nothing.Goals as goal

pub returns : goal.returns
returns c = nothing_is_forgotten
