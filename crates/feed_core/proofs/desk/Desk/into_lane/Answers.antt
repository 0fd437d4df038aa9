-- Who asked for the end is known by the replies.
use Rattle.feed_core.proofs.Lists.Replies.{ended_by}
use Rattle.feed_core.proofs.desk.Desk.into_lane.Goals as goal

pub returns-clause-by : goal.returns-clause-by
returns-clause-by g c = ended_by _ _ _ c.self.invariant.1.ends
