-- What its Hub shows of a subscription is what is known of it.
use Rattle.publisher.proofs.SoundStates.ReclaimedStates.{knows_shown}
use Rattle.publisher.proofs.state.State.facts.Goals as goal

pub returns-clause-known : goal.returns-clause-known
returns-clause-known g c = rw (← c.self.view_is) (knows_shown
    (record {
      hub = c.self.inside.hub;
      counted = c.self.inside.counted;
      last = c.self.inside.last;
      census = c.self.inside.census;
      waiters =
          c.self.inside.waiters;
    }) c.args.entry c.facts.result c.facts.ensures)
