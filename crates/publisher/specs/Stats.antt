-- How a publisher stands at one moment.
use Rattle.std.specs.Prelude.{◌≡◌, ℕ, ◌+◌, ◌≤◌, All, length}
use Rattle.feed_cell.specs.Offering.{DoesCall}
use Rattle.publisher_hub.specs.Stats.{SurveysAll}
use Rattle.publisher_hub.specs.declared.hub.TheConstants.{MOST_LIVE}
use Rattle.publisher_hub.specs.declared.hub.stats.Figures.{Figures}
use Rattle.publisher.specs.State.{PublisherState, producer_end}
use Rattle.publisher.specs.declared.state.stats.Stats.{Stats}

-- all live subscriptions were looked at and listed in order, with how many there ever were, how many of them were
-- reclaimed, and how many publications there were
pub record TellsStats (old new : PublisherState) (stats : Stats) : Type 0 where
  pub surveys : SurveysAll producer_end DoesCall stats.live.items old.hub new.hub
  pub made : stats.made ≡ new.census.made
  pub reclaimed : stats.reclaimed ≡ new.census.reclaimed
  pub published : stats.published ≡ new.hub.next

-- the figures agree with one another: what waits for a subscriber was accepted, and what was accepted or dropped was
-- published
pub record Agrees (published : ℕ) (figures : Figures) : Type 0 where
  pub waiting : figures.lag ≤ figures.accepted
  pub shared : figures.accepted + figures.dropped ≤ published

-- those of each live subscription do, of which there are at most as many as may be
pub record AreStats (stats : Stats) : Type 0 where
  pub few : length stats.live.items ≤ MOST_LIVE
  pub each : All (Agrees stats.published) stats.live.items
