use Rattle.feed_core.specs.Feed.{end_of}
use Rattle.publisher_hub.specs.Hub.{hub_of}
use Rattle.publisher_hub.specs.Sound.{IsSound}
use Rattle.hub_tests.proofs.tests.places.first_wrong.Given as goal

-- the Hub stays sound
abbrev pub invariant-loop-place : goal.invariant-loop-place
invariant-loop-place l = IsSound (hub_of end_of l.trial.hub)
