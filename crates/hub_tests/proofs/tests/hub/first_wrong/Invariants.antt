use Rattle.publisher_hub.specs.Hub.{hub_of}
use Rattle.publisher_hub.specs.Sound.{IsSound}
use Rattle.hub_tests.proofs.tests.hub.first_wrong.Given as goal

-- the Hub stays sound
abbrev pub invariant-loop-place : goal.invariant-loop-place
invariant-loop-place g l = IsSound (hub_of g.F.Feed.meaning l.trial.hub)
