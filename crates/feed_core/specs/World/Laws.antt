-- The laws of a subscription over all interleavings, in the subject's words.
use Rattle.std.specs.Prelude.{◌≡◌, ◌+◌, ◌<◌, ◌≤◌, ℕ, min, Option, None, Some, IsSome, List}
use Rattle.feed_core.specs.Cause.{stops, closes}
use Rattle.feed_core.specs.World.Types.{Event, Nobody, Parts}
use Rattle.feed_core.specs.World.Table.{total_of, IsPossible, after}
use Rattle.feed_core.specs.World.Runs.{nothing, world_of, given_before, next_of, Leads}
use Rattle.feed_core.specs.World.Lawful.{IsQuiet}

-- nobody runs the task or is about to, and nobody is between a store and its signal
pub record IsResting (w : Parts) : Type 0 where
  pub unserved : w.runner ≡ Nobody
  pub quiet : IsQuiet w

-- every accepted item that was requested was given, and each end that is due was told: nothing ends the subscription at
-- once, and an end that waits for the items waits for one that was not requested
pub record ForgetsNothing (w : Parts) : Type 0 where
  pub all_given : w.given ≡ min w.accepted (total_of w)
  pub none_at_once : stops w.causes ≡ None
  pub none_at_last : IsSome (closes w.causes) → total_of w < w.accepted

-- nothing is forgotten, whatever the order of events (`SubmissionPublisher`, Java SE 17: each subscriber receives what
-- it has requested)
abbrev pub NothingIsForgotten : Type 0
NothingIsForgotten = (events : List Event) (w : Parts) (cut : Option ℕ) → Leads nothing events (world_of w cut) → IsResting w → ForgetsNothing w

-- at most one more item is given: the next one, or the one that was just taken
abbrev pub AtMostOneFollows : Parts → Parts → Type 0
AtMostOneFollows w v = v.given ≤ given_before w.given w.runner + 1

-- after an event with a cancel, a bad request, a second subscribing or a closing error that overtakes the items at most
-- one item is given, whatever happens later (`Flow.Subscription.cancel`, Java SE 17; Reactive Streams 1.0, 2.8 and
-- 3.12)
abbrev pub EndsWithinOneItem : Type 0
EndsWithinOneItem = (events : List Event) (w : Parts) (cut : Option ℕ) (event : Event) (later : List Event) (v : Parts) (cut' : Option ℕ)
    → Leads nothing events (world_of w cut) → IsPossible event w → IsSome (stops (after event w).causes)
    → Leads (next_of event (Some w) cut) later (world_of v cut') → AtMostOneFollows w v
