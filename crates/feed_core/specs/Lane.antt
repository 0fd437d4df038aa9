-- A subscription's lane: what it was given to hand on, what it has handed on, and why and how it ended.
-- (Reactive Streams 1.0, 1.1, 1.3, 1.5, 1.7, 1.9 and 3.8; `Flow` and `SubmissionPublisher`, Java SE 17)
use Rattle.std.specs.Prelude.{◌≡◌, ℕ, ◌+◌, ◌<◌, ◌≤◌, ◌⊎◌, min, true, false, Option, None, Some, IsSome, List, [], ◌∷◌, ◌++◌, length, map, take, Contains}
use mathlib.Core.List.{IsPrefix}
use Rattle.feed_core.specs.Prelude.{Item, Signal, Subscribed, Next, Complete, Error, Fault, Published, IllegalArgument, IllegalState, Ending, AfterItems, How, IsFlowText, items_of}
use Rattle.feed_core.specs.declared.cause.Causes.{Causes}
use Rattle.feed_core.specs.Cause.{stops, closes, IsFaultOf}

-- accepted: the items that its buffer accepted, in order · given: how many of them were taken for onNext asked: the
-- total that was requested · causes: why it may end · how: how it ended, if it did · told: what its subscriber was told
pub record LaneState : Type 0 where
  pub accepted : List Item
  pub given : ℕ
  pub asked : ℕ
  pub causes : Causes
  pub how : Option How
  pub told : List Signal

-- as many items were told as were given, or one fewer if the last one was refused memory
abbrev pub TellsGiven : LaneState → Type 0
TellsGiven lane =
    (length (items_of lane.told) ≡ lane.given)
    ⊎ ((lane.how ≡ Some How.OutOfMemory) × (length (items_of lane.told) + 1 ≡ lane.given))

-- the Flow rules on a lane
pub record IsFlow (lane : LaneState) : Type 0 where
  pub allowed : IsFlowText lane.told
  pub in_order : IsPrefix (items_of lane.told) lane.accepted
  pub counted : TellsGiven lane
  pub requested : lane.given ≤ lane.asked
  pub completed : Contains lane.told Complete → (lane.causes.closing ≡ Some Ending.Normal) × (items_of lane.told ≡ lane.accepted)
  pub errored : (fault : Fault) → Contains lane.told (Error fault) → IsFaultOf lane.causes fault
  pub waited : (code : ℕ) → Contains lane.told (Error (Published code)) → lane.causes.order ≡ AfterItems
      → items_of lane.told ≡ lane.accepted

-- no onComplete and no onError was told
abbrev pub HasNoTerminal : List Signal → Type 0
HasNoTerminal told = (Contains told Complete → ⊥) × ((fault : Fault) → Contains told (Error fault) → ⊥)

-- a lane that has not ended has been told all that its demand allows, and nothing is there that would end it
pub record IsIdle (lane : LaneState) : Type 0 where
  pub runs_on : stops lane.causes ≡ None
  pub unfailed : lane.causes.failed ≡ None
  pub remembered : lane.causes.memory ≡ false
  pub all_told : lane.told ≡ Subscribed ∷ map Next (take (min (length lane.accepted) lane.asked) lane.accepted)
  pub open_or_short : IsSome (closes lane.causes) → lane.asked < length lane.accepted

-- a closing error that waits for the items was told after all of them
abbrev pub IsToldLast : LaneState → Fault → Type 0
IsToldLast lane (Published code) = lane.causes.order ≡ AfterItems → lane.told ≡ Subscribed ∷ (map Next lane.accepted ++ Error (Published code) ∷ [])
IsToldLast lane IllegalArgument = Unit {0}
IsToldLast lane IllegalState = Unit {0}

-- a lane that needs no turn, by how it ended
abbrev pub IsSettledAs : LaneState → Option How → Type 0
IsSettledAs lane None = IsIdle lane
IsSettledAs lane (Some How.Completed) = lane.told ≡ Subscribed ∷ (map Next lane.accepted ++ Complete ∷ [])
IsSettledAs lane (Some (How.Errored fault)) = ((before : List Signal) × (lane.told ≡ before ++ Error fault ∷ [])) × IsToldLast lane fault
IsSettledAs lane (Some How.Cancelled) = HasNoTerminal lane.told × (lane.causes.cancel ≡ true)
IsSettledAs lane (Some (How.Failed code)) = HasNoTerminal lane.told × (lane.causes.failed ≡ Some code)
IsSettledAs lane (Some How.OutOfMemory) = HasNoTerminal lane.told × (lane.causes.memory ≡ true)

-- nothing is forgotten: a lane at rest was told all that its demand and its ending allow
pub record IsSettled (lane : LaneState) : Type 0 where
  pub flow : IsFlow lane
  pub rests : IsSettledAs lane lane.how
