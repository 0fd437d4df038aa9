-- What the publisher of a session leaves: what its sinks were told.
use Rattle.std.specs.Prelude.{◌≡◌, ℕ, ◌+◌, IfSome, IsSome, Some, List, [], ◌∷◌, ◌++◌, length, map, slice_get}
use Rattle.feed_core.specs.Lane.{LaneState}
use Rattle.feed_core.specs.Prelude.{Complete, How, Next, Signal, Subscribed}
use Rattle.publisher.specs.Outcome.{AgreeOnItems}
use Rattle.publisher.specs.declared.outcome.NamedLane.{NamedLane}
use Rattle.publisher.specs.declared.outcome.Outcome.{Outcome}

-- a sink was told each piece that its buffer accepted, in their order, and no other; what it accepted and lost are all
-- pieces that the sources published since it was subscribed
pub record IsToldAll {B : Type 0} (told : B → List Signal) (published : ℕ) (left : NamedLane B) (lane : LaneState)
    : Type 0 where
  pub is_there : IsSome left.lane.subscriber
  pub pieces : IfSome left.lane.subscriber
      (λ b. told b ≡ Subscribed ∷ (map Next lane.accepted ++ Complete ∷ []))
  pub many : left.lane.accepted ≡ length lane.accepted
  pub all : left.since + (left.lane.accepted + left.dropped) ≡ published

-- each sink that completed was told all that its buffer accepted, and what two sinks accepted of one publication is one
-- piece
pub record TellsAll {B H : Type 0} (told : B → List Signal) (outcome : Outcome B H) : Type 0 where
  pub lanes : List LaneState
  pub as_many : length lanes ≡ length outcome.lanes.items
  pub each : (i : ℕ) (left : NamedLane B) (lane : LaneState)
      → slice_get outcome.lanes.items i ≡ Some left → slice_get lanes i ≡ Some lane
      → left.lane.ending ≡ Some How.Completed → IsToldAll told outcome.published left lane
  pub agreed : AgreeOnItems lanes
