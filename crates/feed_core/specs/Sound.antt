-- What holds of a lane between any two calls, from which the Flow rules follow, and what a Desk keeps beside it.
use Rattle.std.specs.Prelude.{◌≡◌, ℕ, ◌+◌, ◌<◌, ◌≤◌, min, Bool, true, false, Option, None, Some, IsSome, List, [], ◌∷◌, ◌++◌, length, map}
use mathlib.Core.List.{IsPrefix}
use Rattle.feed_core.specs.Prelude.{UNBOUNDED, Item, Signal, Subscribed, Next, Published, IllegalArgument, IllegalState, Ending, AfterItems, How, items_of}
use Rattle.feed_core.specs.declared.cause.Causes.{Causes}
use Rattle.feed_core.specs.Cause.{stops, closes}
use Rattle.feed_core.specs.Desk.{DeskState}
use Rattle.feed_core.specs.Lane.{LaneState}
use Rattle.feed_core.specs.PlainTurn.{terminal_of}

-- whether anything was told
abbrev pub is_begun : List Signal → Bool
is_begun [] = false
is_begun (_ ∷ _) = true

-- the terminal signal of an end, if there is one
abbrev pub terminal_part : Option How → List Signal
terminal_part None = []
terminal_part (Some how) = terminal_of how

-- onSubscribe, if anything was told
abbrev pub opening : Bool → List Signal
opening false = []
opening true = Subscribed ∷ []

-- the signals of these items and this end
abbrev pub signals_of : Bool → List Item → Option How → List Signal
signals_of begun items how = opening begun ++ (map Next items ++ terminal_part how)

-- how many taken items may be missing in what was told: one, at an end by a refusal of memory
abbrev pub loss_of : Option How → ℕ
loss_of None = 0
loss_of (Some How.Completed) = 0
loss_of (Some (How.Errored _)) = 0
loss_of (Some How.Cancelled) = 0
loss_of (Some (How.Failed _)) = 0
loss_of (Some How.OutOfMemory) = 1

-- a lane ends by a cause of its own, and with completion, or a closing error that waits for the items, once every item
-- was given
pub record HasCause (lane : LaneState) : Type 0 where
  pub completed : lane.how ≡ Some How.Completed → lane.causes.closing ≡ Some Ending.Normal
  pub whole : lane.how ≡ Some How.Completed → lane.given ≡ length lane.accepted
  pub published : (code : ℕ) → lane.how ≡ Some (How.Errored (Published code)) → lane.causes.closing ≡ Some (Ending.Failed code)
  pub last : (code : ℕ) → lane.how ≡ Some (How.Errored (Published code)) → lane.causes.order ≡ AfterItems
      → lane.given ≡ length lane.accepted
  pub argument : lane.how ≡ Some (How.Errored IllegalArgument) → lane.causes.argument ≡ true
  pub state : lane.how ≡ Some (How.Errored IllegalState) → lane.causes.state ≡ true
  pub cancelled : lane.how ≡ Some How.Cancelled → lane.causes.cancel ≡ true
  pub failed : (code : ℕ) → lane.how ≡ Some (How.Failed code) → lane.causes.failed ≡ Some code
  pub refused : lane.how ≡ Some How.OutOfMemory → lane.causes.memory ≡ true

-- a lane at rest has not ended, and there is nothing that it could be told or ended by
pub record IsAtRest (lane : LaneState) : Type 0 where
  pub unended : lane.how ≡ None
  pub begun : is_begun lane.told ≡ true
  pub runs_on : stops lane.causes ≡ None
  pub all_given : lane.given ≡ min (length lane.accepted) lane.asked
  pub waits : IsSome (closes lane.causes) → lane.asked < length lane.accepted

-- the numbers of a lane: what was told, given, accepted and requested
pub record IsCountedLane (lane : LaneState) : Type 0 where
  pub tells : length (items_of lane.told) ≤ lane.given
  pub loses : lane.given ≤ length (items_of lane.told) + loss_of lane.how
  pub taken : lane.given ≤ length lane.accepted
  pub requested : lane.given ≤ lane.asked

-- what was told is the list of its own items and its end, those are a prefix of what was accepted, the numbers fit, and
-- an end has its cause
pub record IsSoundLane (lane : LaneState) : Type 0 where
  pub told_is : lane.told ≡ signals_of (is_begun lane.told) (items_of lane.told) lane.how
  pub in_order : IsPrefix (items_of lane.told) lane.accepted
  pub counts : IsCountedLane lane
  pub cause : HasCause lane
  pub unfailed : lane.how ≡ None → lane.causes.failed ≡ None
  pub remembered : lane.how ≡ None → lane.causes.memory ≡ false

-- the lane that a Desk's fields stand for: what it accepted is what was told and what it holds
abbrev pub lane_of : List Signal → List Item → ℕ → ℕ → Causes → Option How → LaneState
lane_of told held given asked causes how =
    record { accepted = items_of told ++ held; given = given; asked = asked; causes = causes; how = how; told = told }

-- a Desk's lane is sound, it holds the accepted items that were not told, no more than its buffer may hold, and a task
-- that was not started is at rest
pub record IsInOrder (lane : LaneState) (held : List Item) (capacity : ℕ) (started : Bool) : Type 0 where
  pub sound : IsSoundLane lane
  pub holds : lane.accepted ≡ items_of lane.told ++ held
  pub fits : length lane.accepted ≤ lane.given + capacity
  pub rests : started ≡ false → IsAtRest lane

-- a Desk is in order, it counts the accepted items, there is room for all that its buffer may hold, and it knows
-- whether anything was told
pub record IsStored (lane : LaneState) (held : List Item) (accepted capacity room : ℕ) (begun started : Bool) : Type 0 where
  pub in_order : IsInOrder lane held capacity started
  pub counted : length lane.accepted ≡ accepted
  pub roomy : capacity ≤ room
  pub greeted : begun ≡ is_begun lane.told

-- a subscription is sound: its lane is, the buffer holds no more than it may, the demand is bounded, and a task that
-- was not started is at rest
pub record IsSoundDesk (desk : DeskState) : Type 0 where
  pub sound : IsSoundLane desk.lane
  pub fits : length desk.lane.accepted ≤ desk.lane.given + desk.capacity
  pub bounded : desk.lane.asked ≤ UNBOUNDED
  pub rests : desk.started ≡ false → IsAtRest desk.lane
