-- What the calls of a subscription do to its lane (`SubmissionPublisher.offer`, `close` and `subscribe`,
-- `Flow.Subscription.request` and `cancel`, Java SE 17).
use Rattle.std.specs.Prelude.{◌≡◌, ℕ, zero, suc, ℤ, pos, negsuc, ◌-◌, ◌<◌, ◌==◌, Bool, true, ◌||◌, ◌&&◌, not, if◌then◌else◌, is_some, None, Some, List, [], ◌∷◌, ◌++◌, length}
use Rattle.feed_core.specs.Prelude.{Item, Ending, ErrorOrder, Overtake, IsCapacityOf, total_after}
use Rattle.feed_core.specs.Cause.{no_causes_in}
use Rattle.feed_core.specs.Lane.{LaneState}

-- a value of `capacity`
abbrev pub IsCapacity : ℕ → Type 0
IsCapacity c = (n : ℕ) × (0 < n) × IsCapacityOf n c

-- nothing was accepted, requested or told yet, and a closing error is told in this order
abbrev pub empty_lane_in : ErrorOrder → LaneState
empty_lane_in order = record { accepted = []; given = 0; asked = 0; causes = no_causes_in order; how = None; told = [] }

-- nothing was accepted, requested or told yet, and a closing error overtakes the items
abbrev pub empty_lane : LaneState
empty_lane = empty_lane_in Overtake

-- how many accepted items were not taken for onNext yet
abbrev pub lag_of : LaneState → ℕ
lag_of lane = length lane.accepted - lane.given

-- it takes items: it has neither ended nor been closed
abbrev pub IsOpen : LaneState → Type 0
IsOpen lane = (lane.how ≡ None) × (lane.causes.closing ≡ None)

-- the lane with one more item
abbrev pub lane_with_item : Item → LaneState → LaneState
lane_with_item item lane = record lane { accepted = lane.accepted ++ item ∷ [] }

-- the lane with these items more, in their order
abbrev pub lane_with_items : List Item → LaneState → LaneState
lane_with_items items lane = record lane { accepted = lane.accepted ++ items }

-- the lane with this ending as a cause
abbrev pub lane_with_closing : Ending → LaneState → LaneState
lane_with_closing ending lane = record lane { causes = record lane.causes { closing = Some ending } }

-- the lane with a second subscribing of its subscriber as a cause
abbrev pub lane_with_duplicate : LaneState → LaneState
lane_with_duplicate lane = record lane { causes = record lane.causes { state = true } }

-- the lane with this many more items requested
abbrev pub lane_with_demand : ℕ → LaneState → LaneState
lane_with_demand n lane = record lane { asked = total_after lane.asked n }

-- the lane with a bad request as a cause: one of a number that is not positive (Reactive Streams 1.0, 3.9)
abbrev pub lane_with_bad_request : LaneState → LaneState
lane_with_bad_request lane = record lane { causes = record lane.causes { argument = true } }

-- the lane with a request of this number
abbrev pub lane_with_request : ℤ → LaneState → LaneState
lane_with_request (pos zero) lane = lane_with_bad_request lane
lane_with_request (pos (suc n)) lane = lane_with_demand (suc n) lane
lane_with_request (negsuc n) lane = lane_with_bad_request lane

-- the lane with a cancel as a cause
abbrev pub lane_with_cancel : LaneState → LaneState
lane_with_cancel lane = record lane { causes = record lane.causes { cancel = true } }

-- whether it takes no more items: it has ended or was closed
abbrev pub is_gone : LaneState → Bool
is_gone lane = is_some lane.how || is_some lane.causes.closing

-- whether a buffer of this capacity takes an item that is offered now
abbrev pub accepts : ℕ → LaneState → Bool
accepts capacity lane = not (is_gone lane) && not (lag_of lane == capacity)

-- the lane after an item was offered to a buffer of this capacity
abbrev pub lane_after_put : ℕ → LaneState → Item → LaneState
lane_after_put capacity lane item = if accepts capacity lane then lane_with_item item lane else lane
