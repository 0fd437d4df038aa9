-- What is left of a subscription.
use Rattle.std.specs.Prelude.{◌≡◌, ◌≤◌, true, false, None, Some, IfSome, IsSome, List, length}
use Rattle.feed_core.specs.Prelude.{Signal}
use Rattle.feed_core.specs.Lane.{LaneState, IsFlow, IsSettled}
use Rattle.feed_core.specs.declared.lane.Lane.{Lane}

-- what is left of a subscription that had this lane: the numbers of the lane, how it ended, and its subscriber, who was
-- told what the lane says; the subscriber is missing if a task that was never run to its end has it
pub record IsLeftLane {B : Type 0} (told : B → List Signal) (lane : LaneState) (left : Lane B) : Type 0 where
  pub accepted : left.accepted ≡ length lane.accepted
  pub given : left.given ≡ lane.given
  pub taken : lane.given ≤ length lane.accepted
  pub ending : left.ending ≡ lane.how
  -- it says in which order a closing error was told
  pub order : IfSome left.subscriber (λ b. left.order ≡ Some lane.causes.order)
  -- the Flow rules hold of a lane whose subscriber is there
  pub flow : IfSome left.subscriber (λ b. (told b ≡ lane.told) × (left.asked ≡ lane.asked) × IsFlow lane)
  -- nothing is forgotten in a lane that doesn't run
  pub settled : left.running ≡ false → IsSome left.subscriber × IsSettled lane
  -- a subscription that runs has not ended
  pub unended : left.running ≡ true → left.ending ≡ None
