-- A lane that nothing ends at once, as a new one is.
use Rattle.std.proofs.Common.{◌≡◌, ℕ, ◌+◌, ◌≤◌, Bool, true, [], length, refl, arith, None}
use Rattle.feed_core.specs.Prelude.{ErrorOrder, UNBOUNDED}
use Rattle.feed_core.specs.Cause.{stops}
use Rattle.feed_core.specs.Lane.{LaneState}
use Rattle.feed_core.specs.LaneCalls.{empty_lane_in}
use Rattle.feed_core.specs.Sound.{IsSoundLane}
use Rattle.feed_core.proofs.Desks.Steps.{no_cause}

-- a sound lane in its bounds that nothing ends at once, and that has not ended if a turn is owed
pub record IsCalm (lane : LaneState) (capacity : ℕ) (owed : Bool) : Type 0 where
  pub sound : IsSoundLane lane
  pub fits : length lane.accepted ≤ lane.given + capacity
  pub bounded : lane.asked ≤ UNBOUNDED
  pub calm : stops lane.causes ≡ None
  pub lives : owed ≡ true → lane.how ≡ None

-- a new lane is calm
pub calm_empty_lane : (order : ErrorOrder) (capacity : ℕ) → IsCalm (empty_lane_in order) capacity true
calm_empty_lane order capacity = record {
  sound = record {
    told_is = refl;
    in_order = ([], refl);
    counts = record { tells = omega arith; loses = omega arith; taken = omega arith; requested = omega arith };
    cause = no_cause (empty_lane_in order) refl;
    unfailed = λ e. refl;
    remembered = λ e. refl;
  };
  fits = omega arith;
  bounded = omega arith;
  calm = refl;
  lives = λ e. refl;
}
