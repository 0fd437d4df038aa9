-- Every event keeps what is kept.
use Rattle.std.proofs.Common.{ℕ, refl, arith}
use Rattle.feed_core.specs.Prelude.{ErrorOrder}
use Rattle.feed_core.specs.LaneCalls.{IsCapacity}
use Rattle.feed_core.specs.World.Types.{Producer, Handle, Event, Make, Room, Put, PutMore, See, Take, TakeKnown, Ask, Signal, Hand, Look, Peek, Measure, Rest, End, Parts}
use Rattle.feed_core.specs.World.Table.{IsPossible, after}
use Rattle.feed_core.specs.World.Runs.{made}
use Rattle.feed_core.specs.World.Kept.{IsKeptParts}
use Rattle.feed_core.proofs.Interleavings.Asking.{ask_kept}
use Rattle.feed_core.proofs.Interleavings.Ending.{end_kept}
use Rattle.feed_core.proofs.Interleavings.Handing.{producer_hand_kept, handle_hand_kept}
use Rattle.feed_core.proofs.Interleavings.Putting.{room_kept, put_kept, put_more_kept}
use Rattle.feed_core.proofs.Interleavings.Resting.{rest_kept}
use Rattle.feed_core.proofs.Interleavings.Running.{look_kept, peek_kept, see_kept, measure_kept, take_kept, take_known_kept}
use Rattle.feed_core.proofs.Interleavings.Signalling.{producer_signal_kept, handle_signal_kept}

-- a new subscription has it
pub made_kept : (n : ℕ) (order : ErrorOrder) → IsCapacity n → IsKeptParts (made n order)
made_kept n order sized = record {
  sized = sized;
  asked_bounded = omega arith;
  own_bounded = omega arith;
  taken = omega arith;
  fits = omega arith;
  requested = omega arith;
  roomy = λ e. cc;
  handed = refl;
  unfailed = λ e. refl;
  remembered = λ e. refl;
  known_put = omega arith;
  known_asked = omega arith;
  stage = refl;
}

pub event_kept : (event : Event) (w : Parts) → IsKeptParts w → IsPossible event w → IsKeptParts (after event w)
event_kept (Make n order) w k may = absurd may
event_kept Room w k may = room_kept w k may
event_kept Put w k may = put_kept w k may
event_kept PutMore w k may = put_more_kept w k may
event_kept See w k may = see_kept w k may
event_kept Take w k may = take_kept w k may
event_kept TakeKnown w k may = take_known_kept w k may
event_kept (Ask n) w k may = ask_kept n w k may
event_kept (Signal Producer cause) w k may = producer_signal_kept cause w k may
event_kept (Signal Handle cause) w k may = handle_signal_kept cause w k may
event_kept (Hand Producer) w k may = producer_hand_kept w k may
event_kept (Hand Handle) w k may = handle_hand_kept w k may
event_kept (Look answer) w k may = look_kept answer w k may
event_kept (Peek answer) w k may = peek_kept answer w k may
event_kept Measure w k may = measure_kept w k may
event_kept Rest w k may = rest_kept w k may
event_kept (End how) w k may = end_kept how w k may
