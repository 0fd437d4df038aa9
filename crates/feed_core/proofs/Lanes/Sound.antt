-- The calls of a subscription keep its lane sound.
use Rattle.std.proofs.Common.{◌≡◌, ℕ, zero, suc, ℤ, pos, negsuc, ◌≤◌, Bool, true, [], ◌∷◌, ◌++◌, ap, sym, ◌∙◌, append_assoc, length-append, arith, refl, None, List}
use Rattle.feed_core.specs.Prelude.{Item, Ending, items_of, total_after}
use Rattle.feed_core.specs.Lane.{LaneState}
use Rattle.feed_core.specs.LaneCalls.{lane_with_item, lane_with_items, lane_with_closing, lane_with_duplicate, lane_with_bad_request, lane_with_cancel, lane_with_request}
use Rattle.feed_core.specs.Sound.{IsSoundLane}
use Rattle.feed_core.proofs.Desks.Steps.{no_cause}

-- a lane that has not ended stays sound when one more item is accepted
pub sound_lane_with_items : (lane : LaneState) (items : List Item) → IsSoundLane lane → lane.how ≡ None → IsSoundLane (lane_with_items items lane)
sound_lane_with_items lane items sound unended =
    let grown = length-append lane.accepted items in
    let counts = sound.counts in
    let taken = counts.taken in
    record {
      told_is = sound.told_is;
      in_order = (sound.in_order.0 ++ items, sym (append_assoc (items_of lane.told) sound.in_order.0 items) ∙ ap (λ l. l ++ items) sound.in_order.1);
      counts = record { tells = counts.tells; loses = counts.loses; taken = omega (arith, grown); requested = counts.requested };
      cause = no_cause (lane_with_items items lane) unended;
      unfailed = sound.unfailed;
      remembered = sound.remembered;
    }

pub sound_lane_with_item : (lane : LaneState) (item : Item) → IsSoundLane lane → lane.how ≡ None → IsSoundLane (lane_with_item item lane)
sound_lane_with_item lane item sound unended = sound_lane_with_items lane (item ∷ []) sound unended

-- a lane stays sound when another total is asked, which is not below what was given
pub sound_asked : (lane : LaneState) (asked : ℕ) → IsSoundLane lane → lane.given ≤ asked → IsSoundLane (record lane { asked = asked })
sound_asked lane asked sound requested =
    let counts = sound.counts in
    let cause = sound.cause in
    record {
      told_is = sound.told_is;
      in_order = sound.in_order;
      counts = record { tells = counts.tells; loses = counts.loses; taken = counts.taken; requested = requested };
      cause = record { completed = cause.completed; whole = cause.whole; published = cause.published; last = cause.last; argument = cause.argument; state = cause.state; cancelled = cause.cancelled; failed = cause.failed; refused = cause.refused };
      unfailed = sound.unfailed;
      remembered = sound.remembered;
    }

-- a lane stays sound when it is closed for the first time
pub sound_lane_with_closing : (lane : LaneState) (ending : Ending) → IsSoundLane lane → lane.causes.closing ≡ None
    → IsSoundLane (lane_with_closing ending lane)
sound_lane_with_closing lane ending sound unclosed =
    let counts = sound.counts in
    let cause = sound.cause in
    record {
      told_is = sound.told_is;
      in_order = sound.in_order;
      counts = record { tells = counts.tells; loses = counts.loses; taken = counts.taken; requested = counts.requested };
      cause = record {
        completed = λ e. (let never = cause.completed e in cc);
        whole = cause.whole;
        published = λ code e. (let never = cause.published code e in cc);
        last = cause.last;
        argument = cause.argument;
        state = cause.state;
        cancelled = cause.cancelled;
        failed = cause.failed;
        refused = cause.refused;
      };
      unfailed = sound.unfailed;
      remembered = sound.remembered;
    }

-- a lane stays sound with more causes of an end at once
sound_lane_with_causes : (lane : LaneState) (cancel argument state : Bool) → (lane.causes.cancel ≡ true → cancel ≡ true)
    → (lane.causes.argument ≡ true → argument ≡ true)
    → (lane.causes.state ≡ true → state ≡ true) → IsSoundLane lane → IsSoundLane (record lane { causes = record lane.causes { cancel = cancel; argument = argument; state = state } })
sound_lane_with_causes lane cancel argument state cancelled refused doubled sound =
    let counts = sound.counts in
    let cause = sound.cause in
    record {
      told_is = sound.told_is;
      in_order = sound.in_order;
      counts = record { tells = counts.tells; loses = counts.loses; taken = counts.taken; requested = counts.requested };
      cause = record {
        completed = cause.completed;
        whole = cause.whole;
        published = cause.published;
        last = cause.last;
        argument = λ e. refused (cause.argument e);
        state = λ e. doubled (cause.state e);
        cancelled = λ e. cancelled (cause.cancelled e);
        failed = cause.failed;
        refused = cause.refused;
      };
      unfailed = sound.unfailed;
      remembered = sound.remembered;
    }

-- a lane stays sound when its subscriber subscribes a second time
pub sound_lane_with_duplicate : (lane : LaneState) → IsSoundLane lane → IsSoundLane (lane_with_duplicate lane)
sound_lane_with_duplicate lane sound = sound_lane_with_causes lane lane.causes.cancel lane.causes.argument true (λ e. e) (λ e. e) (λ _. refl) sound

-- when a number that is not positive is requested
pub sound_lane_with_bad_request : (lane : LaneState) → IsSoundLane lane → IsSoundLane (lane_with_bad_request lane)
sound_lane_with_bad_request lane sound = sound_lane_with_causes lane lane.causes.cancel true lane.causes.state (λ e. e) (λ _. refl) (λ e. e) sound

-- when it is cancelled
pub sound_lane_with_cancel : (lane : LaneState) → IsSoundLane lane → IsSoundLane (lane_with_cancel lane)
sound_lane_with_cancel lane sound = sound_lane_with_causes lane true lane.causes.argument lane.causes.state (λ _. refl) (λ e. e) (λ e. e) sound

-- and when any number is requested, if the total does not fall
pub sound_lane_with_request : (n : ℤ) (lane : LaneState) → IsSoundLane lane → lane.asked ≤ (lane_with_request n lane).asked
    → IsSoundLane (lane_with_request n lane)
sound_lane_with_request (pos zero) lane sound grows = sound_lane_with_bad_request lane sound
sound_lane_with_request (pos (suc n)) lane sound grows = let requested = sound.counts.requested in sound_asked lane (total_after lane.asked (suc n)) sound (omega arith)
sound_lane_with_request (negsuc n) lane sound grows = sound_lane_with_bad_request lane sound
