-- What holds of a subscription between any two of its calls, and that each of them keeps it. So it keeps the Flow
-- rules, and nothing is forgotten if it owes no turn.
use Rattle.std.proofs.Common.{◌≡◌, ◌==◌, ℕ, zero, suc, ℤ, pos, negsuc, Bool, true, false, not, ◌&&◌, ◌||◌, if◌then◌else◌, List, [], ◌∷◌, ◌++◌, refl, sym, ap, subst, ◌∙◌, arith, Option, Some, None}
use Rattle.std.specs.Prelude.{is_some}
use Rattle.std.proofs.lemmas.Bool.Decides.{nat_tests}
use Rattle.std.proofs.lemmas.List.{append-nil, length-append}
use Rattle.feed_core.specs.Prelude.{Item, Signal, Ending, ErrorOrder, How, Outlook, Again, Resting, Ended, total_after}
use Rattle.feed_core.specs.Cause.{stops}
use Rattle.feed_core.specs.Desk.{DeskState, owes, started_after, desk_after_signal, desk_after_put, desk_after_end, desk_after_duplicate, desk_after_demand, desk_after_request, desk_after_cancel, desk_after_turn, desk_with_request}
use Rattle.feed_core.specs.Lane.{LaneState, IsFlow, IsSettled}
use Rattle.feed_core.specs.LaneCalls.{empty_lane_in, is_gone, lag_of, lane_with_item, lane_with_closing, lane_with_cancel, lane_with_request}
use Rattle.feed_core.specs.PlainTurn.{plain_turn_of}
use Rattle.feed_core.specs.Sound.{IsSoundLane, IsAtRest, IsSoundDesk}
use Rattle.feed_core.specs.Turn.{lane_after_turn, MeetsPlainTurn, IsOutlookOf}
use Rattle.feed_core.proofs.Lanes.Calm.{IsCalm, calm_empty_lane}
use Rattle.feed_core.proofs.Turns.Cut.{calm_cut_turn}
use Rattle.feed_core.proofs.Lanes.FlowRules.{flow_kept, settled_at_rest, settled_some}
use Rattle.feed_core.proofs.Turns.Resting.{at_rest_after}
use Rattle.feed_core.proofs.Lanes.Sound.{sound_lane_with_item, sound_asked, sound_lane_with_closing, sound_lane_with_duplicate, sound_lane_with_bad_request, sound_lane_with_cancel}
use Rattle.feed_core.proofs.Turns.Stopped.{stopped_turn, sound_stopped_turn, sound_cut_stop}
use Rattle.feed_core.proofs.Turns.Whole.{calm_whole_turn}

-- a sound subscription keeps the Flow rules
pub sound_desk_flow : (desk : DeskState) → IsSoundDesk desk → IsFlow desk.lane
sound_desk_flow desk kept = flow_kept kept.sound

-- it is settled if it owes no turn
pub sound_desk_settled : (desk : DeskState) → IsSoundDesk desk → owes desk ≡ false → IsSettled desk.lane
sound_desk_settled desk kept rests = by desk.started refl rests where
  by : (started : Bool) → desk.started ≡ started → (started && not (is_some desk.lane.how)) ≡ false → IsSettled desk.lane
  by false e rests = settled_at_rest kept.sound (kept.rests e)
  by true e rests = settled_some kept.sound (some (is_some desk.lane.how) rests) where
    some : (ended : Bool) → not ended ≡ false → ended ≡ true
    some true e = refl
    some false e = cc

-- only what has not ended owes a turn
pub owes_live : (desk : DeskState) → owes desk ≡ true → desk.lane.how ≡ None
owes_live desk owed = by desk.started desk.lane.how owed where
  by : (started : Bool) (how : Option How) → (started && not (is_some how)) ≡ true → how ≡ None
  by true None e = refl
  by true (Some how) e = cc
  by false how e = cc

-- a new subscription is sound
pub sound_new_desk : (order : ErrorOrder) (capacity : ℕ) (started steady : Bool) (looks : ℕ) → started ≡ true
    → IsSoundDesk (record { lane = empty_lane_in order; capacity = capacity; started = started; is_steady = steady; looks = looks; requested = 0; asked_badly = false; is_cancelled = false; replied = [] })
sound_new_desk order capacity started steady looks runs =
    let calm = calm_empty_lane order capacity in
    record { sound = calm.sound; fits = calm.fits; bounded = calm.bounded; rests = λ e. cc }

-- ---- calls

unequal : (n m : ℕ) → (n == m) ≡ false → (n ≡ m → ⊥)
unequal n m e same = grind (arith, nat_tests)

-- who takes items has not ended
taking_live : (lane : LaneState) → is_gone lane ≡ false → lane.how ≡ None
taking_live lane takes = by lane.how takes where
  by : (how : Option How) → (is_some how || is_some lane.causes.closing) ≡ false → how ≡ None
  by None e = refl
  by (Some how) e = cc

-- it stays sound when an item is offered to it
pub sound_desk_put : (desk : DeskState) (item : Item) → IsSoundDesk desk → IsSoundDesk (desk_after_put item desk)
sound_desk_put desk item kept = by (is_gone desk.lane) (lag_of desk.lane == desk.capacity) refl refl where
  by : (gone full : Bool) → is_gone desk.lane ≡ gone → (lag_of desk.lane == desk.capacity) ≡ full
      → IsSoundDesk (if not gone && not full then desk_after_signal desk (lane_with_item item desk.lane) else desk)
  by true full g f = kept
  by false true g f = kept
  by false false g f =
      let grown = length-append desk.lane.accepted (item ∷ []) in
      let room = unequal _ _ f in
      let taken = kept.sound.counts.taken in
      let fits = kept.fits in
      record {
        sound = sound_lane_with_item desk.lane item kept.sound (taking_live desk.lane g);
        fits = grind (arith, grown);
        bounded = kept.bounded;
        rests = λ e. cc;
      }

-- when more is requested
pub sound_desk_demand : (desk : DeskState) (n : ℕ) → IsSoundDesk desk → IsSoundDesk (desk_after_demand n desk)
sound_desk_demand desk n kept =
    let asked = kept.sound.counts.requested in
    let bounded = kept.bounded in
    record {
      sound = sound_asked desk.lane (total_after desk.lane.asked n) kept.sound (omega arith);
      fits = kept.fits;
      bounded = omega arith;
      rests = λ e. cc;
    }

-- when its owner requests any number
pub sound_desk_request : (desk : DeskState) (n : ℤ) → IsSoundDesk desk → IsSoundDesk (desk_after_request n desk)
sound_desk_request desk n kept = by desk.is_cancelled n where
  by : (cancelled : Bool) (n : ℤ)
      → IsSoundDesk (if cancelled then desk else desk_after_signal (desk_with_request n desk) (lane_with_request n desk.lane))
  by true n = kept
  by false (pos zero) = record { sound = sound_lane_with_bad_request desk.lane kept.sound; fits = kept.fits; bounded = kept.bounded; rests = λ e. cc }
  by false (pos (suc n)) = sound_desk_demand desk (suc n) kept
  by false (negsuc n) = record { sound = sound_lane_with_bad_request desk.lane kept.sound; fits = kept.fits; bounded = kept.bounded; rests = λ e. cc }

-- when its owner cancels it
pub sound_desk_cancel : (desk : DeskState) → IsSoundDesk desk → IsSoundDesk (desk_after_cancel desk)
sound_desk_cancel desk kept = by desk.is_cancelled where
  by : (cancelled : Bool) → IsSoundDesk (if cancelled then desk else record (desk_after_signal desk (lane_with_cancel desk.lane)) { is_cancelled = true })
  by true = kept
  by false = record { sound = sound_lane_with_cancel desk.lane kept.sound; fits = kept.fits; bounded = kept.bounded; rests = λ e. cc }

-- when it is closed
pub sound_desk_end : (desk : DeskState) (ending : Ending) → IsSoundDesk desk → IsSoundDesk (desk_after_end ending desk)
sound_desk_end desk ending kept = by desk.lane.causes.closing refl where
  by : (closing : Option Ending) → desk.lane.causes.closing ≡ closing
      → IsSoundDesk (if is_some closing then desk else desk_after_signal desk (lane_with_closing ending desk.lane))
  by (Some _) e = kept
  by None e = record { sound = sound_lane_with_closing desk.lane ending kept.sound e; fits = kept.fits; bounded = kept.bounded; rests = λ e. cc }

-- and when its subscriber subscribes a second time
pub sound_desk_duplicate : (desk : DeskState) → IsSoundDesk desk → IsSoundDesk (desk_after_duplicate desk)
sound_desk_duplicate desk kept = record { sound = sound_lane_with_duplicate desk.lane kept.sound; fits = kept.fits; bounded = kept.bounded; rests = λ e. cc }

-- ---- turns

-- a lane that nothing ends at once, and that owes a turn
calm_of : (desk : DeskState) → IsSoundDesk desk → desk.lane.how ≡ None → stops desk.lane.causes ≡ None → IsCalm desk.lane desk.capacity true
calm_of desk kept unended runs_on = record { sound = kept.sound; fits = kept.fits; bounded = kept.bounded; calm = runs_on; lives = λ e. unended }

-- a lane stays sound after a turn that was told whole
sound_whole_turn : (desk : DeskState) → IsSoundDesk desk → desk.lane.how ≡ None
    → IsSoundLane (lane_after_turn desk.lane (plain_turn_of desk.lane).told (plain_turn_of desk.lane).outlook)
sound_whole_turn desk kept unended = by (stops desk.lane.causes) refl where
  by : (stop : Option How) → stops desk.lane.causes ≡ stop
      → IsSoundLane (lane_after_turn desk.lane (plain_turn_of desk.lane).told (plain_turn_of desk.lane).outlook)
  by None e = (calm_whole_turn desk.lane desk.capacity (calm_of desk kept unended e)).sound
  by (Some how) e =
      subst (λ outlook. IsSoundLane (lane_after_turn desk.lane (plain_turn_of desk.lane).told outlook)) (sym (ap (λ turn. turn.outlook) (stopped_turn desk.lane how e)))
      (sound_stopped_turn desk.lane how kept.sound unended e)

-- and after one that was cut short
sound_cut_turn : (desk : DeskState) (told : List Signal) (next : Signal) (rest : List Signal) → IsSoundDesk desk → desk.lane.how ≡ None
    → (plain_turn_of desk.lane).told ≡ told ++ (next ∷ rest) → IsSoundLane (lane_after_turn desk.lane told (Ended How.OutOfMemory))
sound_cut_turn desk told next rest kept unended plain = by (stops desk.lane.causes) refl where
  by : (stop : Option How) → stops desk.lane.causes ≡ stop → IsSoundLane (lane_after_turn desk.lane told (Ended How.OutOfMemory))
  by None e = (calm_cut_turn desk.lane desk.capacity told next rest (calm_of desk kept unended e) plain).sound
  by (Some how) e = sound_cut_stop desk.lane how told next rest kept.sound unended e plain

-- a lane is at rest after a turn that was told whole and does not go on
rests_after : (lane : LaneState) (outlook : Outlook) → IsSoundLane lane → (plain_turn_of lane).outlook ≡ outlook
    → started_after outlook ≡ false
    → IsAtRest (lane_after_turn lane (plain_turn_of lane).told outlook)
rests_after lane Again sound is e = cc
rests_after lane Resting sound is e = at_rest_after lane sound is
rests_after lane (Ended how) sound is e = cc

-- a subscription that owes a turn stays sound when it makes one
pub sound_desk_turn : (desk : DeskState) (told : List Signal) (outlook : Outlook) → IsSoundDesk desk → desk.lane.how ≡ None
    → MeetsPlainTurn (plain_turn_of desk.lane) told outlook → IsSoundDesk (desk_after_turn desk told outlook)
sound_desk_turn desk told outlook kept unended meets = by meets.missed meets.whole meets.seen where
  by : (missed : List Signal) → (plain_turn_of desk.lane).told ≡ told ++ missed → IsOutlookOf (plain_turn_of desk.lane) missed outlook
      → IsSoundDesk (desk_after_turn desk told outlook)
  by [] whole seen =
      let plain = plain_turn_of desk.lane in
      let all : plain.told ≡ told = whole ∙ append-nil told in
      let fits = kept.fits in
      let all_told : IsSoundDesk (desk_after_turn desk plain.told plain.outlook) = record {
        sound = sound_whole_turn desk kept unended;
        fits = omega arith;
        bounded = kept.bounded;
        rests = rests_after desk.lane plain.outlook kept.sound refl;
      } in
      subst (λ o. IsSoundDesk (desk_after_turn desk told o)) (sym seen) (subst (λ t. IsSoundDesk (desk_after_turn desk t plain.outlook)) all all_told)
  by (next ∷ rest) whole seen =
      let fits = kept.fits in
      let cut : IsSoundDesk (desk_after_turn desk told (Ended How.OutOfMemory)) = record {
        sound = sound_cut_turn desk told next rest kept unended whole;
        fits = omega arith;
        bounded = kept.bounded;
        rests = λ e. cc;
      } in
      subst (λ o. IsSoundDesk (desk_after_turn desk told o)) (sym seen) cut
