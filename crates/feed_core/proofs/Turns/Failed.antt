-- A turn that a failed callback ended told that callback's signal last.
use Rattle.std.proofs.Common.{◌≡◌, inl, inr, ℕ, zero, suc, ◌-◌, pos, negsuc, Bool, true, false, List, [], ◌∷◌, ◌++◌, drop, Option, None, Some, Ok, Err, refl, ap, sym, subst, ◌∙◌, append_assoc}
use Rattle.std.proofs.lemmas.List.{append-nil, append_cancel_left}
use Rattle.feed_core.specs.Prelude.{Answer, Item, Signal, Subscribed, Next, IllegalArgument, IllegalState, Ending, ErrorOrder, Overtake, AfterItems, How, Causes, Outlook, Again, Resting, Ended, ITEMS_IN_A_TURN}
use Rattle.feed_core.specs.AnsweredTurn.{Reply, After, called, finished, first_reply, later_replies, lane_taken, looked, look_of, and_then, going_on, looks_within, turn_after, turn_of}
use Rattle.feed_core.specs.Cause.{IsNoFailure, stops, closes, error_at_once, end_at_last, end_where}
use Rattle.feed_core.specs.Desk.{DeskState}
use Rattle.feed_core.specs.Lane.{LaneState}
use Rattle.feed_core.specs.PlainTurn.{terminal_of}
use Rattle.feed_core.specs.Steps.{TurnsAs}
use Rattle.feed_core.specs.Turn.{EndsIn, EndsInObeyed}

-- the end by this cause, or else the next, is no failure if both are none
where_no_failure : (is : Bool) (how : How) (next : Option How) → IsNoFailure (Some how) → IsNoFailure next
    → IsNoFailure (end_where is how next)
where_no_failure true how next is_other others = is_other
where_no_failure false how next is_other others = others

-- no cause that a look shows is one
pub stops_without_failure : (causes : Causes) → IsNoFailure (stops causes)
stops_without_failure causes =
    where_no_failure causes.cancel How.Cancelled _ tt
    (where_no_failure causes.argument (How.Errored IllegalArgument) _ tt
    (where_no_failure causes.state (How.Errored IllegalState) _ tt
    (by causes.closing causes.order))) where
      by : (closing : Option Ending) (order : ErrorOrder) → IsNoFailure (error_at_once closing order)
      by None order = tt
      by (Some Ending.Normal) order = tt
      by (Some (Ending.Failed code)) Overtake = tt
      by (Some (Ending.Failed code)) AfterItems = tt

pub closes_without_failure : (causes : Causes) → IsNoFailure (closes causes)
closes_without_failure causes = by causes.closing causes.order where
  by : (closing : Option Ending) (order : ErrorOrder) → IsNoFailure (end_at_last closing order)
  by None order = tt
  by (Some Ending.Normal) order = tt
  by (Some (Ending.Failed code)) Overtake = tt
  by (Some (Ending.Failed code)) AfterItems = tt

-- a part of a turn told more, and if it ended because a callback failed, that callback's signal last
record FailsLast (told : List Signal) (after : After) : Type 0 where
  pub more : List Signal
  pub grown : after.lane.told ≡ told ++ more
  pub last : (code : ℕ) → after.outlook ≡ Ended (How.Failed code) → EndsInObeyed more

-- a callback whose answer is obeyed
called_last : (signal : Signal) → EndsInObeyed (signal ∷ []) → (reply : Reply) (lane : LaneState)
    → FailsLast lane.told (called signal reply lane)
called_last signal obeyed (Ok Answer.Go) lane = record { more = signal ∷ []; grown = refl; last = λ code e. cc }
called_last signal obeyed (Ok (Answer.Request (pos zero))) lane = record { more = signal ∷ []; grown = refl; last = λ code e. cc }
called_last signal obeyed (Ok (Answer.Request (pos (suc n)))) lane = record { more = signal ∷ []; grown = refl; last = λ code e. cc }
called_last signal obeyed (Ok (Answer.Request (negsuc n))) lane = record { more = signal ∷ []; grown = refl; last = λ code e. cc }
called_last signal obeyed (Ok Answer.Cancel) lane = record { more = signal ∷ []; grown = refl; last = λ code e. cc }
called_last signal obeyed (Ok (Answer.Fail _)) lane = record { more = signal ∷ []; grown = refl; last = λ code e. obeyed }
called_last signal obeyed (Err _) lane = record { more = []; grown = sym (append-nil lane.told); last = λ code e. cc }

-- another end is no failure
other_end : (how : How) → IsNoFailure (Some how) → (more : List Signal) (code : ℕ) → Ended how ≡ Ended (How.Failed code) → EndsInObeyed more
other_end How.Completed is_other more code e = cc
other_end (How.Errored fault) is_other more code e = cc
other_end How.Cancelled is_other more code e = cc
other_end (How.Failed _) is_other more code e = absurd is_other
other_end How.OutOfMemory is_other more code e = cc

finished_last : (how : How) → IsNoFailure (Some how) → (signals : List Signal) (reply : Reply) (lane : LaneState)
    → FailsLast lane.told (finished how signals reply lane)
finished_last how is_other [] reply lane = record { more = []; grown = sym (append-nil lane.told); last = other_end how is_other [] }
finished_last how is_other (signal ∷ _) (Ok _) lane = record { more = signal ∷ []; grown = refl; last = other_end how is_other (signal ∷ []) }
finished_last how is_other (_ ∷ _) (Err _) lane = record { more = []; grown = sym (append-nil lane.told); last = λ code e. cc }

looked_last : (stop later : Option How) → IsNoFailure stop → IsNoFailure later
    → (waiting : List Item) (unmet : ℕ) (reply : Reply) (lane : LaneState)
    → FailsLast lane.told (looked stop later waiting unmet reply lane)
looked_last (Some how) later is_other later_other waiting unmet reply lane = finished_last how is_other (terminal_of how) reply lane
looked_last None later is_other later_other (item ∷ _) (suc _) reply lane = called_last (Next item) (inr (item, ([], refl))) reply (lane_taken lane)
looked_last None later is_other later_other (_ ∷ _) zero reply lane = record { more = []; grown = sym (append-nil lane.told); last = λ code e. cc }
looked_last None (Some how) is_other later_other [] unmet reply lane = finished_last how later_other (terminal_of how) reply lane
looked_last None None is_other later_other [] unmet reply lane = record { more = []; grown = sym (append-nil lane.told); last = λ code e. cc }

look_last : (reply : Reply) (lane : LaneState) → FailsLast lane.told (look_of reply lane)
look_last reply lane = looked_last (stops lane.causes) (closes lane.causes) (stops_without_failure lane.causes) (closes_without_failure lane.causes) (drop lane.given lane.accepted) (lane.asked - lane.given) reply lane

-- the last signal of the second part is that of both
pub ends_after : (before more : List Signal) (signal : Signal) → EndsIn more signal → EndsIn (before ++ more) signal
ends_after before more signal ends = (before ++ ends.0, ap (λ signals. before ++ signals) ends.1 ∙ sym (append_assoc before ends.0 (signal ∷ [])))

pub ends_obeyed_after : (before more : List Signal) → EndsInObeyed more → EndsInObeyed (before ++ more)
ends_obeyed_after before more (inl ends) = inl (ends_after before more Subscribed ends)
ends_obeyed_after before more (inr ends) = inr (ends.0, ends_after before more (Next ends.0) ends.1)

-- a part, and then another one if it goes on
then_last : (told : List Signal) (after : After) (next : LaneState → After) → FailsLast told after
    → ((lane : LaneState) → FailsLast lane.told (next lane)) → FailsLast told (and_then after next)
then_last told after next is others = by after.outlook is.last where
  by : (outlook : Outlook) → ((code : ℕ) → outlook ≡ Ended (How.Failed code) → EndsInObeyed is.more)
      → FailsLast told (going_on outlook after.lane next)
  by Again last =
      let then = others after.lane in
      record {
        more = is.more ++ then.more;
        grown = then.grown ∙ ap (λ signals. signals ++ then.more) is.grown ∙ append_assoc told is.more then.more;
        last = λ code e. ends_obeyed_after is.more then.more (then.last code e);
      }
  by Resting last = record { more = is.more; grown = is.grown; last = last }
  by (Ended how) last = record { more = is.more; grown = is.grown; last = last }

looks_last : (most : ℕ) (replies : List Reply) (lane : LaneState) → FailsLast lane.told (looks_within most replies lane)
looks_last zero replies lane = record { more = []; grown = sym (append-nil lane.told); last = λ code e. cc }
looks_last (suc most) replies lane = then_last lane.told (look_of (first_reply replies) lane) (looks_within most (later_replies replies)) (look_last (first_reply replies) lane) (looks_last most (later_replies replies))

turn_last : (lane : LaneState) (replies : List Reply) → FailsLast lane.told (turn_of lane replies)
turn_last lane replies = by lane.told where
  by : (told : List Signal) → FailsLast lane.told (turn_after told lane replies)
  by [] = then_last lane.told (called Subscribed (first_reply replies) lane) (looks_within ITEMS_IN_A_TURN (later_replies replies)) (called_last Subscribed (inl ([], refl)) (first_reply replies) lane) (looks_last ITEMS_IN_A_TURN (later_replies replies))
  by (_ ∷ _) = looks_last ITEMS_IN_A_TURN replies lane

module _ {old new : DeskState} {seen : List Signal} {outlook : Outlook} {replies : List Reply} (turns : TurnsAs old new seen outlook replies) where
  -- so did the turn of a subscription
  pub failed_last : (code : ℕ) → outlook ≡ Ended (How.Failed code) → EndsInObeyed seen
  failed_last code e =
      let is = turn_last old.lane replies in
      let same : is.more ≡ seen = append_cancel_left old.lane.told is.more seen (sym is.grown ∙ ap (λ (after : After). after.lane.told) turns.turned ∙ turns.recorded) in
      subst EndsInObeyed same (is.last code (ap (λ (after : After). after.outlook) turns.turned ∙ e))
