-- A turn of a lane that something ends at once gives no item, whatever its callbacks come back with.
use Rattle.std.proofs.Common.{◌≡◌, ℕ, zero, suc, ◌-◌, pos, negsuc, Bool, true, false, List, [], ◌∷◌, drop, Option, None, Some, Ok, Err, refl, ap, sym, ◌∙◌}
use Rattle.std.specs.Prelude.{IsSome}
use Rattle.feed_core.specs.Prelude.{Answer, Signal, Subscribed, IllegalArgument, How, Causes, Outlook, Again, Resting, Ended, ITEMS_IN_A_TURN}
use Rattle.feed_core.specs.AnsweredTurn.{Reply, After, called, finished, first_reply, later_replies, lane_told, looked, look_of, and_then, going_on, looks_within, turn_after, turn_of}
use Rattle.feed_core.specs.Cause.{stops, closes, end_where}
use Rattle.feed_core.specs.Desk.{DeskState}
use Rattle.feed_core.specs.Lane.{LaneState}
use Rattle.feed_core.specs.LaneCalls.{lane_with_request}
use Rattle.feed_core.specs.PlainTurn.{terminal_of}
use Rattle.feed_core.specs.Steps.{TurnsAs}

-- the end that is owed at once is made, and no item was given
record IsStopped (given : ℕ) (after : After) : Type 0 where
  pub same : after.lane.given ≡ given
  pub over : after.outlook ≡ Again → ⊥

stopped_finish : (how : How) (signals : List Signal) (reply : Reply) (lane : LaneState)
    → IsStopped lane.given (finished how signals reply lane)
stopped_finish how [] reply lane = record { same = refl; over = λ e. cc }
stopped_finish how (_ ∷ _) (Ok _) lane = record { same = refl; over = λ e. cc }
stopped_finish how (_ ∷ _) (Err _) lane = record { same = refl; over = λ e. cc }

stopped_look : (reply : Reply) (lane : LaneState) → IsSome (stops lane.causes) → IsStopped lane.given (look_of reply lane)
stopped_look reply lane some = by (stops lane.causes) some where
  by : (stop : Option How) → IsSome stop
      → IsStopped lane.given (looked stop (closes lane.causes) (drop lane.given lane.accepted) (lane.asked - lane.given) reply lane)
  by None e = cc
  by (Some how) e = stopped_finish how (terminal_of how) reply lane

-- what follows an end changes nothing
stopped_then : (given : ℕ) (after : After) (next : LaneState → After) → IsStopped given after → (and_then after next).lane.given ≡ given
stopped_then given after next is = by after.outlook is.over where
  by : (outlook : Outlook) → (outlook ≡ Again → ⊥) → (going_on outlook after.lane next).lane.given ≡ given
  by Again over = absurd (over refl)
  by Resting over = is.same
  by (Ended how) over = is.same

stopped_looks : (most : ℕ) (replies : List Reply) (lane : LaneState) → IsSome (stops lane.causes)
    → (looks_within most replies lane).lane.given ≡ lane.given
stopped_looks zero replies lane some = refl
stopped_looks (suc most) replies lane some = stopped_then lane.given (look_of (first_reply replies) lane) (looks_within most (later_replies replies)) (stopped_look (first_reply replies) lane some)

-- a bad request takes no end away
still_stopped : (causes : Causes) → IsSome (stops causes) → IsSome (stops (record causes { argument = true }))
still_stopped causes some = by causes.cancel where
  by : (cancel : Bool) → IsSome (end_where cancel How.Cancelled (Some (How.Errored IllegalArgument)))
  by true = refl
  by false = refl

-- nor does any answer to the greeting
stopped_greeting : (most : ℕ) (reply : Reply) (replies : List Reply) (lane : LaneState) → IsSome (stops lane.causes)
    → (and_then (called Subscribed reply lane) (looks_within most replies)).lane.given ≡ lane.given
stopped_greeting most (Err _) replies lane some = refl
stopped_greeting most (Ok Answer.Go) replies lane some = stopped_looks most replies (lane_told Subscribed lane) some
stopped_greeting most (Ok (Answer.Request (pos zero))) replies lane some = stopped_looks most replies (lane_with_request (pos zero) (lane_told Subscribed lane)) (still_stopped lane.causes some)
stopped_greeting most (Ok (Answer.Request (pos (suc n)))) replies lane some = stopped_looks most replies (lane_with_request (pos (suc n)) (lane_told Subscribed lane)) some
stopped_greeting most (Ok (Answer.Request (negsuc n))) replies lane some = stopped_looks most replies (lane_with_request (negsuc n) (lane_told Subscribed lane)) (still_stopped lane.causes some)
stopped_greeting most (Ok Answer.Cancel) replies lane some = refl
stopped_greeting most (Ok (Answer.Fail code)) replies lane some = refl

stopped_turn_gives_nothing : (lane : LaneState) (replies : List Reply) → IsSome (stops lane.causes)
    → (turn_of lane replies).lane.given ≡ lane.given
stopped_turn_gives_nothing lane replies some = by lane.told where
  by : (told : List Signal) → (turn_after told lane replies).lane.given ≡ lane.given
  by [] = stopped_greeting ITEMS_IN_A_TURN (first_reply replies) (later_replies replies) lane some
  by (_ ∷ _) = stopped_looks ITEMS_IN_A_TURN replies lane some

module _ {old new : DeskState} {seen : List Signal} {outlook : Outlook} {replies : List Reply} (turns : TurnsAs old new seen outlook replies) where
  -- so of the subscription that such a turn leaves
  pub stopped_gives_nothing : IsSome (stops old.lane.causes) → new.lane.given ≡ old.lane.given
  stopped_gives_nothing some = ap (λ (after : After). after.lane.given) (sym turns.turned) ∙ stopped_turn_gives_nothing old.lane replies some
