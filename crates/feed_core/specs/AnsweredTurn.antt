-- What a turn does to a lane, by what each callback of its subscriber came back with (`Flow.Subscriber` and
-- `Flow.Subscription`, Java SE 17; Reactive Streams 1.0, 1.1, 1.3, 1.7, 3.8 and 3.9).
use Rattle.std.specs.Prelude.{◌≡◌, ℕ, zero, suc, ◌+◌, ◌-◌, Option, None, Some, List, [], ◌∷◌, ◌++◌, map, drop, Result, Ok, Err, IfOk}
use Rattle.feed_core.specs.Prelude.{Answer, NoMemory, Item, Signal, Subscribed, Next, How, Outlook, Again, Resting, Ended, ITEMS_IN_A_TURN}
use Rattle.feed_core.specs.Cause.{stops, closes, with_cause_of}
use Rattle.feed_core.specs.Lane.{LaneState}
use Rattle.feed_core.specs.LaneCalls.{lane_with_request}
use Rattle.feed_core.specs.PlainTurn.{terminal_of}

-- what a callback came back with: its answer, or it was refused memory
abbrev pub Reply : Type 0
Reply = Result Answer NoMemory

-- it went on or was refused memory
abbrev pub IsPlain : Reply → Type 0
IsPlain reply = IfOk reply (λ answer. answer ≡ Answer.Go)

-- each callback went on or was refused memory
abbrev pub ArePlain : List Reply → Type 0
ArePlain [] = Unit {0}
ArePlain (reply ∷ replies) = IsPlain reply × ArePlain replies

-- it was refused memory
abbrev pub refused : Reply
refused = Err (record {})

-- the callback of a terminal signal, if there is one, went on: whatever it answers is not obeyed
abbrev pub replies_to : List Signal → List Reply
replies_to signals = map (λ _. Ok Answer.Go) signals

-- the first of these, or one that goes on
abbrev pub first_reply : List Reply → Reply
first_reply [] = Ok Answer.Go
first_reply (reply ∷ _) = reply

-- those after the first
abbrev pub later_replies : List Reply → List Reply
later_replies [] = []
later_replies (_ ∷ replies) = replies

-- a lane after a part of a turn, and what is to be done after that
pub record After : Type 0 where
  pub lane : LaneState
  pub outlook : Outlook

-- the lane, told this signal
abbrev pub lane_told : Signal → LaneState → LaneState
lane_told signal lane = record lane { told = lane.told ++ signal ∷ [] }

-- the lane, with one more item taken for onNext
abbrev pub lane_taken : LaneState → LaneState
lane_taken lane = record lane { given = lane.given + 1 }

-- the lane, ended in this way
abbrev pub lane_after_end : How → LaneState → LaneState
lane_after_end how lane = record lane { causes = with_cause_of how lane.causes; how = Some how }

-- the end
abbrev pub ended_as : How → LaneState → After
ended_as how lane = record { lane = lane_after_end how lane; outlook = Ended how }

-- what an answer asks for is done at once
abbrev pub obeyed : Answer → LaneState → After
obeyed Answer.Go lane = record { lane = lane; outlook = Again }
obeyed (Answer.Request n) lane = record { lane = lane_with_request n lane; outlook = Again }
obeyed Answer.Cancel lane = ended_as How.Cancelled lane
obeyed (Answer.Fail code) lane = ended_as (How.Failed code) lane

-- onSubscribe or onNext was called: its signal was told and its answer is obeyed, or it was refused memory, which is
-- the end
abbrev pub called : Signal → Reply → LaneState → After
called signal (Ok answer) lane = obeyed answer (lane_told signal lane)
called signal (Err _) lane = ended_as How.OutOfMemory lane

-- the end, if this is its terminal signal: what its callback answers is not obeyed, and if that was refused
-- memory the end is another
abbrev pub finished : How → List Signal → Reply → LaneState → After
finished how [] reply lane = ended_as how lane
finished how (signal ∷ _) (Ok _) lane = ended_as how (lane_told signal lane)
finished how (_ ∷ _) (Err _) lane = ended_as How.OutOfMemory lane

-- what a look does that finds this: the end at once; the item that waits, if one more was requested; the end that
-- waits for the items, if none waits; or nothing
abbrev pub looked : Option How → Option How → List Item → ℕ → Reply → LaneState → After
looked (Some how) later waiting unmet reply lane = finished how (terminal_of how) reply lane
looked None later (item ∷ _) (suc _) reply lane = called (Next item) reply (lane_taken lane)
looked None later (_ ∷ _) zero reply lane = record { lane = lane; outlook = Resting }
looked None (Some how) [] unmet reply lane = finished how (terminal_of how) reply lane
looked None None [] unmet reply lane = record { lane = lane; outlook = Resting }

-- one look at the causes, if the callback that it calls comes back so
abbrev pub look_of : Reply → LaneState → After
look_of reply lane = looked (stops lane.causes) (closes lane.causes) (drop lane.given lane.accepted) (lane.asked - lane.given) reply lane

-- a part of a turn, and then another one if it goes on
abbrev pub going_on : Outlook → LaneState → (LaneState → After) → After
going_on Again lane next = next lane
going_on Resting lane next = record { lane = lane; outlook = Resting }
going_on (Ended how) lane next = record { lane = lane; outlook = Ended how }

abbrev pub and_then : After → (LaneState → After) → After
and_then after next = going_on after.outlook after.lane next

-- looks, one after the other, at most this many
abbrev pub looks_within : ℕ → List Reply → LaneState → After
looks_within zero replies lane = record { lane = lane; outlook = Again }
looks_within (suc most) replies lane = and_then (look_of (first_reply replies) lane) (looks_within most (later_replies replies))

-- a turn of a lane that was told this: onSubscribe first, if nothing was told yet
abbrev pub turn_after : List Signal → LaneState → List Reply → After
turn_after [] lane replies = and_then (called Subscribed (first_reply replies) lane) (looks_within ITEMS_IN_A_TURN (later_replies replies))
turn_after (_ ∷ _) lane replies = looks_within ITEMS_IN_A_TURN replies lane

-- the turn of a lane whose callbacks come back so, one after the other
abbrev pub turn_of : LaneState → List Reply → After
turn_of lane replies = turn_after lane.told lane replies
