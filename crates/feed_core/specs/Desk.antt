-- One subscription as plain state: what its calls change, and what they answer.
use Rattle.std.specs.Prelude.{◌≡◌, ◌↔◌, ℕ, zero, suc, ℤ, pos, negsuc, ◌+◌, ◌<◌, ◌≤◌, Bool, true, false, ◌&&◌, if◌then◌else◌, is_none, is_some, Option, None, IsSome, List, [], ◌++◌, length}
use Rattle.feed_core.specs.Prelude.{Item, Signal, Ending, ErrorOrder, Overtake, total_after}
use Rattle.feed_core.specs.declared.turn.outlook.Outlook.{Outlook}
use Rattle.feed_core.specs.declared.turn.outlook.Outlook.TheVariants.{Again, Resting, Ended}
use Rattle.feed_core.specs.AnsweredTurn.{Reply}
use Rattle.feed_core.specs.Lane.{LaneState}
use Rattle.feed_core.specs.LaneCalls.{empty_lane_in, lag_of, accepts, IsOpen, lane_with_item, lane_with_items, lane_with_closing, lane_with_duplicate, lane_with_demand, lane_with_request, lane_with_cancel}
use Rattle.feed_core.specs.Replies.{replies_in}
use Rattle.feed_core.specs.Turn.{lane_after_turn}

-- a subscription: its lane, the capacity of its buffer, whether its task was started and is not at rest since (which
-- stays so once it has ended), whether its subscriber only goes on, and how often its publisher has looked at it; what
-- its owner has requested, whether one of these requests was bad, and whether the owner has cancelled it; and what each
-- callback came back with
pub record DeskState : Type 0 where
  pub lane : LaneState
  pub capacity : ℕ
  pub started : Bool
  pub is_steady : Bool
  pub looks : ℕ
  pub requested : ℕ
  pub asked_badly : Bool
  pub is_cancelled : Bool
  pub replied : List Reply

-- a new subscription, which is told a closing error in this order: its lane is empty, and it owes its first turn
abbrev pub IsNewIn : ErrorOrder → ℕ → Bool → DeskState → Type 0
IsNewIn order capacity steady desk =
    desk ≡ record {
      lane = empty_lane_in order;
      capacity = capacity;
      started = true;
      is_steady = steady;
      looks = 0;
      requested = 0;
      asked_badly = false;
      is_cancelled = false;
      replied = [];
    }

-- a new subscription, in which a closing error overtakes the items
abbrev pub IsNew : ℕ → Bool → DeskState → Type 0
IsNew capacity steady desk = IsNewIn Overtake capacity steady desk

-- a turn is owed: the task was started, and has not ended
abbrev pub Owes : DeskState → Type 0
Owes desk = (desk.started ≡ true) × (desk.lane.how ≡ None)

-- whether a turn is owed
abbrev pub owes : DeskState → Bool
owes desk = desk.started && is_none desk.lane.how

-- no turn is owed, and it has not ended: a signal starts the task
abbrev pub Rests : DeskState → Type 0
Rests desk = (desk.started ≡ false) × (desk.lane.how ≡ None)

-- it takes items, and its buffer is full
abbrev pub IsFull : DeskState → Type 0
IsFull desk = IsOpen desk.lane × (lag_of desk.lane ≡ desk.capacity)

-- a subscription that its publisher has looked at
abbrev pub desk_after_look : DeskState → DeskState
desk_after_look desk = record desk { looks = desk.looks + 1 }

-- a subscription that an item was offered to in vain: its publisher has looked at it, unless it was closed
abbrev pub desk_after_try : DeskState → DeskState
desk_after_try desk = if is_some desk.lane.causes.closing then desk else desk_after_look desk

-- the item came back, and nothing has changed but that the publisher may have looked
abbrev pub GivesBack : DeskState → DeskState → Item → Item → Type 0
GivesBack looked new item back = (back ≡ item) × (new ≡ looked)

-- a change of the lane was signalled: the lane is the new one, and the task was started
abbrev pub desk_after_signal : DeskState → LaneState → DeskState
desk_after_signal desk lane = record desk { lane = lane; started = true }

-- an open subscription whose buffer had room took the item, answered its new lag, and was started if it was at rest
pub record AcceptsItem (old new : DeskState) (item : Item) (lag : ℕ) (start : Option Unit) : Type 0 where
  pub open_before : IsOpen old.lane
  pub room_before : lag_of old.lane < old.capacity
  pub taken : new ≡ desk_after_signal (desk_after_look old) (lane_with_item item old.lane)
  pub lag_after : lag ≡ lag_of new.lane
  pub lag_fits : lag ≤ new.capacity
  pub starts : IsSome start ↔ Rests old

-- an open subscription whose buffer had room for these items took them, answered its new lag, and was started if it was
-- at rest
pub record AcceptsItems (old new : DeskState) (items : List Item) (lag : ℕ) (start : Option Unit) : Type 0 where
  pub open_before : IsOpen old.lane
  pub room_before : lag_of old.lane + length items ≤ old.capacity
  pub taken : new ≡ desk_after_signal (desk_after_look old) (lane_with_items items old.lane)
  pub lag_after : lag ≡ lag_of new.lane
  pub lag_fits : lag ≤ new.capacity
  pub starts : IsSome start ↔ Rests old

-- whether the task goes on holding the subscription after a turn
abbrev pub started_after : Outlook → Bool
started_after Again = true
started_after Resting = false
started_after (Ended _) = true

-- a subscription, but for how often its publisher has looked at it
abbrev pub desk_without_looks : DeskState → DeskState
desk_without_looks desk = record desk { looks = 0 }

-- the subscription after an item was offered to it, but for the looks
abbrev pub desk_after_put : Item → DeskState → DeskState
desk_after_put item desk = if accepts desk.capacity desk.lane then desk_after_signal desk (lane_with_item item desk.lane) else desk

-- the subscription after it was closed so: only the first time changes it
abbrev pub desk_after_end : Ending → DeskState → DeskState
desk_after_end ending desk = if is_some desk.lane.causes.closing then desk else desk_after_signal desk (lane_with_closing ending desk.lane)

-- the subscription after a second subscribing of its subscriber
abbrev pub desk_after_duplicate : DeskState → DeskState
desk_after_duplicate desk = desk_after_signal desk (lane_with_duplicate desk.lane)

-- the subscription after its owner requested this many more items
abbrev pub desk_after_demand : ℕ → DeskState → DeskState
desk_after_demand n desk = record (desk_after_signal desk (lane_with_demand n desk.lane)) { requested = total_after desk.requested n }

-- the subscription with a request of this number by its owner, as far as it is the owner's
abbrev pub desk_with_request : ℤ → DeskState → DeskState
desk_with_request (pos zero) desk = record desk { asked_badly = true }
desk_with_request (pos (suc n)) desk = record desk { requested = total_after desk.requested (suc n) }
desk_with_request (negsuc n) desk = record desk { asked_badly = true }

-- the subscription after its owner requested this number: one that was cancelled ignores it
abbrev pub desk_after_request : ℤ → DeskState → DeskState
desk_after_request n desk = if desk.is_cancelled then desk else desk_after_signal (desk_with_request n desk) (lane_with_request n desk.lane)

-- the subscription after its owner cancelled it: only the first time changes it
abbrev pub desk_after_cancel : DeskState → DeskState
desk_after_cancel desk = if desk.is_cancelled then desk else record (desk_after_signal desk (lane_with_cancel desk.lane)) { is_cancelled = true }

-- the subscription after a turn that told these signals of the plain turn, and had this outlook; each callback went on
-- or was refused memory
abbrev pub desk_after_turn : DeskState → List Signal → Outlook → DeskState
desk_after_turn desk told outlook = record desk {
  lane = lane_after_turn desk.lane told outlook;
  started = started_after outlook;
  replied = desk.replied ++ replies_in told outlook;
}
