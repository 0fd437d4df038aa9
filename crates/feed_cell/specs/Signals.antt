-- Signals of both ends, and the hand-over of the task that one has started: what they ask of a seat, and what they tell
-- it.
use Rattle.std.specs.Prelude.{◌≡◌, ◌≢◌, ◌⊎◌, ℕ, bit_and, Bool, true, false, [], Option, Some, None}
use Rattle.std.specs.Int.{bit_at}
use Rattle.feed_core.specs.Prelude.{ErrorOrder}
use Rattle.feed_core.specs.World.Table.{producing_after, requesting_after, ProducerMay, HandleMay}
use Rattle.feed_cell.specs.Types.{Cause, Cancel, Argument, State, Closing, Free, Idle, Hands, HandsOver}
use Rattle.feed_cell.specs.declared.cell.View.{View}
use Rattle.feed_cell.specs.Views.{starts_after, IsProducer, IsHandle, handed, ready_view}
use Rattle.feed_cell.specs.Control.{ITEM, RUNNING, number}
use Rattle.atomic_table.specs.Seated.{TableId}
use Rattle.feed_cell.specs.Seats.{SeatOf, CellSeat}

-- what a party knows, with this cause
abbrev pub with_cause : Option Cause → View → View
with_cause None v = v
with_cause (Some Cancel) v = record v { cancel = true }
with_cause (Some Argument) v = record v { argument = true }
with_cause (Some State) v = record v { state = true }
with_cause (Some (Closing ending)) v = record v { closing = Some ending }

-- a party after a signal with this cause, by whether the task was started before: if it was not, the party has to
-- hand it over
abbrev pub sent : Option Cause → Bool → View → View
sent cause started v = record (with_cause cause v) { producing = producing_after started; requesting = requesting_after started }

-- a party after a signal with this cause, and after it has handed over the task that the signal started, if it did
abbrev pub after_signal : {T : Type 0} → Option T → Option Cause → View → View
after_signal task cause v = record (with_cause cause v) { producing = Free; requesting = Idle; started = starts_after task v.started }

-- a signal starts the task if the word had no mark of that
pub record Signals {B : Type 0} (cause : Option Cause) (before : SeatOf B) (found : ℕ) (after : SeatOf B) : Type 0 where
  pub started : Bool
  pub found_is : bit_at found RUNNING ≡ number started
  pub signalled : after ≡ (sent cause started before.0, before.1)
  pub sized : after.0.capacity ≡ before.0.capacity
  pub ordered : after.0.order ≡ before.0.order

-- a party that has an item or a request to signal finds this word: if both marks are set, the signal would change
-- nothing, and is made with that; else it is yet to be made
pub record FindsMarks {B : Type 0} (before : SeatOf B) (found : ℕ) (after : SeatOf B) : Type 0 where
  pub marked : bit_and found ITEM ≡ ITEM → after ≡ (sent None true before.0, before.1)
  pub unmarked : bit_and found ITEM ≢ ITEM → after ≡ before
  pub sized : after.0.capacity ≡ before.0.capacity

-- a party may signal this cause
abbrev pub MaySignal : Option Cause → View → Type 0
MaySignal cause v = (IsProducer v × ProducerMay cause v.producing v.closing)
    ⊎ (IsHandle v × HandleMay cause v.requesting × (v.left ≡ false))

-- a signal with this cause was sent, and the task that it started handed over, if it started one
abbrev pub IsSent : {B T : Type 0} → Option Cause → Option T → SeatOf B → SeatOf B → Type 0
IsSent cause task before after = after ≡ (after_signal task cause before.0, before.1)

-- a party has to hand over the task that its signal has started
abbrev pub MustHandOver : View → Type 0
MustHandOver v = (IsProducer v × (v.producing ≡ Hands)) ⊎ (IsHandle v × (v.requesting ≡ HandsOver))

-- the task was handed over exactly if the signal that found this word has started it, and else nothing changed
abbrev pub IsHanded : {B T : Type 0} → ℕ → Option T → SeatOf B → SeatOf B → Type 0
IsHanded found None before after = (bit_at found 0 ≡ 1) × (after ≡ before)
IsHanded found (Some task) before after = (bit_at found 0 ≡ 0) × (after ≡ (handed before.0, before.1))

-- the seat of a task that was handed over, at this table
abbrev pub IsReadySeat : {B : Type 0} → TableId → ℕ → ErrorOrder → CellSeat B → Type 0
IsReadySeat table capacity order task = (task.table_id ≡ table) × (task.me ≡ (ready_view capacity order, []))
