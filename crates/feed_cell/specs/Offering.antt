-- What a producer finds when it looks for room, and what a call of its end does beside what its meaning tells.
use Rattle.std.specs.Prelude.{◌≡◌, ℕ, ◌-◌, ◌<◌, ◌≤◌, false, Option, None, IfSome, IsSome}
use Rattle.flow_rules.specs.Call.{Call}
use Rattle.flow_rules.specs.declared.feed.put.Put.TheVariants.{Accepted, Full, Gone}
use Rattle.flow_rules.specs.declared.feed.put_all.PutAll.TheVariants as Several
use Rattle.feed_cell.specs.Control.{MARK}
use Rattle.feed_cell.specs.Parties.{ProducerState, TaskState, IsStarted}
use Rattle.feed_cell.specs.ProducerSteps.{FindsRoom}
use Rattle.feed_cell.specs.Seats.{SeatOf}
use Rattle.feed_cell.specs.Views.{starts_after}
use Rattle.feed_cell.specs.declared.cell.producer.steps.Found.{Found}

-- what this head says to a producer that has put as many items as tail
abbrev pub SaysOf : ℕ → ℕ → ℕ → Found → Type 0
SaysOf capacity tail head Found.Ended = MARK ≤ head
SaysOf capacity tail head Found.Full = (head < MARK) × (tail - head ≡ capacity)
SaysOf capacity tail head (Found.Room held) = (head < MARK) × (tail - head < capacity) × (held ≡ tail - head)

-- a look for room showed some head, which says this
abbrev pub Finds : {B : Type 0} → ℕ → Found → SeatOf B → SeatOf B → Type 0
Finds tail found before after = (head : ℕ) × FindsRoom before head after × SaysOf before.0.capacity tail head found

-- the task that a call started, if it did
abbrev pub started_in : Call TaskState → Option TaskState
started_in (Call.Readies answer) = None
started_in (Call.Puts item (Accepted lag start)) = start
started_in (Call.Puts item (Full back)) = None
started_in (Call.Puts item (Gone back)) = None
started_in (Call.PutsAll items (Several.Accepted lag start)) = start
started_in (Call.PutsAll items (Several.Gone back)) = None
started_in (Call.Ends ending start) = start
started_in (Call.Duplicates start) = start
started_in (Call.Looks standing) = None

-- it is one of the same subscription, and what was there for it is spent; a call answers a task exactly if its signal
-- has started one
pub record DoesCall (old : ProducerState) (call : Call TaskState) (new : ProducerState) : Type 0 where
  pub table : new.table ≡ old.table
  pub order : new.order ≡ old.order
  pub starts : IfSome (started_in call) (IsStarted old.table old.end.capacity old.order)
  pub spent : IsSome (started_in call) → new.end.ready ≡ false
  pub counts : new.started ≡ starts_after (started_in call) old.started
