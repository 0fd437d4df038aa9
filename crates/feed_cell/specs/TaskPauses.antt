-- Where a task stands between two turns.
use Rattle.std.specs.Prelude.{ℕ, List, [], ◌∷◌}
use Rattle.feed_core.specs.AnsweredTurn.{Reply}
use Rattle.feed_core.specs.Prelude.{Signal}
use Rattle.feed_cell.specs.declared.cell.Held.{Held}
use Rattle.feed_cell.specs.declared.cell.task.Stage.{Stage}
use Rattle.feed_cell.specs.Parties.{IsUngreeted, IsHome, IsGoing}
use Rattle.feed_cell.specs.Seats.{SeatOf}

module _ {B : Type 0} (replied : B → List Reply) where
  -- what a subscriber in this slot has replied
  abbrev pub replied_in : Held B → List Reply
  replied_in (Held.Guest g) = replied g.subscriber
  replied_in _ = []

  -- what the subscriber that is with the task has replied
  abbrev pub replied_out : List (ℕ × Held B) → List Reply
  replied_out [] = []
  replied_out (slot ∷ more) = replied_in slot.1

module _ {B : Type 0} (told : B → List Signal) where
  -- what a subscriber in this slot was told
  abbrev pub told_in : Held B → List Signal
  told_in (Held.Guest g) = told g.subscriber
  told_in _ = []

  -- what the subscriber that is with the task was told
  abbrev pub told_out : List (ℕ × Held B) → List Signal
  told_out [] = []
  told_out (slot ∷ more) = told_in slot.1

  abbrev pub IsPaused : Stage → SeatOf B → Type 0
  IsPaused Stage.Fresh me = IsUngreeted told me
  IsPaused Stage.Home me = IsHome me
  IsPaused Stage.Going me = IsGoing told me
