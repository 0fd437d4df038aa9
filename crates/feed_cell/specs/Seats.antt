-- A party's seat at the table: what it knows, and the slots that it has out.
use Rattle.std.specs.Prelude.{◌≡◌, ℕ, List, [], ◌∷◌, Option, None}
use Rattle.atomic_table.specs.Table.{Me}
use Rattle.feed_core.specs.Prelude.{How, Item}
use Rattle.feed_core.specs.Cause.{no_causes}
use Rattle.feed_cell.specs.Types.{Causes}
use Rattle.feed_cell.specs.declared.cell.Held.{Held}
use Rattle.feed_cell.specs.declared.cell.View.{View}
use Rattle.atomic_table.specs.declared.shared.Seat.{Seat}

-- what a party knows, and the slots that it has out
abbrev pub SeatOf : Type 0 → Type 0
SeatOf B = Me (Held B) View

module _ {B : Type 0} where
  -- an item or nothing, as a list
  abbrev pub items_in : Held B → List Item
  items_in (Held.Item x) = x ∷ []
  items_in _ = []

  -- the item in the slot that was taken out last
  abbrev pub item_out : List (ℕ × Held B) → List Item
  item_out [] = []
  item_out (slot ∷ more) = items_in slot.1

  -- what lies beside a subscriber
  abbrev pub own_in : Held B → ℕ
  own_in (Held.Guest g) = g.own
  own_in _ = 0

  abbrev pub answers_in : Held B → Causes
  answers_in (Held.Guest g) = g.answers
  answers_in _ = no_causes

  abbrev pub how_in : Held B → Option How
  how_in (Held.Guest g) = g.how
  how_in _ = None

  abbrev pub own_out : List (ℕ × Held B) → ℕ
  own_out [] = 0
  own_out (slot ∷ more) = own_in slot.1

  abbrev pub answers_out : List (ℕ × Held B) → Causes
  answers_out [] = no_causes
  answers_out (slot ∷ more) = answers_in slot.1

  abbrev pub how_out : List (ℕ × Held B) → Option How
  how_out [] = None
  how_out (slot ∷ more) = how_in slot.1

-- a party's seat at the table
abbrev pub CellSeat : Type 0 → Type 0
CellSeat B = Seat (Held B) View

-- the same seat of the same table
abbrev pub IsSameSeat : {B : Type 0} → CellSeat B → CellSeat B → Type 0
IsSameSeat before after = (after.table_id ≡ before.table_id) × (after.id ≡ before.id)

-- a step of a seat, after which this holds of what it knows and has out
abbrev pub StepsTo : {B : Type 0} → CellSeat B → (SeatOf B → Type 0) → CellSeat B → Type 0
StepsTo before Holds after = IsSameSeat before after × Holds after.me
