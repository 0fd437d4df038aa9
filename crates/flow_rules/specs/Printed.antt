-- What a `Printer` holds, and what it writes.
use Rattle.std.specs.Prelude.{◌≡◌, ℕ, Bool, false, Option, None, Some, List, [], ◌∷◌, ◌++◌}
use Rattle.std.specs.Io.KnownBytes.{Appends}
use Rattle.flow_rules.specs.Callback.{Reply}
use Rattle.flow_rules.specs.declared.item.Item.{Item}
use Rattle.flow_rules.specs.declared.signal.Signal.{Signal}
use Rattle.flow_rules.specs.Signals.{items_of}

-- the texts of these items, each on a line of its own
abbrev pub printed_lines : List Item → List ℕ
printed_lines [] = []
printed_lines (item ∷ items) = item.text ++ (10 ∷ printed_lines items)

-- what a writer holds, as numbers that a tag keeps: none if it isn't known
abbrev pub numbers_of : Option (List ℕ) → List ℕ
numbers_of None = []
numbers_of (Some bytes) = 0 ∷ bytes

-- what a writer held, off those numbers
abbrev pub contents_of : List ℕ → Option (List ℕ)
contents_of [] = None
contents_of (_ ∷ bytes) = Some bytes

-- a printer: what it was told and answered, what its writer held at first and holds, if that is known, and whether a
-- write failed
pub record Printed : Type 0 where
  pub told : List Signal
  pub replied : List Reply
  pub before : Option (List ℕ)
  pub contents : Option (List ℕ)
  pub has_failed : Bool

-- if no write failed, its writer got the texts of all items that were told, in order, each on a line of its own
abbrev pub IsPrinted : List Signal → Option (List ℕ) → Option (List ℕ) → Bool → Type 0
IsPrinted told before contents failed = failed ≡ false → Appends before contents (printed_lines (items_of told))
