-- Subscriptions that are ready for a task.
use Rattle.std.specs.Prelude.{◌≡◌, ℕ, true, false, Some, List, slice_get}
use Rattle.flow_rules.specs.Feed.{End}
use Rattle.publisher_hub.specs.Entry.{EntryState}
use Rattle.publisher_hub.specs.Steps.{CanTake}

-- if a subscription isn't retired, its producer's end is there, and has what a started task needs
abbrev pub IsReady : EntryState → Type 0
IsReady entry = entry.retired ≡ false → (end : End) × ((entry.feed ≡ Some end) × (end.ready ≡ true))

-- each subscription that isn't retired is ready for a task
abbrev pub AreReady : List EntryState → Type 0
AreReady entries = (k : ℕ) (entry : EntryState) → slice_get entries k ≡ Some entry → IsReady entry

-- each that isn't retired may be handed an item, or closed
abbrev pub CanAllTake : List EntryState → Type 0
CanAllTake entries = (k : ℕ) (entry : EntryState) → slice_get entries k ≡ Some entry → CanTake entry
