-- The names of the subscriptions of a Hub that aren't retired.
use Rattle.std.specs.Prelude.{◌≡◌, ℕ, false, if◌then◌else◌, Some, List, [], ◌∷◌, slice_get}
use Rattle.publisher_hub.specs.Entry.{EntryState}
use Rattle.publisher_hub.specs.Lists.{gather}

-- the name of a subscription, unless it is retired
abbrev pub name_by : ℕ → EntryState → List (List ℕ)
name_by number entry = if entry.retired then [] else entry.name ∷ []

-- the names of those that aren't retired, in the order of the numbers
abbrev pub live_names : List EntryState → List (List ℕ)
live_names entries = gather name_by 0 entries

-- a subscription that isn't retired has this name
pub record IsSubscribed (name : List ℕ) (entries : List EntryState) : Type 0 where
  pub number : ℕ
  pub entry : EntryState
  pub stands : slice_get entries number ≡ Some entry
  pub live : entry.retired ≡ false
  pub named : entry.name ≡ name
