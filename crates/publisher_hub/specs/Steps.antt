-- What has to hold of a subscription before a step of a round.
use Rattle.std.specs.Prelude.{◌≡◌, ℕ, ◌<◌, ◌≤◌, false, Some, IsSome, List, length, slice_get}
use Rattle.flow_rules.specs.Feed.{End, MayStart}
use Rattle.flow_rules.specs.declared.item.TheConstants.{MOST_PUBLICATIONS}
use Rattle.publisher_hub.specs.Entry.{EntryState}

-- if a subscription isn't retired, its producer's end is there
abbrev pub IsHere : EntryState → Type 0
IsHere entry = entry.retired ≡ false → IsSome entry.feed

-- if it isn't retired, its producer's end is there, and a task of it may be started
abbrev pub CanTake : EntryState → Type 0
CanTake entry = entry.retired ≡ false → (end : End) × ((entry.feed ≡ Some end) × MayStart end)

-- its producer's end, if that is there, has accepted fewer items than may ever be published
abbrev pub HasAcceptedFew : EntryState → Type 0
HasAcceptedFew entry =
    (end : End) → entry.feed ≡ Some end → length end.accepted < MOST_PUBLICATIONS

-- each subscription that isn't retired has its producer's end
abbrev pub AreHere : List EntryState → Type 0
AreHere entries = (k : ℕ) (entry : EntryState) → slice_get entries k ≡ Some entry → IsHere entry

-- it may be offered an item, and the numbers that grow have room
pub record CanPut (entry : EntryState) : Type 0 where
  pub take : CanTake entry
  pub few : HasAcceptedFew entry
  pub few_drops : entry.dropped < MOST_PUBLICATIONS

-- each of these subscriptions may be offered an item
abbrev pub CanAllPut : List EntryState → Type 0
CanAllPut entries = (k : ℕ) (entry : EntryState) → slice_get entries k ≡ Some entry → CanPut entry

-- it has dropped an item, and may be offered it once more
pub record CanRetry (entry : EntryState) : Type 0 where
  pub live : entry.retired ≡ false
  pub take : CanTake entry
  pub few : HasAcceptedFew entry
  pub dropped : 0 < entry.dropped
  pub few_drops : entry.dropped ≤ MOST_PUBLICATIONS

-- each of the subscriptions of these numbers has dropped an item, and may be offered it once more
abbrev pub CanEachRetry : List ℕ → List EntryState → Type 0
CanEachRetry numbers entries = (i k : ℕ) (entry : EntryState) → slice_get numbers i ≡ Some k
    → slice_get entries k ≡ Some entry → CanRetry entry
