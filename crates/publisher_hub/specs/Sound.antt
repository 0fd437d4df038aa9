-- What holds of a Hub between any two calls.
use Rattle.std.specs.Prelude.{◌≡◌, ℕ, ◌+◌, ◌<◌, ◌≤◌, true, false, Some, IsSome, List, length, slice_get}
use Rattle.flow_rules.specs.Feed.{End, is_gone}
use Rattle.flow_rules.specs.declared.ending.Ending.{Ending}
use Rattle.flow_rules.specs.declared.item.Item.{Item}
use Rattle.flow_rules.specs.declared.item.TheConstants.{MOST_PUBLICATIONS}
use Rattle.publisher_hub.specs.Entry.{EntryState, until_of}
use Rattle.publisher_hub.specs.Hub.{HubState, Progress}
use Rattle.publisher_hub.specs.declared.hub.TheConstants.{MOST_SOURCES}
pub use Rattle.publisher_hub.specs.declared.hub.TheConstants.{MOST_ENTRIES, MOST_LIVE}

-- of two items, one after the other, the serial number rises, and so does the number among the items of one source
pub record IsBefore (x y : Item) : Type 0 where
  pub serial : x.serial < y.serial
  pub seq : x.source ≡ y.source → x.seq < y.seq

-- the items of a list rise
abbrev pub IsOrdered : List Item → Type 0
IsOrdered items = (i j : ℕ) (x y : Item)
    → slice_get items i ≡ Some x → slice_get items j ≡ Some y → i < j → IsBefore x y

-- an item that a subscription accepted: it was published since the subscribing, while that took part
pub record IsPublished (progress : Progress) (entry : EntryState) (x : Item) : Type 0 where
  pub since : entry.since ≤ x.serial
  pub until : x.serial < until_of progress.next entry
  pub seq : (count : ℕ) → slice_get progress.counts x.source ≡ Some count → x.seq < count
  pub source : x.source < MOST_SOURCES

-- what a subscription accepted and dropped is what was published while it took part
pub record IsCounted (progress : Progress) (entry : EntryState) (e : End) : Type 0 where
  pub capacity : e.capacity ≡ progress.capacity
  pub ordered : IsOrdered e.accepted
  pub items : (i : ℕ) (x : Item) → slice_get e.accepted i ≡ Some x → IsPublished progress entry x
  pub count : entry.since + (length e.accepted + entry.dropped) ≡ until_of progress.next entry
  pub until : until_of progress.next entry ≤ progress.next
  pub gone : entry.retired ≡ true → is_gone e ≡ true
  pub closed : IsSome e.closing → until_of progress.next entry ≡ progress.next
  pub closed_as : (ending : Ending) → e.closing ≡ Some ending → progress.ending ≡ Some ending

-- a subscription of a Hub: its producer's end is there as long as it isn't retired, and is counted while it is
pub record IsEntry (progress : Progress) (entry : EntryState) : Type 0 where
  pub here : entry.retired ≡ false → IsSome entry.feed
  pub counted : (e : End) → entry.feed ≡ Some e → IsCounted progress entry e
  pub drops : entry.dropped ≤ progress.dropping

-- some subscription accepted this item
pub record IsAccepted (entries : List EntryState) (x : Item) : Type 0 where
  pub number : ℕ
  pub place : ℕ
  pub entry : EntryState
  pub feed : End
  pub stands : slice_get entries number ≡ Some entry
  pub end_of : entry.feed ≡ Some feed
  pub item : slice_get feed.accepted place ≡ Some x

-- items with the same serial number are the same item, whoever accepted them
abbrev pub AreAgreed : List EntryState → Type 0
AreAgreed entries = (x y : Item)
    → IsAccepted entries x → IsAccepted entries y → x.serial ≡ y.serial → x ≡ y

-- these are numbers of this many subscriptions, rising
pub record AreNumbers (numbers : List ℕ) (many : ℕ) : Type 0 where
  pub rising : (i j n m : ℕ)
      → slice_get numbers i ≡ Some n → slice_get numbers j ≡ Some m → i < j → n < m
  pub within : (i n : ℕ) → slice_get numbers i ≡ Some n → n < many

-- the numbers of all subscriptions that aren't retired, and perhaps of others
pub record AreLive (live : List ℕ) (entries : List EntryState) : Type 0 where
  pub numbers : AreNumbers live (length entries)
  pub covers : (k : ℕ) (entry : EntryState) → slice_get entries k ≡ Some entry
      → entry.retired ≡ false → (i : ℕ) × (slice_get live i ≡ Some k)

-- a Hub is sound
pub record IsSound (hub : HubState) : Type 0 where
  pub entries : (k : ℕ) (entry : EntryState) → slice_get hub.entries k ≡ Some entry
      → IsEntry hub.progress entry
  pub agreed : AreAgreed hub.entries
  pub live : AreLive hub.live hub.entries
  pub few_live : length hub.live ≤ MOST_LIVE
  pub few_entries : length hub.entries ≤ MOST_ENTRIES
  pub few_items : hub.progress.next ≤ MOST_PUBLICATIONS
  pub few_drops : hub.progress.dropping ≤ hub.progress.next
  pub sources : hub.sources ≤ MOST_SOURCES
  pub all_sources : length hub.progress.counts ≡ MOST_SOURCES
  pub few_counts : (source count : ℕ) → slice_get hub.progress.counts source ≡ Some count
      → count ≤ hub.progress.next
