-- What a publication does to each subscription of a Hub, and to the Hub.
use Rattle.std.specs.Prelude.{◌≡◌, ◌⊎◌, ℕ, ◌+◌, ◌-◌, ◌<◌, ◌≤◌, true, false, if◌then◌else◌, Option, None, Some, List, [], ◌∷◌, ◌++◌, slice_get, slice_set}
use Rattle.flow_rules.specs.Call.{Call}
use Rattle.flow_rules.specs.Feed as Feed
use Rattle.flow_rules.specs.Feed.{End, held_count, is_gone}
use Rattle.flow_rules.specs.declared.feed.put.Put.{Put}
use Rattle.flow_rules.specs.declared.feed.put.Put.TheVariants.{Accepted, Full, Gone}
use Rattle.flow_rules.specs.declared.item.Item.{Item}
use Rattle.flow_rules.specs.declared.item.TheConstants.{MOST_PUBLICATIONS}
use Rattle.publisher_hub.specs.Becoming.{Called}
use Rattle.publisher_hub.specs.Entry.{EntryState}
use Rattle.publisher_hub.specs.Gathering.{Second}
use Rattle.publisher_hub.specs.Hub.{HubState, Progress}
use Rattle.publisher_hub.specs.Lists.{Each, gather}
use Rattle.publisher_hub.specs.Looking.{Follows, StaysRetired}
use Rattle.publisher_hub.specs.declared.entry.Entry.{Entry}
use Rattle.publisher_hub.specs.declared.hub.stamp.Stamp.{Stamp}

-- a live subscription was looked at, and accepted the item
pub record HasGrown (x : Item) (old new : EntryState) : Type 0 where
  pub before : End
  pub seen : End
  pub after : End
  pub live : old.retired ≡ false
  pub was : old.feed ≡ Some before
  pub follows : Follows before seen
  pub looked : before.looks < seen.looks
  pub taking : is_gone seen ≡ false
  pub grown : after ≡ record seen { accepted = seen.accepted ++ x ∷ []; ready = after.ready }
  pub fits : held_count after ≤ after.capacity
  pub now : new ≡ record old { feed = Some after }

-- a live subscription was looked at, had ended or was closed, and is retired before the item
pub record HasEnded (x : Item) (old new : EntryState) : Type 0 where
  pub before : End
  pub after : End
  pub live : old.retired ≡ false
  pub was : old.feed ≡ Some before
  pub follows : Follows before after
  pub looked : before.looks < after.looks
  pub gone : is_gone after ≡ true
  pub now : new ≡ record old { feed = Some after; retired = true; until = x.serial }

-- a live subscription was looked at, and its buffer had no room: the drop is counted
pub record HasDropped (x : Item) (old new : EntryState) : Type 0 where
  pub before : End
  pub after : End
  pub live : old.retired ≡ false
  pub was : old.feed ≡ Some before
  pub follows : Follows before after
  pub looked : before.looks < after.looks
  pub full : held_count after ≡ after.capacity
  pub now : new ≡ record old { feed = Some after; dropped = old.dropped + 1 }

-- what becomes of a subscription when an item is published to all that have room for it
abbrev pub IsOffered : Item → EntryState → EntryState → Type 0
IsOffered x old new =
    StaysRetired old new ⊎ (HasGrown x old new ⊎ (HasEnded x old new ⊎ HasDropped x old new))

-- the item with these numbers and this text
abbrev pub item_of : Stamp → List ℕ → Item
item_of stamp text = record {
  source = stamp.source;
  seq = stamp.seq;
  serial = stamp.serial;
  text = text;
}

-- the item that a source publishes next
pub record IsNextItem (progress : Progress) (x : Item) : Type 0 where
  pub serial : x.serial ≡ progress.next
  pub seq : slice_get progress.counts x.source ≡ Some x.seq
  pub unclosed : progress.ending ≡ None
  pub few : progress.next < MOST_PUBLICATIONS

-- how far the publications have come after this item, when this many offers were dropped anywhere
abbrev pub progress_after : Item → ℕ → Progress → Progress
progress_after x dropping progress = record progress {
  next = progress.next + 1;
  counts = slice_set progress.counts x.source (x.seq + 1);
  dropping = dropping;
}

-- an item was published to all subscriptions, and dropped at those that had no room
pub record ReachesAll (x : Item) (old new : HubState) : Type 0 where
  pub next : IsNextItem old.progress x
  pub rest : new ≡ record old {
    progress = progress_after x new.progress.dropping old.progress;
    entries = new.entries;
  }
  pub entries : Each (IsOffered x) old.entries new.entries
  pub drops : (old.progress.dropping ≤ new.progress.dropping)
      × (new.progress.dropping ≤ old.progress.dropping + 1)
  pub dropped : (k : ℕ) (entry : EntryState) → slice_get new.entries k ≡ Some entry
      → entry.dropped ≤ new.progress.dropping

-- an item of this source and text was published to all subscriptions, and dropped at those that had no room
abbrev pub ReachesAllFrom : ℕ → List ℕ → HubState → HubState → Type 0
ReachesAllFrom source text old new =
    (x : Item) × (((x.source ≡ source) × (x.text ≡ text)) × ReachesAll x old new)

-- this many more publications were counted, and they were of this source
pub record Counts (source many : ℕ) (old new : Progress) : Type 0 where
  pub next : new.next ≡ old.next + many
  pub counts : (count : ℕ) → slice_get old.counts source ≡ Some count
      → new.counts ≡ slice_set old.counts source (count + many)
  pub capacity : new.capacity ≡ old.capacity
  pub ending : new.ending ≡ old.ending

-- how many items wait at a producer's end, if that is there
abbrev pub held_in : Option End → List ℕ
held_in None = []
held_in (Some end) = held_count end ∷ []

-- how many items wait for a subscription, unless it is retired
abbrev pub backlog_by : ℕ → EntryState → List ℕ
backlog_by number entry = if entry.retired then [] else held_in entry.feed

-- how many items wait for each subscription that isn't retired, in the order of the numbers
abbrev pub backlogs : List EntryState → List ℕ
backlogs entries = gather backlog_by 0 entries

-- a subscription after an item was offered to its end, by what that answered: a full buffer is counted as a drop, and
-- a subscription that takes no more items is retired before the item
abbrev pub entry_after_put : {F T : Type 0} → Item → Put T → F → Entry F → Entry F
entry_after_put x (Accepted lag start) after old = record old { feed = Some after }
entry_after_put x (Full back) after old =
    record old { feed = Some after; dropped = old.dropped + 1 }
entry_after_put x (Gone back) after old =
    record old { feed = Some after; retired = true; until = x.serial }

module _ {F T : Type 0} (meaning : F → End) (does : F → Call T → F → Type 0) where
  -- a live subscription was offered an item, with this answer of its end
  abbrev pub Offered : Item → Put T → Entry F → Entry F → Type 0
  Offered x answer old new =
      Called meaning does (λ e f. Feed.Puts e x answer f) (Call.Puts x answer)
      (λ after. entry_after_put x answer after old) old new

  -- what a put did at any subscription: a retired one answers nothing
  abbrev pub PutsTo : Item → Option (Put T) → Entry F → Entry F → Type 0
  PutsTo x None old new = (old.retired ≡ true) × (new ≡ old)
  PutsTo x (Some answer) old new = Offered x answer old new

  -- what the second pass did to a subscription: a second try takes the drop back first
  abbrev pub PutsAgain : Item → Second T → Entry F → Entry F → Type 0
  PutsAgain x (Some (Some answer)) old new =
      Offered x answer (record old { dropped = old.dropped - 1 }) new
  PutsAgain x _ old new = new ≡ old
