-- What a publication of a batch of texts does to each subscription of a Hub, and to the Hub.
use Rattle.std.specs.Prelude.{◌≡◌, ◌⊎◌, ℕ, ◌+◌, ◌-◌, ◌<◌, ◌≤◌, true, false, min, max, fold, Option, None, Some, List, [], ◌∷◌, ◌++◌, length, slice_get, take, Vec}
use Rattle.std.specs.declared.alloc.Global.{Global}
use Rattle.flow_rules.specs.Call.{Call}
use Rattle.flow_rules.specs.Feed as Feed
use Rattle.flow_rules.specs.Feed.{End, MayStart, held_count, is_gone}
use Rattle.flow_rules.specs.declared.feed.put_all.PutAll.{PutAll}
use Rattle.flow_rules.specs.declared.feed.put_all.PutAll.TheVariants.{Accepted, Gone}
use Rattle.flow_rules.specs.declared.feed.standing.Standing.{Standing}
use Rattle.flow_rules.specs.declared.item.Item.{Item}
use Rattle.flow_rules.specs.declared.item.TheConstants.{MOST_PUBLICATIONS}
use Rattle.publisher_hub.specs.Becoming.{Called}
use Rattle.publisher_hub.specs.Entry.{EntryState}
use Rattle.publisher_hub.specs.Gathering.{work_of}
use Rattle.publisher_hub.specs.Hub.{HubState, hub_of}
use Rattle.publisher_hub.specs.Lists.{Each, EachBy, gather, greatest}
use Rattle.publisher_hub.specs.Looking.{Prepares, StaysRetired, rooms}
use Rattle.publisher_hub.specs.Offering.{IsNextItem, ReachesAll, progress_after}
use Rattle.publisher_hub.specs.declared.entry.Entry.{Entry}
use Rattle.publisher_hub.specs.declared.hub.Hub.{Hub}
use Rattle.publisher_hub.specs.declared.hub.publish.Publication.{Publication}
use Rattle.publisher_hub.specs.declared.work.Work.{Work}

-- the items of a source with these texts, in order: the first has this number among those of its source, and this serial
-- number
abbrev pub items_from : ℕ → ℕ → ℕ → List (List ℕ) → List Item
items_from source seq serial [] = []
items_from source seq serial (text ∷ texts) =
    record { source = source; seq = seq; serial = serial; text = text }
    ∷ items_from source (seq + 1) (serial + 1) texts

-- each of these batches has these items
abbrev pub AreBatches : List Item → List (Vec Item Global) → Type 0
AreBatches items batches = (i : ℕ) (batch : Vec Item Global) → slice_get batches i ≡ Some batch
    → batch.items ≡ items

-- what a put of a batch of items gathers: the task that it started, and the lag that it answered
abbrev pub started_all_by : {T : Type 0} → ℕ → Option (PutAll T) → List (Work T)
started_all_by number (Some (Accepted lag start)) = work_of number start
started_all_by number _ = []

abbrev pub lag_all_by : {T : Type 0} → ℕ → Option (PutAll T) → List ℕ
lag_all_by number (Some (Accepted lag start)) = lag ∷ []
lag_all_by number _ = []

-- what the puts of a round gather, in the order of the numbers
abbrev pub started_all : {T : Type 0} → List (Option (PutAll T)) → List (Work T)
started_all puts = gather started_all_by 0 puts

abbrev pub lags_all : {T : Type 0} → List (Option (PutAll T)) → List ℕ
lags_all puts = gather lag_all_by 0 puts

-- what the puts of a round have gathered: the tasks that they started, and the greatest lag
pub record GathersAll {T : Type 0} (puts : List (Option (PutAll T))) (lag : ℕ)
    (due_old due_new : List (Work T)) : Type 0 where
  pub due : due_new ≡ due_old ++ started_all puts
  pub greatest_lag : lag ≡ greatest (lags_all puts)

-- what an answer adds to that
pub record AddsAll {T : Type 0} (number : ℕ) (answer : Option (PutAll T)) (lag_old lag_new : ℕ)
    (due_old due_new : List (Work T)) : Type 0 where
  pub due : due_new ≡ due_old ++ started_all_by number answer
  pub lag : lag_new ≡ fold max lag_old (lag_all_by number answer)

-- a task of it may be started, a look showed room for this many items, and fewer were ever accepted than may be
pub record HasRoomFor (many : ℕ) (end : End) : Type 0 where
  pub may : MayStart end
  pub room : held_count end + many ≤ end.capacity
  pub few : length end.accepted + many ≤ MOST_PUBLICATIONS

-- if a subscription isn't retired, its producer's end is there, and has room for this many items
abbrev pub CanPutBatch : ℕ → EntryState → Type 0
CanPutBatch many entry = entry.retired ≡ false
    → (end : End) × ((entry.feed ≡ Some end) × HasRoomFor many end)

-- each of these subscriptions has room for this many items
abbrev pub CanAllPutBatch : ℕ → List EntryState → Type 0
CanAllPutBatch many entries =
    (k : ℕ) (entry : EntryState) → slice_get entries k ≡ Some entry → CanPutBatch many entry

-- a live subscription that was looked at for an item before it accepted another one of the same call
pub record TakesAnother (x : Item) (old new : EntryState) : Type 0 where
  pub before : End
  pub live : old.retired ≡ false
  pub was : old.feed ≡ Some before
  pub taking : is_gone before ≡ false
  pub fits : held_count before < before.capacity
  pub now : new ≡ record old {
    feed = Some (record before { accepted = before.accepted ++ x ∷ [] });
  }

-- what becomes of a subscription with another item of the same call
abbrev pub IsGivenAnother : Item → EntryState → EntryState → Type 0
IsGivenAnother x old new = StaysRetired old new ⊎ TakesAnother x old new

-- another item of the same call was published to all subscriptions: they were looked at before the first
pub record ReachesAllToo (x : Item) (old new : HubState) : Type 0 where
  pub next : IsNextItem old.progress x
  pub rest : new ≡ record old {
    progress = progress_after x old.progress.dropping old.progress;
    entries = new.entries;
  }
  pub entries : Each (IsGivenAnother x) old.entries new.entries

-- other items of the same call were published to all subscriptions, one after the other
abbrev pub ReachesAllInTurn : List Item → HubState → HubState → Type 0
ReachesAllInTurn [] old new = new ≡ old
ReachesAllInTurn (x ∷ items) old new =
    (middle : HubState) × (ReachesAllToo x old middle × ReachesAllInTurn items middle new)

-- items were published to all subscriptions by one call, one after the other
abbrev pub ReachesAllBy : List Item → HubState → HubState → Type 0
ReachesAllBy [] old new = ⊥
ReachesAllBy (x ∷ items) old new =
    (middle : HubState) × (ReachesAll x old middle × ReachesAllInTurn items middle new)

-- items of this source and these texts were published to all subscriptions by one call, one after the other
abbrev pub ReachesAllFromTexts : ℕ → List (List ℕ) → HubState → HubState → Type 0
ReachesAllFromTexts source texts old new =
    (seq : ℕ) × ((slice_get old.progress.counts source ≡ Some seq)
    × ReachesAllBy (items_from source seq old.progress.next texts) old new)

-- a subscription after a batch of items was offered to its end, by what that answered: one that takes no more items is
-- retired before the first of them
abbrev pub entry_after_puts : {F T : Type 0} → ℕ → PutAll T → F → Entry F → Entry F
entry_after_puts next (Accepted lag start) after old = record old { feed = Some after }
entry_after_puts next (Gone back) after old =
    record old { feed = Some after; retired = true; until = next }

module _ {F T : Type 0} (meaning : F → End) (does : F → Call T → F → Type 0) where
  -- a live subscription was offered a batch of items, with this answer of its end
  abbrev pub OfferedBatch : ℕ → List Item → PutAll T → Entry F → Entry F → Type 0
  OfferedBatch next items answer old new =
      Called meaning does (λ e f. Feed.PutsAll e items answer f) (Call.PutsAll items answer)
      (λ after. entry_after_puts next answer after old) old new

  -- what a put of a batch of items did at any subscription: a retired one answers nothing
  abbrev pub PutsBatchTo : ℕ → List Item → Option (PutAll T) → Entry F → Entry F → Type 0
  PutsBatchTo next items None old new = (old.retired ≡ true) × (new ≡ old)
  PutsBatchTo next items (Some answer) old new = OfferedBatch next items answer old new

  -- the first of these texts were published by this source: each subscription was looked at once and made ready; as many
  -- as had room at each of those that go on, and as may ever be published; and then each of those was offered all of
  -- these items at once
  pub record PublishesBatch (source : ℕ) (texts : List (List ℕ)) (old new : Hub F)
      (due_old due_new : List (Work T)) (publication : Publication) : Type 0 where
    pub seq : ℕ
    pub counted : slice_get old.counts.items source ≡ Some seq
    pub items : List Item
    pub are : items ≡ items_from source seq old.next (take publication.many texts)
    pub glances : List (Option Standing)
    pub puts : List (Option (PutAll T))
    pub middle : List (Entry F)
    pub looked : EachBy (Prepares meaning does old.next) glances old.entries.items middle
    pub as_many : publication.many
        ≡ fold min (min (length texts) (MOST_PUBLICATIONS - old.next)) (rooms old.capacity glances)
    pub some : 0 < publication.many
    pub each_put : EachBy (PutsBatchTo old.next items) puts middle new.entries.items
    pub reaches : ReachesAllBy items (hub_of meaning old) (hub_of meaning new)
    pub no_dropping : new.dropping ≡ old.dropping
    pub due : due_new ≡ due_old ++ started_all puts
    pub greatest_lag : publication.lag ≡ greatest (lags_all puts)
    pub dropped : publication.dropped ≡ 0
    pub lost : publication.lost ≡ 0
