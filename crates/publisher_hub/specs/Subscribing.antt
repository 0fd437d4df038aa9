-- What a subscribing does to a Hub, and when it is refused.
use Rattle.std.specs.Prelude.{◌≡◌, ◌⊎◌, ℕ, ◌<◌, ◌≤◌, true, false, Option, None, Some, List, [], ◌∷◌, ◌++◌, length, slice_get, slice_set, Vec, vec_len}
use Rattle.std.specs.declared.alloc.Global.{Global}
use Rattle.std.specs.Vec.{vec_capacity}
use Rattle.close_count.specs.declared.ticket.Ticket.{Ticket}
use Rattle.flow_rules.specs.Call.{Call}
use Rattle.flow_rules.specs.Feed as Feed
use Rattle.flow_rules.specs.Feed.{End}
use Rattle.flow_rules.specs.declared.ending.Ending.{Ending}
use Rattle.flow_rules.specs.declared.feed.standing.Standing.{Standing}
use Rattle.flow_rules.specs.declared.refusal.Refusal.{Refusal}
use Rattle.publisher_hub.specs.Adding.{AreAllLive, live_of}
use Rattle.publisher_hub.specs.Becoming.{Becomes, Called}
use Rattle.publisher_hub.specs.Entry.{EntryState}
use Rattle.publisher_hub.specs.Hub.{OnlyEntriesChange, OnlySubscriptionsChange, hub_of}
use Rattle.publisher_hub.specs.Lists.{Each}
use Rattle.publisher_hub.specs.Looking.{IsKept, PreparesAll, PreparesInPart}
use Rattle.publisher_hub.specs.Gathering.{work_of}
use Rattle.publisher_hub.specs.Readiness.{AreReady}
use Rattle.publisher_hub.specs.Sound.{MOST_ENTRIES}
use Rattle.publisher_hub.specs.declared.entry.Entry.{Entry}
use Rattle.publisher_hub.specs.declared.hub.Hub.{Hub}
use Rattle.publisher_hub.specs.declared.policy.OnFull.{OnFull}
use Rattle.publisher_hub.specs.declared.policy.OnFull.TheVariants.{Wait}
use Rattle.publisher_hub.specs.declared.work.Work.{Work}

-- a live subscription was doubled: its producer's end heard of a second subscribing
abbrev pub WasDoubled : EntryState → EntryState → Type 0
WasDoubled old new = Becomes (λ e f. f ≡ record e { state = true; ready = f.ready }) old new

-- the subscription of this number has this name, or has another
abbrev pub IsNamed : {F : Type 0} → List ℕ → ℕ → List (Entry F) → Type 0
IsNamed {F} name number entries =
    (entry : Entry F) × ((slice_get entries number ≡ Some entry) × (entry.name ≡ name))

abbrev pub IsNotNamed : {F : Type 0} → List ℕ → ℕ → List (Entry F) → Type 0
IsNotNamed {F} name number entries =
    (entry : Entry F) → slice_get entries number ≡ Some entry → entry.name ≡ name → ⊥

-- no subscription that isn't retired has this name
abbrev pub IsUnnamed : List ℕ → List EntryState → Type 0
IsUnnamed name entries = (k : ℕ) (entry : EntryState) → slice_get entries k ≡ Some entry
    → entry.retired ≡ false → entry.name ≡ name → ⊥

-- the subscription of this number isn't retired
abbrev pub IsLiveAt : {F : Type 0} → ℕ → List (Entry F) → Type 0
IsLiveAt {F} number entries =
    (entry : Entry F) × ((slice_get entries number ≡ Some entry) × (entry.retired ≡ false))

-- there is a place for another subscription, if this many may be live
pub record HasPlace {F : Type 0} (most : ℕ) (hub : Hub F) : Type 0 where
  pub entry_place : vec_len hub.entries < vec_capacity hub.entries
  pub number_place : vec_len hub.live < vec_capacity hub.live
  pub few_live : length hub.live.items < most
  pub few_entries : length hub.entries.items < MOST_ENTRIES

-- why there is no place: as many subscriptions are live as may be, or more; else there are as many as may ever be; else
-- memory is refused
abbrev pub HasNoPlace : {F : Type 0} → ℕ → Refusal → Hub F → Type 0
HasNoPlace most Refusal.TooMany hub = most ≤ length hub.live.items
HasNoPlace most Refusal.Exhausted hub =
    (length hub.live.items < most) × (length hub.entries.items ≡ MOST_ENTRIES)
HasNoPlace most Refusal.NoMemory hub =
    (length hub.live.items < most) × (length hub.entries.items < MOST_ENTRIES)
HasNoPlace most _ hub = ⊥

-- a subscription of this name may be added to a Hub, if this many may be live, and one task may be started
pub record CanAdmit {F T : Type 0} (meaning : F → End) (name : List ℕ) (most : ℕ) (hub : Hub F)
    (due : Vec (Work T) Global) : Type 0 where
  pub due_place : vec_len due < vec_capacity due
  pub place : HasPlace most hub
  pub ready : AreReady (hub_of meaning hub).entries
  pub unnamed : IsUnnamed name (hub_of meaning hub).entries

-- what is stored of a new subscription
abbrev pub first_entry_with : {F : Type 0} → List ℕ → OnFull → ℕ → F → Option Ticket → Entry F
first_entry_with name on_full next feed ticket = record {
  name = name;
  on_full = on_full;
  since = next;
  until = next;
  dropped = 0;
  retired = false;
  feed = Some feed;
  ticket = ticket;
}

-- the same of one that publications wait for
abbrev pub first_entry : {F : Type 0} → List ℕ → ℕ → F → Option Ticket → Entry F
first_entry name next feed ticket = first_entry_with name Wait next feed ticket

module _ {F T : Type 0} (meaning : F → End) (does : F → Call T → F → Type 0) where
  -- all live subscriptions of a Hub were looked at, the ended ones retired, the others made ready, and the numbers of
  -- the retired ones left out; nothing else changed
  pub record IsPrepared (old new : Hub F) : Type 0 where
    pub glances : List (Option Standing)
    pub prepared : PreparesAll meaning does glances old new
    pub left : new.live.items ≡ live_of (hub_of meaning new).entries old.live.items
    pub kept : Each (IsKept old.next) (hub_of meaning old).entries (hub_of meaning new).entries
    pub all_live : AreAllLive new.live.items (hub_of meaning new).entries
    pub rest : OnlySubscriptionsChange (hub_of meaning old) (hub_of meaning new)

  -- some live subscriptions of a Hub were looked at, the ended ones of these retired, and the others made ready;
  -- nothing else changed
  pub record IsPreparedInPart (old new : Hub F) : Type 0 where
    pub prepared : PreparesInPart meaning does old new
    pub kept : Each (IsKept old.next) (hub_of meaning old).entries (hub_of meaning new).entries
    pub rest : OnlyEntriesChange (hub_of meaning old) (hub_of meaning new)

  -- the producer's end of a live subscription heard once of a second subscribing, which answered this task
  abbrev pub Doubled : Option T → Entry F → Entry F → Type 0
  Doubled start old new =
      Called meaning does (λ e f. Feed.Duplicates e start f) (Call.Duplicates start)
      (λ after. record old { feed = Some after }) old new

  -- the live subscription of this number was doubled; the task that this started is due, and nothing else changed
  pub record DoublesAt (number : ℕ) (due_before due_after : List (Work T)) (old new : Hub F)
      : Type 0 where
    pub start : Option T
    pub before : Entry F
    pub after : Entry F
    pub there : slice_get old.entries.items number ≡ Some before
    pub doubled : Doubled start before after
    pub entries : new.entries.items ≡ slice_set old.entries.items number after
    pub due : due_after ≡ due_before ++ work_of number start
    pub rest : OnlyEntriesChange (hub_of meaning old) (hub_of meaning new)

  -- a live subscription of this name was doubled
  pub record DoublesOne (name : List ℕ) (due_before due_after : List (Work T)) (old new : Hub F)
      : Type 0 where
    pub number : ℕ
    pub named : IsNamed name number old.entries.items
    pub doubles : DoublesAt number due_before due_after old new

  -- no live subscription of a Hub that was looked at has the name, and there is no place for another
  pub record FindsNoPlace (name : List ℕ) (most : ℕ) (refusal : Refusal) (old new : Hub F) : Type 0
    where
      pub seen : IsPrepared old new
      pub unnamed : IsUnnamed name (hub_of meaning new).entries
      pub why : HasNoPlace most refusal new

  -- why a subscribing is refused, and what is left then: a live subscription has the name, and is doubled; else there
  -- is no place; or memory was refused before all were looked at
  abbrev pub Refuses : List ℕ → ℕ → Refusal → List (Work T) → List (Work T) → Hub F → Hub F → Type 0
  Refuses name most Refusal.Duplicate due_before due_after old new =
      (middle : Hub F) × (IsPrepared old middle × DoublesOne name due_before due_after middle new)
  Refuses name most Refusal.NoMemory due_before due_after old new =
      (IsPreparedInPart old new ⊎ FindsNoPlace name most Refusal.NoMemory old new)
      × (due_after ≡ due_before)
  Refuses name most refusal due_before due_after old new =
      FindsNoPlace name most refusal old new × (due_after ≡ due_before)

  -- the producer's end of a new subscription is closed at once if its Hub was
  abbrev pub ClosesNew : Option Ending → F → Option T → F → Type 0
  ClosesNew None feed start after = (start ≡ None) × (after ≡ feed)
  ClosesNew (Some ending) feed start after =
      Feed.Ends (meaning feed) ending start (meaning after)
      × does feed (Call.Ends ending start) after

  -- a subscription was added to a Hub that had been looked at, and in which fewer than this many were live; nothing
  -- else changed
  pub record AdmitsWith (name : List ℕ) (on_full : OnFull) (feed : F) (ticket : Option Ticket)
      (most number : ℕ) (due_before due_after : List (Work T)) (old new : Hub F) : Type 0 where
    pub middle : Hub F
    pub seen : IsPrepared old middle
    pub unnamed : IsUnnamed name (hub_of meaning middle).entries
    pub few_live : length middle.live.items < most
    pub is_next : number ≡ length old.entries.items
    pub few_entries : number < MOST_ENTRIES
    pub start : Option T
    pub after : F
    pub closes : ClosesNew old.ending feed start after
    pub due : due_after ≡ due_before ++ work_of number start
    pub entries : new.entries.items
        ≡ middle.entries.items ++ first_entry_with name on_full old.next after ticket ∷ []
    pub live : new.live.items ≡ middle.live.items ++ number ∷ []
    pub rest : OnlySubscriptionsChange (hub_of meaning old) (hub_of meaning new)

  -- the same of a subscription that publications wait for
  abbrev pub Admits : List ℕ → F → Option Ticket → ℕ → ℕ → List (Work T) → List (Work T)
      → Hub F → Hub F → Type 0
  Admits name feed ticket most number due_before due_after old new =
      AdmitsWith name Wait feed ticket most number due_before due_after old new
