-- What looks do to the subscriptions of a Hub.
use Rattle.std.specs.Prelude.{◌≡◌, ◌⊎◌, ℕ, ◌<◌, ◌≤◌, ◌-◌, min, fold, Bool, true, false, ◌||◌, nat_lt, if◌then◌else◌, Option, None, Some, Result, List, [], ◌∷◌, filter, length, OnOk, OnErr, IsOk, IsErr}
use Rattle.flow_rules.specs.Call.{Call}
use Rattle.flow_rules.specs.Feed.{End, Looked, held_count, is_gone}
use Rattle.flow_rules.specs.declared.feed.standing.Standing.{Standing}
use Rattle.flow_rules.specs.declared.item.TheConstants.{MOST_PUBLICATIONS}
use Rattle.flow_rules.specs.declared.refusal.NoMemory.{NoMemory}
use Rattle.publisher_hub.specs.Becoming.{Becomes, ChangesAt}
use Rattle.publisher_hub.specs.Entry.{EntryState}
use Rattle.publisher_hub.specs.Hub.{HubState, OnlyEntriesChange, hub_of}
use Rattle.publisher_hub.specs.Lists.{Each, EachBy, gather}
use Rattle.publisher_hub.specs.Policy.{is_waited_for}
use Rattle.publisher_hub.specs.declared.entry.Entry.{Entry}
use Rattle.publisher_hub.specs.declared.hub.Hub.{Hub}
use Rattle.publisher_hub.specs.declared.hub.room.Room.{Room}
use Rattle.publisher_hub.specs.declared.policy.Need.{Need}
use Rattle.publisher_hub.specs.declared.policy.Need.TheVariants.{All, Waiters}

-- an end that was looked at any number of times, and may have been made ready
pub record Follows (e f : End) : Type 0 where
  pub seen : e.seen ≤ f.seen
  pub over : e.over ≡ true → f.over ≡ true
  pub looks : e.looks ≤ f.looks
  pub rest : f ≡ record e { seen = f.seen; looks = f.looks; over = f.over; ready = f.ready }

-- a retired subscription is left alone
pub record StaysRetired (old new : EntryState) : Type 0 where
  pub retired : old.retired ≡ true
  pub same : new ≡ old

-- a live subscription was looked at, and stays
abbrev pub StaysLive : EntryState → EntryState → Type 0
StaysLive old new = Becomes Follows old new

-- a live subscription was looked at, had ended or was closed, and is retired at this serial number
pub record IsRetiredAt (next : ℕ) (old new : EntryState) : Type 0 where
  pub before : End
  pub after : End
  pub live : old.retired ≡ false
  pub was : old.feed ≡ Some before
  pub follows : Follows before after
  pub gone : is_gone after ≡ true
  pub now : new ≡ record old { feed = Some after; retired = true; until = next }

-- what looks leave of a subscription
abbrev pub IsKept : ℕ → EntryState → EntryState → Type 0
IsKept next old new = StaysRetired old new ⊎ (StaysLive old new ⊎ IsRetiredAt next old new)

-- nothing of a Hub changed but by looks
pub record IsLookedAt (old new : HubState) : Type 0 where
  pub rest : OnlyEntriesChange old new
  pub entries : Each (IsKept old.progress.next) old.entries new.entries

-- the number of a subscription that goes on, if a look showed that its buffer is full
abbrev pub full_by : ℕ → ℕ → Option Standing → List ℕ
full_by capacity number None = []
full_by capacity number (Some standing) =
    if standing.ended || nat_lt standing.held capacity then [] else number ∷ []

-- the numbers of the subscriptions that looks showed to be full, in order
abbrev pub full : ℕ → List (Option Standing) → List ℕ
full capacity glances = gather (full_by capacity) 0 glances

-- this says whether looks showed no full buffer
pub record IsRoom (room : Bool) (capacity : ℕ) (glances : List (Option Standing)) : Type 0 where
  pub there : room ≡ true → full capacity glances ≡ []
  pub missing : room ≡ false → 0 < length (full capacity glances)

-- of the subscriptions that looks showed to be full, the numbers of those that publications wait for
abbrev pub full_waiters : {F : Type 0} → ℕ → List (Entry F) → List (Option Standing) → List ℕ
full_waiters capacity entries glances = filter (is_waited_for entries) (full capacity glances)

-- of the subscriptions that looks showed to be full, the numbers of those whose room is needed
abbrev pub full_needed : {F : Type 0} → Need → ℕ → List (Entry F) → List (Option Standing) → List ℕ
full_needed All capacity entries glances = full capacity glances
full_needed Waiters capacity entries glances = full_waiters capacity entries glances

-- whether those have room whose room is needed
abbrev pub room_for : Need → Room → Bool
room_for All room = room.everywhere
room_for Waiters room = room.for_waiters

-- this says whether looks showed no full buffer of those that publications wait for
pub record IsRoomForWaiters {F : Type 0} (room : Bool) (capacity : ℕ) (entries : List (Entry F))
    (glances : List (Option Standing)) : Type 0 where
  pub there : room ≡ true → full_waiters capacity entries glances ≡ []
  pub missing : room ≡ false → 0 < length (full_waiters capacity entries glances)

-- how many more items the buffer of a subscription that goes on holds, by a look
abbrev pub room_by : ℕ → ℕ → Option Standing → List ℕ
room_by capacity number None = []
room_by capacity number (Some standing) =
    if standing.ended then [] else (capacity - standing.held) ∷ []

-- how many more items each subscription that goes on holds, by looks, in order
abbrev pub rooms : ℕ → List (Option Standing) → List ℕ
rooms capacity glances = gather (room_by capacity) 0 glances

-- this is what looks showed of the room of these subscriptions
pub record ShowsRoom {F : Type 0} (room : Room) (capacity : ℕ) (entries : List (Entry F))
    (glances : List (Option Standing)) : Type 0 where
  pub all : IsRoom room.everywhere capacity glances
  pub waiters : IsRoomForWaiters room.for_waiters capacity entries glances
  pub least : room.least ≡ fold min MOST_PUBLICATIONS (rooms capacity glances)

module _ {F T : Type 0} (meaning : F → End) (does : F → Call T → F → Type 0) where
  -- an end was looked at, with this standing
  pub record Stands (standing : Standing) (f g : F) : Type 0 where
    pub look : Looked (meaning f) (meaning g)
    pub ended : standing.ended ≡ (meaning g).over
    pub held : standing.held ≡ held_count (meaning g)
    pub exact : does f (Call.Looks standing) g

  -- an end was to be made ready for a task, with this answer
  pub record Readies (answer : Result Unit NoMemory) (f g : F) : Type 0 where
    pub ok : OnOk answer (meaning g ≡ record (meaning f) { ready = true })
    pub err : OnErr answer (meaning g ≡ meaning f)
    pub stays : (meaning f).ready ≡ true → IsOk answer
    pub exact : does f (Call.Readies answer) g

  -- a live subscription was looked at, which retires it at this serial number if that shows its end
  pub record Sees (next : ℕ) (standing : Standing) (old new : Entry F) : Type 0 where
    pub before : F
    pub after : F
    pub live : old.retired ≡ false
    pub was : old.feed ≡ Some before
    pub stands : Stands standing before after
    pub ended : standing.ended ≡ true
        → new ≡ record old { feed = Some after; retired = true; until = next }
    pub stays : standing.ended ≡ false → new ≡ record old { feed = Some after }

  -- what a look showed of a subscription: nothing, if that was retired before
  abbrev pub Glances : ℕ → Option Standing → Entry F → Entry F → Type 0
  Glances next None old new = (old.retired ≡ true) × (new ≡ old)
  Glances next (Some standing) old new = Sees next standing old new

  -- a live subscription was to be made ready for a task, with this answer
  pub record IsReadied (answer : Result Unit NoMemory) (old new : Entry F) : Type 0 where
    pub before : F
    pub after : F
    pub was : old.feed ≡ Some before
    pub readies : Readies answer before after
    pub now : new ≡ record old { feed = Some after }

  -- a live subscription was looked at, and made ready if it goes on
  pub record SeesReady (next : ℕ) (standing : Standing) (old new : Entry F) : Type 0 where
    pub middle : Entry F
    pub sees : Sees next standing old middle
    pub ended : standing.ended ≡ true → new ≡ middle
    pub stays : standing.ended ≡ false
        → (answer : Result Unit NoMemory) × (IsOk answer × IsReadied answer middle new)

  -- any subscription was looked at and made ready, unless it is retired
  abbrev pub Prepares : ℕ → Option Standing → Entry F → Entry F → Type 0
  Prepares next None old new = (old.retired ≡ true) × (new ≡ old)
  Prepares next (Some standing) old new = SeesReady next standing old new

  -- a live subscription was looked at, goes on, and could not be made ready
  pub record FailsToPrepare (next : ℕ) (old new : Entry F) : Type 0 where
    pub middle : Entry F
    pub standing : Standing
    pub answer : Result Unit NoMemory
    pub sees : Sees next standing old middle
    pub goes_on : standing.ended ≡ false
    pub refused : IsErr answer
    pub readied : IsReadied answer middle new

  -- a subscription was looked at or not, and made ready or not
  abbrev pub MayPrepare : ℕ → Entry F → Entry F → Type 0
  MayPrepare next old new = (new ≡ old)
      ⊎ (((glance : Option Standing) × Prepares next glance old new) ⊎ FailsToPrepare next old new)

  -- each live subscription of a Hub was looked at, and made ready if it goes on, with these standings
  abbrev pub PreparesAll : List (Option Standing) → Hub F → Hub F → Type 0
  PreparesAll glances old new =
      EachBy (Prepares old.next) glances old.entries.items new.entries.items

  -- each live subscription was looked at and made ready, and this is what that showed of their room
  abbrev pub FindsRoom : Hub F → Hub F → Room → Type 0
  FindsRoom old new room =
      (glances : List (Option Standing))
      × (PreparesAll glances old new × ShowsRoom room old.capacity old.entries.items glances)

  -- some live subscriptions of a Hub were looked at and made ready, before memory was refused
  abbrev pub PreparesInPart : Hub F → Hub F → Type 0
  PreparesInPart old new = Each (MayPrepare old.next) old.entries.items new.entries.items

-- the number of a subscription that goes on, by a look
abbrev pub living_by : ℕ → Option Standing → List ℕ
living_by number None = []
living_by number (Some standing) = if standing.ended then [] else number ∷ []

-- how many items wait in the buffer of a subscription that goes on
abbrev pub waiting_by : ℕ → Option Standing → List ℕ
waiting_by number None = []
waiting_by number (Some standing) = if standing.ended then [] else standing.held ∷ []

-- the numbers of the subscriptions that go on by these looks, in order, and how many items wait for each
abbrev pub living : List (Option Standing) → List ℕ
living glances = gather living_by 0 glances

abbrev pub waiting : List (Option Standing) → List ℕ
waiting glances = gather waiting_by 0 glances

module _ {F T : Type 0} (meaning : F → End) (does : F → Call T → F → Type 0) where
  -- all live subscriptions of a Hub were looked at, those that had ended were retired, and nothing else changed
  pub record LooksAtAll (glances : List (Option Standing)) (old new : Hub F) : Type 0 where
    pub rest : OnlyEntriesChange (hub_of meaning old) (hub_of meaning new)
    pub entries : EachBy (Glances meaning does old.next) glances old.entries.items new.entries.items

  -- the subscription of this number was looked at, which retires it if that shows its end; one that was retired before,
  -- or was never made, shows nothing; and nothing else changed
  abbrev pub LooksAtOne : ℕ → Option Standing → Hub F → Hub F → Type 0
  LooksAtOne number glance old new =
      ChangesAt meaning (Glances meaning does old.next) number glance old new
