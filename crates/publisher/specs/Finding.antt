-- How the two ends of each subscription are brought together.
use Rattle.std.specs.Prelude.{◌≡◌, ◌⊎◌, ℕ, ◌<◌, Bool, true, false, not, count_by, Option, None, Some, IsSome, List, length, slice_get, slice_set}
use Rattle.feed_cell.specs.Parties.{ProducerState}
use Rattle.publisher_hub.specs.Entry.{EntryState, entry_of}
use Rattle.publisher_hub.specs.Facts.{facts_of}
use Rattle.publisher_hub.specs.Hub.{HubState, OnlyEntriesChange, hub_of}
use Rattle.publisher_hub.specs.Lists.{Each}
use Rattle.publisher_hub.specs.Sound.{IsSound}
use Rattle.publisher_hub.specs.Taking.{entry_without_feed}
use Rattle.publisher_hub.specs.declared.entry.Entry.{Entry}
use Rattle.publisher_hub.specs.declared.hub.Hub.{Hub}
use Rattle.publisher.specs.Handles.{SubscriptionState}
use Rattle.publisher.specs.State.{producer_end}
use Rattle.publisher.specs.Tickets.{IsLate}
use Rattle.publisher.specs.declared.finishing.find.Found.{Found}
use Rattle.publisher.specs.declared.finishing.find.Taken.{Taken}

-- one of these subscriptions has this number
abbrev pub IsHandedIn : List SubscriptionState → ℕ → Type 0
IsHandedIn subscriptions number =
    (i : ℕ) × (s : SubscriptionState) × ((slice_get subscriptions i ≡ Some s) × (s.entry ≡ number))

-- one of them, of this number, is this one
abbrev pub IsHandedAs : List SubscriptionState → ℕ → SubscriptionState → Type 0
IsHandedAs subscriptions number owner = (i : ℕ) × (s : SubscriptionState)
    × ((slice_get subscriptions i ≡ Some s) × ((s.entry ≡ number) × (s ≡ owner)))

-- no place has an owner's end
abbrev pub AreNone : List (Option SubscriptionState) → Type 0
AreNone owners =
    (number : ℕ) (owner : SubscriptionState) → slice_get owners number ≡ Some (Some owner) → ⊥

-- the owner's end of each subscription lies at the place of its number, and no other lies anywhere; and whether each
-- has a place
pub record ArePlaced (subscriptions : List SubscriptionState) (owners : List (Option SubscriptionState))
    (all : Bool) : Type 0 where
  pub placed : (number : ℕ) (owner : SubscriptionState) → slice_get owners number ≡ Some (Some owner)
      → IsHandedAs subscriptions number owner
  pub empty : (number : ℕ) → slice_get owners number ≡ Some None → IsHandedIn subscriptions number
      → ⊥
  pub within : all ≡ true → (number : ℕ) → IsHandedIn subscriptions number → number < length owners

-- whether the subscription was reclaimed: its producer's end was taken out before
abbrev pub is_reclaimed : {B : Type 0} → Found B → Bool
is_reclaimed Found.Reclaimed = true
is_reclaimed _ = false

-- how many of these have an end that was not taken out before
abbrev pub ends_of : {B : Type 0} → List (Found B) → ℕ
ends_of founds = count_by (λ found. not (is_reclaimed found)) founds

-- both ends of the subscription of this number, of which this is stored, with what is known of it
pub record IsTakenOf {B : Type 0} (counted : Option ℕ) (number : ℕ) (entry : EntryState)
    (taken : Taken B) : Type 0 where
  pub facts : taken.facts ≡ facts_of entry
  pub late : (taken.late ≡ true → IsLate counted number)
      × (IsLate counted number → taken.late ≡ true)
  pub producer : entry.feed ≡ Some taken.producer.end

-- what is found of the subscription of this number, of which this is stored
abbrev pub IsFoundOf : {B : Type 0} → Option ℕ → ℕ → EntryState → Found B → Type 0
IsFoundOf counted number entry (Found.Both taken) = IsTakenOf counted number entry taken
IsFoundOf counted number entry (Found.Missing name) = (name ≡ entry.name) × IsSome entry.feed
IsFoundOf counted number entry Found.Reclaimed = entry.feed ≡ None

-- the producer's end of the subscription of this number was taken out, with this owner's end; or that was not handed
-- in; or the subscription was reclaimed
abbrev pub FindsBy : {B : Type 0} → ℕ → Option SubscriptionState → Entry ProducerState → Found B
    → Hub ProducerState → Hub ProducerState → Type 0
FindsBy number owner entry (Found.Both taken) old new = (owner ≡ Some taken.owner)
    × (new.entries.items ≡ slice_set old.entries.items number (entry_without_feed old.next entry))
FindsBy number owner entry (Found.Missing name) old new =
    (owner ≡ None) × (new.entries.items ≡ old.entries.items)
FindsBy number owner entry Found.Reclaimed old new = new.entries.items ≡ old.entries.items

-- what there is of the subscription of this number, with this owner's end, if that was handed in
pub record FindsOne {B : Type 0} (counted : Option ℕ) (number : ℕ) (owner : Option SubscriptionState)
    (found : Found B) (old new : Hub ProducerState) : Type 0 where
  pub entry : Entry ProducerState
  pub stands : slice_get old.entries.items number ≡ Some entry
  pub is : IsFoundOf counted number (entry_of producer_end entry) found
  pub by : FindsBy number owner entry found old new
  pub rest : OnlyEntriesChange (hub_of producer_end old) (hub_of producer_end new)

-- of each subscription of a Hub it was found, in order, what there is of it
pub record AreFoundIn {B : Type 0} (hub : HubState) (counted : Option ℕ) (founds : List (Found B))
    : Type 0 where
  pub as_many : length founds ≡ length hub.entries
  pub each : (k : ℕ) (entry : EntryState) (found : Found B) → slice_get hub.entries k ≡ Some entry
      → slice_get founds k ≡ Some found → IsFoundOf counted k entry found

-- a subscription as it was, or without its producer's end and its ticket
abbrev pub IsSameOrLeft : Entry ProducerState → Entry ProducerState → Type 0
IsSameOrLeft old new =
    (new ≡ old) ⊎ (((new.feed ≡ None) × (new.ticket ≡ None)) × (new.since ≡ old.since))

-- what there is of each subscription of a Hub was found, with the owners' ends that were handed in; nothing else
-- changed. Whether one of these is that of a reclaimed one
pub record FindsAll {B : Type 0} (old new : Hub ProducerState) (counted : Option ℕ)
    (owners : List (Option SubscriptionState)) (founds : List (Found B)) (gone : Bool) : Type 0 where
  pub found : AreFoundIn (hub_of producer_end old) counted founds
  pub here : (k : ℕ) (taken : Taken B) → slice_get founds k ≡ Some (Found.Both taken)
      → slice_get owners k ≡ Some (Some taken.owner)
  pub missing : (k : ℕ) (name : List ℕ)
      → slice_get founds k ≡ Some (Found.Missing name) → slice_get owners k ≡ Some None
  pub reclaimed : gone ≡ false → (k : ℕ)
      → slice_get founds k ≡ Some Found.Reclaimed → slice_get owners k ≡ Some None
  pub rest : OnlyEntriesChange (hub_of producer_end old) (hub_of producer_end new)
  pub stays : Each IsSameOrLeft old.entries.items new.entries.items
  pub sound : IsSound (hub_of producer_end new)
