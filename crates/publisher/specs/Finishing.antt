-- What is taken out from behind the lock at the end of a publisher.
use Rattle.std.specs.Prelude.{◌≡◌, ◌⊎◌, ℕ, ◌+◌, ◌<◌, ◌≤◌, Bool, true, false, Option, None, Some, IsSome, List, [], length, slice_get, vec_capacity, sum_by}
use Rattle.feed_core.specs.Prelude.{Item}
use Rattle.flow_rules.specs.declared.ending.Ending.{Ending}
use Rattle.publisher_hub.specs.Hub.{hub_of}
use Rattle.publisher_hub.specs.Sound.{IsOrdered}
use Rattle.history.specs.declared.rule.Entry.{Entry}
use Rattle.publisher.specs.Content.{AreSentIn, StandsIn}
use Rattle.publisher.specs.Finding.{AreFoundIn, IsHandedIn, IsHandedAs, ends_of}
use Rattle.publisher.specs.Handles.{SubmitterState, SubscriptionState}
use Rattle.publisher.specs.Outcome.{AnyKnows, IsFirstAway, source_name}
use Rattle.publisher.specs.State.{PublisherState, producer_end}
use Rattle.publisher.specs.declared.outcome.Outcome.{Outcome}
use Rattle.publisher_hub.specs.declared.hub.TheConstants.{MOST_SOURCES}
use Rattle.publisher.specs.declared.finishing.find.Found.{Found}
use Rattle.publisher.specs.declared.finishing.find.Taken.{Taken}
use Rattle.publisher.specs.declared.finishing.judge.Books.{Books}
use Rattle.publisher.specs.declared.finishing.room.Room.{Room}

-- room for what is left of this many subscriptions, of which none is used
pub record HasRoomFor {B : Type 0} (many : ℕ) (room : Room B) : Type 0 where
  pub no_lanes : room.lanes.items ≡ []
  pub none_held : room.held.items ≡ []
  pub none_unsettled : room.unsettled.items ≡ []
  pub lanes : many ≤ vec_capacity room.lanes
  pub held : many ≤ vec_capacity room.held
  pub unsettled : many ≤ vec_capacity room.unsettled

-- an outcome without lanes: not more were reclaimed than were made
pub record IsNothing {B H : Type 0} (outcome : Outcome B H) : Type 0 where
  pub no_lanes : outcome.lanes.items ≡ []
  pub none_held : outcome.held.items ≡ []
  pub few_reclaimed : outcome.reclaimed ≤ outcome.made

-- what a subscription accepted and dropped, by its producer's end, of a publisher that published this many items
pub record IsCountedIn {B : Type 0} (published dropping : ℕ) (taken : Taken B) : Type 0 where
  pub ordered : IsOrdered taken.producer.end.accepted
  pub items : (i : ℕ) (x : Item) → slice_get taken.producer.end.accepted i ≡ Some x
      → (taken.facts.since ≤ x.serial) × (x.serial < published)
  pub counted : taken.facts.since + (length taken.producer.end.accepted + taken.facts.dropped) ≤ published
  -- one that was closed, or goes on by the last look at it, took part to the end
  pub whole : (taken.producer.end.over ≡ false) ⊎ IsSome taken.producer.end.closing
      → taken.facts.since + (length taken.producer.end.accepted + taken.facts.dropped) ≡ published
  pub drops : taken.facts.dropped ≤ dropping
  pub late : taken.late ≡ true → taken.facts.since ≡ published

-- what was found of the subscriptions that were handed in, of a publisher that published this many items; and once its
-- last ticket was spent, each from before the close has ended
pub record AreTakenOut {B : Type 0} (subscriptions : List SubscriptionState)
    (founds : List (Found B)) (published dropping : ℕ) (drained : Bool) : Type 0 where
  pub each : (k : ℕ) (taken : Taken B) → slice_get founds k ≡ Some (Found.Both taken)
      → IsCountedIn published dropping taken
  pub handed : (k : ℕ) (taken : Taken B) → slice_get founds k ≡ Some (Found.Both taken)
      → IsHandedAs subscriptions k taken.owner
  pub missing : (k : ℕ) (name : List ℕ) → slice_get founds k ≡ Some (Found.Missing name)
      → IsHandedIn subscriptions k → ⊥
  pub reclaimed : (k : ℕ) → slice_get founds k ≡ Some Found.Reclaimed
      → IsHandedIn subscriptions k → ⊥
  pub within : (number : ℕ) → IsHandedIn subscriptions number → number < length founds
  pub ended : drained ≡ true → (k : ℕ) (taken : Taken B)
      → slice_get founds k ≡ Some (Found.Both taken) → taken.late ≡ false
      → taken.producer.end.over ≡ true
  -- items with one serial number are one item, whoever accepted them
  pub agreed : (j k m n : ℕ) (one other : Taken B) (x y : Item)
      → slice_get founds j ≡ Some (Found.Both one) → slice_get one.producer.end.accepted m ≡ Some x
      → slice_get founds k ≡ Some (Found.Both other)
      → slice_get other.producer.end.accepted n ≡ Some y → x.serial ≡ y.serial → x ≡ y

-- whatever these subscriptions accepted is one of these publications
abbrev pub AreOfLog : {B : Type 0} → List Entry → List (Found B) → Type 0
AreOfLog {B} log founds = (k i : ℕ) (taken : Taken B) (x : Item)
    → slice_get founds k ≡ Some (Found.Both taken)
    → slice_get taken.producer.end.accepted i ≡ Some x → StandsIn log x

-- each of these subscriptions that was closed was closed with this ending
abbrev pub AreClosedWith : {B : Type 0} → Option Ending → List (Found B) → Type 0
AreClosedWith {B} closing founds = (k : ℕ) (taken : Taken B) (ending : Ending)
    → slice_get founds k ≡ Some (Found.Both taken)
    → taken.producer.end.closing ≡ Some ending → closing ≡ Some ending

-- the shares of the submitters were compared with the totals: all are there, and sum up to these; or one is missing
abbrev pub AreAudited : List SubmitterState → ℕ → ℕ → Option (List ℕ) → Type 0
AreAudited submitters published dropping None = (sum_by
    (λ (s : SubmitterState). s.published) submitters ≡ published)
    × (sum_by (λ (s : SubmitterState). s.dropping) submitters ≡ dropping)
AreAudited submitters published dropping (Some name) =
    (source : ℕ) × ((source < MOST_SOURCES) × ((name ≡ source_name source) × IsFirstAway source submitters))

-- what stood behind the lock was taken out
pub record TakesBooksOut {B : Type 0} (submitters : List SubmitterState)
    (subscriptions : List SubscriptionState) (old : PublisherState) (books : Books B) : Type 0 where
  pub found : AreFoundIn (hub_of producer_end old.hub) old.counted books.founds.items
  pub ends : AreTakenOut subscriptions books.founds.items books.published old.hub.dropping
      books.drained
  pub published : books.published ≡ old.hub.next
  pub made : books.made ≡ old.census.made
  pub reclaimed : books.reclaimed ≡ old.census.reclaimed
  pub counted : ends_of books.founds.items + books.reclaimed ≡ books.made
  pub audited : AreAudited submitters books.published old.hub.dropping books.missing
  pub known : AnyKnows submitters → books.is_closed ≡ true
  pub closed : books.drained ≡ true → books.is_closed ≡ true
  pub room : HasRoomFor (length books.founds.items) books.room
  pub few : length books.founds.items < 4294967296
  pub log : List Entry
  pub long : length log ≡ books.published
  pub sent : AreSentIn log submitters
  pub content : AreOfLog log books.founds.items
  pub closed_with : AreClosedWith old.hub.ending books.founds.items
