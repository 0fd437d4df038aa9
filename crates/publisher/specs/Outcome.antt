-- What a publisher leaves: what its subscribers were told, and of what (`SubmissionPublisher` and `Flow`, Java SE 17;
-- Reactive Streams 1.0).
use Rattle.std.specs.Prelude.{◌≡◌, ◌⊎◌, ⊤, ℕ, ◌+◌, ◌<◌, ◌≤◌, ◌||◌, ◌&&◌, Bool, true, false, is_none, Option, None, Some, IfSome, IsSome, Result, Ok, Err, List, [], ◌++◌, length, slice_get, sum_by, codes, decimal}
use Rattle.feed_core.specs.AnsweredTurn.{Reply}
use Rattle.feed_core.specs.Answered.{own_by}
use Rattle.feed_core.specs.EndedBy.{IsEndedBy}
use Rattle.feed_core.specs.declared.lane.Lane.{Lane}
use Rattle.feed_cell.specs.Parties.{HandleState}
use Rattle.feed_cell.specs.TaskAnswers.{EndsSo}
use Rattle.flow_rules.specs.declared.refusal.Refusal.{Refusal}
use Rattle.feed_core.specs.Prelude.{Item, Signal, Ending, How, total_after}
use Rattle.feed_core.specs.Lane.{LaneState}
use Rattle.feed_core.specs.LeftLane.{IsLeftLane}
use Rattle.publisher_hub.specs.Sound.{IsOrdered}
use Rattle.history.specs.declared.rule.Entry.{Entry}
use Rattle.publisher.specs.Content.{AreSentIn, StandsIn}
use Rattle.publisher.specs.Handles.{SubmitterState, SubscriptionState}
use Rattle.publisher.specs.Finding.{IsHandedIn}
use Rattle.publisher.specs.declared.outcome.NamedLane.{NamedLane}
use Rattle.publisher.specs.declared.outcome.Outcome.{Outcome}
use Rattle.publisher_hub.specs.declared.hub.TheConstants.{MOST_SOURCES}

-- it took part in all that was published since it was subscribed: it goes on, or was completed
abbrev pub TookPart : Option How → Type 0
TookPart None = ⊤
TookPart (Some How.Completed) = ⊤
TookPart (Some _) = ⊥

-- the lane has the part of the owner of this handle: how many items that requested, and whether it cancelled
abbrev pub HasOwnersPart : {B : Type 0} → HandleState → Lane B → Type 0
HasOwnersPart handle lane = (lane.requested ≡ handle.asked) × (lane.cancelled ≡ handle.cancelled)

-- what is left of one subscription of a publisher that published this many items, and the lane that it was
pub record IsLane {B : Type 0} (told : B → List Signal) (replied : B → List Reply) (published : ℕ) (left : NamedLane B)
    (lane : LaneState) : Type 0 where
  -- its subscriber was told onSubscribe, then the next of the items that its buffer accepted, in that order, never
  -- more than were requested; then at most one onComplete or onError, and onComplete only after every accepted item.
  -- If it doesn't run, it was told all that its demand and its ending allow
  pub is : IsLeftLane told lane left.lane
  -- requested in all is what its owner requested, and what the replies of its subscriber amount to
  pub asked : IfSome left.lane.subscriber (λ b. left.lane.asked ≡ total_after left.lane.requested (own_by (replied b)))
  -- each reply goes on but for the last, if that asks for the end; and it was cancelled, failed, or was refused memory
  -- only if the last reply says so, or its owner cancelled
  pub ends : IfSome left.lane.subscriber (λ b. EndsSo left.lane.ending (replied b))
  pub by : IfSome left.lane.subscriber (λ b. IsEndedBy left.lane.cancelled left.lane.ending (replied b))
  -- if its owner cancelled, it runs or has ended
  pub heeded : left.lane.running ≡ false → left.lane.cancelled ≡ true → IsSome left.lane.ending
  -- it accepted each item once, and those of each sender in the order in which they were sent
  pub ordered : IsOrdered lane.accepted
  -- each of them was published since it was subscribed
  pub since : (i : ℕ) (x : Item) → slice_get lane.accepted i ≡ Some x
      → (left.since ≤ x.serial) × (x.serial < published)
  -- what it accepted and dropped is what was published while it took part
  pub counted : left.since + (left.lane.accepted + left.dropped) ≤ published
  pub whole : TookPart left.lane.ending
      → left.since + (left.lane.accepted + left.dropped) ≡ published

-- items with one serial number are one item, whoever accepted them
abbrev pub AgreeOnItems : List LaneState → Type 0
AgreeOnItems lanes = (i j k n : ℕ) (one other : LaneState) (x y : Item)
    → slice_get lanes i ≡ Some one → slice_get one.accepted k ≡ Some x
    → slice_get lanes j ≡ Some other → slice_get other.accepted n ≡ Some y
    → x.serial ≡ y.serial → x ≡ y

-- whatever a lane accepted is one of these publications
abbrev pub AcceptsOf : List Entry → List LaneState → Type 0
AcceptsOf log lanes = (i k : ℕ) (lane : LaneState) (x : Item)
    → slice_get lanes i ≡ Some lane → slice_get lane.accepted k ≡ Some x → StandsIn log x

-- whatever was closed was closed with this ending
abbrev pub CloseWith : Option Ending → List LaneState → Type 0
CloseWith closing lanes = (i : ℕ) (lane : LaneState) (ending : Ending)
    → slice_get lanes i ≡ Some lane → lane.causes.closing ≡ Some ending → closing ≡ Some ending

-- what a publisher to which these submitters sent leaves: each subscription was a lane, and these agree
pub record IsOutcome {B H : Type 0} (told : B → List Signal) (replied : B → List Reply)
    (submitters : List SubmitterState) (outcome : Outcome B H) : Type 0 where
  pub lanes : List LaneState
  pub as_many : length lanes ≡ length outcome.lanes.items
  pub each : (i : ℕ) (left : NamedLane B) (lane : LaneState)
      → slice_get outcome.lanes.items i ≡ Some left → slice_get lanes i ≡ Some lane
      → IsLane told replied outcome.published left lane
  pub agreed : AgreeOnItems lanes
  -- all that was published, in its order: each submitter sent the texts of its source there, and each item that was
  -- accepted stands there at its serial number
  pub log : List Entry
  pub long : length log ≡ outcome.published
  pub sent : AreSentIn log submitters
  pub content : AcceptsOf log lanes
  -- the close told all whom it reached of one ending
  pub closing : Option Ending
  pub closed : CloseWith closing lanes
  -- once the last ticket was spent, each has ended that was subscribed before the close
  pub drained : outcome.drained ≡ true → (i : ℕ) (left : NamedLane B)
      → slice_get outcome.lanes.items i ≡ Some left → left.late ≡ false → IsSome left.lane.ending
  -- since a later one was subscribed nothing was published
  pub late : (i : ℕ) (left : NamedLane B) → slice_get outcome.lanes.items i ≡ Some left
      → left.late ≡ true → left.since ≡ outcome.published

-- what is left, whatever the answer of `finish`
abbrev pub outcome_of : {B H : Type 0} → Result (Outcome B H) (Refusal × Outcome B H) → Outcome B H
outcome_of (Ok outcome) = outcome
outcome_of (Err refused) = refused.1

-- it is what is left of one of these subscriptions, with the part of its owner
abbrev pub IsOfOne : {B : Type 0} → List SubscriptionState → NamedLane B → Type 0
IsOfOne subscriptions left = (i : ℕ) × (s : SubscriptionState) × ((slice_get subscriptions i ≡ Some s)
    × ((s.entry ≡ left.entry) × ((s.made_before ≡ left.made_before) × HasOwnersPart s.handle left.lane)))

-- no two lanes have one number
abbrev pub AreApart : {B : Type 0} → List (NamedLane B) → Type 0
AreApart {B} lanes = (i j : ℕ) (left other : NamedLane B) → slice_get lanes i ≡ Some left
    → slice_get lanes j ≡ Some other → left.entry ≡ other.entry → i ≡ j

-- the lanes are in order of subscription: before none stands one that was subscribed later
abbrev pub AreInOrder : {B : Type 0} → List (NamedLane B) → Type 0
AreInOrder {B} lanes = (i j : ℕ) (left other : NamedLane B) → slice_get lanes i ≡ Some left
    → slice_get lanes j ≡ Some other → i < j → left.made_before ≤ other.made_before

-- what is left is that of subscriptions which were handed in, of each once, in order of subscription
pub record AreHandedIn {B : Type 0} (subscriptions : List SubscriptionState)
    (lanes : List (NamedLane B)) : Type 0 where
  pub apart : AreApart lanes
  pub ordered : AreInOrder lanes
  pub each : (i : ℕ) (left : NamedLane B) → slice_get lanes i ≡ Some left
      → IsOfOne subscriptions left

-- the subscription of this number has a lane
abbrev pub HasLane : {B : Type 0} → ℕ → List (NamedLane B) → Type 0
HasLane {B} number lanes =
    (i : ℕ) × (left : NamedLane B) × ((slice_get lanes i ≡ Some left) × (left.entry ≡ number))

-- a number is among these
abbrev pub IsAmong : ℕ → List ℕ → Type 0
IsAmong number held = (i : ℕ) × (slice_get held i ≡ Some number)

-- no lane is missing: as many subscriptions as were made have one, or were reclaimed
abbrev pub AreAllGiven : {B H : Type 0} → Outcome B H → Type 0
AreAllGiven outcome = length outcome.lanes.items + outcome.reclaimed ≡ outcome.made

-- all is there: each subscription that was made, and all submitters, whose shares sum up to what was published
pub record IsWhole {B H : Type 0} (submitters : List SubmitterState)
    (subscriptions : List SubscriptionState) (outcome : Outcome B H) : Type 0 where
  pub made : AreAllGiven outcome
  pub none_left_out : (number : ℕ) → IsHandedIn subscriptions number
      → HasLane number outcome.lanes.items
  pub none_held : outcome.held.items ≡ []
  pub published : outcome.published ≡ sum_by (λ (s : SubmitterState). s.published) submitters
  pub dropped : (i : ℕ) (left : NamedLane B) → slice_get outcome.lanes.items i ≡ Some left
      → left.dropped ≤ sum_by (λ (s : SubmitterState). s.dropping) submitters

-- one of the submitters knows that the publisher is closed
abbrev pub AnyKnows : List SubmitterState → Type 0
AnyKnows submitters =
    (i : ℕ) × (s : SubmitterState) × ((slice_get submitters i ≡ Some s) × IsSome s.known)

-- nothing runs, and all has ended if a submitter knows that the publisher is closed, or if the last ticket was spent
pub record AreDone {B H : Type 0} (submitters : List SubmitterState) (outcome : Outcome B H)
    : Type 0 where
  pub rests : (i : ℕ) (left : NamedLane B) → slice_get outcome.lanes.items i ≡ Some left
      → left.lane.running ≡ false
  pub ended : AnyKnows submitters → (i : ℕ) (left : NamedLane B)
      → slice_get outcome.lanes.items i ≡ Some left → IsSome left.lane.ending
  pub drained : outcome.drained ≡ true → (i : ℕ) (left : NamedLane B)
      → slice_get outcome.lanes.items i ≡ Some left → IsSome left.lane.ending

-- it runs, or has not ended
abbrev pub IsUndone : {B : Type 0} → NamedLane B → Type 0
IsUndone left = (left.lane.running ≡ true) ⊎ (left.lane.ending ≡ None)

-- whether what is left runs, or has not ended though the publisher is closed
abbrev pub is_undone : {B : Type 0} → Bool → NamedLane B → Bool
is_undone closed left = left.lane.running || (closed && is_none left.lane.ending)

-- these names are those of the lanes that run, or have not ended though the publisher is closed: each of them, no
-- other, and there is one
pub record NamesUndone {B : Type 0} (closed : Bool) (names : List (List ℕ)) (lanes : List (NamedLane B))
    : Type 0 where
  pub some : 0 < length names
  pub each : (i : ℕ) (name : List ℕ) → slice_get names i ≡ Some name
      → (j : ℕ) × (left : NamedLane B)
      × ((slice_get lanes j ≡ Some left) × ((left.name ≡ name) × IsUndone left))
  pub all : (j : ℕ) (left : NamedLane B) → slice_get lanes j ≡ Some left
      → is_undone closed left ≡ true → (i : ℕ) × (slice_get names i ≡ Some left.name)

-- no submitter has this number
abbrev pub IsAway : ℕ → List SubmitterState → Type 0
IsAway source submitters =
    (i : ℕ) (s : SubmitterState) → slice_get submitters i ≡ Some s → s.source ≡ source → ⊥

-- one of them has this number
abbrev pub IsSourceThere : ℕ → List SubmitterState → Type 0
IsSourceThere source submitters = (i : ℕ) × (s : SubmitterState)
    × ((slice_get submitters i ≡ Some s) × (s.source ≡ source))

-- no submitter has this number, and each smaller number is that of one: it is the first that is missing
abbrev pub IsFirstAway : ℕ → List SubmitterState → Type 0
IsFirstAway source submitters = IsAway source submitters
    × ((other : ℕ) → other < source → IsSourceThere other submitters)

-- the name of the submitter of this number, as `source-3`
abbrev pub source_name : ℕ → List ℕ
source_name source = codes "source-" ++ decimal source

-- fewer than were made have a lane or were reclaimed; and a subscription that has no lane was not handed in, or is
-- held still
abbrev pub IsLaneAway : {B H : Type 0} → List SubscriptionState → Outcome B H → Type 0
IsLaneAway subscriptions outcome =
    (length outcome.lanes.items + outcome.reclaimed < outcome.made)
    × ((number : ℕ) × ((HasLane number outcome.lanes.items → ⊥)
    × ((IsHandedIn subscriptions number → ⊥) ⊎ IsAmong number outcome.held.items)))

-- the submitter with this name is the first that was not handed in, and no lane is missing
abbrev pub IsSourceAway : {B H : Type 0} → List ℕ → List SubmitterState → Outcome B H → Type 0
IsSourceAway name submitters outcome = (source : ℕ)
    × ((source < MOST_SOURCES)
    × ((name ≡ source_name source)
    × (IsFirstAway source submitters
    × (AreAllGiven outcome × (outcome.held.items ≡ [])))))

-- a subscription or a submitter is missing
abbrev pub IsMissing : {B H : Type 0} → List ℕ → List SubmitterState → List SubscriptionState
    → Outcome B H → Type 0
IsMissing name submitters subscriptions outcome =
    IsLaneAway subscriptions outcome ⊎ IsSourceAway name submitters outcome

-- the rest is given: each subscription that was handed in has its lane, but those that are held still, which have none
pub record IsRestGiven {B H : Type 0} (subscriptions : List SubscriptionState)
    (outcome : Outcome B H) : Type 0 where
  pub given : (number : ℕ) → IsHandedIn subscriptions number
      → HasLane number outcome.lanes.items ⊎ IsAmong number outcome.held.items
  pub held : (number : ℕ) → IsAmong number outcome.held.items
      → IsHandedIn subscriptions number × (HasLane number outcome.lanes.items → ⊥)

-- if it is refused in this way, this holds of what is given
abbrev pub IfRefused : {B H : Type 0} → Refusal → Result (Outcome B H) (Refusal × Outcome B H)
    → (Outcome B H → Type 0) → Type 0
IfRefused {B} {H} refusal result Holds =
    (outcome : Outcome B H) → result ≡ Err (refusal, outcome) → Holds outcome

-- on 5 no lane is left
abbrev pub HasNoLane : {B H : Type 0} → Outcome B H → Type 0
HasNoLane outcome = (outcome.lanes.items ≡ []) × (outcome.held.items ≡ [])

-- those that have a lane, are held or were reclaimed are not more than were made: none of them is counted twice
abbrev pub AreReclaimed : {B H : Type 0} → Outcome B H → Type 0
AreReclaimed outcome =
    (length outcome.lanes.items + length outcome.held.items) + outcome.reclaimed ≤ outcome.made

-- on 8 a subscription, or the submitter of this name, is missing, and the rest is given
abbrev pub LacksOne : {B H : Type 0} → List SubmitterState → List SubscriptionState → List ℕ
    → Outcome B H → Type 0
LacksOne submitters subscriptions name outcome =
    IsMissing name submitters subscriptions outcome × IsRestGiven subscriptions outcome

-- on 9 all is there, and these have not ended or run
abbrev pub LeavesUndone : {B H : Type 0} → List SubmitterState → List SubscriptionState
    → List (List ℕ) → Outcome B H → Type 0
LeavesUndone submitters subscriptions names outcome =
    IsWhole submitters subscriptions outcome
    × ((closed : Bool) × ((AnyKnows submitters → closed ≡ true)
    × NamesUndone closed names outcome.lanes.items))

-- on Ok all is there, and done
abbrev pub LeavesAllDone : {B H : Type 0} → List SubmitterState → List SubscriptionState
    → Outcome B H → Type 0
LeavesAllDone submitters subscriptions outcome =
    IsWhole submitters subscriptions outcome × AreDone submitters outcome

-- what `finish` may be refused with
abbrev pub IsRefusalOfFinish : Refusal → Type 0
IsRefusalOfFinish Refusal.NoMemory = ⊤
IsRefusalOfFinish (Refusal.StillHeld name) = ⊤
IsRefusalOfFinish (Refusal.Unsettled names) = ⊤
IsRefusalOfFinish _ = ⊥

-- the answers of `finish` together, in the order of its refusals
abbrev pub Finishes : {B H : Type 0} → List SubmitterState → List SubscriptionState
    → Result (Outcome B H) (Refusal × Outcome B H) → Type 0
Finishes submitters subscriptions (Ok outcome) = LeavesAllDone submitters subscriptions outcome
Finishes submitters subscriptions (Err (Refusal.NoMemory, outcome)) = HasNoLane outcome
Finishes submitters subscriptions (Err (Refusal.StillHeld name, outcome)) =
    LacksOne submitters subscriptions name outcome
Finishes submitters subscriptions (Err (Refusal.Unsettled names, outcome)) =
    LeavesUndone submitters subscriptions names.items outcome
Finishes submitters subscriptions (Err (_, outcome)) = ⊥

-- it is refused by this name
abbrev pub StillHolds : {B H : Type 0} → List ℕ → Result (Outcome B H) (Refusal × Outcome B H)
    → Type 0
StillHolds {B} {H} name result =
    (outcome : Outcome B H) × (result ≡ Err (Refusal.StillHeld name, outcome))

-- what is left is refused if something runs, or is closed and has not ended
abbrev pub Judges : {B H : Type 0} → Outcome B H → Bool
    → Result (Outcome B H) (Refusal × Outcome B H) → Type 0
Judges {B} {H} outcome closed (Ok same) = (same ≡ outcome)
    × ((i : ℕ) (left : NamedLane B) → slice_get outcome.lanes.items i ≡ Some left
    → is_undone closed left ≡ false)
Judges outcome closed (Err (Refusal.Unsettled names, same)) =
    (same ≡ outcome) × NamesUndone closed names.items outcome.lanes.items
Judges outcome closed (Err (_, same)) = ⊥
