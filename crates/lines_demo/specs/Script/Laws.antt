-- Where a script stands at its end, and what holds there of every script.
use Rattle.std.specs.Prelude.{◌≡◌, ℕ, ◌+◌, ◌<◌, ◌≤◌, ◌==◌, Bool, if◌then◌else◌, None, Some, List, All, AllPairs, Contains, length, slice_get, count_by}
use Rattle.lines_demo.specs.Prelude.{AfterItems, Item, How, Published, LaneState, IsFlow, IsSettled, items_of}
use Rattle.lines_demo.specs.Script.Answering.{script_result}
use Rattle.lines_demo.specs.Script.State.{SubscriptionState, SessionState}
use Rattle.lines_demo.specs.Script.Subscribing.{USUAL_LIVE, is_live_as}
use Rattle.lines_demo.specs.Script.Waking.{is_live, owes_turn}

-- where a script stands at its end
abbrev pub script_state : ℕ → List Bool → List ℕ → SessionState
script_state stock refusals bytes = (script_result stock refusals bytes).state

-- this holds at the end of every script, whatever the stock has, and wherever memory is refused
abbrev pub OfEveryScript : (SessionState → Type 0) → Type 0
OfEveryScript P =
    (stock : ℕ) → (refusals : List Bool) → (bytes : List ℕ) → P (script_state stock refusals bytes)

-- what each subscriber was told is a list of signals that Flow allows: its items are a prefix of what its buffer
-- accepted, in that order, no more than were requested, and completion comes only after all of them
abbrev pub KeepsFlow : SessionState → Type 0
KeepsFlow state = All (λ subscription. IsFlow subscription.desk.lane) state.subscriptions

-- nothing is forgotten: each subscriber that isn't woken was told all that its demand and its ending allow
abbrev pub IsSettledSession : SessionState → Type 0
IsSettledSession state =
    (number : ℕ) (subscription : SubscriptionState)
    → slice_get state.subscriptions number ≡ Some subscription
    → (Contains state.woken number → ⊥) → IsSettled subscription.desk.lane

-- all that its buffer accepted was told if it ended with the error that its publisher was closed with
abbrev pub TellsAllBeforeError : LaneState → Type 0
TellsAllBeforeError lane =
    (code : ℕ) → lane.how ≡ Some (How.Errored (Published code)) → items_of lane.told ≡ lane.accepted

-- so it is of each subscription of a script that began with `late`
abbrev pub TellsAllBeforeErrors : SessionState → Type 0
TellsAllBeforeErrors state = state.beginning.order ≡ AfterItems
    → All (λ subscription. TellsAllBeforeError subscription.desk.lane) state.subscriptions

-- how often this number stands in the list
abbrev pub places_of : ℕ → List ℕ → ℕ
places_of number numbers = count_by (λ other. other == number) numbers

-- a subscription whose task was started and which has not ended is woken, once; and nobody else is
abbrev pub WakesWhoOwes : SessionState → Type 0
WakesWhoOwes state = (number : ℕ)
    → places_of number state.woken ≡ (if owes_turn state.subscriptions number then 1 else 0)

-- at most as many subscriptions are live as may be
abbrev pub FewAreLive : SessionState → Type 0
FewAreLive state = count_by is_live state.subscriptions ≤ USUAL_LIVE

-- at most one live subscription has a name
abbrev pub OneLiveOfName : SessionState → Type 0
OneLiveOfName state = (name : List ℕ) → count_by (is_live_as name) state.subscriptions ≤ 1

-- each item has a higher serial number than all before it
abbrev pub SerialsRise : List Item → Type 0
SerialsRise items = AllPairs (λ item later. item.serial < later.serial) items

-- the serial numbers of what each buffer accepted rise, so no item was accepted twice
abbrev pub SerialsRiseIn : SessionState → Type 0
SerialsRiseIn state =
    All (λ subscription. SerialsRise subscription.desk.lane.accepted) state.subscriptions

-- items of these two lists that have one serial number are one item
abbrev pub Agree : List Item → List Item → Type 0
Agree items others =
    All (λ item. All (λ other. item.serial ≡ other.serial → item ≡ other) others) items

-- items with one serial number are one item, whoever accepted them
abbrev pub AgreesOnItems : SessionState → Type 0
AgreesOnItems state =
    All (λ first. All (λ second. Agree first.desk.lane.accepted second.desk.lane.accepted)
    state.subscriptions) state.subscriptions

-- this item stands in the list, and that one after it
pub record StandsBefore (items : List Item) (item later : Item) : Type 0 where
  pub place : ℕ
  pub later_place : ℕ
  pub order : place < later_place
  pub stands : slice_get items place ≡ Some item
  pub later_stands : slice_get items later_place ≡ Some later

-- any two items that are in both lists stand in the same order in both
abbrev pub HaveOneOrder : List Item → List Item → Type 0
HaveOneOrder items others =
    (item later : Item) → StandsBefore items item later → Contains others item
    → Contains others later → StandsBefore others item later

-- any two subscribers that were told the same two items were told them in the same order
abbrev pub TellsInOneOrder : SessionState → Type 0
TellsInOneOrder state =
    All (λ first. All (λ second.
    HaveOneOrder (items_of first.desk.lane.told) (items_of second.desk.lane.told))
    state.subscriptions) state.subscriptions

-- what a subscription accepted was published since it subscribed; that and what it dropped is all that was, as long as
-- it has not ended
pub record IsCountedUpTo (serial : ℕ) (subscription : SubscriptionState) : Type 0 where
  pub since : All (λ item. subscription.since ≤ item.serial) subscription.desk.lane.accepted
  pub published : All (λ item. item.serial < serial) subscription.desk.lane.accepted
  pub most : subscription.since + (length subscription.desk.lane.accepted + subscription.dropped)
      ≤ serial
  pub all : subscription.desk.lane.how ≡ None
      → subscription.since + (length subscription.desk.lane.accepted + subscription.dropped)
      ≡ serial

-- what each subscription accepted and dropped is what was published while it took part
abbrev pub CountsPublications : SessionState → Type 0
CountsPublications state = All (IsCountedUpTo state.serial) state.subscriptions
