-- What holds wherever a script may stand.
use Rattle.std.specs.Prelude.{◌≡◌, ℕ, ◌+◌, ◌<◌, ◌≤◌, false, Option, None, List, [], All, length}
use Rattle.feed_core.specs.Sound.{IsSoundDesk}
use Rattle.lines_demo.specs.Prelude.{Item, Ending, ErrorOrder}
use Rattle.lines_demo.specs.Script.State.{SubscriptionState, SessionState}
use Rattle.lines_demo.specs.Script.Laws.{SerialsRise, WakesWhoOwes, FewAreLive, OneLiveOfName}

-- an item of a script with the texts that were published, by their serial numbers; it was published since this one and
-- before that one
pub record IsPublished (texts : ℕ → List ℕ) (first next : ℕ) (item : Item) : Type 0 where
  pub is : item
      ≡ record { source = 0; seq = item.serial; serial = item.serial; text = texts item.serial }
  pub since : first ≤ item.serial
  pub before : item.serial < next

-- what a subscription keeps while the next serial number is this, errors are told in this order, and the publisher was
-- closed so
pub record IsKept (texts : ℕ → List ℕ) (next : ℕ) (order : ErrorOrder) (closed : Option Ending)
    (subscription : SubscriptionState) : Type 0 where
  pub sound : IsSoundDesk subscription.desk
  pub rise : SerialsRise subscription.desk.lane.accepted
  pub published : All (IsPublished texts subscription.since next) subscription.desk.lane.accepted
  pub most : subscription.since + (length subscription.desk.lane.accepted + subscription.dropped)
      ≤ next
  pub all : subscription.desk.lane.how ≡ None
      → subscription.since + (length subscription.desk.lane.accepted + subscription.dropped) ≡ next
  pub closing : subscription.desk.lane.how ≡ None → subscription.desk.lane.causes.closing ≡ closed
  pub ordered : subscription.desk.lane.causes.order ≡ order

-- where a script may stand that has published these texts; nobody has subscribed before its beginning is over
pub record IsLawful (texts : ℕ → List ℕ) (state : SessionState) : Type 0 where
  pub subscriptions : All (IsKept texts state.serial state.beginning.order state.closing)
      state.subscriptions
  pub none_yet : state.beginning.is_over ≡ false → state.subscriptions ≡ []
  pub woken : WakesWhoOwes state
  pub few : FewAreLive state
  pub names : OneLiveOfName state

-- where a script may stand
abbrev pub IsReachable : SessionState → Type 0
IsReachable state = (texts : ℕ → List ℕ) × IsLawful texts state
