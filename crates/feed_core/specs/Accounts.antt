-- What a subscription was asked for, why it may end and how it ended, by what its owner did and what its subscriber
-- replied (`Flow.Subscription.request` and `cancel`, Java SE 17; Reactive Streams 1.0, 1.1, 3.8 and 3.9).
use Rattle.std.specs.Prelude.{◌≡◌, ℕ, ◌+◌, ◌<◌, ◌≤◌, Bool, true, false, ◌||◌, None, List, [], length, take}
use Rattle.feed_core.specs.Answered.{own_by, causes_by}
use Rattle.feed_core.specs.AnsweredTurn.{Reply}
use Rattle.feed_core.specs.Desk.{DeskState}
use Rattle.feed_core.specs.Lane.{LaneState}
use Rattle.feed_core.specs.Prelude.{total_after}
use Rattle.feed_core.specs.Replies.{EndsBy}
use Rattle.feed_core.specs.Sound.{is_begun}

-- the demand of a lane is what its owner and the replies requested, and its causes are theirs, but for those of its
-- publisher; and so is its end. Each item was given to a callback of its own, and a lane that has not ended has a reply
-- to onSubscribe, too, once that was told
pub record AccountsFor (requested : ℕ) (asked_badly cancelled : Bool) (lane : LaneState) (replied : List Reply) : Type 0 where
  pub asked : lane.asked ≡ total_after requested (own_by replied)
  pub cancel : lane.causes.cancel ≡ (cancelled || (causes_by lane.causes.order replied).cancel)
  pub argument : lane.causes.argument ≡ (asked_badly || (causes_by lane.causes.order replied).argument)
  pub failed : lane.causes.failed ≡ (causes_by lane.causes.order replied).failed
  pub memory : lane.causes.memory ≡ (causes_by lane.causes.order replied).memory
  pub ends : EndsBy cancelled lane.how replied
  pub called : lane.given ≤ length replied
  pub greeted : lane.how ≡ None → is_begun lane.told ≡ true → length replied ≡ lane.given + 1
  pub fresh : lane.how ≡ None → is_begun lane.told ≡ false → replied ≡ []

abbrev pub IsAccounted : DeskState → Type 0
IsAccounted desk = AccountsFor desk.requested desk.asked_badly desk.is_cancelled desk.lane desk.replied

-- each item that was given meanwhile was below what the owner had requested and what the replies before it did: those
-- to onSubscribe and to the items before
abbrev pub GivesBelow : DeskState → DeskState → Type 0
GivesBelow old new =
    (n : ℕ) → old.lane.given ≤ n → n < new.lane.given → n < total_after old.requested (own_by (take (n + 1) new.replied))
