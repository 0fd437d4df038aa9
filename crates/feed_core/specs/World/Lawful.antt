-- What holds of a subscription after any list of events.
use Rattle.std.specs.Prelude.{◌≡◌, ◌↔◌, ℕ, ◌+◌, ◌<◌, ◌≤◌, ◌⊎◌, min, false, Option, None, Some, IsSome}
use Rattle.feed_core.specs.Prelude.{How}
use Rattle.feed_core.specs.Cause.{stops, closes}
use Rattle.feed_core.specs.World.Types.{HasPut, Hands, HasAsked, HandsOver, Nobody, Coming, Over, Parts}
use Rattle.feed_core.specs.World.Table.{total_of}
use Rattle.feed_core.specs.World.Kept.{EndHasCause}

-- a side has the task to hand over
abbrev pub IsHandedBy : Parts → Type 0
IsHandedBy w = (w.producer ≡ Hands) ⊎ (w.handle ≡ HandsOver)

-- nobody is between a store and its signal
pub record IsQuiet (w : Parts) : Type 0 where
  pub put : w.producer ≡ HasPut → ⊥
  pub asked : w.handle ≡ HasAsked → ⊥

-- the law of a subscription (Reactive Streams 1.0, 1.1, 1.5 and 3.8): no item is given that was not put or not
-- requested, the buffer holds no more than its capacity; a task that was started comes from one side alone; at rest
-- nothing is forgotten; an end has its cause
pub record IsLawful (w : Parts) : Type 0 where
  pub taken : w.given ≤ w.accepted
  pub fits : w.accepted ≤ w.given + w.capacity
  pub requested : w.given ≤ total_of w
  pub coming : (w.runner ≡ Coming) ↔ IsHandedBy w
  pub from_one : w.producer ≡ Hands → w.handle ≡ HandsOver → ⊥
  pub runs_on : w.runner ≡ Nobody → stops w.causes ≡ None
  pub unfailed : w.runner ≡ Nobody → (w.causes.failed ≡ None) × (w.causes.memory ≡ false)
  pub all_given : w.runner ≡ Nobody → IsQuiet w → w.given ≡ min w.accepted (total_of w)
  pub waits : w.runner ≡ Nobody → IsSome (closes w.causes) → w.given < w.accepted
  pub ended : (how : How) → w.runner ≡ Over how → EndHasCause how w

-- at most one item follows the cut
abbrev pub FollowsCut : Option ℕ → Parts → Type 0
FollowsCut None w = Unit {0}
FollowsCut (Some cut) w = w.given ≤ cut + 1

-- of a World
abbrev pub IsLawfulIn : Option Parts → Option ℕ → Type 0
IsLawfulIn None cut = cut ≡ None
IsLawfulIn (Some w) cut = IsLawful w × FollowsCut cut w
