-- What every event keeps, and from which all else follows.
use Rattle.std.specs.Prelude.{◌≡◌, ℕ, ◌+◌, ◌<◌, ◌≤◌, min, true, false, Option, None, Some, IsSome}
use Rattle.feed_core.specs.Prelude.{UNBOUNDED, Fault, Published, IllegalArgument, IllegalState, Ending, AfterItems, How}
use Rattle.feed_core.specs.Cause.{stops, closes, IsFaultOf}
use Rattle.feed_core.specs.LaneCalls.{IsCapacity}
use Rattle.feed_core.specs.World.Types.{Causes, Producing, HasRoom, HasPut, Hands, Requesting, HasAsked, HandsOver, Runner, Nobody, Coming, Fresh, Looked, Saw, Measured, Taken, Over, Parts}
use Rattle.feed_core.specs.World.Table.{total_of, is_over}

-- the causes are all among those, and a closing error is told in the same order
pub record IsWithin (some all : Causes) : Type 0 where
  pub order : some.order ≡ all.order
  pub cancel : some.cancel ≡ true → all.cancel ≡ true
  pub argument : some.argument ≡ true → all.argument ≡ true
  pub state : some.state ≡ true → all.state ≡ true
  pub closing : (ending : Ending) → some.closing ≡ Some ending → all.closing ≡ Some ending
  pub failed : (code : ℕ) → some.failed ≡ Some code → all.failed ≡ Some code
  pub memory : some.memory ≡ true → all.memory ≡ true

-- a closing error that waits for the items has given every item
abbrev pub HasGivenAll : Fault → Parts → Type 0
HasGivenAll (Published code) w = w.causes.order ≡ AfterItems → w.given ≡ w.accepted
HasGivenAll IllegalArgument w = Unit {0}
HasGivenAll IllegalState w = Unit {0}

-- an end has its cause, and completion, or a closing error that waits for the items, has given every item
abbrev pub EndHasCause : How → Parts → Type 0
EndHasCause How.Completed w = (w.causes.closing ≡ Some Ending.Normal) × (w.given ≡ w.accepted)
EndHasCause (How.Errored fault) w = IsFaultOf w.causes fault × HasGivenAll fault w
EndHasCause How.Cancelled w = w.causes.cancel ≡ true
EndHasCause (How.Failed code) w = w.causes.failed ≡ Some code
EndHasCause How.OutOfMemory w = w.causes.memory ≡ true

-- at rest nothing is new, nothing ends the subscription, and an end that waits for the items has some to wait for;
-- all that was requested was given, but for an item or a request that is yet to be signalled
pub record HasRested (w : Parts) : Type 0 where
  pub quiet : w.active ≡ false
  pub runs_on : stops w.causes ≡ None
  pub waits : IsSome (closes w.causes) → w.given < w.accepted
  pub all_given : (w.producer ≡ HasPut → ⊥) → (w.handle ≡ HasAsked → ⊥) → w.given ≡ min w.accepted (total_of w)

-- after a look the causes that it saw are there, and all of them if nothing is new
pub record HasLooked (c : Causes) (w : Parts) : Type 0 where
  pub within : IsWithin c w.causes
  pub newest : w.active ≡ false → w.causes ≡ c

-- the items that were seen after it were put, and they are all there are if nothing is new, or if an end waited
-- for them
pub record HasSeen (c : Causes) (t : ℕ) (w : Parts) : Type 0 where
  pub looked : HasLooked c w
  pub runs_on : stops c ≡ None
  pub put : t ≤ w.accepted
  pub last : IsSome (closes c) → t ≡ w.accepted
  pub all_put : w.active ≡ false → (w.producer ≡ HasPut → ⊥) → t ≡ w.accepted

-- the number that was seen after that was requested, and it is the total if nothing is new
pub record HasMeasured (c : Causes) (t a : ℕ) (w : Parts) : Type 0 where
  pub seen : HasSeen c t w
  pub asked : a ≤ total_of w
  pub all_asked : w.active ≡ false → (w.handle ≡ HasAsked → ⊥) → a ≡ total_of w

-- what holds where the task stands
abbrev pub IsAt : Runner → Parts → Type 0
IsAt Nobody w = HasRested w
IsAt Fresh w = w.given ≡ 0
IsAt (Looked c) w = HasLooked c w
IsAt (Saw c t) w = HasSeen c t w
IsAt (Measured c t a) w = HasMeasured c t a w
IsAt Taken w = 0 < w.given
IsAt (Over how) w = EndHasCause how w
IsAt _ w = Unit {0}

-- how many tasks the producer has to hand over, the handle has to hand over, and are to come
abbrev pub producer_hands : Producing → ℕ
producer_hands Hands = 1
producer_hands _ = 0

abbrev pub handle_hands : Requesting → ℕ
handle_hands HandsOver = 1
handle_hands _ = 0

abbrev pub coming : Runner → ℕ
coming Coming = 1
coming _ = 0

-- what every event keeps
pub record IsKeptParts (w : Parts) : Type 0 where
  pub sized : IsCapacity w.capacity
  pub asked_bounded : w.asked ≤ UNBOUNDED
  pub own_bounded : w.own ≤ UNBOUNDED
  pub taken : w.given ≤ w.accepted
  pub fits : w.accepted ≤ w.given + w.capacity
  pub requested : w.given ≤ total_of w
  pub roomy : w.producer ≡ HasRoom → w.accepted < w.given + w.capacity
  pub handed : producer_hands w.producer + handle_hands w.handle ≡ coming w.runner
  pub unfailed : is_over w.runner ≡ false → w.causes.failed ≡ None
  pub remembered : is_over w.runner ≡ false → w.causes.memory ≡ false
  pub known_put : w.known_put ≤ w.accepted
  pub known_asked : w.known_asked ≤ w.asked
  pub stage : IsAt w.runner w

-- how many items may still be taken before a look finds an end at once that was signalled
abbrev pub one_where : Option How → ℕ
one_where None = 0
one_where (Some _) = 1

abbrev pub may_follow : Runner → ℕ
may_follow (Looked c) = one_where (stops c)
may_follow (Saw _ _) = 0
may_follow (Measured _ _ _) = 0
may_follow _ = 1

-- what every event keeps of the cut, and of any number of items given since an end at once was signalled
pub record IsCut (w : Parts) (cut : ℕ) : Type 0 where
  pub stopped : IsSome (stops w.causes)
  pub few : w.given ≤ cut + may_follow w.runner

abbrev pub IsCutAt : Option ℕ → Parts → Type 0
IsCutAt None w = Unit {0}
IsCutAt (Some cut) w = IsCut w cut

-- of a World
abbrev pub IsKeptIn : Option Parts → Option ℕ → Type 0
IsKeptIn None cut = cut ≡ None
IsKeptIn (Some w) cut = IsKeptParts w × IsCutAt cut w
