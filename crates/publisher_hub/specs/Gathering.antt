-- What the answers to a round of offers gather: started tasks, lags, full buffers and drops; and what that needs.
use Rattle.std.specs.Prelude.{◌≡◌, ℕ, ◌+◌, ◌≤◌, fold, max, Option, None, Some, IsSome, List, [], ◌∷◌, ◌++◌, length, slice_get, Vec, vec_len}
use Rattle.std.specs.declared.alloc.Global.{Global}
use Rattle.std.specs.Vec.{vec_capacity}
use Rattle.flow_rules.specs.declared.feed.put.Put.{Put}
use Rattle.flow_rules.specs.declared.feed.put.Put.TheVariants.{Accepted, Full}
use Rattle.flow_rules.specs.declared.item.Item.{Item}
use Rattle.publisher_hub.specs.Lists.{gather, greatest}
use Rattle.publisher_hub.specs.declared.hub.gathering.Gathering.{Gathering}
use Rattle.publisher_hub.specs.declared.work.Work.{Work}

-- a started task, with the number of its subscription
abbrev pub work_of : {T : Type 0} → ℕ → Option T → List (Work T)
work_of number None = []
work_of number (Some task) = record { entry = number; task = task } ∷ []

-- what a put gathers: the task that it started, the lag that it answered, the number of a subscription whose buffer was
-- full
abbrev pub started_by : {T : Type 0} → ℕ → Option (Put T) → List (Work T)
started_by number (Some (Accepted lag start)) = work_of number start
started_by number _ = []

abbrev pub lag_by : {T : Type 0} → ℕ → Option (Put T) → List ℕ
lag_by number (Some (Accepted lag start)) = lag ∷ []
lag_by number _ = []

abbrev pub missed_by : {T : Type 0} → ℕ → Option (Put T) → List ℕ
missed_by number (Some (Full back)) = number ∷ []
missed_by number _ = []

-- what the puts of a round gather, in the order of the numbers
abbrev pub started : {T : Type 0} → List (Option (Put T)) → List (Work T)
started puts = gather started_by 0 puts

abbrev pub lags : {T : Type 0} → List (Option (Put T)) → List ℕ
lags puts = gather lag_by 0 puts

abbrev pub missed : {T : Type 0} → List (Option (Put T)) → List ℕ
missed puts = gather missed_by 0 puts

-- what a second pass did at a subscription: nothing, if it had not missed the item; else its drop stands without a
-- second try, or it was offered the item once more, with this answer
abbrev pub Second : Type 0 → Type 0
Second T = Option (Option (Put T))

-- the number of a subscription whose drop stands
abbrev pub dropped_by : {T : Type 0} → ℕ → Second T → List ℕ
dropped_by number (Some None) = number ∷ []
dropped_by number (Some (Some (Full back))) = number ∷ []
dropped_by number _ = []

-- what a second offer gathers: the task that it started, and the lag that it answered
abbrev pub started_again_by : {T : Type 0} → ℕ → Second T → List (Work T)
started_again_by number (Some answer) = started_by number answer
started_again_by number None = []

abbrev pub lag_again_by : {T : Type 0} → ℕ → Second T → List ℕ
lag_again_by number (Some answer) = lag_by number answer
lag_again_by number None = []

-- what the second pass gathers, in the order of the numbers
abbrev pub dropped : {T : Type 0} → List (Second T) → List ℕ
dropped seconds = gather dropped_by 0 seconds

abbrev pub started_again : {T : Type 0} → List (Second T) → List (Work T)
started_again seconds = gather started_again_by 0 seconds

abbrev pub lags_again : {T : Type 0} → List (Second T) → List ℕ
lags_again seconds = gather lag_again_by 0 seconds

-- without a second try, the drops stand
abbrev pub stands : {T : Type 0} → Option (Put T) → Second T
stands (Some (Full back)) = Some None
stands put = None

-- the second pass came back to these numbers, and to no others
pub record AreRevisited {T : Type 0} (numbers : List ℕ) (seconds : List (Second T)) : Type 0 where
  pub revisited : (i k : ℕ) (second : Second T) → slice_get numbers i ≡ Some k
      → slice_get seconds k ≡ Some second → IsSome second
  pub others : (k : ℕ) (second : Second T) → slice_get seconds k ≡ Some second → IsSome second
      → (i : ℕ) × (slice_get numbers i ≡ Some k)

-- each of these is a share of the item
abbrev pub AreShares : Item → List Item → Type 0
AreShares item shares = (i : ℕ) (share : Item) → slice_get shares i ≡ Some share → share ≡ item

-- the share that came back from a full buffer
abbrev pub back_by : {T : Type 0} → Option (Put T) → List Item
back_by (Some (Full back)) = back ∷ []
back_by _ = []

-- there are this many more places: for the tasks that start, now and in a second try, for the numbers of full buffers,
-- and shares
pub record CanGather {T : Type 0} (many : ℕ) (gathering : Gathering) (due : Vec (Work T) Global)
    : Type 0 where
  pub due_places : vec_len due + (vec_len gathering.missed + many) ≤ vec_capacity due
  pub missed_places : vec_len gathering.missed + many ≤ vec_capacity gathering.missed
  pub shares : vec_len gathering.shares ≡ vec_len gathering.missed + many

-- what an answer adds to what a round gathers
pub record Adds {T : Type 0} (item : Item) (number : ℕ) (answer : Option (Put T))
    (old new : Gathering) (due_old due_new : Vec (Work T) Global) : Type 0 where
  pub due : due_new.items ≡ due_old.items ++ started_by number answer
  pub missed : new.missed.items ≡ old.missed.items ++ missed_by number answer
  pub lag : new.lag ≡ fold max old.lag (lag_by number answer)
  pub shares : AreShares item new.shares.items

-- what a round has gathered that gave these answers
pub record Gathers {T : Type 0} (item : Item) (puts : List (Option (Put T))) (new : Gathering)
    (due_old due_new : Vec (Work T) Global) : Type 0 where
  pub due : due_new.items ≡ due_old.items ++ started puts
  pub missed : new.missed.items ≡ missed puts
  pub lag : new.lag ≡ greatest (lags puts)
  pub shares : AreShares item new.shares.items

-- this many second offers have room: for the tasks that start, and shares
pub record HasRoomAgain {T : Type 0} (many : ℕ) (gathering : Gathering) (due : Vec (Work T) Global)
    : Type 0 where
  pub due_places : vec_len due + many ≤ vec_capacity due
  pub enough_shares : many ≤ vec_len gathering.shares

-- what a second offer, or none, adds to what a round gathers
pub record AddsAgain {T : Type 0} (item : Item) (number : ℕ) (second : Second T)
    (old new : Gathering) (due_old due_new : Vec (Work T) Global) : Type 0 where
  pub due : due_new.items ≡ due_old.items ++ started_again_by number second
  pub lag : new.lag ≡ fold max old.lag (lag_again_by number second)
  pub drops : new.drops ≡ old.drops + length (dropped_by number second)
  pub missed : new.missed ≡ old.missed
  pub shares : AreShares item new.shares.items

-- what the second pass has gathered
pub record GathersAgain {T : Type 0} (item : Item) (seconds : List (Second T)) (old new : Gathering)
    (due_old due_new : Vec (Work T) Global) : Type 0 where
  pub due : due_new.items ≡ due_old.items ++ started_again seconds
  pub lag : new.lag ≡ fold max old.lag (lags_again seconds)
  pub drops : new.drops ≡ length (dropped seconds)
  pub missed : new.missed ≡ old.missed
  pub shares : AreShares item new.shares.items
