-- Which subscription of a publisher that was finished failed first.
use Rattle.std.specs.Prelude.{◌≡◌, ℕ, ◌<◌, Option, None, Some, List, slice_get}
use Rattle.feed_core.specs.Prelude.{How}
use Rattle.publisher.specs.declared.outcome.NamedLane.{NamedLane}

-- how it ended, if it neither completed nor was cancelled
abbrev pub failure_of : Option How → Option How
failure_of None = None
failure_of (Some How.Completed) = None
failure_of (Some How.Cancelled) = None
failure_of (Some (How.Errored fault)) = Some (How.Errored fault)
failure_of (Some (How.Failed code)) = Some (How.Failed code)
failure_of (Some How.OutOfMemory) = Some How.OutOfMemory

-- none of the lanes before this place failed
abbrev pub NoneFails : {B : Type 0} → List (NamedLane B) → ℕ → Type 0
NoneFails {B} lanes place = (i : ℕ) (left : NamedLane B) → i < place → slice_get lanes i ≡ Some left
    → failure_of left.lane.ending ≡ None

-- the first lane that failed has this name, and ended in this way
pub record IsFirstFailure {B : Type 0} (lanes : List (NamedLane B)) (failure : List ℕ × How)
    : Type 0 where
  pub place : ℕ
  pub left : NamedLane B
  pub stands : slice_get lanes place ≡ Some left
  pub name : left.name ≡ failure.0
  pub how : failure_of left.lane.ending ≡ Some failure.1
  pub before : NoneFails lanes place
