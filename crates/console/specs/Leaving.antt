-- What `leave` does to the list of subscriptions, whose last of a name is the latest.
use Rattle.std.specs.Prelude.{◌≡◌, ℕ, ◌+◌, ◌≤◌, true, false, List, Some, IsSome, remove, slice_get}
use Rattle.commands.specs.Word.{is_word}
use Rattle.publisher.specs.declared.outcome.NamedLane.{NamedLane}
use Rattle.console.specs.declared.terminal.Named.{Named}

-- no subscription from this place on has this name
abbrev pub NoneIsNamed : {L R : Type 0} → List ℕ → List (Named L R) → ℕ → Type 0
NoneIsNamed {L} {R} name named from = (i : ℕ) (it : Named L R) → from ≤ i
    → slice_get named i ≡ Some it → is_word it.name name ≡ false

-- the subscription at this place has this name, and no later one has
pub record IsLatestOf {L R : Type 0} (name : List ℕ) (named : List (Named L R)) (place : ℕ)
    : Type 0 where
  pub it : Named L R
  pub stands : slice_get named place ≡ Some it
  pub name_is : is_word it.name name ≡ true
  pub latest : NoneIsNamed name named (place + 1)

-- the subscription at this place, which has ended, was taken out, and this is what is left of it
pub record LeavesAt {L R B : Type 0} (place : ℕ) (old new : List (Named L R))
    (left : NamedLane B) : Type 0 where
  pub it : Named L R
  pub stands : slice_get old place ≡ Some it
  pub entry : left.entry ≡ it.subscription.entry
  pub ended : IsSome left.lane.ending
  pub rests : left.lane.running ≡ false
  pub rest : new ≡ remove old place

-- so was the latest of this name
pub record Leaves {L R B : Type 0} (name : List ℕ) (old new : List (Named L R))
    (left : NamedLane B) : Type 0 where
  pub place : ℕ
  pub latest : IsLatestOf name old place
  pub leaves : LeavesAt place old new left
