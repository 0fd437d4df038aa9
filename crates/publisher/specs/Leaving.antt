-- What is left of each subscription, once both its ends were brought together.
use Rattle.std.specs.Prelude.{◌≡◌, ◌⊎◌, ⊤, ℕ, ◌+◌, ◌<◌, ◌≤◌, Option, None, Some, Result, List, [], length, slice_get}
use Rattle.std.specs.Option.{option_or}
use Rattle.feed_cell.specs.Left.{IsLeftOf}
use Rattle.feed_core.specs.AnsweredTurn.{Reply}
use Rattle.feed_core.specs.Prelude.{Signal}
use Rattle.flow_rules.specs.declared.refusal.Refusal.{Refusal}
use Rattle.publisher.specs.Finding.{ends_of}
use Rattle.publisher.specs.Outcome.{AreApart, AreInOrder, HasLane, HasOwnersPart, IsAmong, Judges, StillHolds, outcome_of}
use Rattle.publisher.specs.declared.finishing.close.Closed.{Closed}
use Rattle.publisher.specs.declared.outcome.NamedLane.{NamedLane}
use Rattle.publisher.specs.declared.outcome.Outcome.{Outcome}
use Rattle.publisher.specs.declared.finishing.find.Found.{Found}
use Rattle.publisher.specs.declared.finishing.find.Taken.{Taken}
use Rattle.publisher.specs.declared.finishing.judge.Books.{Books}

-- those with a number below this have a lane, but for the reclaimed ones
abbrev pub AreGiven : {B : Type 0} → List (Found B) → ℕ → List (NamedLane B) → Type 0
AreGiven founds many lanes = (number : ℕ) → number < many
    → HasLane number lanes ⊎ (slice_get founds number ≡ Some Found.Reclaimed)

module _ {B : Type 0} (told : B → List Signal) (replied : B → List Reply) where
  -- this is of the subscription of this number, whose two ends these are
  pub record IsLaneOfTaken (number : ℕ) (taken : Taken B) (left : NamedLane B) : Type 0 where
    pub number_is : left.entry ≡ number
    pub made_before : left.made_before ≡ taken.owner.made_before
    pub name : left.name ≡ taken.facts.name
    pub on_full : left.on_full ≡ taken.facts.on_full
    pub since : left.since ≡ taken.facts.since
    pub dropped : left.dropped ≡ taken.facts.dropped
    pub late : left.late ≡ taken.late
    pub owner : HasOwnersPart taken.owner.handle left.lane
    pub lane : IsLeftOf told replied taken.producer.end None left.lane

  -- what is left of it. If they are the ends of one subscription, it counts what its handle did
  pub record IsLeftOfTaken (number : ℕ) (taken : Taken B) (left : NamedLane B) : Type 0 where
    pub of : IsLaneOfTaken number taken left
    pub own : taken.owner.handle.table ≡ taken.producer.table
        → IsLeftOf told replied taken.producer.end (Some taken.owner.handle) left.lane

  -- a subscription was closed, if both its ends were there
  abbrev pub ClosesOne : ℕ → Found B → Closed B → Type 0
  ClosesOne number (Found.Both taken) (Closed.Lane left) = IsLeftOfTaken number taken left
  ClosesOne number (Found.Both taken) (Closed.Held name) = name ≡ taken.facts.name
  ClosesOne number (Found.Missing name) (Closed.Missing other) = other ≡ name
  ClosesOne number Found.Reclaimed Closed.Reclaimed = ⊤
  ClosesOne number _ _ = ⊥

  -- the first of these that has no lane and was not reclaimed, if there is one: its owner's end was not handed in, or a
  -- thread has its task still. The lanes are as many as have an end, or fewer
  abbrev pub FindsFirst : List (Found B) → ℕ → List (NamedLane B) → List ℕ → Option (List ℕ)
      → Type 0
  FindsFirst founds most lanes held None =
      (length lanes ≡ ends_of founds) × (AreGiven founds most lanes × (held ≡ []))
  FindsFirst founds most lanes held (Some name) = (number : ℕ)
      × (((number < most) × (length lanes < ends_of founds))
      × (AreGiven founds number lanes × ((HasLane number lanes → ⊥)
      × ((slice_get founds number ≡ Some (Found.Missing name)) ⊎ IsAmong number held))))

  -- those with a number below this were closed, each once
  pub record ClosesAll (founds : List (Found B)) (most : ℕ) (lanes : List (NamedLane B))
      (held : List ℕ) (first : Option (List ℕ)) : Type 0 where
    pub each : (i : ℕ) (left : NamedLane B) → slice_get lanes i ≡ Some left
        → (taken : Taken B)
        × ((slice_get founds left.entry ≡ Some (Found.Both taken))
        × ((left.entry < most) × IsLeftOfTaken left.entry taken left))
    pub apart : AreApart lanes
    pub all : (number : ℕ) (taken : Taken B) → number < most
        → slice_get founds number ≡ Some (Found.Both taken)
        → HasLane number lanes ⊎ IsAmong number held
    pub held_are : (number : ℕ) → IsAmong number held
        → (taken : Taken B)
        × ((slice_get founds number ≡ Some (Found.Both taken))
        × ((number < most) × (HasLane number lanes → ⊥)))
    pub finds : FindsFirst founds most lanes held first
    pub ends : length lanes + length held ≤ ends_of founds
    pub few_lanes : length lanes ≤ most
    pub few_held : length held ≤ most

  -- each subscription was closed, and what is left was judged
  pub record Concludes {H : Type 0} (books : Books B)
      (result : Result (Outcome B H) (Refusal × Outcome B H))
      : Type 0 where
    pub first : Option (List ℕ)
    pub closes : ClosesAll books.founds.items (length books.founds.items)
        (outcome_of result).lanes.items (outcome_of result).held.items first
    pub ordered : AreInOrder (outcome_of result).lanes.items
    pub made : (outcome_of result).made ≡ books.made
    pub reclaimed : (outcome_of result).reclaimed ≡ books.reclaimed
    pub published : (outcome_of result).published ≡ books.published
    pub drained : (outcome_of result).drained ≡ books.drained
    pub missing : (name : List ℕ) → option_or first books.missing ≡ Some name
        → StillHolds name result
    pub judged : option_or first books.missing ≡ None
        → Judges (outcome_of result) books.is_closed result
