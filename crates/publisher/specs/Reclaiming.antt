-- What becomes of a subscription that is to be reclaimed before the end of its publisher.
use Rattle.std.specs.Prelude.{◌≡◌, ◌⊎◌, ◌+◌, ⊤, ℕ, Bool, true, false, is_some, Option, None, Some, IsSome, option_map, List, [], ◌∷◌, slice_get}
use Rattle.feed_core.specs.AnsweredTurn.{Reply}
use Rattle.close_count.specs.Spent.{count_of_spent}
use Rattle.close_count.specs.Ticket.{count_of_ticket}
use Rattle.close_count.specs.declared.spent.Spent.{Spent}
use Rattle.close_count.specs.declared.ticket.Ticket.{Ticket}
use Rattle.feed_cell.specs.Offering.{DoesCall}
use Rattle.feed_cell.specs.Parties.{ProducerState}
use Rattle.feed_core.specs.Lane.{LaneState}
use Rattle.feed_core.specs.Prelude.{Signal}
use Rattle.flow_rules.specs.declared.feed.standing.Standing.{Standing}
use Rattle.flow_rules.specs.declared.refusal.Refusal.{Refusal}
use Rattle.publisher_hub.specs.Entry.{entry_of}
use Rattle.publisher_hub.specs.Facts.{facts_of}
use Rattle.publisher_hub.specs.Looking.{LooksAtOne}
use Rattle.publisher_hub.specs.Reclaiming.{TakesEndedAt}
use Rattle.publisher_hub.specs.declared.entry.Entry.{Entry}
use Rattle.publisher_hub.specs.declared.hub.Facts.{Facts}
use Rattle.publisher.specs.Finishing.{IsCountedIn}
use Rattle.publisher.specs.Handles.{SubscriptionState}
use Rattle.publisher.specs.Outcome.{IsLane}
use Rattle.publisher.specs.Spending.{last_after}
use Rattle.publisher.specs.Standing.{has_ended_by}
use Rattle.publisher.specs.State.{PublisherState, producer_end}
use Rattle.publisher.specs.Tickets.{IsLate}
use Rattle.publisher.specs.declared.outcome.NamedLane.{NamedLane}
use Rattle.publisher.specs.declared.finishing.find.Taken.{Taken}

-- a ticket that came out was spent; what is left of it is kept if it was the last
abbrev pub IsSpent : Option Ticket → PublisherState → PublisherState → Type 0
IsSpent None old new = new.last ≡ old.last
IsSpent (Some ticket) old new = (spent : Spent) × ((count_of_spent spent ≡ count_of_ticket ticket)
    × (new.last ≡ last_after spent (is_some old.hub.ending) old.last))

-- the subscription of this number was looked at; if that showed its end, its producer's end was taken out, and its
-- ticket spent
pub record TakesEnd (number : ℕ) (producer : Option ProducerState) (old new : PublisherState)
    : Type 0 where
  pub ticket : Option Ticket
  pub takes : TakesEndedAt producer_end DoesCall number
      (option_map (λ (it : ProducerState). (it, ticket)) producer) old.hub new.hub
  pub spent : IsSpent ticket old new
  pub counted : new.counted ≡ old.counted

-- a look at the subscription of this number showed whether it has ended, and nothing else changed
pub record ShowsEnd (number : ℕ) (ended : Bool) (old new : PublisherState) : Type 0 where
  pub glance : Option Standing
  pub looks : LooksAtOne producer_end DoesCall number glance old.hub new.hub
  pub ended_is : ended ≡ has_ended_by glance
  pub rest : new ≡ record old { hub = new.hub }

-- the Hub knows this of the subscription of this number
pub record Knows (state : PublisherState) (number : ℕ) (facts : Facts) : Type 0 where
  pub entry : Entry ProducerState
  pub stands : slice_get state.hub.entries.items number ≡ Some entry
  pub facts_are : facts ≡ facts_of (entry_of producer_end entry)

-- both ends of the subscription with this owner's end, which has ended, were taken out, with what is known of it, and
-- it was counted as reclaimed
pub record Reclaims {B : Type 0} (owner : SubscriptionState) (taken : Taken B)
    (old new : PublisherState) : Type 0 where
  pub middle : PublisherState
  pub looks : ShowsEnd owner.entry true old middle
  pub takes : TakesEnd owner.entry (Some taken.producer) middle new
  pub known : Knows middle owner.entry taken.facts
  pub late : (taken.late ≡ true → IsLate middle.counted owner.entry)
      × (IsLate middle.counted owner.entry → taken.late ≡ true)
  pub owner_is : taken.owner ≡ owner
  pub over : taken.producer.end.over ≡ true
  pub counted : IsCountedIn old.hub.next old.hub.dropping taken
  -- it is counted once, and its drops stay among those of the publisher
  pub census : new.census ≡ record old.census { reclaimed = old.census.reclaimed + 1 }
  pub dropping : new.hub.dropping ≡ old.hub.dropping

-- a subscription of this name is refused in this way: by its name if it has not ended or a thread has its task; or
-- because memory was refused
abbrev pub IsRefusedBy : List ℕ → Refusal → Type 0
IsRefusedBy name Refusal.NoMemory = ⊤
IsRefusedBy name (Refusal.StillHeld other) = other ≡ name
IsRefusedBy name (Refusal.Unsettled names) = names.items ≡ name ∷ []
IsRefusedBy name _ = ⊥

-- one that has not ended is refused by its name, or because memory was refused
abbrev pub NamesOne : List ℕ → Refusal → Type 0
NamesOne name (Refusal.StillHeld other) = ⊥
NamesOne name refusal = IsRefusedBy name refusal

-- what `reclaim` may be refused with
abbrev pub IsRefusalOfReclaim : Refusal → Type 0
IsRefusalOfReclaim refusal = (name : List ℕ) × IsRefusedBy name refusal

-- a second look at the subscription of this number showed that it goes on
abbrev pub LooksTwice : ℕ → PublisherState → PublisherState → Type 0
LooksTwice number old new =
    (middle : PublisherState) × (ShowsEnd number true old middle × TakesEnd number None middle new)

-- it was refused, and nothing changed but by looks: 8 only if a look showed its end, and 9 only if one showed that it
-- goes on
abbrev pub LooksBefore : ℕ → Refusal → PublisherState → PublisherState → Type 0
LooksBefore number (Refusal.StillHeld name) old new = ShowsEnd number true old new
LooksBefore number (Refusal.Unsettled names) old new =
    ShowsEnd number false old new ⊎ LooksTwice number old new
LooksBefore number _ old new =
    ((ended : Bool) × ShowsEnd number ended old new) ⊎ LooksTwice number old new

pub record RefusesReclaim (number : ℕ) (refusal : Refusal) (old new : PublisherState) : Type 0 where
  pub is : IsRefusalOfReclaim refusal
  pub looks : LooksBefore number refusal old new
  pub census : new.census ≡ old.census

-- what is left of a subscription that was reclaimed, and the lane that it was
pub record IsReclaimed {B : Type 0} (told : B → List Signal) (replied : B → List Reply) (left : NamedLane B) : Type 0 where
  -- how many items were published until then
  pub published : ℕ
  pub lane : LaneState
  pub is : IsLane told replied published left lane
  pub rests : left.lane.running ≡ false
  pub ended : IsSome left.lane.ending
  pub late : left.late ≡ true → left.since ≡ published
