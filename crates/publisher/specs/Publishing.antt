-- What a publication looks for, and what it adds to a submitter's shares; and how several are made one after the other.
use Rattle.std.specs.Prelude.{◌≡◌, ℕ, ◌<◌, ℤ, pos, negsuc, Bool, true, Option, None, IsSome, List, [], ◌∷◌, drop, length}
use Rattle.feed_cell.specs.Offering.{DoesCall}
use Rattle.feed_cell.specs.Parties.{ProducerState, TaskState}
use Rattle.flow_rules.specs.declared.feed.standing.Standing.{Standing}
use Rattle.publisher_hub.specs.Looking.{IsRoom, IsRoomForWaiters, LooksAtAll}
use Rattle.publisher_hub.specs.Publishing.{PublishesTexts, RefusesTexts, both}
use Rattle.publisher_hub.specs.declared.entry.Entry.{Entry}
use Rattle.publisher_hub.specs.declared.hub.Hub.{Hub}
use Rattle.publisher_hub.specs.declared.hub.publish.Publication.{Publication}
use Rattle.publisher_hub.specs.declared.policy.Need.{Need}
use Rattle.publisher_hub.specs.declared.policy.Need.TheVariants.{All, Waiters}
use Rattle.publisher_hub.specs.declared.work.Work.{Work}
use Rattle.publisher.specs.Handles.{NotPublishedState}
use Rattle.publisher.specs.State.{PublisherState, producer_end}

-- this says whether looks showed room at those whose room is needed
abbrev pub IsRoomFor : Need → Bool → ℕ → List (Entry ProducerState) → List (Option Standing) → Type 0
IsRoomFor All room capacity entries glances = IsRoom room capacity glances
IsRoomFor Waiters room capacity entries glances = IsRoomForWaiters room capacity entries glances

-- whether there is the room that is needed: a closed publisher has it, so that nobody waits there; of an open one each
-- live subscription was looked at
pub record LooksForRoom (need : Need) (room : Bool) (old new : PublisherState) : Type 0 where
  pub closed : IsSome old.hub.ending → (room ≡ true) × (new ≡ old)
  pub unclosed : old.hub.ending ≡ None
      → (glances : List (Option Standing))
      × (LooksAtAll producer_end DoesCall glances old.hub new.hub
      × IsRoomFor need room old.hub.capacity old.hub.entries.items glances)
  pub rest : new ≡ record old { hub = new.hub }

-- an offer with this answer found a buffer full, once
abbrev pub drop_of : ℤ → ℕ
drop_of (pos lag) = 0
drop_of (negsuc drops) = 1

-- after what was done with these texts of this source before, more of them were published in their order, by these
-- publications, the last one first, each of which needs this room; and this is what was done then
abbrev pub PublishesBy : Need → ℕ → List (List ℕ) → List Publication → Publication → Publication
    → Hub ProducerState → Hub ProducerState → List (Work TaskState) → List (Work TaskState) → Type 0
PublishesBy need source texts [] before done old new due_old due_new =
    (done ≡ before) × ((new ≡ old) × (due_new ≡ due_old))
PublishesBy need source texts (last ∷ publications) before done old new due_old due_new =
    (middle : Hub ProducerState) × ((due : List (Work TaskState)) × ((so_far : Publication)
    × (PublishesBy need source texts publications before so_far old middle due_old due
    × (PublishesTexts producer_end DoesCall need source (drop so_far.many texts)
    middle new due due_new last
    × (done ≡ both so_far last)))))

-- the next of these texts were published by this source, in their order
abbrev pub PublishesNext : Need → ℕ → List (List ℕ) → Publication → Publication
    → Hub ProducerState → Hub ProducerState → List (Work TaskState) → List (Work TaskState) → Type 0
PublishesNext need source texts before done old new due_old due_new = (publications : List Publication)
    × PublishesBy need source texts publications before done old new due_old due_new

-- the next of these texts were published, and the one after them was not
pub record StopsAt (need : Need) (source : ℕ) (texts : List (List ℕ))
    (before done : Publication) (why : NotPublishedState) (old new : PublisherState)
    (due_old due_new : List (Work TaskState)) : Type 0 where
  pub less : done.many < length texts
  pub middle : PublisherState
  pub next : PublishesNext need source texts before done old.hub middle.hub due_old due_new
  pub why_not : RefusesTexts producer_end DoesCall need middle.hub new.hub why.reason
  pub needs : why.need ≡ need
