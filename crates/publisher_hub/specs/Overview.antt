-- What a round of looks shows of all subscriptions together.
use Rattle.std.specs.Prelude.{◌≡◌, ◌&&◌, ◌||◌, not, Bool, ◌≤◌, ◌+◌, ℕ, max, min, fold, true, false, Option, List, [], ◌∷◌, length}
use Rattle.flow_rules.specs.declared.feed.standing.Standing.{Standing}
use Rattle.publisher_hub.specs.Lists.{greatest}
use Rattle.publisher_hub.specs.Looking.{ShowsRoom, full_by, living, living_by, room_by, waiting, waiting_by}
use Rattle.publisher_hub.specs.declared.entry.Entry.{Entry}
use Rattle.publisher_hub.specs.declared.hub.look.Overview.{Overview}
use Rattle.publisher_hub.specs.declared.hub.room.Room.{Room}

-- this is what these looks showed of these subscriptions, with buffers of this capacity
pub record Shows {F : Type 0} (capacity : ℕ) (entries : List (Entry F))
    (glances : List (Option Standing)) (overview : Overview) : Type 0 where
  pub living : overview.living ≡ length (living glances)
  pub most_waiting : overview.most_waiting ≡ greatest (waiting glances)
  pub room : ShowsRoom overview.room capacity entries glances

-- what another look adds to what those before it showed of room: whether this one showed a full buffer, and whether
-- publications wait for that subscription
pub record CountsRoom (capacity : ℕ) (waited : Bool) (glance : Option Standing) (old new : Room)
    : Type 0 where
  pub has : Bool
  pub full : has ≡ false → (number : ℕ) → full_by capacity number glance ≡ number ∷ []
  pub not_full : has ≡ true → (number : ℕ) → full_by capacity number glance ≡ []
  pub everywhere : new.everywhere ≡ (old.everywhere && has)
  pub for_waiters : new.for_waiters ≡ (old.for_waiters && (has || not waited))
  pub least : (number : ℕ) → new.least ≡ fold min old.least (room_by capacity number glance)

-- what another look adds to what those before it showed, whichever subscription it was of
pub record CountsLook (capacity : ℕ) (waited : Bool) (glance : Option Standing) (old new : Overview)
    : Type 0 where
  pub living : (number : ℕ) → new.living ≡ old.living + length (living_by number glance)
  pub few : new.living ≤ old.living + 1
  pub most_waiting : (number : ℕ)
      → new.most_waiting ≡ fold max old.most_waiting (waiting_by number glance)
  pub room : CountsRoom capacity waited glance old.room new.room
