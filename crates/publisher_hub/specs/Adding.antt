-- What the adding of a subscription does to a Hub, and the leaving out of the numbers of the retired ones.
use Rattle.std.specs.Prelude.{◌≡◌, ℕ, Bool, true, false, not, Option, None, Some, List, [], ◌∷◌, ◌++◌, length, filter, slice_get}
use Rattle.close_count.specs.declared.ticket.Ticket.{Ticket}
use Rattle.flow_rules.specs.Feed.{End}
use Rattle.publisher_hub.specs.Entry.{EntryState}
use Rattle.publisher_hub.specs.Hub.{HubState, Progress}
use Rattle.publisher_hub.specs.Sound.{AreLive}
use Rattle.publisher_hub.specs.declared.policy.OnFull.{OnFull}

-- whether the subscription of this number is there, and isn't retired
abbrev pub goes_on : List EntryState → ℕ → Bool
goes_on entries number = by (slice_get entries number) where
  by : Option EntryState → Bool
  by None = false
  by (Some entry) = not entry.retired

-- these numbers, without those of subscriptions that don't go on
abbrev pub live_of : List EntryState → List ℕ → List ℕ
live_of entries numbers = filter (goes_on entries) numbers

-- the numbers of all subscriptions that aren't retired, and of no others, rising
pub record AreAllLive (live : List ℕ) (entries : List EntryState) : Type 0 where
  pub are : AreLive live entries
  pub only : (i n : ℕ) → slice_get live i ≡ Some n
      → (entry : EntryState) × ((slice_get entries n ≡ Some entry) × (entry.retired ≡ false))

-- a producer's end of this capacity that nothing was done with
pub record IsFresh (capacity : ℕ) (e : End) : Type 0 where
  pub capacity_is : e.capacity ≡ capacity
  pub empty : e.accepted ≡ []
  pub untaken : e.seen ≡ 0
  pub running : e.over ≡ false
  pub unclosed : e.closing ≡ None
  pub undoubled : e.state ≡ false
  pub is_ready : e.ready ≡ true

-- a new subscription of a Hub whose publications have come this far
abbrev pub new_entry : Progress → List ℕ → OnFull → End → Option Ticket → EntryState
new_entry progress name on_full e ticket = record {
  name = name;
  on_full = on_full;
  since = progress.next;
  until = progress.next;
  dropped = 0;
  retired = false;
  feed = Some e;
  ticket = ticket;
}

-- a Hub with another subscription
abbrev pub hub_with : EntryState → HubState → HubState
hub_with entry hub = record hub {
  entries = hub.entries ++ entry ∷ [];
  live = hub.live ++ length hub.entries ∷ [];
}
