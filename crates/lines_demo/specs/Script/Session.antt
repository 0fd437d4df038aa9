-- How a script's publisher and its list of the woken stand for where the script stands, and what holds of them between two
-- commands.
use Rattle.std.specs.Prelude.{◌≡◌, ℕ, true, false, is_some, Option, Some, None, List, map, slice_get}
use Rattle.feed_core.specs.Feed.{end_of}
use Rattle.feed_core.specs.LaneCalls.{IsCapacity}
use Rattle.publisher_hub.specs.Hub.{hub_of}
use Rattle.publisher_hub.specs.Sound.{IsSound}
use Rattle.publisher_hub.specs.declared.entry.Entry.{Entry}
use Rattle.publisher_hub.specs.declared.hub.Hub.{Hub}
use Rattle.publisher_hub.specs.declared.work.Work.{Work}
use Rattle.lines_demo.specs.Prelude.{DeskState, Overtake, desk_without_looks}
use Rattle.lines_demo.specs.Script.Kept.{IsReachable}
use Rattle.lines_demo.specs.Script.State.{SubscriptionState, SessionState, state_at_start}
use Rattle.lines_demo.specs.Script.Subscribing.{desk_at_start}
use Rattle.lines_demo.specs.declared.script.session.beginning.Beginning.{Beginning}
use Rattle.lines_demo.specs.declared.script.session.publishing.TheConstants.{SOURCE}

-- what is there of a subscription, which always has its desk
abbrev pub desk_in : Option DeskState → DeskState
desk_in None = desk_at_start Overtake 0
desk_in (Some desk) = desk

-- what a script sees of a subscription of its publisher
abbrev pub subscription_of : Entry DeskState → SubscriptionState
subscription_of entry =
    record {
      name = entry.name;
      since = entry.since;
      dropped = entry.dropped;
      desk = desk_without_looks (desk_in entry.feed);
    }

-- where a script stands with this publisher, this many subscribers left, these woken, and this beginning
abbrev pub state_of : Hub DeskState → ℕ → List ℕ → Beginning → SessionState
state_of hub stock woken beginning = record {
  capacity = hub.capacity;
  beginning = beginning;
  closing = hub.ending;
  serial = hub.next;
  stock = stock;
  subscriptions = map subscription_of hub.entries.items;
  woken = woken;
}

-- the numbers of the subscriptions whose tasks these are
abbrev pub numbers_of : List (Work Unit) → List ℕ
numbers_of due = map (λ (work : Work Unit). work.entry) due

-- a subscription of a script: its desk is there and its subscriber is steady, and if it is retired it has ended
pub record IsScriptEntry (entry : Entry DeskState) : Type 0 where
  pub desk : DeskState
  pub there : entry.feed ≡ Some desk
  pub steady : desk.is_steady ≡ true
  pub ended : entry.retired ≡ true → is_some desk.lane.how ≡ true

-- each subscription of a Hub is one of a script
abbrev pub AreScriptEntries : List (Entry DeskState) → Type 0
AreScriptEntries entries =
    (k : ℕ) (entry : Entry DeskState) → slice_get entries k ≡ Some entry → IsScriptEntry entry

-- the publisher of a script: all its items have one source
pub record IsScriptHub (hub : Hub DeskState) : Type 0 where
  pub sound : IsSound (hub_of end_of hub)
  pub sized : IsCapacity hub.capacity
  pub entries : AreScriptEntries hub.entries.items
  pub numbered : slice_get hub.counts.items SOURCE ≡ Some hub.next

-- what holds of a session; until its beginning is over it stands where a script starts
pub record IsSession (hub : Hub DeskState) (stock : ℕ) (woken : List ℕ) (beginning : Beginning)
    : Type 0 where
  pub publisher : IsScriptHub hub
  pub reached : IsReachable (state_of hub stock woken beginning)
  pub fresh : beginning.is_over ≡ false
      → state_of hub stock woken beginning
      ≡ record (state_at_start stock) { capacity = hub.capacity; beginning = beginning }
