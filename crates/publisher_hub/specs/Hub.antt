-- A Hub, as its clauses see it: all that it stores but the room that it keeps.
use Rattle.std.specs.Prelude.{◌≡◌, ℕ, Option, None, List, [], map, replicate}
use Rattle.close_count.specs.declared.opening.Opening.{Opening}
use Rattle.flow_rules.specs.Feed.{End}
use Rattle.flow_rules.specs.declared.ending.Ending.{Ending}
use Rattle.publisher_hub.specs.Entry.{EntryState, entry_of}
use Rattle.publisher_hub.specs.declared.hub.Hub.{Hub}
use Rattle.publisher_hub.specs.declared.hub.TheConstants.{MOST_SOURCES}

-- how far the publications have come: the capacity of each buffer; the next serial number; how many items each source
-- has published; how the publisher was closed, if it was; and how many offers were dropped at any subscription
pub record Progress : Type 0 where
  pub capacity : ℕ
  pub next : ℕ
  pub counts : List ℕ
  pub ending : Option Ending
  pub dropping : ℕ

-- a Hub: how far the publications have come; how many sources were handed out; the opening ticket; all subscriptions,
-- in order; and the numbers of those that may be live
pub record HubState : Type 0 where
  pub progress : Progress
  pub sources : ℕ
  pub opening : Option Opening
  pub entries : List EntryState
  pub live : List ℕ

-- what a Hub stores whose producers' ends mean this
abbrev pub hub_of : {F : Type 0} → (F → End) → Hub F → HubState
hub_of meaning hub = record {
  progress = record {
    capacity = hub.capacity;
    next = hub.next;
    counts = hub.counts.items;
    ending = hub.ending;
    dropping = hub.dropping;
  };
  sources = hub.sources;
  opening = hub.opening;
  entries = map (entry_of meaning) hub.entries.items;
  live = hub.live.items;
}

-- nothing of a Hub changed but its subscriptions
abbrev pub OnlyEntriesChange : HubState → HubState → Type 0
OnlyEntriesChange old new = new ≡ record old { entries = new.entries }

-- nothing of a Hub changed but its subscriptions and the numbers of those that may be live
abbrev pub OnlySubscriptionsChange : HubState → HubState → Type 0
OnlySubscriptionsChange old new = new ≡ record old { entries = new.entries; live = new.live }

-- a Hub without subscriptions, with this capacity and this next serial number
abbrev pub hub_at_start : ℕ → ℕ → HubState
hub_at_start capacity serial = record {
  progress = record {
    capacity = capacity;
    next = serial;
    counts = replicate MOST_SOURCES 0;
    ending = None;
    dropping = 0;
  };
  sources = 0;
  opening = None;
  entries = [];
  live = [];
}
