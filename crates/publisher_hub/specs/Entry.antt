-- A subscription of a Hub, as its clauses see it: its producer's end is what the publisher knows of it.
use Rattle.std.specs.Prelude.{ℕ, Bool, Option, option_map, if◌then◌else◌, List}
use Rattle.close_count.specs.declared.ticket.Ticket.{Ticket}
use Rattle.flow_rules.specs.Feed.{End}
use Rattle.publisher_hub.specs.declared.entry.Entry.{Entry}
use Rattle.publisher_hub.specs.declared.policy.OnFull.{OnFull}

-- a subscription: its name; whether publications wait for it; the next serial number when it was subscribed, and when
-- it was retired; how many publications it dropped; whether it was retired; what the publisher knows of its producer's
-- end; and its ticket
pub record EntryState : Type 0 where
  pub name : List ℕ
  pub on_full : OnFull
  pub since : ℕ
  pub until : ℕ
  pub dropped : ℕ
  pub retired : Bool
  pub feed : Option End
  pub ticket : Option Ticket

-- what is stored of a subscription whose producer's end means this
abbrev pub entry_of : {F : Type 0} → (F → End) → Entry F → EntryState
entry_of meaning entry = record {
  name = entry.name;
  on_full = entry.on_full;
  since = entry.since;
  until = entry.until;
  dropped = entry.dropped;
  retired = entry.retired;
  feed = option_map meaning entry.feed;
  ticket = entry.ticket;
}

-- up to which serial number it takes part: the next one, until it is retired
abbrev pub until_of : ℕ → EntryState → ℕ
until_of next entry = if entry.retired then entry.until else next
