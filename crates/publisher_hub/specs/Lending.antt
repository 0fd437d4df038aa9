-- What a Hub ends as, if the producer's end of a subscription is lent.
use Rattle.std.specs.Prelude.{◌≡◌, ◌≤◌, ℕ, true, Option, None, Some, slice_get, slice_set}
use Rattle.std.specs.Borrow.{Lends, LendsIf, Fml, MutBor, RattleType}
use Rattle.std.specs.Option.{option_and_then}
use Rattle.std.specs.Vec.{with_item}
use Rattle.flow_rules.specs.Feed.{End}
use Rattle.publisher_hub.specs.Entry.{EntryState}
use Rattle.publisher_hub.specs.Hub.{HubState}
use Rattle.publisher_hub.specs.contracts.entry.Entry.{the_row as entry_row}
use Rattle.publisher_hub.specs.contracts.hub.Hub.{the_row as hub_row}
use Rattle.publisher_hub.specs.declared.entry.Entry.{Entry}
use Rattle.publisher_hub.specs.declared.hub.Hub.{Hub}

-- the producer's end of the subscription of this number, if it is there
abbrev pub feed_at : {F : Type 0} → Hub F → ℕ → Option F
feed_at {F} hub number =
    option_and_then (λ (entry : Entry F). entry.feed) (slice_get hub.entries.items number)

-- a Hub whose subscription of this number, if this one is there, has this producer's end
abbrev pub with_feed : {F : Type 0} → Hub F → ℕ → Option (Entry F) → F → Hub F
with_feed hub number None feed = hub
with_feed hub number (Some entry) feed =
    record hub { entries = with_item hub.entries number (record entry { feed = Some feed }) }

-- what a producer's end may become while it is lent, as by a request, a cancel or a turn: it accepts nothing and isn't
-- closed
pub record MayBecome (e f : End) : Type 0 where
  pub capacity : f.capacity ≡ e.capacity
  pub accepted : f.accepted ≡ e.accepted
  pub closing : f.closing ≡ e.closing
  pub seen : e.seen ≤ f.seen
  pub over : e.over ≡ true → f.over ≡ true

-- a Hub whose subscription of this number, which is this one, has this producer's end
abbrev pub with_end : HubState → ℕ → EntryState → End → HubState
with_end hub number entry end =
    record hub { entries = slice_set hub.entries number (record entry { feed = Some end }) }

module _ (F : RattleType) where
  -- a subscription ends with the last producer's end that is left behind r
  abbrev pub lends_feed : MutBor (Entry F.Denot) → MutBor F.Denot → Fml
  lends_feed entry r = Lends (entry_row F) F entry r (λ feed. record entry.now { feed = Some feed })

  -- the subscription of this number in a Hub ends with the last producer's end that is left behind r
  abbrev pub lends_feed_at : MutBor (Hub F.Denot) → ℕ → MutBor F.Denot → Fml
  lends_feed_at hub number r =
      Lends (hub_row F) F hub r (with_feed hub.now number (slice_get hub.now.entries.items number))

  -- if r is a reference, the subscription of this number ends with what is left behind it; at `None` the Hub stays as
  -- it is
  abbrev pub lends_feed_if : MutBor (Hub F.Denot) → ℕ → Option (MutBor F.Denot) → Fml
  lends_feed_if hub number r = LendsIf (hub_row F) F hub r
      (with_feed hub.now number (slice_get hub.now.entries.items number)) hub.now
