-- What becomes of a subscription that is retired if a look shows its end, and of its ticket.
use Rattle.std.specs.Prelude.{◌≡◌, ℕ, true, false, if◌then◌else◌, Option, None, Some, slice_get, slice_set}
use Rattle.std.specs.Option.{option_and_then}
use Rattle.std.specs.Vec.{with_item}
use Rattle.close_count.specs.declared.ticket.Ticket.{Ticket}
use Rattle.flow_rules.specs.Call.{Call}
use Rattle.flow_rules.specs.Feed.{End}
use Rattle.flow_rules.specs.declared.feed.standing.Standing.{Standing}
use Rattle.publisher_hub.specs.Hub.{OnlyEntriesChange, hub_of}
use Rattle.publisher_hub.specs.Looking.{Stands}
use Rattle.publisher_hub.specs.declared.entry.Entry.{Entry}
use Rattle.publisher_hub.specs.declared.hub.Hub.{Hub}

module _ {F T : Type 0} (meaning : F → End) (does : F → Call T → F → Type 0) where
  -- a subscription was looked at, retired or not. If that showed its end, it is retired from then on, at this serial
  -- number if it wasn't before, and its ticket is taken out; else nothing changed but by the look
  pub record HandsOut (next : ℕ) (standing : Standing) (ticket : Option Ticket) (old new : Entry F)
      : Type 0 where
    pub before : F
    pub after : F
    pub was : old.feed ≡ Some before
    pub stands : Stands meaning does standing before after
    pub spent : standing.ended ≡ true → ticket ≡ old.ticket
    pub ended : standing.ended ≡ true → new ≡ record old {
      feed = Some after;
      retired = true;
      until = if old.retired then old.until else next;
      ticket = None;
    }
    pub kept : standing.ended ≡ false → ticket ≡ None
    pub stays : standing.ended ≡ false → new ≡ record old { feed = Some after }

  -- a subscription was looked at, and retired if that showed its end; one whose producer's end was taken out is left
  -- alone
  abbrev pub RetiresIfEnded : ℕ → Option Standing → Option Ticket → Entry F → Entry F → Type 0
  RetiresIfEnded next None ticket old new = (old.feed ≡ None) × ((ticket ≡ None) × (new ≡ old))
  RetiresIfEnded next (Some standing) ticket old new = HandsOut next standing ticket old new

  -- that happened to the subscription of this number in a Hub, and nothing else changed
  pub record RetiresIfEndedAt (number : ℕ) (ticket : Option Ticket) (old new : Hub F) : Type 0 where
    pub rest : OnlyEntriesChange (hub_of meaning old) (hub_of meaning new)
    pub none : slice_get old.entries.items number ≡ None
        → (ticket ≡ None) × (new.entries.items ≡ old.entries.items)
    pub there : (before : Entry F) → slice_get old.entries.items number ≡ Some before
        → (glance : Option Standing) × (after : Entry F)
        × (RetiresIfEnded old.next glance ticket before after
        × (new.entries.items ≡ slice_set old.entries.items number after))

-- the ticket of the subscription of this number, if it is there
abbrev pub ticket_at : {F : Type 0} → Hub F → ℕ → Option Ticket
ticket_at {F} hub number =
    option_and_then (λ (entry : Entry F). entry.ticket) (slice_get hub.entries.items number)

-- a Hub whose subscription of this number, if this one is there, has no ticket
abbrev pub without_ticket : {F : Type 0} → Hub F → ℕ → Option (Entry F) → Hub F
without_ticket hub number None = hub
without_ticket hub number (Some entry) =
    record hub { entries = with_item hub.entries number (record entry { ticket = None }) }
