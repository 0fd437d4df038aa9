-- What becomes of the ticket of a subscription that has ended.
use Rattle.std.specs.Prelude.{◌≡◌, ℕ, ◌&&◌, Bool, if◌then◌else◌, Option, None, Some, IsSome}
use Rattle.close_count.specs.Spent.{was_last}
use Rattle.close_count.specs.declared.spent.Spent.{Spent}
use Rattle.close_count.specs.declared.ticket.Ticket.{Ticket}
use Rattle.feed_cell.specs.Offering.{DoesCall}
use Rattle.publisher_hub.specs.Tickets.{RetiresIfEndedAt}
use Rattle.publisher.specs.State.{PublisherState, producer_end}

-- a ticket was spent. What is left of it is kept if it was the last and the publisher is closed, as it is then
abbrev pub last_after : Spent → Bool → Option Spent → Option Spent
last_after spent closed last = if was_last spent && closed then Some spent else last

-- the subscription of this number was asked for its ticket, and the ticket, if it came out, was spent
pub record SpendsTicket (entry : ℕ) (old new : PublisherState) : Type 0 where
  pub ticket : Option Ticket
  pub asks : RetiresIfEndedAt producer_end DoesCall entry ticket old.hub new.hub
  pub none : ticket ≡ None → new.last ≡ old.last
  pub stays : IsSome old.last → IsSome new.last
  pub counted : new.counted ≡ old.counted
