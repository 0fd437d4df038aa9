-- What the adding of a ticket does to a Hub's opening ticket.
use Rattle.std.specs.Prelude.{◌≡◌, ◌+◌, ⊤, Option, None, Some}
use Rattle.close_count.specs.Opening.{count_of_opening, tickets_made}
use Rattle.close_count.specs.Ticket.{count_of_ticket}
use Rattle.close_count.specs.declared.opening.Opening.{Opening}
use Rattle.close_count.specs.declared.rule.TheConstants.{MOST_TICKETS}
use Rattle.close_count.specs.declared.ticket.Ticket.{Ticket}
use Rattle.flow_rules.specs.declared.refusal.Refusal.{Refusal}

-- the opening ticket that was there made another ticket of its count
pub record MakesTicket (ticket : Ticket) (before after : Option Opening) : Type 0 where
  pub held : Opening
  pub left : Opening
  pub was : before ≡ Some held
  pub now : after ≡ Some left
  pub of_count : count_of_ticket ticket ≡ count_of_opening held
  pub same_count : count_of_opening left ≡ count_of_opening held
  pub one_more : tickets_made left ≡ tickets_made held + 1

-- a ticket was made
abbrev pub AddsTicket : Option Ticket → Option Opening → Option Opening → Type 0
AddsTicket None before after = ⊥
AddsTicket (Some ticket) before after = MakesTicket ticket before after

-- why no ticket was made: there is no opening ticket, or it made as many as it may; or memory is refused
abbrev pub RefusesTicket : Refusal → Option Opening → Type 0
RefusesTicket Refusal.Exhausted None = ⊤
RefusesTicket Refusal.Exhausted (Some opening) = tickets_made opening ≡ MOST_TICKETS
RefusesTicket Refusal.NoMemory (Some opening) = tickets_made opening ≡ MOST_TICKETS → ⊥
RefusesTicket _ _ = ⊥
