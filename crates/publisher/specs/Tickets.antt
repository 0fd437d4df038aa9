-- Who holds the tickets of the count that finds a publisher's last subscription.
use Rattle.std.specs.Prelude.{◌≡◌, ◌⊎◌, ℕ, ◌<◌, ◌≤◌, true, Option, None, Some, IsSome, slice_get}
use Rattle.close_count.specs.Count.{CountId}
use Rattle.close_count.specs.Opening.{count_of_opening}
use Rattle.close_count.specs.Spent.{count_of_spent, was_last}
use Rattle.close_count.specs.Ticket.{count_of_ticket}
use Rattle.close_count.specs.declared.opening.Opening.{Opening}
use Rattle.close_count.specs.declared.spent.Spent.{Spent}
use Rattle.close_count.specs.declared.ticket.Ticket.{Ticket}
use Rattle.flow_rules.specs.Feed.{End}
use Rattle.publisher_hub.specs.Entry.{EntryState}
use Rattle.publisher_hub.specs.Hub.{HubState}
use Rattle.publisher_hub.specs.declared.hub.Hub.{Hub}

-- the subscription has ended
abbrev pub IsOver : EntryState → Type 0
IsOver entry = (e : End) → entry.feed ≡ Some e → e.over ≡ true

-- the subscription of this number was made after the close, before which this many were
abbrev pub IsLate : Option ℕ → ℕ → Type 0
IsLate counted number = (many : ℕ) × ((counted ≡ Some many) × (many ≤ number))

-- a subscription from before the close has a ticket of this count until it has ended. Since a later one was made
-- nothing was published
pub record IsTicketed (count : CountId) (counted : Option ℕ) (next number : ℕ) (entry : EntryState)
    : Type 0 where
  pub of_count : (ticket : Ticket) → entry.ticket ≡ Some ticket → count_of_ticket ticket ≡ count
  pub spent : entry.ticket ≡ None → IsOver entry ⊎ IsLate counted number
  pub late : IsLate counted number → entry.since ≡ next

-- the opening and all tickets are of this count; and so is what is left of the last ticket, if that was spent, which
-- it is only once the publisher is closed
pub record IsOfCount (count : CountId) (hub : HubState) (counted : Option ℕ) (last : Option Spent)
    : Type 0 where
  pub opening : (opening : Opening) → hub.opening ≡ Some opening → count_of_opening opening ≡ count
  pub entries : (k : ℕ) (entry : EntryState) → slice_get hub.entries k ≡ Some entry
      → IsTicketed count counted hub.progress.next k entry
  pub last_is : (spent : Spent) → last ≡ Some spent
      → (count_of_spent spent ≡ count) × (was_last spent ≡ true)
  pub closed : IsSome last → IsSome hub.progress.ending

-- the opening, all tickets and what is left of the last are of one count
abbrev pub AreOfOneCount : HubState → Option ℕ → Option Spent → Type 0
AreOfOneCount hub counted last = (count : CountId) × IsOfCount count hub counted last

-- they are of one count, however many subscriptions there were at the close
abbrev pub AreOfOneCountOf : HubState → Option Spent → Type 0
AreOfOneCountOf hub last = (counted : Option ℕ) × AreOfOneCount hub counted last

-- what a subscription gets that is to be added: a ticket of the count of this Hub's opening, or none if the Hub is
-- closed
abbrev pub IsTicketFor : {F : Type 0} → Hub F → Option Ticket → Type 0
IsTicketFor hub None = IsSome hub.ending
IsTicketFor hub (Some ticket) = (opening : Opening)
    × ((hub.opening ≡ Some opening) × (count_of_ticket ticket ≡ count_of_opening opening))

-- the last ticket of a count, and another one of it
abbrev pub IsBeside : Option Spent → Option Ticket → Type 0
IsBeside last other = (spent : Spent) (ticket : Ticket) → last ≡ Some spent → other ≡ Some ticket
    → (count_of_spent spent ≡ count_of_ticket ticket) × (was_last spent ≡ true)

-- the subscriptions with a number below this have no ticket
abbrev pub AreSpent : ℕ → HubState → Type 0
AreSpent many hub = (k : ℕ) (entry : EntryState) → k < many → slice_get hub.entries k ≡ Some entry
    → entry.ticket ≡ None
