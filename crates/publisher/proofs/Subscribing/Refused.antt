-- Why no ticket is made for a subscription.
use Rattle.std.proofs.Common.{◌≡◌, ℕ, Option, Result, Ok, Err, List}
use Rattle.std.specs.Prelude.{IfErr}
use Rattle.close_count.specs.declared.opening.Opening.{Opening}
use Rattle.close_count.specs.declared.ticket.Ticket.{Ticket}
use Rattle.feed_cell.specs.Offering.{DoesCall}
use Rattle.feed_cell.specs.Parties.{ProducerState, TaskState}
use Rattle.flow_rules.specs.declared.refusal.Refusal.{Refusal}
use Rattle.publisher_hub.specs.OpeningTicket.{RefusesTicket}
use Rattle.publisher_hub.specs.Subscribing.{Refuses}
use Rattle.publisher_hub.specs.declared.hub.Hub.{Hub}
use Rattle.publisher_hub.specs.declared.work.Work.{Work}
use Rattle.publisher.specs.Handles.{RefusesSubscribing}
use Rattle.publisher.specs.State.{producer_end}
use Rattle.publisher.specs.Subscribing.{IsDueAfter}

no_ticket : (refusal : Refusal) (opening : Option Opening) → RefusesTicket refusal opening → RefusesSubscribing refusal
no_ticket Refusal.Exhausted opening why = record {}
no_ticket Refusal.NoMemory opening why = record {}
no_ticket Refusal.Duplicate opening why = record {}
no_ticket Refusal.TooMany opening why = record {}
no_ticket Refusal.BadCapacity opening why = why
no_ticket (Refusal.Closed ending) opening why = why
no_ticket Refusal.LineTooLong opening why = why
no_ticket Refusal.BadWorkers opening why = why
no_ticket (Refusal.StillHeld other) opening why = why
no_ticket (Refusal.Unsettled names) opening why = why
no_ticket Refusal.Unknown opening why = why
no_ticket Refusal.WouldWait opening why = why
no_ticket Refusal.BadCommand opening why = why

pub ticket_refused : (result : Result (Option Ticket) Refusal) (opening : Option Opening)
    → IfErr result (λ refusal. RefusesTicket refusal opening) → IfErr result (λ refusal. RefusesSubscribing refusal)
ticket_refused (Ok ticket) opening why = record {}
ticket_refused (Err refusal) opening why = no_ticket refusal opening why

-- what is due after a refusal of the Hub
pub due_refused : (name : List ℕ) (most : ℕ) (refusal : Refusal) (before after : List (Work TaskState))
    (old new : Hub ProducerState) → Refuses producer_end DoesCall name most refusal before after old new
    → IsDueAfter name most refusal before after old new
due_refused name most Refusal.Duplicate before after old new is = is
due_refused name most Refusal.NoMemory before after old new is = is.1
due_refused name most Refusal.BadCapacity before after old new is = is.1
due_refused name most (Refusal.Closed ending) before after old new is = is.1
due_refused name most Refusal.TooMany before after old new is = is.1
due_refused name most Refusal.LineTooLong before after old new is = is.1
due_refused name most Refusal.BadWorkers before after old new is = is.1
due_refused name most (Refusal.StillHeld other) before after old new is = is.1
due_refused name most (Refusal.Unsettled names) before after old new is = is.1
due_refused name most Refusal.Unknown before after old new is = is.1
due_refused name most Refusal.WouldWait before after old new is = is.1
due_refused name most Refusal.BadCommand before after old new is = is.1
due_refused name most Refusal.Exhausted before after old new is = is.1

-- and after one of a ticket
pub due_unticketed : (name : List ℕ) (most : ℕ) (result : Result (Option Ticket) Refusal) (opening : Option Opening)
    (before after : List (Work TaskState)) (old new : Hub ProducerState)
    → IfErr result (λ refusal. RefusesTicket refusal opening) → after ≡ before
    → IfErr result (λ refusal. IsDueAfter name most refusal before after old new)
due_unticketed name most (Ok ticket) opening before after old new why same = record {}
due_unticketed name most (Err Refusal.Exhausted) opening before after old new why same = same
due_unticketed name most (Err Refusal.NoMemory) opening before after old new why same = same
due_unticketed name most (Err Refusal.Duplicate) opening before after old new why same = elim why [ ]
due_unticketed name most (Err Refusal.TooMany) opening before after old new why same = same
due_unticketed name most (Err Refusal.BadCapacity) opening before after old new why same = same
due_unticketed name most (Err (Refusal.Closed ending)) opening before after old new why same = same
due_unticketed name most (Err Refusal.LineTooLong) opening before after old new why same = same
due_unticketed name most (Err Refusal.BadWorkers) opening before after old new why same = same
due_unticketed name most (Err (Refusal.StillHeld other)) opening before after old new why same = same
due_unticketed name most (Err (Refusal.Unsettled names)) opening before after old new why same = same
due_unticketed name most (Err Refusal.Unknown) opening before after old new why same = same
due_unticketed name most (Err Refusal.WouldWait) opening before after old new why same = same
due_unticketed name most (Err Refusal.BadCommand) opening before after old new why same = same
