-- What callers see of a Ticket.
use Rattle.close_count.specs.Count.{CountId}
use Rattle.close_count.specs.declared.ticket.Ticket.{Ticket}

-- the count that a ticket is of
abbrev pub count_of_ticket : Ticket → CountId
count_of_ticket t = t.seat.table_id
