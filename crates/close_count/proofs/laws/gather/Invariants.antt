use Rattle.std.proofs.Common.{◌≡◌, ◌+◌, ◌≤◌, length}
use Rattle.std.specs.Prelude.{All, count_by}
use Rattle.close_count.specs.Spent.{count_of_spent, was_last}
use Rattle.close_count.proofs.laws.gather.Given as goal

abbrev pub invariant-loop-ticket : goal.invariant-loop-ticket
invariant-loop-ticket l = record {
  same_table : l.seat.table_id ≡ l.initial.seat.table_id;
  tickets : All (λ t. count_of_spent t ≡ l.initial.seat.table_id) l.tickets.items;
  made : l.initial.seat.me.0.made ≤ l.seat.me.0.made;
  room : l.initial.seat.me.0.room ≤ l.seat.me.0.room;
  spent : (l.seat.me.0.earlier + l.seat.me.0.last) + length l.tickets.items ≡ (l.initial.seat.me.0.earlier + l.initial.seat.me.0.last) + length l.initial.tickets.items;
  last : l.seat.me.0.last + count_by was_last l.tickets.items ≡ l.initial.seat.me.0.last + count_by was_last l.initial.tickets.items;
}

abbrev pub decreases-loop-ticket : goal.decreases-loop-ticket
decreases-loop-ticket l = length l.tickets.items
