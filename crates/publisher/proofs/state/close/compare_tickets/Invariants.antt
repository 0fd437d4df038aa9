use Rattle.std.proofs.Common.{◌≤◌}
use Rattle.publisher.proofs.Tickets.Compared.{AreCompared}
use Rattle.publisher.proofs.state.close.compare_tickets.Given as goal

abbrev pub invariant-loop-entry : goal.invariant-loop-entry
invariant-loop-entry g l = AreCompared l.initial.hub l.hub l.initial.last l.last l.entry × (l.entry ≤ l.initial.entries)
