use Rattle.std.proofs.Common.{rules}
use Rattle.close_count.proofs.Steps.{spends}
use Rattle.close_count.proofs.spent.Spent.of_seat.Goals as goal

pub fetch_sub-found-requires : goal.fetch_sub-found-requires
fetch_sub-found-requires c = (search rules, search rules, spends _ _ _ c.requires.ticket.0)
