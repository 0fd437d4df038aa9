use Rattle.std.proofs.Common.{rules}
use Rattle.close_count.proofs.Steps.{gathers, looks}
use Rattle.close_count.proofs.laws.compare.Goals as goal

pub join_seat-requires : goal.join_seat-requires
join_seat-requires c = (search rules, search rules, search rules, search rules, gathers _ _ _ _)

pub load-requires : goal.load-requires
load-requires c = (search rules, search rules, looks _ _ _)
