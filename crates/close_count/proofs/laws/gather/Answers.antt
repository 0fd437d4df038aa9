use Rattle.std.proofs.Common.{rules}
use Rattle.close_count.proofs.Steps.{gathers}
use Rattle.close_count.proofs.laws.gather.Goals as goal

pub join_seat-requires : goal.join_seat-requires
join_seat-requires c = (search rules, search rules, search rules, search rules, gathers _ _ _ _)
