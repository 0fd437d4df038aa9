use Rattle.std.proofs.Common.{rules}
use Rattle.close_count.proofs.Steps.{looks}
use Rattle.close_count.proofs.laws.one_of_all_is_last.Goals as goal

pub load-requires : goal.load-requires
load-requires c = (search rules, search rules, looks _ _ _)
