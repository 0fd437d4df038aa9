use Rattle.std.proofs.Common.{rules}
use Rattle.publisher.proofs.publisher.fn.Publisher.start.run+FnOnce.call_once.Goals as goal

pub run-requires : goal.run-requires
run-requires g c = search rules
