use Rattle.std.proofs.Common.{arith, rules}
use Rattle.publisher.proofs.publisher.Publisher.make.Goals as goal

pub returns-in_err-state-clause-bad_workers : goal.returns-in_err-state-clause-bad_workers
returns-in_err-state-clause-bad_workers g c = (search rules, λ no. absurd (no (omega arith, omega arith)))

pub with-requires-after_bounds : goal.with-requires-after_bounds
with-requires-after_bounds g c = λ κs outlives. (omega arith, omega arith)

pub returns-in_err-publisher-clause-bad_workers : goal.returns-in_err-publisher-clause-bad_workers
returns-in_err-publisher-clause-bad_workers g c = (search rules, λ no. absurd (no (omega arith, omega arith)))
