use Rattle.std.proofs.Common.{◌≡◌, ◌+◌, length}
use Rattle.lines_demo.proofs.threads.run.subscribe_all.Given as goal

-- one subscription was added for each subscriber so far
abbrev pub invariant-loop-name : goal.invariant-loop-name
invariant-loop-name g l = length l.subscriptions.items ≡ length l.fn.subscriptions.items + length l.yielded
