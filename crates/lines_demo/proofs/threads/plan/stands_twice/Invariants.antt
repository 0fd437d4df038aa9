use Rattle.std.proofs.Common.{◌≡◌, length}
use Rattle.lines_demo.specs.Threads.Plan.{has_twice}
use Rattle.lines_demo.proofs.threads.plan.stands_twice.Given as goal

-- a name stands twice among all if one does among the rest
abbrev pub invariant-loop-first : goal.invariant-loop-first
invariant-loop-first l = has_twice l.subscribers ≡ has_twice l.rest

abbrev pub decreases-loop-first : goal.decreases-loop-first
decreases-loop-first l = length l.rest
