use Rattle.publisher.specs.Failing.{NoneFails}
use Rattle.publisher.proofs.outcome.Outcome.first_failure.Given as goal

-- no lane before this one failed
abbrev pub invariant-loop-left : goal.invariant-loop-left
invariant-loop-left g l = NoneFails l.fn.self.lanes.items l.left-index
