use Rattle.std.proofs.Common.{◌≤◌, length, vec_capacity}
use Rattle.publisher.proofs.LeftLanes.Judged.{IsJudged}
use Rattle.publisher.proofs.finishing.judge.judge.Given as goal

abbrev pub invariant-loop-left : goal.invariant-loop-left
invariant-loop-left g l = IsJudged l.fn.is_closed l.fn.outcome.lanes.items l.left-index l.unsettled.items
    × (length l.fn.outcome.lanes.items ≤ vec_capacity l.unsettled)
