use Rattle.std.proofs.Common.{◌≤◌, length, vec_capacity}
use Rattle.publisher.proofs.BothEnds.FindingRounds.{IsFinding}
use Rattle.publisher.proofs.finishing.find.find_all.Given as goal

abbrev pub invariant-loop-number : goal.invariant-loop-number
invariant-loop-number g l = IsFinding l.initial.hub l.hub l.counted l.initial.owners l.owners l.number
    l.founds.items l.gone × (l.number ≤ length l.initial.owners) × (length l.initial.owners ≤ vec_capacity l.founds)
