use Rattle.std.proofs.Common.{◌≡◌, length}
use Rattle.publisher.specs.Together.{AreBack, AreTogether}
use Rattle.publisher.proofs.state.sources.put_together.Given as goal

-- the history has what it had, and the passes of those that were taken in
abbrev pub invariant-loop-submitter : goal.invariant-loop-submitter
invariant-loop-submitter g l = AreTogether l.initial.submitters.items l.submitters.items
    l.together.publications.amount l.together.drops.amount l.together.publications.parts l.together.drops.parts
    l.together.sources l.together.knows
    × ((l.history.log ≡ l.initial.history.log) × ((l.history.made ≡ l.initial.history.made)
    × AreBack l.initial.history.log l.initial.submitters.items l.submitters.items l.history.back))

abbrev pub decreases-loop-submitter : goal.decreases-loop-submitter
decreases-loop-submitter g l = length l.submitters.items
