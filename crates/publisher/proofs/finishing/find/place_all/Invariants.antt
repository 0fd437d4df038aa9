use Rattle.std.proofs.Common.{◌≡◌, length}
use Rattle.publisher.proofs.BothEnds.Placing.{IsPlacing}
use Rattle.publisher.proofs.finishing.find.place_all.Given as goal

abbrev pub invariant-loop-subscription : goal.invariant-loop-subscription
invariant-loop-subscription g l = IsPlacing l.initial.subscriptions.items l.subscriptions.items l.owners l.all
    × (length l.owners ≡ length l.initial.owners)

abbrev pub decreases-loop-subscription : goal.decreases-loop-subscription
decreases-loop-subscription g l = length l.subscriptions.items
