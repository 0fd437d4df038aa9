use Rattle.std.proofs.Common.{◌-◌, length}
use Rattle.lines_demo.proofs.Kept.SearchedNames.{Searched}
use Rattle.lines_demo.proofs.script.session.Session.latest.Given as goal

abbrev pub invariant-loop-other : goal.invariant-loop-other
invariant-loop-other g l = Searched l.name l.self.subscriptions l.entry l.latest

-- each subscription is asked once
abbrev pub decreases-loop-other : goal.decreases-loop-other
decreases-loop-other g l = length l.self.subscriptions - l.entry
