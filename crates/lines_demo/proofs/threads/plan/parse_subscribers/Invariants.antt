use Rattle.std.proofs.Common.{drop, map}
use Rattle.lines_demo.proofs.Inputs.PlannedSubscribers.{Reads}
use Rattle.lines_demo.proofs.threads.plan.parse_subscribers.Given as goal

-- the subscribers of the words so far were read
abbrev pub invariant-loop-word : goal.invariant-loop-word
invariant-loop-word l = Reads (map (λ w. w.now) l.words) l.subscribers.items (drop l.word-index (map (λ w. w.now) l.words))
