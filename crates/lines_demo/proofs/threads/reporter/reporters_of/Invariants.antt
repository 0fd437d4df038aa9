use Rattle.std.proofs.Common.{◌≡◌, length}
use Rattle.lines_demo.specs.Threads.Run.{AreUntold}
use Rattle.lines_demo.proofs.threads.reporter.reporters_of.Given as goal

-- each subscriber so far was told nothing
abbrev pub invariant-loop-subscriber : goal.invariant-loop-subscriber
invariant-loop-subscriber l = AreUntold (λ reporter. reporter.signals) (λ reporter. reporter.replies) l.reporters.items
    × (length l.reporters.items ≡ l.subscriber-index)
