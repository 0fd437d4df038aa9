use Rattle.std.proofs.Common.{take}
use Rattle.std.specs.List.{AllZip}
use Rattle.lines_demo.specs.Threads.Sending.{IsSenderOf}
use Rattle.lines_demo.proofs.threads.run.publish_and_close.Given as goal

-- each source so far has a sender, which published nothing yet
abbrev pub invariant-loop-source : goal.invariant-loop-source
invariant-loop-source g l = AllZip IsSenderOf (take l.source-index l.input.sources) l.senders.items
