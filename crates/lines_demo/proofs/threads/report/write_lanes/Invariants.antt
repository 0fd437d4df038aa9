use Rattle.std.proofs.Common.{take}
use Rattle.std.specs.Io.KnownBytes.{Appends}
use Rattle.lines_demo.specs.Threads.Report.{lines_of_lanes}
use Rattle.lines_demo.proofs.threads.report.write_lanes.Given as goal

-- the lines of the subscriptions so far were written
abbrev pub invariant-loop-left : goal.invariant-loop-left
invariant-loop-left g l = Appends (g.W.Write.contents l.initial.writer) (g.W.Write.contents l.writer) (lines_of_lanes (take l.left-index l.lanes))
