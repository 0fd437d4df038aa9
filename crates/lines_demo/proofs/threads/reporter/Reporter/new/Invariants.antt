use Rattle.std.proofs.Common.{◌≡◌, [], map, take}
use Rattle.lines_demo.specs.Threads.Report.{AreLines, beginning_of}
use Rattle.lines_demo.proofs.threads.reporter.Reporter.new.Given as goal

-- the lines of the sources so far begin as they do, and there are none
abbrev pub invariant-loop-source : goal.invariant-loop-source
invariant-loop-source l =
    (map (λ kept. kept.beginning.items) l.lines.items ≡ map (beginning_of l.subscriber.name) (take l.source-index l.sources)) × AreLines 0 l.lines.items []
