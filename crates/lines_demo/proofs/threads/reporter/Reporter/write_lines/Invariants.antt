use Rattle.std.proofs.Common.{◌≡◌, map, take}
use Rattle.std.specs.Io.KnownBytes.{Appends}
use Rattle.flow_rules.specs.Signals.{items_of}
use Rattle.lines_demo.specs.Threads.Report.{AreLines}
use Rattle.lines_demo.proofs.Reports.Sources.{kept_lines}
use Rattle.lines_demo.proofs.threads.reporter.Reporter.write_lines.Given as goal

-- the lines of the sources so far were written
abbrev pub invariant-loop-source : goal.invariant-loop-source
invariant-loop-source g l =
    Appends (g.W.Write.contents l.initial.writer) (g.W.Write.contents l.writer) (kept_lines (take l.source-index l.source-items))
    × (AreLines 0 l.source-items (items_of l.self.signals) × (map (λ kept. kept.beginning.items) l.source-items ≡ l.self.beginnings))
