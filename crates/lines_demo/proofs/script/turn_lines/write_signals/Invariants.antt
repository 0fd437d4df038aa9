use Rattle.std.proofs.Common.{take}
use Rattle.std.specs.Io.KnownBytes.{Appends}
use Rattle.lines_demo.specs.Script.Turns.{signal_lines}
use Rattle.lines_demo.proofs.script.turn_lines.write_signals.Given as goal

-- the lines of the signals so far were written
abbrev pub invariant-loop-signal : goal.invariant-loop-signal
invariant-loop-signal g l =
    Appends (g.W.Write.contents l.initial.writer) (g.W.Write.contents l.writer) (signal_lines l.name (take l.signal-index l.signals))
