use Rattle.std.proofs.Common.{◌+◌}
use Rattle.std.proofs.lemmas.Result.{err_from_is_err_and}
use Rattle.commands.proofs.Writers.{writes_less, writes_after, writes_done}
use Rattle.lines_demo.proofs.Scripts.SignalLines.{signal_lines_more, signal_lines_rest}
use Rattle.lines_demo.proofs.script.turn_lines.write_signals.Goals as goal

pub returns-in_err-write_signal : goal.returns-in_err-write_signal
returns-in_err-write_signal g c =
    let failed = err_from_is_err_and c.from_residual.result c.from_residual.ensures.1 in
    let upto = writes_after _ _ _ _ _ _ c.loop-signal.invariant c.in_err-write_signal.ensures in
    let more = signal_lines_more c.args.name.now c.args.signals.now c.loop-signal.signal-index c.signal-item.result c.loop-signal-test.true c.signal-item.is in
    let whole = signal_lines_rest c.args.name.now c.args.signals.now (c.loop-signal.signal-index + 1) in
    rw (failed.1, whole, more) (writes_less _ _ _ _ upto)

pub loop-signal-preserved : goal.loop-signal-preserved
loop-signal-preserved g c =
    let more = signal_lines_more c.args.name.now c.args.signals.now c.loop-signal.signal-index c.signal-item.result c.loop-signal-test.true c.signal-item.is in
    rw more (writes_done _ _ _ (writes_after _ _ _ _ _ _ c.loop-signal.invariant c.in_ok-write_signal.ensures))
