use Rattle.std.proofs.Common.{sym}
use Rattle.std.proofs.lemmas.Result.{err_from_is_err_and}
use Rattle.commands.proofs.Writers.{writes_less, writes_after, writes_done}
use Rattle.lines_demo.proofs.threads.report.write_report.Goals as goal

pub returns-in_err-write_lanes-clause-written : goal.returns-in_err-write_lanes-clause-written
returns-in_err-write_lanes-clause-written g c =
    let failed = err_from_is_err_and c.from_residual.result c.from_residual.ensures.1 in
    rw (failed.1, sym c.as_slice.ensures.value) (writes_less _ _ _ _ (writes_less _ _ _ _ c.in_err-write_lanes.ensures))

pub returns-in_err-write_handled-clause-written : goal.returns-in_err-write_handled-clause-written
returns-in_err-write_handled-clause-written g c =
    let failed = err_from_is_err_and c.from_residual-in_err-write_handled.result c.from_residual-in_err-write_handled.ensures.1 in
    rw (failed.1, sym c.as_slice.ensures.value)
    (writes_less _ _ _ _ (writes_after _ _ _ _ _ _ (writes_done _ _ _ c.in_ok-write_lanes.ensures) c.in_err-write_handled.ensures))

pub returns-in_err-write_drained-clause-written : goal.returns-in_err-write_drained-clause-written
returns-in_err-write_drained-clause-written g c =
    let failed = err_from_is_err_and c.from_residual-in_err-write_drained.result c.from_residual-in_err-write_drained.ensures.1 in
    rw (failed.1, sym c.as_slice.ensures.value)
    (writes_after _ _ _ _ _ _ (writes_done _ _ _ (writes_after _ _ _ _ _ _ (writes_done _ _ _ c.in_ok-write_lanes.ensures) c.in_ok-write_handled.ensures))
    c.in_err-write_drained.ensures)

pub returns-clause-written : goal.returns-clause-written
returns-clause-written g c =
    rw (sym c.as_slice.ensures.value)
    (writes_after _ _ _ _ _ _ (writes_done _ _ _ (writes_after _ _ _ _ _ _ (writes_done _ _ _ c.in_ok-write_lanes.ensures) c.in_ok-write_handled.ensures))
    c.in_ok-write_drained.ensures)
