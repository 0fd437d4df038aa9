use Rattle.std.proofs.Common.{◌+◌}
use Rattle.std.proofs.lemmas.Result.{err_from_is_err_and}
use Rattle.commands.proofs.Writers.{writes_less, writes_after, writes_done}
use Rattle.lines_demo.proofs.Reports.Lanes.{lines_of_lanes_more, lines_of_lanes_rest}
use Rattle.lines_demo.proofs.threads.report.write_lanes.Goals as goal

pub returns-in_err-write_lane : goal.returns-in_err-write_lane
returns-in_err-write_lane g c =
    let failed = err_from_is_err_and c.from_residual.result c.from_residual.ensures.1 in
    let upto = writes_after _ _ _ _ _ _ c.loop-left.invariant c.in_err-write_lane.ensures in
    let more = lines_of_lanes_more c.args.lanes.now c.loop-left.left-index c.left-item.result c.loop-left-test.true c.left-item.is in
    rw (failed.1, lines_of_lanes_rest c.args.lanes.now (c.loop-left.left-index + 1), more) (writes_less _ _ _ _ upto)

pub loop-left-preserved : goal.loop-left-preserved
loop-left-preserved g c =
    let more = lines_of_lanes_more c.args.lanes.now c.loop-left.left-index c.left-item.result c.loop-left-test.true c.left-item.is in
    rw more (writes_done _ _ _ (writes_after _ _ _ _ _ _ c.loop-left.invariant c.in_ok-write_lane.ensures))
