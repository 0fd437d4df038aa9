use Rattle.std.proofs.Common.{sym}
use Rattle.commands.proofs.Writers.{writes_after, writes_done}
use Rattle.lines_demo.proofs.threads.report.write_lane.Goals as goal

pub returns : goal.returns
returns g c =
    rw (sym c.in_ok-items.ensures.items) (writes_after _ _ _ _ _ _ (writes_done _ _ _ c.in_ok-items.ensures.written) c.write_ending.ensures)
