use Rattle.lines_demo.specs.Script.Laws.{script_state}
use Rattle.lines_demo.proofs.Kept.Scripts.{script_reached}
use Rattle.lines_demo.proofs.Scripts.Laws.{reached_waits}
use Rattle.lines_demo.proofs.script.laws.late_errors_wait_for_the_items.Goals as goal

pub returns : goal.returns
returns c = λ stock refusals bytes. reached_waits (script_state stock refusals bytes) (script_reached stock refusals bytes)
