use Rattle.lines_demo.specs.Script.Laws.{script_state}
use Rattle.lines_demo.proofs.Kept.Scripts.{script_reached}
use Rattle.lines_demo.proofs.Scripts.RunEnds.{run_ends}
use Rattle.lines_demo.proofs.script.laws.runs_leave_nobody_woken.Goals as goal

pub returns : goal.returns
returns c = λ stock refusals bytes later. run_ends (script_state stock refusals bytes) later (script_reached stock refusals bytes)
