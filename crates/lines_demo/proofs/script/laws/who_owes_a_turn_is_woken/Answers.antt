use Rattle.lines_demo.specs.Script.Laws.{script_state}
use Rattle.lines_demo.proofs.Kept.Scripts.{script_reached}
use Rattle.lines_demo.proofs.Scripts.Laws.{reached_wakes}
use Rattle.lines_demo.proofs.script.laws.who_owes_a_turn_is_woken.Goals as goal

pub returns : goal.returns
returns c = λ stock refusals bytes. reached_wakes (script_state stock refusals bytes) (script_reached stock refusals bytes)
