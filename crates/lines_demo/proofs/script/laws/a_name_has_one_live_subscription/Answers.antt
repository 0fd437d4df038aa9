use Rattle.lines_demo.specs.Script.Laws.{script_state}
use Rattle.lines_demo.proofs.Kept.Scripts.{script_reached}
use Rattle.lines_demo.proofs.Scripts.Laws.{reached_names}
use Rattle.lines_demo.proofs.script.laws.a_name_has_one_live_subscription.Goals as goal

pub returns : goal.returns
returns c = λ stock refusals bytes. reached_names (script_state stock refusals bytes) (script_reached stock refusals bytes)
