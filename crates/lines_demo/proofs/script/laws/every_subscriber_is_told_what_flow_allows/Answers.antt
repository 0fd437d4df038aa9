use Rattle.lines_demo.specs.Script.Laws.{script_state}
use Rattle.lines_demo.proofs.Kept.Scripts.{script_reached}
use Rattle.lines_demo.proofs.Scripts.Laws.{reached_flow}
use Rattle.lines_demo.proofs.script.laws.every_subscriber_is_told_what_flow_allows.Goals as goal

pub returns : goal.returns
returns c = λ stock refusals bytes. reached_flow (script_state stock refusals bytes) (script_reached stock refusals bytes)
