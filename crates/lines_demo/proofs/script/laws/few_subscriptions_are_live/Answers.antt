use Rattle.lines_demo.specs.Script.Laws.{script_state}
use Rattle.lines_demo.proofs.Kept.Scripts.{script_reached}
use Rattle.lines_demo.proofs.Scripts.Laws.{reached_few}
use Rattle.lines_demo.proofs.script.laws.few_subscriptions_are_live.Goals as goal

pub returns : goal.returns
returns c = λ stock refusals bytes. reached_few (script_state stock refusals bytes) (script_reached stock refusals bytes)
