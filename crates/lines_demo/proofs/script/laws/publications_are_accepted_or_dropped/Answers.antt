use Rattle.lines_demo.specs.Script.Laws.{script_state}
use Rattle.lines_demo.proofs.Kept.Scripts.{script_reached}
use Rattle.lines_demo.proofs.Scripts.Laws.{reached_counted}
use Rattle.lines_demo.proofs.script.laws.publications_are_accepted_or_dropped.Goals as goal

pub returns : goal.returns
returns c = λ stock refusals bytes. reached_counted (script_state stock refusals bytes) (script_reached stock refusals bytes)
