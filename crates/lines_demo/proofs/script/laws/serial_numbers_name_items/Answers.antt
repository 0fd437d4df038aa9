use Rattle.lines_demo.specs.Script.Laws.{script_state}
use Rattle.lines_demo.proofs.Kept.Scripts.{script_reached}
use Rattle.lines_demo.proofs.Scripts.Laws.{reached_agrees}
use Rattle.lines_demo.proofs.script.laws.serial_numbers_name_items.Goals as goal

pub returns : goal.returns
returns c = λ stock refusals bytes. reached_agrees (script_state stock refusals bytes) (script_reached stock refusals bytes)
