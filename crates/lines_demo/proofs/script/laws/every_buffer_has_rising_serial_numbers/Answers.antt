use Rattle.lines_demo.specs.Script.Laws.{script_state}
use Rattle.lines_demo.proofs.Kept.Scripts.{script_reached}
use Rattle.lines_demo.proofs.Scripts.Laws.{reached_rise}
use Rattle.lines_demo.proofs.script.laws.every_buffer_has_rising_serial_numbers.Goals as goal

pub returns : goal.returns
returns c = λ stock refusals bytes. reached_rise (script_state stock refusals bytes) (script_reached stock refusals bytes)
