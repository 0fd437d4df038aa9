use Rattle.commands.proofs.Writers.{writes_none}
use Rattle.lines_demo.proofs.script.turn_lines.write_signal.Goals as goal

pub returns-in-Subscribed : goal.returns-in-Subscribed
returns-in-Subscribed g c = rw c.in-Subscribed.is c.write_named.ensures

pub returns-then-is_err : goal.returns-then-is_err
returns-then-is_err g c = writes_none _ _

pub returns-in-Complete : goal.returns-in-Complete
returns-in-Complete g c = rw c.in-Complete.is c.write_named-in-Complete.ensures

pub returns-in-Error : goal.returns-in-Error
returns-in-Error g c = rw c.in-Error.is c.write_fault.ensures
