use Rattle.lines_demo.proofs.script.turn_lines.write_fault.Goals as goal

pub returns-in-Published : goal.returns-in-Published
returns-in-Published g c = rw c.in-Published.is c.write_line.ensures

pub returns-in-IllegalArgument : goal.returns-in-IllegalArgument
returns-in-IllegalArgument g c = rw c.in-IllegalArgument.is c.write_named.ensures

pub returns-in-IllegalState : goal.returns-in-IllegalState
returns-in-IllegalState g c = rw c.in-IllegalState.is c.write_named-in-IllegalState.ensures
