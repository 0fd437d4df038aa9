use Rattle.lines_demo.proofs.script.turn_lines.write_end.Goals as goal

pub returns-in-OutOfMemory : goal.returns-in-OutOfMemory
returns-in-OutOfMemory g c = rw c.in-OutOfMemory.is c.write_line.ensures
