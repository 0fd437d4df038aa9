-- Why a script stops.
use Rattle.lines_demo.specs.declared.script.fault.ScriptFault.{ScriptFault}
use Rattle.lines_demo.specs.declared.script.fault.ScriptFault.TheVariants.{Read, TooLong, Write, Gone, Memory}
use Rattle.lines_demo.specs.declared.reader.InputFault.{InputFault}
use Rattle.commands.specs.declared.writing.OutputFault.{OutputFault}

-- why a script stops if an answer can't be written
abbrev pub script_fault : OutputFault → ScriptFault
script_fault OutputFault.Write = Write
script_fault OutputFault.Gone = Gone
script_fault OutputFault.Memory = Memory

-- why a script stops if it can't be read
abbrev pub reading_fault : InputFault → ScriptFault
reading_fault InputFault.Read = Read
reading_fault InputFault.TooLong = TooLong
reading_fault InputFault.Memory = Memory
