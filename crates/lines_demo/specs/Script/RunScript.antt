-- What playing a script does to its reader and its writer.
use mathlib.Core.List.{IsPrefix}
use Rattle.std.specs.Prelude.{◌≡◌, ◌⊎◌, ℕ, ◌≤◌, Bool, Option, Result, Ok, Err, IfSome, List, [], length, ⊤}
use Rattle.std.specs.Io.KnownBytes.{Appends}
use Rattle.lines_demo.specs.Script.Answering.{script_output}
use Rattle.lines_demo.specs.declared.script.fault.ScriptFault.{ScriptFault}
use Rattle.lines_demo.specs.declared.script.fault.ScriptFault.TheVariants.{Read, TooLong, Write, Gone, Memory}
use Rattle.lines_demo.specs.declared.reader.TheConstants.{LONGEST_INPUT}

-- the bytes that the script was played on: all that the reader had, unless the reading stopped, and then nothing was
-- written
abbrev pub IsScriptOf : Result (Unit {0}) ScriptFault → List ℕ → List ℕ → List ℕ → Type 0
IsScriptOf (Ok _) known bytes written = known ≡ bytes
IsScriptOf (Err Read) known bytes written = written ≡ []
IsScriptOf (Err TooLong) known bytes written = written ≡ []
IsScriptOf (Err Write) known bytes written = known ≡ bytes
IsScriptOf (Err Gone) known bytes written = known ≡ bytes
IsScriptOf (Err Memory) known bytes written = (known ≡ bytes) ⊎ (written ≡ [])

-- the reading stopped
abbrev pub StopsReading : Result (Unit {0}) ScriptFault → Type 0
StopsReading (Ok _) = ⊥
StopsReading (Err Read) = ⊤
StopsReading (Err TooLong) = ⊤
StopsReading (Err Write) = ⊥
StopsReading (Err Gone) = ⊥
StopsReading (Err Memory) = ⊤

-- how much of the output was written: all of it at the end, none if the reading failed, and else a prefix of it
abbrev pub IsAsMuch : Result (Unit {0}) ScriptFault → List ℕ → List ℕ → Type 0
IsAsMuch (Ok _) written output = written ≡ output
IsAsMuch (Err Read) written output = written ≡ []
IsAsMuch (Err TooLong) written output = written ≡ []
IsAsMuch (Err Write) written output = IsPrefix written output
IsAsMuch (Err Gone) written output = IsPrefix written output
IsAsMuch (Err Memory) written output = IsPrefix written output

-- the script that was read was answered as the definition says, under some refusals of memory
pub record PlaysScript (result : Result (Unit {0}) ScriptFault) (stock : ℕ)
    (known old new : Option (List ℕ)) : Type 0 where
  pub bytes : List ℕ
  pub refusals : List Bool
  pub written : List ℕ
  pub given : IfSome known (λ all. IsScriptOf result all bytes written)
  pub bounded : length bytes ≤ LONGEST_INPUT
  pub appended : Appends old new written
  pub as_much : IsAsMuch result written (script_output stock refusals bytes)
