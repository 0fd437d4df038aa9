-- What a script is answered: a function of its bytes, of the number of subscribers in the stock, and of the points at
-- which memory is refused.
use Rattle.std.specs.Prelude.{ℕ, ◌==◌, Bool, if◌then◌else◌, nat_lt, Option, Some, None, List, [], ◌∷◌, length}
use Rattle.lines_demo.specs.Prelude.{Refusal}
use Rattle.commands.specs.Line.{lines_of, without_return}
use Rattle.commands.specs.Writing.{line_of}
use Rattle.commands.specs.Command.{command_of}
use Rattle.commands.specs.Reply.{reply_text}
use Rattle.lines_demo.specs.Script.State.{SessionState, CommandResult, LineResult, refused_result, empty_result, result_then, state_at_start}
use Rattle.lines_demo.specs.Script.Obeying.{command_result}
use Rattle.lines_demo.specs.Script.Running.{run_turns}
use Rattle.commands.specs.declared.command.Command.{Command}
use Rattle.commands.specs.declared.command.Command.TheVariants.{Cap, Late, Sub, Offer, Retry, Submit, Request, Cancel, Close, Fail, Run}
use Rattle.commands.specs.declared.line.TheConstants.{LONGEST_LINE}

-- a reply is written as one line
abbrev pub reply_result : CommandResult → LineResult
reply_result result = record {
  output = line_of (reply_text result.reply);
  state = result.state;
  refusals = result.refusals;
}

-- the turns before a command is answered: those of a `run`
abbrev pub turns_before : Command → SessionState → List Bool → LineResult
turns_before (Cap capacity) state refusals = empty_result state refusals
turns_before Late state refusals = empty_result state refusals
turns_before (Sub name number) state refusals = empty_result state refusals
turns_before (Offer text) state refusals = empty_result state refusals
turns_before (Retry text) state refusals = empty_result state refusals
turns_before (Submit text) state refusals = empty_result state refusals
turns_before (Request name number) state refusals = empty_result state refusals
turns_before (Cancel name) state refusals = empty_result state refusals
turns_before Close state refusals = empty_result state refusals
turns_before (Fail code) state refusals = empty_result state refusals
turns_before Run state refusals = run_turns state refusals

-- what comes of a command, or of a line that spells none
abbrev pub spelled_result : Option Command → SessionState → List Bool → LineResult
spelled_result None state refusals = reply_result (refused_result state refusals Refusal.BadCommand)
spelled_result (Some command) state refusals =
    result_then (turns_before command state refusals)
    (λ state' left. reply_result (command_result command state' left))

-- what comes of a line: nothing if it is empty, and a refusal if it is too long
unfoldable pub line_result : SessionState → List Bool → List ℕ → LineResult
line_result state refusals line =
    if length line == 0 then empty_result state refusals
    else (if nat_lt LONGEST_LINE (length line)
    then reply_result (refused_result state refusals Refusal.LineTooLong)
    else spelled_result (command_of line) state refusals)

-- what comes of the lines, one after the other
abbrev pub lines_result : List (List ℕ) → SessionState → List Bool → LineResult
lines_result [] state refusals = empty_result state refusals
lines_result (line ∷ lines) state refusals =
    result_then (line_result state refusals (without_return line)) (lines_result lines)

-- what comes of a script
abbrev pub script_result : ℕ → List Bool → List ℕ → LineResult
script_result stock refusals bytes = lines_result (lines_of bytes) (state_at_start stock) refusals

-- what a script is answered
abbrev pub script_output : ℕ → List Bool → List ℕ → List ℕ
script_output stock refusals bytes = (script_result stock refusals bytes).output
