-- At the end of any script its subscriptions keep what they have to, and just those who owe a turn are woken.
use Rattle.std.proofs.Common.{◌==◌, ℕ, Bool, true, false, if◌then◌else◌, nat_lt, List, [], ◌∷◌, length, refl, Option, Some, None, arith}
use Rattle.std.proofs.lemmas.List.Elements.{All-nil}
use Rattle.lines_demo.specs.Prelude.{Overtake}
use Rattle.commands.specs.Line.{lines_of, without_return}
use Rattle.lines_demo.specs.Script.Answering.{turns_before, spelled_result, line_result, lines_result}
use Rattle.commands.specs.Command.{command_of}
use Rattle.lines_demo.specs.Script.Laws.{script_state}
use Rattle.lines_demo.specs.Script.Kept.{IsKept, IsReachable}
use Rattle.lines_demo.specs.Script.State.{SessionState, LineResult, state_at_start}
use Rattle.commands.specs.declared.command.Command.{Command}
use Rattle.commands.specs.declared.command.Command.TheVariants.{Cap, Late, Sub, Offer, Retry, Submit, Request, Cancel, Close, Fail, Run}
use Rattle.commands.specs.declared.line.TheConstants.{LONGEST_LINE}
use Rattle.lines_demo.proofs.Kept.Commands.{command_reached}
use Rattle.lines_demo.proofs.Kept.Turns.{run_reached}

-- where a script starts
pub start_reached : (stock : ℕ) → IsReachable (state_at_start stock)
start_reached stock = ((λ serial. []), record { subscriptions = All-nil (IsKept (λ serial. []) 0 Overtake None); none_yet = λ unread. refl; woken = λ number. refl; few = omega arith; names = λ name. omega arith })

-- a test keeps it if both of its answers do
either : (b : Bool) (p q : LineResult) → IsReachable p.state → IsReachable q.state → IsReachable (if b then p else q).state
either true p q is_p is_q = is_p
either false p q is_p is_q = is_q

turns_before_reached : (command : Command) (state : SessionState) (refusals : List Bool) → IsReachable state
    → IsReachable (turns_before command state refusals).state
turns_before_reached (Cap capacity) state refusals is = is
turns_before_reached Late state refusals is = is
turns_before_reached (Sub name number) state refusals is = is
turns_before_reached (Offer text) state refusals is = is
turns_before_reached (Retry text) state refusals is = is
turns_before_reached (Submit text) state refusals is = is
turns_before_reached (Request name number) state refusals is = is
turns_before_reached (Cancel name) state refusals is = is
turns_before_reached Close state refusals is = is
turns_before_reached (Fail code) state refusals is = is
turns_before_reached Run state refusals is = run_reached state refusals is

spelled_reached : (command : Option Command) (state : SessionState) (refusals : List Bool) → IsReachable state
    → IsReachable (spelled_result command state refusals).state
spelled_reached None state refusals is = is
spelled_reached (Some command) state refusals is =
    let turns = turns_before command state refusals in
    command_reached command turns.state turns.refusals (turns_before_reached command state refusals is)

line_reached : (state : SessionState) (refusals : List Bool) (line : List ℕ) → IsReachable state
    → IsReachable (line_result state refusals line).state
unfolding line_result
line_reached state refusals line is =
    either (length line == 0) _ _ is (either (nat_lt LONGEST_LINE (length line)) _ _ is (spelled_reached (command_of line) state refusals is))

lines_reached : (lines : List (List ℕ)) (state : SessionState) (refusals : List Bool) → IsReachable state
    → IsReachable (lines_result lines state refusals).state
lines_reached [] state refusals is = is
lines_reached (line ∷ lines) state refusals is =
    let first = line_result state refusals (without_return line) in
    lines_reached lines first.state first.refusals (line_reached state refusals (without_return line) is)

-- whatever the script is
pub script_reached : (stock : ℕ) (refusals : List Bool) (bytes : List ℕ) → IsReachable (script_state stock refusals bytes)
script_reached stock refusals bytes = lines_reached (lines_of bytes) (state_at_start stock) refusals (start_reached stock)
