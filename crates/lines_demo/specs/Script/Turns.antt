-- What is told of a turn, and its lines.
use Rattle.std.specs.Prelude.{ℕ, Bool, true, false, Option, Some, None, List, [], ◌∷◌, ◌++◌, codes, decimal}
use Rattle.feed_core.specs.Turn.{how_after}
use Rattle.lines_demo.specs.Prelude.{Signal, Subscribed, Next, Complete, Error, Fault, Published, IllegalArgument, IllegalState, How, Outlook}
use Rattle.commands.specs.Writing.{line_of}

-- what is said of a fault
abbrev pub fault_text : Fault → List ℕ
fault_text (Published code) = codes " error published " ++ decimal code
fault_text IllegalArgument = codes " error argument"
fault_text IllegalState = codes " error state"

-- what is said of a signal
abbrev pub signal_text : Signal → List ℕ
signal_text Subscribed = codes " subscribed"
signal_text (Next item) = codes " next " ++ item.text
signal_text Complete = codes " complete"
signal_text (Error fault) = fault_text fault

-- the line of a signal that the subscriber of this name was told
abbrev pub signal_line : List ℕ → Signal → List ℕ
signal_line name signal = line_of (name ++ signal_text signal)

-- the lines of several signals
abbrev pub signal_lines : List ℕ → List Signal → List ℕ
signal_lines name [] = []
signal_lines name (signal ∷ signals) = signal_line name signal ++ signal_lines name signals

-- the line of an end of which the subscriber was told nothing, if there is one: that it was refused memory
abbrev pub untold_end_line : List ℕ → Option How → List ℕ
untold_end_line name None = []
untold_end_line name (Some How.OutOfMemory) = line_of (name ++ codes " memory")
untold_end_line name (Some How.Completed) = []
untold_end_line name (Some (How.Errored _)) = []
untold_end_line name (Some How.Cancelled) = []
untold_end_line name (Some (How.Failed _)) = []

-- the lines of a turn: what was told, and then refused memory
abbrev pub turn_lines : List ℕ → List Signal → Outlook → List ℕ
turn_lines name told outlook = signal_lines name told ++ untold_end_line name (how_after outlook)

-- which of the signals of a turn are told, and which are missed since memory is refused to a callback
pub record TurnParts : Type 0 where
  pub told : List Signal
  pub missed : List Signal
  pub refusals : List Bool

-- one more signal is told before the others
abbrev pub with_signal_told : Signal → TurnParts → TurnParts
with_signal_told signal parts = record parts { told = signal ∷ parts.told }

-- each callback is a point at which memory may be refused
abbrev pub parts_of_turn : List Bool → List Signal → TurnParts
parts_of_turn refusals [] = record { told = []; missed = []; refusals = refusals }
parts_of_turn [] (signal ∷ signals) = with_signal_told signal (parts_of_turn [] signals)
parts_of_turn (false ∷ refusals) (signal ∷ signals) =
    with_signal_told signal (parts_of_turn refusals signals)
parts_of_turn (true ∷ refusals) (signal ∷ signals) =
    record { told = []; missed = signal ∷ signals; refusals = refusals }

-- a callback that is refused memory ends the subscription
abbrev pub outlook_where : List Signal → Outlook → Outlook
outlook_where [] outlook = outlook
outlook_where (_ ∷ _) outlook = Outlook.Ended How.OutOfMemory
