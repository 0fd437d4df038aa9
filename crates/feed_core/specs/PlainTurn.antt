-- What a turn tells a subscriber that only goes on and is never refused memory, and what is to be done after it.
use Rattle.std.specs.Prelude.{ℕ, ◌-◌, ◌==◌, if◌then◌else◌, min, Option, None, Some, List, [], ◌∷◌, ◌++◌, length, map, take, drop}
use Rattle.feed_core.specs.Prelude.{Item, Signal, Subscribed, Next, Complete, Error, How}
use Rattle.feed_core.specs.declared.cause.Causes.{Causes}
use Rattle.feed_core.specs.declared.turn.outlook.Outlook.{Outlook}
use Rattle.feed_core.specs.declared.turn.outlook.Outlook.TheVariants.{Again, Resting, Ended}
use Rattle.feed_core.specs.declared.turn.TheConstants.{ITEMS_IN_A_TURN}
use Rattle.feed_core.specs.Cause.{stops, closes}
use Rattle.feed_core.specs.Lane.{LaneState}

-- what a turn tells, in order, and its outlook
pub record PlainTurn : Type 0 where
  pub told : List Signal
  pub outlook : Outlook

-- nothing more, and another turn
abbrev pub another_turn : PlainTurn
another_turn = record { told = []; outlook = Again }

-- nothing more, and rest
abbrev pub turn_at_rest : PlainTurn
turn_at_rest = record { told = []; outlook = Resting }

-- the terminal signal of an end, if it has one
abbrev pub terminal_of : How → List Signal
terminal_of How.Completed = Complete ∷ []
terminal_of (How.Errored fault) = Error fault ∷ []
terminal_of How.Cancelled = []
terminal_of (How.Failed _) = []
terminal_of How.OutOfMemory = []

-- the end: its terminal signal, and no more turns
abbrev pub end_by : How → PlainTurn
end_by how = record { told = terminal_of how; outlook = Ended how }

-- these signals, and then a turn
abbrev pub signals_then : List Signal → PlainTurn → PlainTurn
signals_then signals turn = record { told = signals ++ turn.told; outlook = turn.outlook }

-- onSubscribe, if nothing was told yet
abbrev pub greeting : List Signal → List Signal
greeting [] = Subscribed ∷ []
greeting (_ ∷ _) = []

-- the end at once, if there is one, or else the turn
abbrev pub stop_or_turn : Option How → PlainTurn → PlainTurn
stop_or_turn (Some how) turn = end_by how
stop_or_turn None turn = turn

-- the end that waits for the items, if there is one and no item is left, or else rest
abbrev pub close_or_rest : Option How → List Item → PlainTurn
close_or_rest None left = turn_at_rest
close_or_rest (Some how) [] = end_by how
close_or_rest (Some how) (_ ∷ _) = turn_at_rest

-- how many items a turn gives: those that wait and were requested, at most as many as a turn may give
abbrev pub number_to_give : List Item → ℕ → ℕ
number_to_give waiting unmet = min (min (length waiting) unmet) ITEMS_IN_A_TURN

-- the items of a turn; the last that it may give leaves the rest to another turn
abbrev pub items_turn : Causes → List Item → ℕ → PlainTurn
items_turn causes waiting unmet =
    let n = number_to_give waiting unmet in
    signals_then (map Next (take n waiting)) (if n == ITEMS_IN_A_TURN then another_turn else close_or_rest (closes causes) (drop n waiting))

-- a turn over the causes, the items that wait, the demand that is not met yet and what was told before
abbrev pub plain_turn : Causes → List Item → ℕ → List Signal → PlainTurn
plain_turn causes waiting unmet told =
    signals_then (greeting told) (stop_or_turn (stops causes) (items_turn causes waiting unmet))

-- the turn of a lane
abbrev pub plain_turn_of : LaneState → PlainTurn
plain_turn_of lane = plain_turn lane.causes (drop lane.given lane.accepted) (lane.asked - lane.given) lane.told
