-- The list of a turn's signals, and the room that was made for it.
use Rattle.std.specs.Prelude.{ℕ, List, [], ◌++◌}
use Rattle.flow_rules.specs.declared.signal.Signal.{Signal}

-- the signals, in order, and for how many there is room
pub record SeenState : Type 0 where
  pub signals : List Signal
  pub room : ℕ

-- the list with more signals at its end, and the same room
abbrev pub seen_with : List Signal → SeenState → SeenState
seen_with more seen = record seen { signals = seen.signals ++ more }

-- the empty list, with the same room
abbrev pub seen_cleared : SeenState → SeenState
seen_cleared seen = record seen { signals = [] }
