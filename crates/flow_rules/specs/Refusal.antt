-- The number and the word of each refusal.
use Rattle.std.specs.Prelude.{ℕ, List, ◌++◌, codes, decimal}
use Rattle.flow_rules.specs.declared.refusal.Refusal.{Refusal}
use Rattle.flow_rules.specs.declared.refusal.Refusal.TheVariants.{BadCapacity, Closed, Duplicate, TooMany, NoMemory, LineTooLong, BadWorkers, StillHeld, Unsettled, Unknown, WouldWait, BadCommand, Exhausted}

-- the number of a refusal
abbrev pub refusal_number : Refusal → ℕ
refusal_number BadCapacity = 1
refusal_number (Closed _) = 2
refusal_number Duplicate = 3
refusal_number TooMany = 4
refusal_number NoMemory = 5
refusal_number LineTooLong = 6
refusal_number BadWorkers = 7
refusal_number (StillHeld _) = 8
refusal_number (Unsettled _) = 9
refusal_number Unknown = 10
refusal_number WouldWait = 11
refusal_number BadCommand = 12
refusal_number Exhausted = 13

-- the printed word of a refusal
abbrev pub refusal_word : Refusal → List ℕ
refusal_word BadCapacity = codes "capacity"
refusal_word (Closed _) = codes "closed"
refusal_word Duplicate = codes "duplicate"
refusal_word TooMany = codes "many"
refusal_word NoMemory = codes "memory"
refusal_word LineTooLong = codes "line"
refusal_word BadWorkers = codes "workers"
refusal_word (StillHeld _) = codes "held"
refusal_word (Unsettled _) = codes "unsettled"
refusal_word Unknown = codes "unknown"
refusal_word WouldWait = codes "wait"
refusal_word BadCommand = codes "command"
refusal_word Exhausted = codes "exhausted"

-- `refused N WORD`
abbrev pub refusal_line : Refusal → List ℕ
refusal_line refusal = codes "refused " ++ decimal (refusal_number refusal) ++ codes " " ++ refusal_word refusal
