-- Demand adds up, and stays at the largest number that Java's `long` has.
use Rattle.std.specs.Prelude.{ℕ, ◌+◌, min}
use Rattle.flow_rules.specs.declared.demand.TheConstants.{UNBOUNDED}

-- the total after one more request (Reactive Streams 1.0, 3.8; at 2^63-1 it counts as unbounded, 3.17)
abbrev pub total_after : ℕ → ℕ → ℕ
total_after total n = min (total + n) UNBOUNDED
