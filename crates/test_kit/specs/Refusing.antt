-- What a `Refused` holds.
use Rattle.std.specs.Prelude.{ℕ, Bool, List}
use Rattle.flow_rules.specs.Callback.{Reply}
use Rattle.flow_rules.specs.declared.signal.Signal.{Signal}

-- what it was told, what it replied, whether it is steady, and how many callbacks it answers before it is refused memory
pub record Refusing : Type 0 where
  pub told : List Signal
  pub replied : List Reply
  pub is_steady : Bool
  pub callbacks_before : ℕ
