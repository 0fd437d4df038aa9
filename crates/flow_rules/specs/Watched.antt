-- What a `Watching` holds.
use Rattle.std.specs.Prelude.{List}
use Rattle.flow_rules.specs.Callback.{Reply}
use Rattle.flow_rules.specs.declared.signal.Signal.{Signal}

-- what it was told and answered, and what looks at it
pub record Watched (W : Type 0) : Type 0 where
  pub told : List Signal
  pub replied : List Reply
  pub watch : W
