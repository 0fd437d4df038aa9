-- What a `Shown` holds.
use Rattle.std.specs.Prelude.{List}
use Rattle.flow_rules.specs.Callback.{Reply}

-- the subscriber, which shows its own list, and what its callbacks came back with
pub record Showing (S : Type 0) : Type 0 where
  pub subscriber : S
  pub replied : List Reply
