-- How many subscriptions a publisher ever had, and may have.
use Rattle.std.specs.Prelude.{ℕ}

-- how many subscriptions there ever were; how many of them were reclaimed; and how many may be live at once
pub record CensusState : Type 0 where
  pub made : ℕ
  pub reclaimed : ℕ
  pub most : ℕ
