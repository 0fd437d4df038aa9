-- Why a publisher is not made.
use Rattle.std.specs.Prelude.{◌≡◌, ◌⊎◌, ◌↔◌, ◌<◌, ℕ, Result, Err}
use Rattle.async_pool.specs.Crew.{IsWorkerCount}
use Rattle.flow_rules.specs.declared.refusal.Refusal.{Refusal}
use Rattle.flow_rules.specs.declared.refusal.Refusal.TheVariants.{BadCapacity, BadWorkers, NoMemory, TooMany}
use Rattle.publisher_hub.specs.declared.hub.TheConstants.{MOST_LIVE}

-- exactly a number of workers that no publisher may have is refused for it
abbrev pub RefusesWorkers : {A : Type 0} → Result A Refusal → ℕ → Type 0
RefusesWorkers result workers = (result ≡ Err BadWorkers) ↔ (¬ IsWorkerCount workers)

-- with a number of workers that it may have, exactly a capacity of 0 is refused for it
abbrev pub RefusesCapacity : {A : Type 0} → Result A Refusal → ℕ → ℕ → Type 0
RefusesCapacity result workers capacity =
    IsWorkerCount workers → (result ≡ Err BadCapacity) ↔ (capacity ≡ 0)

-- with a capacity that it may have, exactly more live subscriptions than any publisher may have are refused for that
abbrev pub RefusesMost : {A : Type 0} → Result A Refusal → ℕ → ℕ → Type 0
RefusesMost result capacity most = 0 < capacity → (result ≡ Err TooMany) ↔ (MOST_LIVE < most)

-- the same of a publisher, with a number of workers that it may have
abbrev pub RefusesMostOf : {A : Type 0} → Result A Refusal → ℕ → ℕ → ℕ → Type 0
RefusesMostOf result workers capacity most =
    IsWorkerCount workers → RefusesMost result capacity most

-- one of the refusals of what stands behind the lock of a publisher that is to be made
abbrev pub RefusesState : Refusal → Type 0
RefusesState refusal = (refusal ≡ BadCapacity) ⊎ ((refusal ≡ TooMany) ⊎ (refusal ≡ NoMemory))

-- one of the refusals of a publisher that is to be made
abbrev pub RefusesMaking : Refusal → Type 0
RefusesMaking refusal =
    (refusal ≡ BadWorkers) ⊎ ((refusal ≡ BadCapacity) ⊎ (refusal ≡ NoMemory))

-- the same of one that is told how many subscriptions may be live
abbrev pub RefusesMakingWith : Refusal → Type 0
RefusesMakingWith refusal = (refusal ≡ TooMany) ⊎ RefusesMaking refusal
