-- How many workers a pool may have (Java SE 17, ForkJoinPool: a parallelism of at least 1).
use Rattle.std.specs.Prelude.{ℕ, ◌≤◌}
use Rattle.async_pool.specs.declared.crew.TheConstants.{MOST_WORKERS}

abbrev pub IsWorkerCount : ℕ → Type 0
IsWorkerCount n = (1 ≤ n) × (n ≤ MOST_WORKERS)
