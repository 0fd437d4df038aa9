-- What callers see of a Pool.
use Rattle.std.specs.Prelude.{◌≡◌, ◌≤◌, ◌+◌, ◌⊎◌, ℕ, Bool, true, List, [], None, vec_len}
use Rattle.std.specs.Global.{Vec}
use Rattle.crossbeam_queue.specs.Fifo.{Held}
use Rattle.async_pool.specs.Jobs.{WereAllDrained}
use Rattle.async_pool.specs.Rule.{log}
use Rattle.async_pool.specs.Source.{WereEmpty}
use Rattle.async_pool.specs.declared.crew.TheConstants.{MOST_WORKERS}
use Rattle.async_pool.specs.declared.inbox.TheConstants.{CAPACITY}
use Rattle.async_pool.specs.declared.rule.Log.{Log}
use Rattle.async_pool.specs.declared.pool.Pool.{Pool}
use Rattle.async_pool.specs.declared.rule.Shutdown.{Ghosts}
use Rattle.async_pool.specs.declared.thief.Thief.{Thief}

-- a job may come back: the pool was shut, or the inbox was full at one moment
abbrev pub MayComeBack : {J : Type 0} → Bool → (Log J → List J → Type 0) → Type 0
MayComeBack shut inbox = (shut ≡ true) ⊎ Held CAPACITY (inbox (log [] []))

-- a pool of jobs J, which run with a context C
module _ {J P Q C : Type 0} {shutdown : Ghosts P} where
  -- the number of its workers
  abbrev pub pool_workers : Pool J P Q C shutdown → ℕ
  pool_workers pool = pool.workers

  -- each worker's queue held no job at one moment
  abbrev pub WereQueuesEmpty : (Thief J Q → Type 0) → Pool J P Q C shutdown → Type 0
  WereQueuesEmpty empty pool = WereEmpty empty pool.jobs.thieves.items None

  -- these are all jobs of the inbox, and then those of each worker's queue, until it held none; or as many as there is
  -- room for
  abbrev pub AreLeft : (Log J → List J → Type 0) → (Thief J Q → List J → Type 0) → Pool J P Q C shutdown → Vec J → Type 0
  AreLeft inbox drained pool left = (CAPACITY + MOST_WORKERS ≤ vec_len left)
      ⊎ WereAllDrained inbox drained pool.jobs.thieves.items left.items
