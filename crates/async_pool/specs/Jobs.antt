-- Where a thread finds its next job, and what is left in the end.
use Rattle.std.specs.Prelude.{◌≡◌, ◌⊎◌, List, [], ◌++◌, Option, Some, None}
use Rattle.crossbeam_queue.specs.Passes.{IsPassOf, view}
use Rattle.async_pool.specs.Rule.{after_take, log}
use Rattle.async_pool.specs.Source.{WereDrained}
use Rattle.async_pool.specs.Queue.{queue_view}
use Rattle.async_pool.specs.declared.rule.Log.{Log}
use Rattle.async_pool.specs.declared.jobs.Jobs.{Jobs}
use Rattle.async_pool.specs.declared.taker.Taker.{Taker}

module _ {J Q : Type 0} where
  -- the worker took nothing from its own queue, and nothing from the inbox
  abbrev pub TakesNothing : Taker J Q → Taker J Q → Type 0
  TakesNothing old new = (queue_view new.own ≡ queue_view old.own) × (view new.pass ≡ view old.pass)

  -- the job that the worker found is what it took from its own queue, or else from the inbox; or it took nothing from
  -- either and stole
  abbrev pub FindsJob : Taker J Q → Option J → Taker J Q → Type 0
  FindsJob old None new = TakesNothing old new
  FindsJob old (Some job) new =
      ((queue_view new.own ≡ after_take (queue_view old.own) job) × (view new.pass ≡ view old.pass))
      ⊎ (((queue_view new.own ≡ queue_view old.own) × (view new.pass ≡ after_take (view old.pass) job)) ⊎ TakesNothing old new)

module _ {J P Q T : Type 0} where
  -- its pass is one of the inbox
  abbrev pub IsTakerOf : Jobs J P T → Taker J Q → Type 0
  IsTakerOf jobs taker = IsPassOf jobs.inbox.queue taker.pass

module _ {J Q : Type 0} (queue inbox : Log J → List J → Type 0) where
  -- the worker's own queue held no job at one moment, and the inbox at another
  abbrev pub HadNone : Taker J Q → Type 0
  HadNone taker = queue (queue_view taker.own) [] × inbox (view taker.pass) []

module _ {J T : Type 0} (inbox : Log J → List J → Type 0) (drained : T → List J → Type 0) where
  -- these are the jobs that were taken from the inbox until it held none, and then those that were taken so from each
  -- source
  abbrev pub WereAllDrained : List T → List J → Type 0
  WereAllDrained sources taken = (first : List J) × (others : List J) × (taken ≡ first ++ others) × inbox (log [] first) []
      × WereDrained drained sources others
