-- The rule of the inbox and of each worker's queue (Java SE 17, ForkJoinPool with asyncMode: first in, first out, for
-- tasks that are never joined).
use Rattle.std.specs.Prelude.{◌≡◌, ◌≤◌, ◌==◌, ℕ, List, [], ◌∷◌, ◌++◌, if◌then◌else◌, length, map}
use mathlib.Core.Option.{some}
use lib.ListN.{get_elem?}
use Rattle.async_pool.specs.declared.rule.Log.{Log}

module _ {J : Type 0} where
  -- the job of a step; a step is the number of the pass that made it, with its job
  abbrev pub job_of : ℕ × J → J
  job_of step = step.1

  -- the jobs of the steps that the pass of this number made
  abbrev pub jobs_by : ℕ → List (ℕ × J) → List J
  jobs_by pass [] = []
  jobs_by pass (step ∷ steps) = if pass == step.0 then step.1 ∷ jobs_by pass steps else jobs_by pass steps

  -- What was put is what was taken, followed by what the queue holds, in the order of the steps. Each step is of one
  -- pass, and each pass knows its own steps.
  pub record Bag (items : List J) (views : List (Log J)) : Type 0 where
    pub puts : List (ℕ × J)
    pub takes : List (ℕ × J)
    pub in_order : map job_of puts ≡ map job_of takes ++ items
    pub each : (pass : ℕ) (v : Log J) → get_elem? views pass ≡ some v → (v.put ≡ jobs_by pass puts) × (v.taken ≡ jobs_by pass takes)
    pub no_other : (pass : ℕ) → length views ≤ pass → (jobs_by pass puts ≡ []) × (jobs_by pass takes ≡ [])
