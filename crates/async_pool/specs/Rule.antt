-- What a pass knows of its own steps, and what is asked of a rule of a queue.
use Rattle.std.specs.Prelude.{◌≡◌, ℕ, List, [], ◌∷◌, ◌++◌, slice_set}
use mathlib.Core.Option.{some}
use lib.ListN.{get_elem?}
use Rattle.async_pool.specs.declared.rule.Log.{Log}

module _ {J : Type 0} where
  -- what a pass knows that put and took these jobs
  abbrev pub log : List J → List J → Log J
  log put taken = record { put = put; taken = taken }

  -- what it knows after it put one more job
  abbrev pub after_put : Log J → J → Log J
  after_put v job = log (v.put ++ job ∷ []) v.taken

  -- what it knows after it took one more job
  abbrev pub after_take : Log J → J → Log J
  after_take v job = log v.put (v.taken ++ job ∷ [])

module _ {J : Type 0} (holds : List J → List (Log J) → Type 0) where
  -- the rule holds of a new queue, with one pass
  abbrev pub Begins : Type 0
  Begins = holds [] (log [] [] ∷ [])

  -- there was a moment at which the rule held, the queue held these jobs, and a pass knew this
  abbrev pub Moment : Log J → List J → Type 0
  Moment v items = (views : List (Log J)) × (pass : ℕ) × holds items views × (get_elem? views pass ≡ some v)

module _ {J : Type 0} (holds : List J → List (Log J) → Type 0) (fact : Log J → List J → Type 0) where
  -- The rule stays when jobs join at the back, when jobs leave at the front, and when a pass enters; and it tells each
  -- pass a fact of what the queue holds. That it holds of anything is not asked.
  pub record IsKept : Type 0 where
    pub puts : (items xs : List J) (views : List (Log J)) (pass : ℕ) (v : Log J) → holds items views → get_elem? views pass ≡ some v
        → holds (items ++ xs) (slice_set views pass (log (v.put ++ xs) v.taken))
    pub takes : (xs items : List J) (views : List (Log J)) (pass : ℕ) (v : Log J) → holds (xs ++ items) views
        → get_elem? views pass ≡ some v → holds items (slice_set views pass (log v.put (v.taken ++ xs)))
    pub admits : (items : List J) (views : List (Log J)) → holds items views → holds items (views ++ log [] [] ∷ [])
    pub learns : (items : List J) (views : List (Log J)) (pass : ℕ) (v : Log J) → holds items views → get_elem? views pass ≡ some v
        → fact v items
