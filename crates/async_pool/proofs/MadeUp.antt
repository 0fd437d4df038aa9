-- A moment of the pool's own rule can be made up, for any view and any list. No proof cites this: the wrong bodies do,
-- whose answers it would be if the clauses spoke of that rule, and not of any that steps keep.
use Rattle.std.proofs.Common.{◌++◌, ℕ, List, [], ◌∷◌, Option, inr, refl, replicate, sym, subst}
use Rattle.std.proofs.lemmas.List.{append-nil, length-replicate}
use Rattle.crossbeam_queue.specs.Fifo.{Held}
use Rattle.async_pool.specs.declared.rule.Log.{Log}
use Rattle.async_pool.specs.Rule.{Moment, log}
use Rattle.async_pool.specs.Source.{WereDrained, WereEmpty}
use Rattle.async_pool.specs.Bag.{Bag}
use Rattle.async_pool.specs.Bags.{admits, begins, puts_more, takes_more}

module _ {J : Type 0} (v : Log J) (items : List J) where
  one_puts : Bag v.put (log v.put [] ∷ [])
  one_puts = puts_more [] v.put (log [] [] ∷ []) 0 (log [] []) begins refl

  another_takes : Bag [] (log v.put [] ∷ log [] v.put ∷ [])
  another_takes = takes_more v.put [] (log v.put [] ∷ log [] [] ∷ []) 1 (log [] []) (subst (λ l. Bag l (log v.put [] ∷ log [] [] ∷ [])) (sym (append-nil v.put)) (admits v.put (log v.put [] ∷ []) one_puts)) refl

  another_puts : Bag (v.taken ++ items) (log v.put [] ∷ log (v.taken ++ items) v.put ∷ [])
  another_puts = puts_more [] (v.taken ++ items) (log v.put [] ∷ log [] v.put ∷ []) 1 (log [] v.put) another_takes refl

  one_takes : Bag items (log v.put v.taken ∷ log (v.taken ++ items) v.put ∷ [])
  one_takes = takes_more v.taken items (log v.put [] ∷ log (v.taken ++ items) v.put ∷ []) 0 (log v.put []) another_puts refl

  pub made_up : Moment Bag v items
  made_up = (log v.put v.taken ∷ log (v.taken ++ items) v.put ∷ [], 0, one_takes, refl)

module _ {J : Type 0} where
  -- the queue held this many
  pub full : (n : ℕ) (v : Log J) (job : J) → Held n (Moment Bag v)
  full n v job = (replicate n job, length-replicate n job, made_up v (replicate n job))

-- each source was empty
pub all_empty : {T : Type 0} (J : Type 0) (sources : List T) (left_out : Option ℕ) → WereEmpty (λ (_ : T). Moment (Bag {J = J}) (log [] []) []) sources left_out
all_empty J sources left_out place source at = inr (made_up (log [] []) [])

-- and none had a job to take
pub none_drained : {T : Type 0} (J : Type 0) (sources : List T) → WereDrained (λ (_ : T) (taken : List J). Moment Bag (log [] taken) []) sources []
none_drained J [] = refl
none_drained J (source ∷ sources) = ([], [], refl, made_up (log [] []) [], none_drained J sources)
