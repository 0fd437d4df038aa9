-- What clauses see of a thief, and of a pass with which it steals.
use Rattle.std.specs.Prelude.{◌≡◌, ⊤, List, [], ◌∷◌, Option, Some, None}
use Rattle.std.specs.Global.{Global}
use Rattle.crossbeam_deque.specs.Handles.{IsPassOf, Pass, stealer_deque, worker_deque}
use Rattle.crossbeam_utils.specs.Padded.{padded_value}
use Rattle.async_pool.specs.declared.rule.Log.{Log}
use Rattle.async_pool.specs.declared.queue.Queue.{Queue}
use Rattle.async_pool.specs.declared.thief.Thief.{Thief}

module _ {J Q : Type 0} where
  -- it steals from this queue
  abbrev pub IsThiefOf : Queue J Q → Thief J Q → Type 0
  IsThiefOf queue thief = stealer_deque (padded_value thief.end) ≡ worker_deque queue.end

  -- it is a pass of the queue that the thief steals from
  abbrev pub IsPassOfThief : Thief J Q → Pass J (Log J) Global → Type 0
  IsPassOfThief thief pass = IsPassOf (stealer_deque (padded_value thief.end)) pass

  -- each of the first places has a queue, and its thief stands at the same place; no other place has one
  abbrev pub AreThievesOf : List (Option (Queue J Q)) → List (Thief J Q) → Type 0
  AreThievesOf [] [] = ⊤
  AreThievesOf [] (thief ∷ thieves) = ⊥
  AreThievesOf (None ∷ places) [] = AreThievesOf places []
  AreThievesOf (None ∷ places) (thief ∷ thieves) = ⊥
  AreThievesOf (Some queue ∷ places) [] = ⊥
  AreThievesOf (Some queue ∷ places) (thief ∷ thieves) = IsThiefOf queue thief × AreThievesOf places thieves
