-- Which places of a crew have a queue.
use Rattle.std.proofs.Common.{◌≡◌, ◌≤◌, ℕ, zero, suc, ◌+◌, ◌-◌, List, [], ◌∷◌, ◌++◌, Option, Some, None, length, replicate, ap, ◌∙◌, sym, subst, append_assoc, arith}
use Rattle.std.proofs.lemmas.List.{replicate-append-replicate}
use Rattle.async_pool.specs.Thief.{AreThievesOf, IsThiefOf}
use Rattle.async_pool.specs.declared.queue.Queue.{Queue}
use Rattle.async_pool.specs.declared.thief.Thief.{Thief}

-- one more empty place; the lists have n, m and k places
pub empty_place_added : {X : Type 0} (first old new : List (Option X)) (n m k : ℕ) → old ≡ first ++ replicate (m - n) None → n ≤ m → k ≡ m + 1 → new ≡ old ++ None ∷ [] → new ≡ first ++ replicate (k - n) None
empty_place_added first old new n m k are longer one_more is = is ∙ ap (λ l. l ++ None ∷ []) are ∙ append_assoc first (replicate (m - n) None) (None ∷ []) ∙ ap (λ l. first ++ l) (replicate-append-replicate (m - n) 1 None)
    ∙ ap (λ (i : ℕ). first ++ replicate i None) (omega arith)

only_empty : (J Q : Type 0) (n : ℕ) → AreThievesOf {J = J} {Q = Q} (replicate n None) []
only_empty J Q zero = tt
only_empty J Q (suc n) = only_empty J Q n

module _ {J Q : Type 0} where
  -- one more queue, with its thief
  thief_added : (places : List (Option (Queue J Q))) (thieves : List (Thief J Q)) (queue : Queue J Q) (thief : Thief J Q) → AreThievesOf places thieves → length places ≡ length thieves → IsThiefOf queue thief
      → AreThievesOf (places ++ Some queue ∷ []) (thieves ++ thief ∷ [])
  thief_added [] [] queue thief all same is = (is, tt)
  thief_added [] (t ∷ ts) queue thief all same is = absurd all
  thief_added (None ∷ ps) [] queue thief all same is = absurd (omega arith)
  thief_added (None ∷ ps) (t ∷ ts) queue thief all same is = absurd all
  thief_added (Some q ∷ ps) [] queue thief all same is = absurd all
  thief_added (Some q ∷ ps) (t ∷ ts) queue thief all same is = (all.0, thief_added ps ts queue thief all.1 (omega arith) is)

  -- the same, of lists that are longer so
  pub thief_joins : (places longer : List (Option (Queue J Q))) (thieves more : List (Thief J Q)) (queue : Queue J Q) (thief : Thief J Q) → longer ≡ places ++ Some queue ∷ [] → more ≡ thieves ++ thief ∷ []
      → AreThievesOf places thieves → length places ≡ length thieves → IsThiefOf queue thief → AreThievesOf longer more
  thief_joins places longer thieves more queue thief e f all same is = subst (λ (y : List (Option (Queue J Q)) × List (Thief J Q)). AreThievesOf y.0 y.1) (λ i. (sym e i, sym f i)) (thief_added places thieves queue thief all same is)

  -- places without a queue behind
  empty_places_added : (places : List (Option (Queue J Q))) (thieves : List (Thief J Q)) (n : ℕ) → AreThievesOf places thieves → AreThievesOf (places ++ replicate n None) thieves
  empty_places_added [] [] n all = only_empty J Q n
  empty_places_added [] (t ∷ ts) n all = absurd all
  empty_places_added (None ∷ ps) [] n all = empty_places_added ps [] n all
  empty_places_added (None ∷ ps) (t ∷ ts) n all = absurd all
  empty_places_added (Some q ∷ ps) [] n all = absurd all
  empty_places_added (Some q ∷ ps) (t ∷ ts) n all = (all.0, empty_places_added ps ts n all.1)

  -- the same, of a list that is longer so
  pub empty_places_join : (places longer : List (Option (Queue J Q))) (thieves : List (Thief J Q)) (n : ℕ) → longer ≡ places ++ replicate n None → AreThievesOf places thieves → AreThievesOf longer thieves
  empty_places_join places longer thieves n e all = subst (λ l. AreThievesOf l thieves) (sym e) (empty_places_added places thieves n all)
