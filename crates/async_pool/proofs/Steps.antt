-- What the kit's queues ask of their calls, of any rule that steps keep.
use Rattle.std.proofs.Common.{◌≡◌, ℕ, ◌≤◌, List, [], ◌∷◌, ◌++◌, Option, Some, None, IfNone, length, refl, subst, arith}
use Rattle.std.specs.Prelude.{MatchOption}
use Rattle.crossbeam_queue.specs.Fifo as array
use Rattle.crossbeam_deque.specs.Tasks as deque
use Rattle.async_pool.specs.declared.rule.Log.{Log}
use Rattle.async_pool.specs.Rule.{IsKept, log}

nothing : {J : Type 0} (items : List J) → length items ≤ 0 → items ≡ []
nothing [] none = refl
nothing (x ∷ xs) none = absurd (omega arith)

-- what was learned of a queue that held no job
pub held_none : {J : Type 0} (fact : List J → Type 0) → array.Held 0 fact → fact []
held_none fact (items, long, known) = subst fact (nothing items (omega arith)) known

-- the same, if no job came
pub none_held : {J X : Type 0} (fact : List J → Type 0) (same : Type 0) (came : X → Type 0) (r : Option X) → MatchOption r (same × array.Held 0 fact) came → IfNone r (fact [])
none_held fact same came None (_, h) = held_none fact h
none_held fact same came (Some x) m = tt

module _ {J : Type 0} (holds : List J → List (Log J) → Type 0) (fact : Log J → List J → Type 0) where
  -- what the array queue asks of its calls
  pub inbox_puts : IsKept holds fact → (n pass : ℕ) (v : Log J) (x : J) → array.Pushes holds n pass v x (λ w. w ≡ log (v.put ++ x ∷ []) v.taken)
  inbox_puts kept n pass v x items views room h at = (log (v.put ++ x ∷ []) v.taken, kept.puts items (x ∷ []) views pass v h at, refl)

  pub inbox_takes : IsKept holds fact → (pass : ℕ) (v : Log J) → array.Pops holds pass v (λ x w. w ≡ log v.put (v.taken ++ x ∷ []))
  inbox_takes kept pass v x items views h at = (log v.put (v.taken ++ x ∷ []), kept.takes (x ∷ []) items views pass v h at, refl)

  pub inbox_learns : IsKept holds fact → (pass : ℕ) (v : Log J) → array.Learns holds pass v (fact v)
  inbox_learns kept pass v items views h at = kept.learns items views pass v h at

  -- what the deque asks of its calls
  pub queue_puts : IsKept holds fact → (pass : ℕ) (v : Log J) (xs : List J) → deque.Pushes holds pass v xs (λ w. w ≡ log (v.put ++ xs) v.taken)
  queue_puts kept pass v xs items views h at = (log (v.put ++ xs) v.taken, kept.puts items xs views pass v h at, refl)

  pub queue_takes : IsKept holds fact → (pass : ℕ) (v : Log J) (most : ℕ) → deque.Takes holds pass v most (λ xs w. w ≡ log v.put (v.taken ++ xs))
  queue_takes kept pass v most xs items views _ _ h at = (log v.put (v.taken ++ xs), kept.takes xs items views pass v h at, refl)

  pub queue_finds : IsKept holds fact → (pass : ℕ) (v : Log J) → deque.Finds holds pass v (fact v [])
  queue_finds kept pass v views h at = kept.learns [] views pass v h at

  pub queue_finds_few : IsKept holds fact → (most pass : ℕ) (v : Log J) → most ≡ 0 → deque.FindsFew holds most pass v (fact v [])
  queue_finds_few kept most pass v none items views few h at = subst (fact v) (nothing items (omega arith)) (kept.learns items views pass v h at)
