-- The plain turn, one look at a time.
use Rattle.std.proofs.Common.{◌≡◌, ℕ, suc, ◌-◌, ◌<◌, ◌==◌, min, false, List, [], ◌∷◌, length, None, Some, refl, ap, sym, ◌∙◌, inl, inr, arith}
use Rattle.std.proofs.lemmas.Bool.Decides.{nat_tests, eqb_tells}
use Rattle.feed_core.specs.Prelude.{Item, Next, How}
use Rattle.feed_core.specs.declared.cause.Causes.{Causes}
use Rattle.feed_core.specs.Cause.{stops, closes}
use Rattle.feed_core.specs.PlainTurn.{another_turn, end_by, signals_then, close_or_rest}
use Rattle.feed_core.specs.Steps.{turn_within}

-- the next numbers are equal if these are
same_next : (m n : ℕ) → (suc m == suc n) ≡ (m == n)
same_next m n = elim (eqb_tells (suc m) (suc n)) [
  | inl e ↦ elim (eqb_tells m n) [
    | inl f ↦ e.0 ∙ sym f.0
    | inr f ↦ absurd (f.1 (omega (arith, e.1)))
  ]
  | inr e ↦ elim (eqb_tells m n) [
    | inl f ↦ absurd (e.1 (ap suc f.1))
    | inr f ↦ e.0 ∙ sym f.0
  ]
]

-- an end that is due at once is the whole of what is left of a turn
pub stopped : (most : ℕ) (causes : Causes) (waiting : List Item) (unmet : ℕ) (how : How) → stops causes ≡ Some how
    → turn_within most causes waiting unmet ≡ end_by how
stopped most causes waiting unmet how e = rw e refl

-- an item that waits and was requested comes first, and then what is left of the turn
pub gives : (most : ℕ) (causes : Causes) (item : Item) (waiting : List Item) (unmet : ℕ) → stops causes ≡ None
    → 0 < unmet
    → turn_within (suc most) causes (item ∷ waiting) unmet ≡ signals_then (Next item ∷ []) (turn_within most causes waiting (unmet - 1))
gives most causes item waiting unmet e some =
    let m : ℕ = min (min (length waiting) (unmet - 1)) most in
    let n : min (min (suc (length waiting)) unmet) (suc most) ≡ suc m = omega arith in
    rw (e, n, same_next m most) refl

-- if no item waits or none was requested, completion is due, or rest
pub pauses : (most : ℕ) (causes : Causes) (waiting : List Item) (unmet : ℕ) → stops causes ≡ None
    → min (length waiting) unmet ≡ 0
    → turn_within (suc most) causes waiting unmet ≡ close_or_rest (closes causes) waiting
pauses most causes waiting unmet e none =
    let n : min (min (length waiting) unmet) (suc most) ≡ 0 = omega arith in
    let some : (0 == suc most) ≡ false = grind (arith, nat_tests) in
    rw (e, n, some) refl

-- a turn that may give no more items is to be gone on with
pub full : (causes : Causes) (waiting : List Item) (unmet : ℕ) → stops causes ≡ None → turn_within 0 causes waiting unmet ≡ another_turn
full causes waiting unmet e =
    let n : min (min (length waiting) unmet) 0 ≡ 0 = omega arith in
    rw (e, n) refl
