-- The lanes that were looked at, in order.
use Rattle.std.proofs.Common.{◌≡◌, ◌∙◌, ◌⊎◌, inl, inr, ℕ, ◌+◌, ◌<◌, ◌≤◌, None, Some, List, sym, ap, arith}
use Rattle.std.specs.Prelude.{slice_get}
use Rattle.std.proofs.lemmas.Bool.{cases_lt}
use Rattle.publisher.specs.Failing.{NoneFails, failure_of}
use Rattle.publisher.specs.declared.outcome.NamedLane.{NamedLane}

-- nor has this one failed
pub none_more : {B : Type 0} (lanes : List (NamedLane B)) (place : ℕ) (it : NamedLane B)
    → slice_get lanes place ≡ Some it → failure_of it.lane.ending ≡ None
    → NoneFails lanes place → NoneFails lanes (place + 1)
none_more {B} lanes place it stands well none i left low at = by (cases_lt i place) where
  value : {a b : NamedLane B} → Some a ≡ Some b → a ≡ b
  value e = cc

  by : (i < place) ⊎ (place ≤ i) → failure_of left.lane.ending ≡ None
  by (inl before) = none i left before at
  by (inr after) =
      let same : i ≡ place = omega arith in
      let is : left ≡ it = value (sym at ∙ ap (slice_get lanes) same ∙ stands) in
      ap (λ (u : NamedLane B). failure_of u.lane.ending) is ∙ well
