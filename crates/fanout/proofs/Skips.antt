-- A test in the middle of two equivalences.
use Rattle.std.proofs.Common.{◌≡◌, Bool, true, false, refl}

-- what holds where the test is false holds where the test's fact doesn't
pub skips_unless : (t : Bool) (Q P : Type 0) → ((Q → t ≡ false) × (t ≡ false → Q)) → ((t ≡ true → P) × (P → t ≡ true)) → (Q → P → ⊥) × ((P → ⊥) → Q)
skips_unless true Q P skips takes = (
  (λ q p. let e : true ≡ false = skips.0 q in cc),
  (λ not_p. absurd (not_p (takes.0 refl))),
)
skips_unless false Q P skips takes = (
  (λ q p. let e : false ≡ true = takes.1 p in cc),
  (λ not_p. skips.1 refl),
)
