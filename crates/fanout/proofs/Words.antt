-- Whether a word stands in a piece, as the search for it tells.
use Rattle.std.proofs.Common.{◌≡◌, ℕ, true, false, refl, List, None, Some, Option, arith}
use Rattle.std.specs.Prelude.{◌↔◌, IsTrue, is_some}
use Rattle.memchr.specs.Find.{FindsNeedle}
use Rattle.fanout.specs.Filter.{Has}

-- a word stands there if the search has found it, and only then
pub found_has : (hay needle : List ℕ) (r : Option ℕ) → FindsNeedle hay needle 0 r → IsTrue (is_some r) ↔ Has hay needle
found_has hay needle None nowhere = (
  (λ (is : false ≡ true). cc),
  λ (h : Has hay needle). absurd (nowhere h.0 (omega arith) (let fits = h.1.fits in omega arith) h.1),
)
found_has hay needle (Some k) found = (
  (λ is. (k, found.1)),
  λ h. refl,
)
