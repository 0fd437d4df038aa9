use Rattle.std.proofs.Common.{◌≡◌, ◌⊎◌, ℕ, ◌<◌, Some}
use Rattle.std.specs.Prelude.{slice_get}
use Rattle.async_pool.proofs.source.steal_first.Given as goal

abbrev pub invariant-loop-place : goal.invariant-loop-place
invariant-loop-place g l = (k : ℕ) (source : g.row.T.Denot) → k < l.place → slice_get l.sources k ≡ Some source → (l.left_out ≡ Some k) ⊎ g.T.Source.was_empty source
