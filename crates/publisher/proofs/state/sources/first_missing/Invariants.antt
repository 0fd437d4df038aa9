use Rattle.std.proofs.Common.{◌≡◌, ℕ, ◌<◌, ◌≤◌, true, Some}
use Rattle.std.specs.Prelude.{slice_get}
use Rattle.publisher.proofs.state.sources.first_missing.Given as goal

abbrev pub invariant-loop-source : goal.invariant-loop-source
invariant-loop-source l = (l.source ≤ l.many) × ((k : ℕ) → k < l.source → slice_get l.sources k ≡ Some true)
