use Rattle.std.proofs.Common.{◌≡◌, ℕ, ◌<◌, Some}
use Rattle.std.specs.Prelude.{slice_get}
use Rattle.publisher_hub.specs.Subscribing.{IsNotNamed}
use Rattle.publisher_hub.proofs.hub.look.find_named.Given as goal

abbrev pub invariant-loop-number : goal.invariant-loop-number
invariant-loop-number g l = (i number : ℕ) → i < l.number-index → slice_get l.live i ≡ Some number → IsNotNamed l.name number l.entries
