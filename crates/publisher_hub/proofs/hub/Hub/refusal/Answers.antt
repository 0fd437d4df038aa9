-- An open Hub whose serial numbers are not used up refuses nothing.
use Rattle.std.proofs.Common.{arith}
use Rattle.publisher_hub.proofs.hub.Hub.refusal.Goals as goal

pub returns : goal.returns
returns g c = (c.in_default.is, λ last. omega arith)
