use Rattle.std.proofs.Common.{refl}
use Rattle.publisher.proofs.submitter.Submitter.new.Goals as goal

pub returns : goal.returns
returns g c = refl
