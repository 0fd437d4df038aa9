use Rattle.std.proofs.Common.{◌<◌, length}
use Rattle.fanout.proofs.source.publish_read.Given as goal

-- all pieces that can be cut were cut
abbrev pub invariant-reads : goal.invariant-reads
invariant-reads g l = length l.intake.waiting < 4096
