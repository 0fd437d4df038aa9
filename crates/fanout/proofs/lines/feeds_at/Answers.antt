use Rattle.std.proofs.Common.{eqb, ap, ◌∙◌, arith, w8}
use Rattle.std.specs.Simd.Lanes.{chunk}
use lib.Count.{ones}
use Rattle.std.proofs.lemmas.Simd.{bitmask_splat, length-chunk, ones-mask_l}
use Rattle.memchr.specs.Find.{is_byte}
use Rattle.fanout.proofs.lines.feeds_at.Goals as goal

pub returns : goal.returns
returns c =
    let lanes = chunk c.args.at 64 c.args.bytes.now in
    ap ones (bitmask_splat w8 eqb lanes 64 10 (length-chunk c.args.at 64 c.args.bytes.now c.requires) (omega arith))
    ∙ ones-mask_l (is_byte 10) lanes
