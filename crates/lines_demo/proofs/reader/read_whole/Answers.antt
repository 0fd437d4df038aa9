use Rattle.std.proofs.Common.{◌<◌, length, arith}
use Rattle.lines_demo.proofs.Inputs.Reading.{all_read}
use Rattle.lines_demo.proofs.reader.read_whole.Goals as goal

pub returns-clause-known : goal.returns-clause-known
returns-clause-known g c =
    let read = rw (c.take.ensures.limit, c.take.ensures.inner, c.new-bytes.ensures.items) at c.in-Ok.ensures.bytes in
    let short : length c.read_to_end.new.buf.items < 16777217 = omega arith in
    all_read (g.R.Read.remaining c.args.reader.now) 16777217 c.read_to_end.new.buf.items read short

pub returns-clause-bounded : goal.returns-clause-bounded
returns-clause-bounded g c = omega arith
