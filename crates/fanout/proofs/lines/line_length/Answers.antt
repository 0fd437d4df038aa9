use Rattle.std.proofs.Common.{inl, inr, length, ◌+◌, rules, arith, refl}
use Rattle.fanout.proofs.Ends.{first_line}
use Rattle.fanout.proofs.lines.line_length.Goals as goal

pub returns-in-Some-clause-line : goal.returns-in-Some-clause-line
returns-in-Some-clause-line c =
    first_line c.args.bytes.now (c.in-Some.place + 1) (omega arith) (search rules) (search rules) (inl (search rules))

pub returns-in-None-clause-line : goal.returns-in-None-clause-line
returns-in-None-clause-line c =
    first_line c.args.bytes.now (length c.args.bytes.now) c.requires (omega arith) (search rules) (inr refl)
