use Rattle.std.proofs.Common.{sym, ◌∙◌, arith}
use Rattle.history.proofs.Together.{makes_as}
use Rattle.history.proofs.history.History.make_source.Goals as goal

pub split_seat-requires : goal.split_seat-requires
split_seat-requires g c =
    let i = c.self.invariant in
    (i.2 ∙ sym i.0, omega (arith, i.1), makes_as _ _ i.3)
