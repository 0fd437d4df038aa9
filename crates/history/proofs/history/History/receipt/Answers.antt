use Rattle.std.proofs.Common.{sym, ap, ◌∙◌, arith}
use Rattle.history.proofs.Moves.{gives}
use Rattle.history.proofs.history.History.receipt.Goals as goal

pub split_seat-requires : goal.split_seat-requires
split_seat-requires g c =
    let i = c.self.invariant in
    (i.2 ∙ sym i.0, omega (arith, i.1), gives _ _ (ap (λ m. m.0.keeps) i.3))
