use Rattle.std.proofs.Common.{sym, ap, ◌∙◌, arith}
use Rattle.history.proofs.Moves.{looks}
use Rattle.history.proofs.history.History.look.Goals as goal

pub load-requires : goal.load-requires
load-requires g c =
    let i = c.self.invariant in
    (i.2 ∙ sym i.0, omega (arith, i.1), looks _ _ _ (ap (λ m. m.0.keeps) i.3))
