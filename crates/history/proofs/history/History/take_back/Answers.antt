use Rattle.std.proofs.Common.{sym, ap, ◌∙◌, arith}
use Rattle.history.proofs.Moves.{parts, meets, returns}
use Rattle.history.proofs.Together.{joined_is}
use Rattle.history.proofs.history.History.take_back.Goals as goal

pub split_seat-requires : goal.split_seat-requires
split_seat-requires g c =
    let i = c.self.invariant in
    (i.2 ∙ sym i.0, omega (arith, i.1), parts _ _ (ap (λ m. m.0.keeps) i.3))

pub join_seat-requires : goal.join_seat-requires
join_seat-requires g c =
    let i = c.self.invariant in
    let s = c.split_seat.ensures in
    (c.pass.invariant.0 ∙ sym i.0, s.3 ∙ (i.2 ∙ sym i.0), ap (λ m. m.1) s.4, omega (arith, i.1), meets _ _ _ _ (ap (λ m. m.0.keeps) s.4 ∙ ap (λ m. m.0.keeps) i.3))

pub load-requires : goal.load-requires
load-requires g c =
    let i = c.self.invariant in
    let j = c.join_seat.ensures in
    let is = joined_is _ _ _ _ i.3 c.pass.invariant.1 c.split_seat.ensures.4 j.2 in
    (j.0 ∙ (c.pass.invariant.0 ∙ sym i.0), omega (arith, i.1), returns _ _ _ (ap (λ m. m.0.keeps) is) (ap (λ m. m.0.writes) is))
