use Rattle.std.proofs.Common.{sym, ap, ◌∙◌, arith}
use Rattle.history.proofs.Moves.{parts, meets, recalls}
use Rattle.history.proofs.history.History.recall.Goals as goal

pub split_seat-requires : goal.split_seat-requires
split_seat-requires g c =
    let i = c.self.invariant in
    (i.2 ∙ sym i.0, omega (arith, i.1), parts _ _ (ap (λ m. m.0.keeps) i.3))

pub join_seat-requires : goal.join_seat-requires
join_seat-requires g c =
    let i = c.self.invariant in
    let s = c.split_seat.ensures in
    (c.receipt.invariant.0 ∙ sym i.0, s.3 ∙ (i.2 ∙ sym i.0), ap (λ m. m.1) s.4, omega (arith, i.1), meets _ _ _ _ (ap (λ m. m.0.keeps) s.4 ∙ ap (λ m. m.0.keeps) i.3))

pub load-requires : goal.load-requires
load-requires g c =
    let i = c.self.invariant in
    let s = c.split_seat.ensures in
    let j = c.join_seat.ensures in
    (j.0 ∙ (c.receipt.invariant.0 ∙ sym i.0), omega (arith, i.1), recalls _ _ _ (ap (λ m. m.0.keeps) j.2 ∙ (ap (λ m. m.0.keeps) s.4 ∙ ap (λ m. m.0.keeps) i.3)))

pub split_seat-requires-2 : goal.split_seat-requires-2
split_seat-requires-2 g c =
    let i = c.self.invariant in
    let s = c.split_seat.ensures in
    let j = c.join_seat.ensures in
    let l = c.load.ensures in
    (l.0 ∙ (j.0 ∙ (c.receipt.invariant.0 ∙ sym i.0)), omega (arith, i.1), parts _ _ (ap (λ m. m.0.keeps) l.2.0 ∙ (ap (λ m. m.0.keeps) j.2 ∙ (ap (λ m. m.0.keeps) s.4 ∙ ap (λ m. m.0.keeps) i.3))))
