use Rattle.std.proofs.Common.{[], ◌∷◌, ◌++◌, sym, ap, ◌∙◌, arith}
use Rattle.atomic_table.specs.Table.{Me}
use Rattle.history.specs.declared.rule.View.{View}
use Rattle.history.specs.History.{entry, written}
use Rattle.history.proofs.Moves.{parts, meets, writes}
use Rattle.history.proofs.Together.{joined_is, is_keeper, is_writer, keeper_itself, writer_itself}
use Rattle.history.proofs.history.History.write_said.Goals as goal

pub split_seat-requires : goal.split_seat-requires
split_seat-requires g c =
    let i = c.self.invariant in
    (i.2 ∙ sym i.0, omega (arith, i.1), parts _ _ (ap (λ m. m.0.keeps) i.3))

pub join_seat-requires : goal.join_seat-requires
join_seat-requires g c =
    let i = c.self.invariant in
    let s = c.split_seat.ensures in
    (c.pass.invariant.0 ∙ sym i.0, s.3 ∙ (i.2 ∙ sym i.0), ap (λ m. m.1) s.4, omega (arith, i.1), meets _ _ _ _ (ap (λ m. m.0.keeps) s.4 ∙ ap (λ m. m.0.keeps) i.3))

pub load-requires : goal.load-requires
load-requires g c =
    let i = c.self.invariant in
    let j = c.join_seat.ensures in
    let is = joined_is _ _ _ _ i.3 c.pass.invariant.1 c.split_seat.ensures.4 j.2 in
    (j.0 ∙ (c.pass.invariant.0 ∙ sym i.0), omega (arith, i.1), writes _ _ _ _ (ap (λ m. m.0.keeps) is) (ap (λ m. m.0.writes) is))

pub split_seat-requires-2 : goal.split_seat-requires-2
split_seat-requires-2 g c =
    let i = c.self.invariant in
    let j = c.join_seat.ensures in
    let e = c.load.ensures in
    let is = joined_is _ _ _ _ i.3 c.pass.invariant.1 c.split_seat.ensures.4 j.2 in
    (e.0 ∙ (j.0 ∙ (c.pass.invariant.0 ∙ sym i.0)), omega (arith, i.1), parts _ _ (ap (λ m. m.0.keeps) e.2 ∙ ap (λ m. m.0.keeps) is))

pub invariant_of-self : goal.invariant_of-self
invariant_of-self g c =
    let i = c.self.invariant in
    let j = c.join_seat.ensures in
    let e = c.load.ensures in
    let t = c.split_seat-2.ensures in
    let is = joined_is _ _ _ _ i.3 c.pass.invariant.1 c.split_seat.ensures.4 j.2 in
    let after = e.2 ∙ ap (λ (x : Me (Unit {0}) View). (written x.0 g.T.Said.text, x.1)) is in
    (i.0, i.1, t.3 ∙ (e.0 ∙ (j.0 ∙ c.pass.invariant.0)), keeper_itself _ _ _ _ (is_keeper _ _ _ _ _ _ _ after t.4))

pub invariant_of-pass : goal.invariant_of-pass
invariant_of-pass g c =
    let i = c.self.invariant in
    let j = c.join_seat.ensures in
    let e = c.load.ensures in
    let t = c.split_seat-2.ensures in
    let is = joined_is _ _ _ _ i.3 c.pass.invariant.1 c.split_seat.ensures.4 j.2 in
    let after = e.2 ∙ ap (λ (x : Me (Unit {0}) View). (written x.0 g.T.Said.text, x.1)) is in
    (t.0 ∙ (e.0 ∙ (j.0 ∙ c.pass.invariant.0)), writer_itself _ _ _ (is_writer _ _ _ _ _ _ _ after t.2))

pub returns-clause-history : goal.returns-clause-history
returns-clause-history g c =
    let i = c.self.invariant in
    let j = c.join_seat.ensures in
    let e = c.load.ensures in
    let t = c.split_seat-2.ensures in
    let is = joined_is _ _ _ _ i.3 c.pass.invariant.1 c.split_seat.ensures.4 j.2 in
    let after = e.2 ∙ ap (λ (x : Me (Unit {0}) View). (written x.0 g.T.Said.text, x.1)) is in
    let kept = is_keeper _ _ _ _ _ _ _ after t.4 in
    let self = c.self.view_is in
    let pass = c.pass.view_is in
    ap (λ (x : Me (Unit {0}) View). record { log = x.0.log; made = x.0.made; back = x.0.back }) kept ∙ (λ k. record (self k) { log = (self k).log ++ entry (pass k).source g.T.Said.text ∷ [] })
