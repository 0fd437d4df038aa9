use Rattle.std.proofs.Common.{List, ℕ, length, sym, ap, ◌∙◌, subst}
use Rattle.atomic_table.specs.Seated.{TableId}
use Rattle.atomic_table.specs.Table.{opening}
use Rattle.feed_cell.proofs.Words.FourWords.{counted_by}
use Rattle.feed_cell.proofs.Table.FirstSeats.{opens}
use Rattle.feed_cell.specs.Cell.{CellRule, words_by}
use Rattle.feed_cell.specs.Views.{first_view}
use Rattle.feed_cell.specs.declared.cell.Held.{Held}
use Rattle.feed_cell.proofs.cell.maker.lay.Goals as goal

pub new-requires : goal.new-requires
new-requires g c =
    subst (λ (words : List ℕ). CellRule g.B.Listener.told c.args.capacity (opening words c.in_ok-slots.slots.items (first_view c.args.capacity c.args.order))) (sym c.first_words.ensures.words)
    (subst (λ (slots : List (Held g.row.B.Denot)). CellRule g.B.Listener.told c.args.capacity (opening (words_by c.args.capacity 0 0 0 1) slots (first_view c.args.capacity c.args.order))) (sym c.in_ok-slots.ensures) (opens g.B.Listener.told c.args.capacity c.args.order c.requires.capacity))

pub returns-in-Ok : goal.returns-in-Ok
returns-in-Ok g c =
    let ok = c.in-Ok.ensures.ok in
    (ok.2, ap (λ (z : TableId). z.words) ok.2 ∙ ok.0 ∙ ap length c.first_words.ensures.words ∙ counted_by c.args.capacity 0 0 0 1, ok.4)
