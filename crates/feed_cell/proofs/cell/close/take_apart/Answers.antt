use Rattle.std.proofs.Common.{◌≡◌, ◌-◌, ℕ, ap, ◌∙◌, sym}
use Rattle.std.specs.Mem.Slots.{slots_items, slots_counts}
use lib.ListN.{get_elem?}
use Rattle.feed_cell.specs.WordPlaces.{place}
use Rattle.feed_cell.specs.declared.cell.words.Word.{Word}
use Rattle.feed_cell.proofs.Left.ClosedTable.{left_of}
use Rattle.feed_cell.proofs.cell.close.take_apart.Goals as goal

pub returns : goal.returns
returns g c =
    let there : (word : Word) → get_elem? (slots_items c.close_with-closed.result.words) (place c.args.seat.me.0.capacity word) ≡ get_elem? (slots_items c.close_with-closed.result.words) (place c.args.capacity word) = λ word. ap (λ (m : ℕ). get_elem? (slots_items c.close_with-closed.result.words) (place m word)) c.requires.sized in
    record {
      left = λ end handle end_is knows. left_of g.B.Listener.told g.B.Listener.replied _ _ c.args.seat.me.0 _ (slots_items c.close_with-closed.result.slots) c.close_with-closed.ensures.values.2 c.requires.may.0 c.requires.may.1
          c.word_of-head.result c.word_of-tail.result c.word_of-asked.result c.word_of-control.result c.last_slot-last.result c.lane_of.result
          (there Word.Head ∙ c.word_of-head.ensures) (there Word.Tail ∙ c.word_of-tail.ensures) (there Word.Asked ∙ c.word_of-asked.ensures) (there Word.Control ∙ c.word_of-control.ensures)
          (ap (λ (k : ℕ). get_elem? (slots_items c.close_with-closed.result.slots) (k - 1)) (sym (slots_counts c.close_with-closed.result.slots).0) ∙ c.last_slot-last.ensures)
          c.lane_of.ensures.there c.lane_of.ensures.noted c.lane_of.ensures.away end end_is handle knows;
    }
