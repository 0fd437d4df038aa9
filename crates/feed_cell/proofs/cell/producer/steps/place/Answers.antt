use Rattle.std.proofs.Common.{rules, refl, inl, ◌+◌, ap, ◌∙◌}
use Rattle.feed_cell.proofs.Producers.Put.{puts_placed}
use Rattle.feed_cell.specs.declared.cell.words.Word.{Word}
use Rattle.feed_cell.proofs.Words.FourWords.{at_place, part_kept}
use Rattle.feed_cell.specs.Seats.{SeatOf}
use Rattle.feed_cell.specs.ProducerSteps.{IsPut}
use Rattle.feed_cell.proofs.cell.producer.steps.place.Goals as goal

pub store-requires : goal.store-requires
store-requires g c = (
  search rules,
  search rules,
  at_place g.B.Listener.told _ _ _ c.exchange-nothing.new.seat.me c.args.party.now.capacity _ Word.Tail (λ _. c.args.number + 1) (λ _. IsPut c.exchange-nothing.new.seat.me) (part_kept c.args.party.now.seat.me c.exchange-nothing.new.seat.me _ c.exchange-nothing.ensures.3 (inl c.requires.place.is.0)) (ap (λ (m : SeatOf _). m.0.capacity) c.exchange-nothing.ensures.3 ∙ c.args.party.now.sized) c.place_of-at.ensures.place
      (puts_placed g.B.Listener.told _ _ _ _ _ c.args.party.now.seat.me c.exchange-nothing.new.seat.me _ c.args.item c.requires.place c.args.party.now.sized c.exchange-nothing.ensures.3 c.slot_of-slot.ensures _ refl),
)
