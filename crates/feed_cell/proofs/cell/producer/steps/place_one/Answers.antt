use Rattle.std.proofs.Common.{rules, inl, ap, ◌∙◌}
use Rattle.feed_cell.proofs.Producers.Put.{places_held}
use Rattle.feed_cell.specs.declared.cell.words.Word.{Word}
use Rattle.feed_cell.proofs.Words.FourWords.{at_place, part_kept}
use Rattle.feed_cell.specs.Seats.{SeatOf}
use Rattle.feed_cell.specs.ProducerSteps.{IsPlaced}
use Rattle.feed_cell.proofs.cell.producer.steps.place_one.Goals as goal

pub load-requires : goal.load-requires
load-requires g c = (
  search rules,
  search rules,
  at_place g.B.Listener.told _ _ _ c.exchange-empty.new.seat.me c.args.party.now.capacity _ Word.Tail (λ n. n) (λ _. IsPlaced c.exchange-empty.new.seat.me) (part_kept c.args.party.now.seat.me c.exchange-empty.new.seat.me _ c.exchange-empty.ensures.3 (inl c.requires.place.is.0)) (ap (λ (m : SeatOf _). m.0.capacity) c.exchange-empty.ensures.3 ∙ c.args.party.now.sized) c.place_of-at.ensures.place
      (places_held g.B.Listener.told _ _ _ _ _ c.args.party.now.seat.me c.exchange-empty.new.seat.me _ c.args.item c.requires.place c.args.party.now.sized c.exchange-empty.ensures.3 c.slot_of-slot.ensures c.requires.behind),
)
