use Rattle.std.proofs.Common.{rules, refl, inr, ◌+◌, ap, ◌∙◌}
use Rattle.feed_cell.proofs.Tasks.Steps.{takes_out}
use Rattle.feed_cell.specs.declared.cell.words.Word.{Word}
use Rattle.feed_cell.proofs.Words.FourWords.{at_place, part_kept}
use Rattle.feed_cell.specs.Seats.{SeatOf}
use Rattle.feed_cell.specs.TaskPlays.{IsTake}
use Rattle.feed_cell.proofs.cell.task.steps.take.Goals as goal

pub store-requires : goal.store-requires
store-requires g c = (
  search rules,
  search rules,
  at_place g.B.Listener.told _ _ _ c.exchange-held.new.seat.me c.args.party.now.capacity _ Word.Head (λ _. c.args.given + 1) (λ _. IsTake c.exchange-held.new.seat.me) (part_kept c.args.party.now.seat.me c.exchange-held.new.seat.me _ c.exchange-held.ensures.3 (inr (inr c.requires.away.0.2))) (ap (λ (m : SeatOf _). m.0.capacity) c.exchange-held.ensures.3 ∙ c.args.party.now.sized) c.place_of-at.ensures.place
      (takes_out g.B.Listener.told _ _ _ c.args.party.now.seat.me c.exchange-held.new.seat.me c.args.party.now.capacity c.args.given _ _ c.requires.away.0 c.requires.away.1 c.requires.may c.requires.item c.requires.counted.0 c.args.party.now.sized c.exchange-held.ensures.3 c.slot_of-slot.ensures refl),
)
