use Rattle.std.proofs.Common.{rules, inr}
use Rattle.feed_cell.proofs.Table.FirstSeats.{enters}
use Rattle.feed_cell.specs.declared.cell.words.Word.{Word}
use Rattle.feed_cell.proofs.Words.FourWords.{at_place}
use Rattle.feed_cell.specs.TaskPlays.{Enters}
use Rattle.feed_cell.proofs.cell.maker.lodge.Goals as goal

pub load-slot-requires : goal.load-slot-requires
load-slot-requires g c = (
  search rules,
  search rules,
  at_place g.B.Listener.told _ _ _ c.args.party.now.seat.me c.args.party.now.capacity _ Word.Control (λ n. n) (λ _. Enters c.args.party.now.seat.me) (inr (inr c.requires.fresh.is.2)) c.args.party.now.sized c.place_of-at.ensures.place
      (enters g.B.Listener.told _ _ _ c.args.party.now.seat.me.0 c.args.party.now.seat.me.1 c.requires.fresh.is c.requires.fresh.stage c.requires.fresh.home),
)
