use Rattle.std.proofs.Common.{rules, None}
use Rattle.feed_cell.proofs.Signals.Marks.{finds_marks}
use Rattle.feed_cell.specs.declared.cell.words.Word.{Word}
use Rattle.feed_cell.proofs.Words.FourWords.{at_place}
use Rattle.feed_cell.proofs.Signals.Sent.{signals_part}
use Rattle.feed_cell.specs.Signals.{FindsMarks}
use Rattle.feed_cell.proofs.cell.signal.signal_more.Goals as goal

pub load-found-requires : goal.load-found-requires
load-found-requires g c = (
  search rules,
  search rules,
  at_place g.B.Listener.told _ _ _ c.args.party.now.seat.me c.args.party.now.capacity _ Word.Control (λ n. n) (FindsMarks c.args.party.now.seat.me) (signals_part None c.args.party.now.seat.me.0 c.requires.may) c.args.party.now.sized c.place_of-at.ensures.place
      (finds_marks g.B.Listener.told _ _ _ c.args.party.now.seat.me c.requires.may),
)
