use Rattle.std.proofs.Common.{rules, inr}
use Rattle.feed_cell.proofs.Tasks.Look.{peeks_first}
use Rattle.feed_cell.proofs.Tasks.Steps.{peeked_first}
use Rattle.feed_cell.specs.declared.cell.words.Word.{Word}
use Rattle.feed_cell.proofs.Words.FourWords.{at_place}
use Rattle.feed_cell.specs.TaskPlays.{PeeksFirst}
use Rattle.feed_cell.proofs.cell.task.steps.peek_first.Goals as goal

pub load-requires : goal.load-requires
load-requires g c = (
  search rules,
  search rules,
  at_place g.B.Listener.told _ _ _ c.args.party.now.seat.me c.args.party.now.capacity _ Word.Control (λ n. n) (PeeksFirst g.B.Listener.told c.args.party.now.seat.me) (inr (inr c.requires.runner.0.2)) c.args.party.now.sized c.place_of-at.ensures.place
      (peeks_first g.B.Listener.told _ _ _ _ c.requires.runner.0 c.requires.home.home c.requires.home.stage),
)

pub returns-clause-looked : goal.returns-clause-looked
returns-clause-looked g c = peeked_first g.B.Listener.told c.args.party.now.seat.me _ _ c.requires.runner.0 c.requires.runner.1 c.requires.home c.load.ensures.2
