use Rattle.std.proofs.Common.{rules, inr}
use Rattle.feed_cell.specs.TaskPlays.{LooksOut, untouched}
use Rattle.feed_cell.proofs.Tasks.Steps.{peeks_going, looked_going}
use Rattle.feed_cell.specs.declared.cell.words.Word.{Word}
use Rattle.feed_cell.proofs.Words.FourWords.{at_place}
use Rattle.feed_cell.proofs.cell.task.steps.peek.Goals as goal

pub load-requires : goal.load-requires
load-requires g c = (
  search rules,
  search rules,
  at_place g.B.Listener.told _ _ _ c.args.party.now.seat.me c.args.party.now.capacity _ Word.Control (λ n. n) (LooksOut untouched c.args.party.now.seat.me) (inr (inr c.requires.runner.0.2)) c.args.party.now.sized c.place_of-at.ensures.place
      (peeks_going g.B.Listener.told _ _ _ _ c.requires.runner.0 c.requires.runner.1 c.requires.can),
)

pub returns-clause-looked : goal.returns-clause-looked
returns-clause-looked g c = looked_going g.B.Listener.told untouched c.args.party.now.seat.me _ _ c.requires.runner.0 c.requires.runner.1 c.requires.can c.load.ensures.2
