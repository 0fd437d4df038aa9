use Rattle.std.proofs.Common.{rules, inr, bit_and}
use Rattle.feed_cell.specs.TaskPlays.{LooksOut, cleared}
use Rattle.feed_cell.proofs.Tasks.Steps.{looks_going, looked_going, quiet_bit}
use Rattle.feed_cell.specs.declared.cell.words.Word.{Word}
use Rattle.feed_cell.proofs.Words.FourWords.{at_place}
use Rattle.feed_cell.specs.Control.{QUIET}
use Rattle.feed_cell.proofs.cell.task.steps.look.Goals as goal

pub fetch_and-requires : goal.fetch_and-requires
fetch_and-requires g c = (
  search rules,
  search rules,
  at_place g.B.Listener.told _ _ _ c.args.party.now.seat.me c.args.party.now.capacity _ Word.Control (λ n. bit_and n QUIET) (LooksOut cleared c.args.party.now.seat.me) (inr (inr c.requires.runner.0.2)) c.args.party.now.sized c.place_of-at.ensures.place
      (looks_going g.B.Listener.told _ _ _ _ c.requires.runner.0 c.requires.runner.1 c.requires.can),
)

pub returns-clause-looked : goal.returns-clause-looked
returns-clause-looked g c = looked_going g.B.Listener.told cleared c.args.party.now.seat.me _ _ c.requires.runner.0 c.requires.runner.1 c.requires.can c.fetch_and.ensures.2

pub returns-clause-quiet : goal.returns-clause-quiet
returns-clause-quiet g c = quiet_bit _
