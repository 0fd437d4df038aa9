use Rattle.std.proofs.Common.{rules, inr}
use Rattle.feed_cell.proofs.Tasks.See.{sees_item}
use Rattle.feed_cell.specs.declared.cell.words.Word.{Word}
use Rattle.feed_cell.proofs.Words.FourWords.{at_place}
use Rattle.feed_cell.specs.TaskPlays.{SeesPut}
use Rattle.feed_cell.proofs.cell.task.steps.see.Goals as goal

pub load-requires : goal.load-requires
load-requires g c = (
  search rules,
  search rules,
  at_place g.B.Listener.told _ _ _ c.args.party.now.seat.me c.args.party.now.capacity _ Word.Tail (λ n. n) (SeesPut c.args.party.now.seat.me) (inr (inr c.requires.away.0.2)) c.args.party.now.sized c.place_of-at.ensures.place
      (sees_item g.B.Listener.told _ _ _ _ c.requires.away.0 c.requires.away.1 c.requires.none c.requires.may),
)
