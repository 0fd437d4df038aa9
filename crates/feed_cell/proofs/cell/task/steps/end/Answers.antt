use Rattle.std.proofs.Common.{◌+◌, ℕ, rules, ap, sym, inr}
use Rattle.feed_cell.proofs.Tasks.Steps.{ends_there}
use Rattle.feed_cell.specs.Control.{MARK}
use Rattle.feed_cell.specs.TaskPlays.{IsEnd}
use Rattle.feed_cell.specs.declared.cell.words.Word.{Word}
use Rattle.feed_cell.proofs.Words.FourWords.{at_place}
use Rattle.feed_cell.proofs.cell.task.steps.end.Goals as goal

pub store-requires : goal.store-requires
store-requires g c = (
  search rules,
  search rules,
  at_place g.B.Listener.told _ _ _ c.args.party.now.seat.me c.args.party.now.capacity _ Word.Head (λ _. c.args.given + MARK) (λ _. IsEnd g.B.Listener.replied c.args.party.now.seat.me) (inr (inr c.requires.ending.1.is.2)) c.args.party.now.sized c.place_of-at.ensures.place
      (ends_there g.B.Listener.told g.B.Listener.replied _ _ _ _ _ c.requires.ending.0 c.requires.ending.1 (ap (λ (n : ℕ). n + MARK) (sym c.requires.counted.0))),
)
