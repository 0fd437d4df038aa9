use Rattle.std.proofs.Common.{rules, inr, inl, ◌+◌}
use Rattle.feed_cell.proofs.Table.HandleSteps.{leaves}
use Rattle.feed_cell.specs.declared.cell.words.Word.{Word}
use Rattle.feed_cell.proofs.Words.FourWords.{at_place}
use Rattle.feed_cell.specs.HandleSteps.{Leaves}
use Rattle.feed_cell.specs.Control.{MARK}
use Rattle.feed_cell.proofs.cell.handle.steps.leave.Goals as goal

pub store-requires : goal.store-requires
store-requires g c = (
  search rules,
  search rules,
  at_place g.B.Listener.told _ _ _ c.args.party.now.seat.me c.args.party.now.capacity _ Word.Asked (λ _. c.args.asked + MARK) (λ _. Leaves c.args.party.now.seat.me) (inr (inl c.requires.may.is.1)) c.args.party.now.sized c.place_of-at.ensures.place
      (leaves g.B.Listener.told _ _ _ c.args.party.now.seat.me _ c.requires.may.is c.requires.may.idle (search rules)),
)
