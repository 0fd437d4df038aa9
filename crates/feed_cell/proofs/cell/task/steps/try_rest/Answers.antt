use Rattle.std.proofs.Common.{rules, refl, inr, ℕ, ◌==◌, bit_and}
use Rattle.feed_cell.proofs.Tasks.Steps.{rests_there}
use Rattle.feed_cell.specs.declared.cell.words.Word.{Word}
use Rattle.feed_cell.proofs.Words.FourWords.{at_place}
use Rattle.feed_cell.specs.TaskPlays.{IsRest}
use Rattle.feed_cell.specs.Control.{RESTING}
use prog.Atomic.{either}
use Rattle.feed_cell.proofs.cell.task.steps.try_rest.Goals as goal

pub compare_exchange-requires : goal.compare_exchange-requires
compare_exchange-requires g c = (
  search rules,
  search rules,
  at_place g.B.Listener.told _ _ _ c.args.party.now.seat.me c.args.party.now.capacity _ Word.Control (λ (m : ℕ). either (m == c.args.word) (bit_and c.args.word RESTING) m) (IsRest g.B.Listener.replied c.args.word c.args.party.now.seat.me) (inr (inr c.requires.carries.is.2)) c.args.party.now.sized c.place_of-at.ensures.place
      (rests_there g.B.Listener.told g.B.Listener.replied _ _ _ _ c.args.word _ c.requires.carries c.requires.may c.requires.look c.requires.quiet refl),
)
