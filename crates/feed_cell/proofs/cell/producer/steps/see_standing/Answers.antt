use Rattle.std.proofs.Common.{rules, inl}
use Rattle.feed_cell.proofs.Producers.Room.{stands}
use Rattle.feed_cell.specs.declared.cell.words.Word.{Word}
use Rattle.feed_cell.proofs.Words.FourWords.{at_place}
use Rattle.feed_cell.specs.ProducerSteps.{FindsHead}
use Rattle.feed_cell.proofs.cell.producer.steps.see_standing.Goals as goal

pub load-requires : goal.load-requires
load-requires g c = (
  search rules,
  search rules,
  at_place g.B.Listener.told _ _ _ c.args.party.now.seat.me c.args.party.now.capacity _ Word.Head (λ n. n) (FindsHead c.args.party.now.seat.me) (inl c.requires.may.is.0) c.args.party.now.sized c.place_of-at.ensures.place
      (stands g.B.Listener.told _ _ _ _ c.requires.may.is c.requires.may.none_out c.requires.may.none_placed c.requires.may.begins),
)
