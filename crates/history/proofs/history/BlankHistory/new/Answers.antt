use Rattle.history.proofs.Moves.{begins}
use Rattle.history.proofs.history.BlankHistory.new.Goals as goal

pub of_words-requires : goal.of_words-requires
of_words-requires c = begins
