use Rattle.std.proofs.Common.{sym}
use Rattle.feed_cell.proofs.Words.FourWords.{laid_close, laid_apart}
use Rattle.feed_cell.proofs.cell.words.first_words.Goals as goal

pub returns-then-capacity-lt-APART_FROM : goal.returns-then-capacity-lt-APART_FROM
returns-then-capacity-lt-APART_FROM c = record { words = sym (laid_close c.args.capacity 0 0 0 1 c.if-capacity-lt-APART_FROM.true) }

pub returns-else-capacity-lt-APART_FROM : goal.returns-else-capacity-lt-APART_FROM
returns-else-capacity-lt-APART_FROM c = record { words = sym (laid_apart c.args.capacity 0 0 0 1 c.if-capacity-lt-APART_FROM.false) }
