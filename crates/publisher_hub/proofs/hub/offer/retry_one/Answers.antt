-- What the second offer was answered is gathered.
use Rattle.std.proofs.Common.{rules, arith}
use Rattle.publisher_hub.proofs.hub.offer.retry_one.Goals as goal

pub retry_if_wanted-answer-requires-clause-some : goal.retry_if_wanted-answer-requires-clause-some
retry_if_wanted-answer-requires-clause-some g c = let room = c.requires.room.1.enough_shares in omega arith

pub returns-clause-drops : goal.returns-clause-drops
returns-clause-drops g c = search rules

pub returns-clause-puts : goal.returns-clause-puts
returns-clause-puts g c = (
  c.retry_if_wanted-answer.result,
  (
    c.retry_if_wanted-answer.ensures.puts,
    record {
      due = c.note_again.ensures.due;
      lag = search rules;
      drops = search rules;
      missed = search rules;
      shares = search rules;
    },
  ),
)
