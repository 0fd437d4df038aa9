use Rattle.std.proofs.Common.{sym, subst, ◌∙◌, ◌<◌, ℕ}
use Rattle.feed_cell.specs.WordPlaces.{word_count}
use Rattle.feed_cell.proofs.Words.FourWords.{placed_close, placed_apart, within}
use Rattle.feed_cell.proofs.cell.words.place_of.Goals as goal

pub returns-then-capacity-lt-APART_FROM-clause-place : goal.returns-then-capacity-lt-APART_FROM-clause-place
returns-then-capacity-lt-APART_FROM-clause-place c = c.close_place.ensures.place ∙ sym (placed_close c.args.capacity c.args.word c.if-capacity-lt-APART_FROM.true)

pub returns-then-capacity-lt-APART_FROM-clause-within : goal.returns-then-capacity-lt-APART_FROM-clause-within
returns-then-capacity-lt-APART_FROM-clause-within c = subst (λ (k : ℕ). k < word_count c.args.capacity) (sym (returns-then-capacity-lt-APART_FROM-clause-place c)) (within c.args.capacity c.args.word)

pub returns-else-capacity-lt-APART_FROM-clause-place : goal.returns-else-capacity-lt-APART_FROM-clause-place
returns-else-capacity-lt-APART_FROM-clause-place c = c.place_apart.ensures.place ∙ sym (placed_apart c.args.capacity c.args.word c.if-capacity-lt-APART_FROM.false)

pub returns-else-capacity-lt-APART_FROM-clause-within : goal.returns-else-capacity-lt-APART_FROM-clause-within
returns-else-capacity-lt-APART_FROM-clause-within c = subst (λ (k : ℕ). k < word_count c.args.capacity) (sym (returns-else-capacity-lt-APART_FROM-clause-place c)) (within c.args.capacity c.args.word)
