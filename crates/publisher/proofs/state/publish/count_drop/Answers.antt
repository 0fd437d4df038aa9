use Rattle.std.proofs.Common.{◌≡◌, ◌+◌, true, rules, refl, sym, ap, ◌∙◌}
use Rattle.std.specs.Prelude.{ℤ, pos, negsuc}
use Rattle.std.proofs.Math.Facts.{to_z-of_z}
use lib.Signed.{lt_z}
use Rattle.publisher.specs.Publishing.{drop_of}
use Rattle.publisher.proofs.state.publish.count_drop.Goals as goal

-- an answer below 0 found a buffer full
is_drop : (answer : ℤ) → lt_z answer (pos 0) ≡ true → drop_of answer ≡ 1
is_drop (pos lag) less = search rules
is_drop (negsuc drops) less = refl

pub returns-then-answer-lt0-clause-amount : goal.returns-then-answer-lt0-clause-amount
returns-then-answer-lt0-clause-amount g c = c.add.ensures.amount
    ∙ ap (λ n. c.args.drops.now.amount + n) (sym (is_drop c.args.answer (rw (to_z-of_z c.ranges.answer) at c.if-answer-lt0.true)))

pub returns-then-answer-lt0-clause-total : goal.returns-then-answer-lt0-clause-total
returns-then-answer-lt0-clause-total g c = c.add.ensures.total
    ∙ ap (λ n. c.args.dropping.now.total + n) (sym (is_drop c.args.answer (rw (to_z-of_z c.ranges.answer) at c.if-answer-lt0.true)))
