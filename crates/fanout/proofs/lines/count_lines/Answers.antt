use Rattle.std.proofs.Common.{inl, inr, ap, ◌∙◌, ◌+◌, rules}
use Rattle.fanout.proofs.Ends.{closed_lines, open_lines}
use Rattle.fanout.proofs.lines.count_lines.Goals as goal
use Rattle.fanout.proofs.lines.count_lines.Goals.{then-is_empty, else-is_empty}

pub returns-then-ends_line : goal.returns-then-ends_line
returns-then-ends_line c = c.count_feeds-feeds.ensures ∙ closed_lines c.args.bytes.now
    (elim c.if-is_empty.branch [
      | then-is_empty w ↦ inl (search rules)
      | else-is_empty w ↦ inr (search rules)
    ])

pub returns-else-ends_line : goal.returns-else-ends_line
returns-else-ends_line c = ap (λ n. n + 1) c.count_feeds-feeds.ensures ∙ open_lines c.args.bytes.now (search rules) (search rules)
