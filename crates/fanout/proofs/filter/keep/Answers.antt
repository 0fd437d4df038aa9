use Rattle.std.proofs.Common.{◌≡◌, ◌++◌, [], sym, ap, ◌∙◌, rules}
use Rattle.fanout.proofs.Chosen.{count_all, kept_all, none_left}
use Rattle.fanout.proofs.filter.keep.Goals as goal

pub returns-then-is_empty-clause-kept : goal.returns-then-is_empty-clause-kept
returns-then-is_empty-clause-kept c =
    let none : c.args.rules.now ≡ [] = none_left c.args.rules.now (search rules) in
    rw none (c.in_ok-extend_from_slice.ensures.items ∙ ap (λ t. c.args.page.now.items ++ t) (sym (kept_all c.args.lines.now)))

pub returns-then-is_empty-clause-lines : goal.returns-then-is_empty-clause-lines
returns-then-is_empty-clause-lines c =
    let none : c.args.rules.now ≡ [] = none_left c.args.rules.now (search rules) in
    rw none (c.count_lines.ensures ∙ sym (count_all _))
