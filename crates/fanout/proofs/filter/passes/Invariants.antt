use Rattle.std.proofs.Common.{◌≡◌, All, take, true}
use Rattle.std.specs.List.{list_all}
use Rattle.fanout.specs.Filter.{Admits, admits}
use Rattle.fanout.proofs.filter.passes.Given as goal

-- all rules before this one let the line through
abbrev pub invariant-loop-rule : goal.invariant-loop-rule
invariant-loop-rule l = (All (Admits l.first) (take l.rule-index l.rules))
    × (list_all (admits l.first) (take l.rule-index l.rules) ≡ true)
