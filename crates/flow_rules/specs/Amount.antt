-- What clauses see of an Amount.
use Rattle.std.specs.Prelude.{ℕ, slice_index}
use Rattle.flow_rules.specs.declared.amount.Amount.{Amount}

-- how many there were
abbrev pub amount_of : Amount → ℕ
amount_of a = slice_index a.tag.numbers 0
