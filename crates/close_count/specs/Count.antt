-- What tells one count from another.
use Rattle.atomic_table.specs.Seated.{TableId}

-- a count, by its table
abbrev pub CountId : Type 0
CountId = TableId
