-- What callers see of an Opening.
use Rattle.std.specs.Prelude.{ℕ}
use Rattle.close_count.specs.Count.{CountId}
use Rattle.close_count.specs.declared.opening.Opening.{Opening}

-- the count that an Opening opened
abbrev pub count_of_opening : Opening → CountId
count_of_opening o = o.seat.table_id

-- how many tickets the Opening made
abbrev pub tickets_made : Opening → ℕ
tickets_made o = o.made
