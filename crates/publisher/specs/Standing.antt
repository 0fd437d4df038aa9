-- What a look at one subscription of a publisher tells of it.
use Rattle.std.specs.Prelude.{ℕ, Bool, true, if◌then◌else◌, Option, None, Some}
use Rattle.flow_rules.specs.declared.feed.standing.Standing.{Standing}

-- whether it has ended: one that was retired before has
abbrev pub has_ended_by : Option Standing → Bool
has_ended_by None = true
has_ended_by (Some standing) = standing.ended

-- how many items wait for its subscriber, which is told none of them once it has ended
abbrev pub lag_at : Option Standing → ℕ
lag_at None = 0
lag_at (Some standing) = if standing.ended then 0 else standing.held
