use Rattle.std.proofs.Common.{◌≡◌, ◌≤◌, ◌-◌, count_by, length, take}
use Rattle.memchr.specs.Find.{is_byte}
use Rattle.fanout.proofs.lines.count_feeds.Given as goal

-- those before this place are counted
abbrev pub invariant-loop-at : goal.invariant-loop-at
invariant-loop-at l = (l.at ≤ length l.bytes) × (l.feeds ≡ count_by (is_byte 10) (take l.at l.bytes))

abbrev pub decreases-loop-at : goal.decreases-loop-at
decreases-loop-at l = length l.bytes - l.at
