use Rattle.std.proofs.Common.{◌≡◌, ◌+◌, ◌-◌, ◌≤◌, ◌++◌, count_by, drop, length, slice_range}
use Rattle.fanout.specs.Filter.{kept, passes}
use Rattle.fanout.specs.Piece.{lines_of}
use Rattle.fanout.proofs.filter.choose.Given as goal

-- what was added, the lines that are to be added with the next, and those of the rest that pass are all that pass
abbrev pub invariant-loop-at : goal.invariant-loop-at
invariant-loop-at l =
    let rest = lines_of (drop l.at l.lines) in
    record {
      sorted : l.run ≤ l.at;
      within : l.at ≤ length l.lines;
      added : l.page.items ++ (slice_range l.lines l.run l.at ++ kept l.rules rest) ≡ l.fn.page.items ++ kept l.rules (lines_of l.lines);
      lines : l.n.lines + count_by (passes l.rules) rest ≡ count_by (passes l.rules) (lines_of l.lines);
      all : l.n.lines + l.n.left_out + length rest ≡ length (lines_of l.lines);
      few : l.n.lines + l.n.left_out ≤ l.at;
    }

abbrev pub decreases-loop-at : goal.decreases-loop-at
decreases-loop-at l = length l.lines - l.at
