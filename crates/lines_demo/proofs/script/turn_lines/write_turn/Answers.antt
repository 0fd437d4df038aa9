use Rattle.std.proofs.Common.{inl, inr, append-nil}
use Rattle.commands.proofs.Writers.{writes_after, writes_done}
use Rattle.lines_demo.proofs.script.turn_lines.write_turn.Goals as goal

pub returns-in-Ended : goal.returns-in-Ended
returns-in-Ended g c =
    rw c.in-Ended.is (writes_after _ _ _ _ _ _ (writes_done _ _ _ c.in_ok-write_signals.ensures) c.write_end.ensures)

pub returns-in-Again : goal.returns-in-Again
returns-in-Again g c = elim c.in-Again.is [
  | inl again ↦ rw (again, append-nil) c.in_ok-write_signals.ensures
  | inr resting ↦ rw (resting, append-nil) c.in_ok-write_signals.ensures
]
