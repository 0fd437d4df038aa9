use Rattle.std.proofs.Common.{sym}
use Rattle.lines_demo.proofs.Scripts.Lines.{line_empty, line_long, line_wrong, line_command}
use Rattle.lines_demo.proofs.script.player.Player.play_line.Goals as goal

pub returns-then-is_empty : goal.returns-then-is_empty
returns-then-is_empty g c = line_empty _ _ _ c.if-is_empty.ensures

pub returns-then-line-gt-LONGEST_LINE : goal.returns-then-line-gt-LONGEST_LINE
returns-then-line-gt-LONGEST_LINE g c = rw c.answer.ensures.kept (line_long _ _ _ _ _ c.if-is_empty.ensures c.if-line-gt-LONGEST_LINE.true c.answer.ensures.line)

pub returns-in-Some : goal.returns-in-Some
returns-in-Some g c = line_command _ _ _ _ _ _ _ c.if-is_empty.ensures c.if-line-gt-LONGEST_LINE.false (sym c.in-Some.ensures.value) c.play_command.ensures

pub returns-in-None : goal.returns-in-None
returns-in-None g c = rw c.answer-in-None.ensures.kept (line_wrong _ _ _ _ _ c.if-is_empty.ensures c.if-line-gt-LONGEST_LINE.false (sym c.in-None.ensures.value) c.answer-in-None.ensures.line)
