use Rattle.std.proofs.Common.{◌≡◌, ◌<◌, [], length, rules}
use Rattle.std.proofs.lemmas.Result.{err_from_is_err_and}
use Rattle.lines_demo.proofs.Scripts.Results.{progress_start}
use Rattle.commands.proofs.Writers.{empty_is}
use Rattle.lines_demo.proofs.Scripts.Lines.{lines_more, lines_fault, lines_end}
use Rattle.lines_demo.proofs.script.player.Player.play_lines.Goals as goal

pub loop-rest-init : goal.loop-rest-init
loop-rest-init g c = progress_start _ _

pub returns-in_err-play_line : goal.returns-in_err-play_line
returns-in_err-play_line g c =
    let failed = err_from_is_err_and c.from_residual.result c.from_residual.ensures.1 in
    let some : 0 < length c.loop-rest.rest.now = search rules in
    let answers = rw c.strip_return.ensures at c.in_err-play_line.ensures in
    rw failed.1 (lines_fault _ _ _ _ _ _ _ _ _ _ c.loop-rest.invariant some c.split_line.ensures.line c.split_line.ensures.rest answers)

pub loop-rest-preserved : goal.loop-rest-preserved
loop-rest-preserved g c =
    let some : 0 < length c.loop-rest.rest.now = search rules in
    let answers = rw c.strip_return.ensures at c.in_ok-play_line.ensures in
    lines_more _ _ _ _ _ _ _ _ _ c.loop-rest.invariant some c.split_line.ensures.line c.split_line.ensures.rest answers

pub returns : goal.returns
returns g c =
    let none : c.loop-rest.rest.now ≡ [] = empty_is _ c.loop-rest-test.ensures in
    lines_end _ _ _ _ _ c.loop-rest.invariant none

pub loop-rest-smaller : goal.loop-rest-smaller
loop-rest-smaller g c = c.split_line.ensures.shorter
