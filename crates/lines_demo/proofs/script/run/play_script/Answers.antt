use Rattle.std.proofs.Common.{refl, true, false, Ok, Err}
use Rattle.std.proofs.lemmas.Result.{err_from_is_err_and}
use Rattle.lines_demo.specs.Script.Fault.{reading_fault, script_fault}
use Rattle.lines_demo.proofs.Inputs.Reading.{reading_stopped, reading_writes_nothing, script_played, fault_played}
use Rattle.lines_demo.proofs.script.run.play_script.Goals as goal

pub returns-in_err-bytes-clause-plays : goal.returns-in_err-bytes-clause-plays
returns-in_err-bytes-clause-plays g c =
    let failed = err_from_is_err_and c.from_residual.result c.from_residual.ensures.1 in
    rw (failed.1, failed.2) (reading_stopped (reading_fault c.in_err-bytes.field-0.0) _ _ _ (reading_writes_nothing c.in_err-bytes.field-0.0))

pub returns-in_default-clause-plays : goal.returns-in_default-clause-plays
returns-in_default-clause-plays g c = reading_stopped _ _ _ _ tt

pub returns-clause-plays : goal.returns-clause-plays
returns-clause-plays g c =
    let answers = rw (c.as_slice.ensures.value, c.in-Ok.ensures) at c.in_ok-play_lines.ensures in
    script_played (Ok tt) true _ _ _ _ _ _ refl c.in_ok-bytes.ensures.known c.in_ok-bytes.ensures.bounded answers

pub returns-in_err-play_lines-clause-plays : goal.returns-in_err-play_lines-clause-plays
returns-in_err-play_lines-clause-plays g c =
    let failed = err_from_is_err_and c.from_residual-in_err-play_lines.result c.from_residual-in_err-play_lines.ensures.1 in
    let answers = rw (c.as_slice.ensures.value, c.in-Ok.ensures) at c.in_err-play_lines.ensures in
    rw (failed.1, failed.2) (script_played (Err (script_fault c.in_err-play_lines.field-0.0)) false _ _ _ _ _ _ (fault_played c.in_err-play_lines.field-0.0) c.in_ok-bytes.ensures.known c.in_ok-bytes.ensures.bounded answers)
