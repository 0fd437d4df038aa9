use Rattle.std.proofs.Common.{sym}
use Rattle.std.proofs.lemmas.Result.{err_from_is_err_and}
use Rattle.lines_demo.proofs.Scripts.Turns.{running_start, running_more, running_end, running_fault}
use Rattle.lines_demo.proofs.script.player.Player.play_turns.Goals as goal

pub loop-self-init : goal.loop-self-init
loop-self-init g c = running_start _ _

pub loop-self-preserved : goal.loop-self-preserved
loop-self-preserved g c =
    let turn = c.in_ok-play_turn.ensures in
    running_more _ _ _ _ _ _ c.loop-self.invariant (sym c.loop-self-test.ensures.value) turn.turn turn.fewer

pub loop-self-smaller : goal.loop-self-smaller
loop-self-smaller g c = c.in_ok-play_turn.ensures.fewer

pub returns-in_err-play_turn-clause-turns : goal.returns-in_err-play_turn-clause-turns
returns-in_err-play_turn-clause-turns g c =
    let failed = err_from_is_err_and c.from_residual.result c.from_residual.ensures.1 in
    rw failed.1 (running_fault _ _ _ _ _ _ _ c.loop-self.invariant (sym c.loop-self-test.ensures.value) c.in_err-play_turn.ensures.turn)

pub returns-clause-turns : goal.returns-clause-turns
returns-clause-turns g c = running_end _ _ _ _ c.loop-self.invariant (sym c.loop-self-test.ensures.value)

pub returns-clause-settled : goal.returns-clause-settled
returns-clause-settled g c = c.loop-self-test.ensures.settled

pub play_turn-requires : goal.play_turn-requires
play_turn-requires g c = sym c.loop-self-test.ensures.value

pub returns-clause-rests : goal.returns-clause-rests
returns-clause-rests g c = sym c.loop-self-test.ensures.value
