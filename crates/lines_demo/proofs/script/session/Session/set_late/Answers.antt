use Rattle.lines_demo.proofs.Sessions.Inside.{state_inside}
use Rattle.lines_demo.proofs.Scripts.Replying.{late_done, late_over}
use Rattle.lines_demo.proofs.Sessions.Between.{session_late}
use Rattle.lines_demo.proofs.script.session.Session.set_late.Goals as goal

pub invariant_of-self : goal.invariant_of-self
invariant_of-self g c = (c.self.invariant.0, c.self.invariant.1, session_late _ _ _ _ c.self.invariant.2 c.if-not-self.true, c.self.invariant.3)

pub returns-then-not-self : goal.returns-then-not-self
returns-then-not-self g c = rw (← c.self.view_is) (late_done (state_inside c.self.inside) c.if-not-self.true)

pub returns : goal.returns
returns g c = rw (← c.self.view_is) (late_over (state_inside c.self.inside) c.if-not-self.false)
