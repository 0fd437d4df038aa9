use Rattle.lines_demo.proofs.Sessions.Between.{session_of_default, state_of_default}
use Rattle.lines_demo.proofs.script.session.Session.new.Goals as goal

pub invariant_of-result : goal.invariant_of-result
invariant_of-result g c =
    rw (c.from_vec.ensures.items, c.in_ok-new.ensures) (c.requires.untold, c.requires.steady, session_of_default c.in-Ok.hub _ c.in-Ok.ensures.ok c.in-Ok.ensures.sound, c.new-3.ensures.items)

pub returns : goal.returns
returns g c = rw (c.from_vec.ensures.items, c.in_ok-new.ensures) (state_of_default c.in-Ok.hub _ c.in-Ok.ensures.ok)
