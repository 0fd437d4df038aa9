use Rattle.lines_demo.proofs.script.session.Session.obey.Goals as goal

pub returns-in-Ok : goal.returns-in-Ok
returns-in-Ok g c = rw c.begin.ensures at c.in-Ok.ensures

pub returns-in-Err : goal.returns-in-Err
returns-in-Err g c = rw c.begin.ensures at c.in-Err.ensures
