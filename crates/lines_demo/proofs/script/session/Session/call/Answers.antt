use Rattle.std.proofs.Common.{[], refl}
use Rattle.lines_demo.proofs.script.session.Session.call.Goals as goal

pub returns-in-Cancel : goal.returns-in-Cancel
returns-in-Cancel g c = rw c.in-Cancel.is c.act-in-Cancel.ensures

pub returns-in-Close : goal.returns-in-Close
returns-in-Close g c = rw c.in-Close.is c.close.ensures

pub returns-in-Run : goal.returns-in-Run
returns-in-Run g c = rw c.in-Run.is (record { used = []; replies = λ more. refl })
