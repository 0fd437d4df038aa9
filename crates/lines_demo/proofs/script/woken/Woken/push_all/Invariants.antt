use Rattle.std.proofs.Common.{◌≡◌, ◌++◌, take}
use Rattle.lines_demo.specs.Script.Session.{numbers_of}
use Rattle.lines_demo.proofs.script.woken.Woken.push_all.Given as goal

abbrev pub invariant-loop-work : goal.invariant-loop-work
invariant-loop-work l = l.self ≡ l.initial.self ++ numbers_of (take l.work-index l.work-items)
