use Rattle.console.specs.Leaving.{NoneIsNamed}
use Rattle.console.proofs.terminal.leaving.latest_of.Given as goal

-- those from here on were asked
abbrev pub invariant-loop-place : goal.invariant-loop-place
invariant-loop-place g l = NoneIsNamed l.name l.named l.place
