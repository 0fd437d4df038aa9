use Rattle.std.proofs.Common.{◌≡◌, drop}
use Rattle.flow_rules.specs.declared.audits.Stage.TheVariants.{Fresh}
use Rattle.flow_rules.proofs.Machine.{passes}
use Rattle.flow_rules.proofs.audits.audit.Given as goal

-- what the machine says of all the signals, it says from here on of those that are left
abbrev pub invariant-loop-signal : goal.invariant-loop-signal
invariant-loop-signal l = passes Fresh l.signals ≡ passes l.stage (drop l.signal-index l.signals)
