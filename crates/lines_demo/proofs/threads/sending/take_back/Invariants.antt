use Rattle.lines_demo.specs.Threads.Sending.{AreSubmittersOf}
use Rattle.lines_demo.proofs.threads.sending.take_back.Given as goal

-- these are the submitters of the senders so far, none of which was refused a line
abbrev pub invariant-loop-sender : goal.invariant-loop-sender
invariant-loop-sender g l = AreSubmittersOf l.yielded l.submitters.items
