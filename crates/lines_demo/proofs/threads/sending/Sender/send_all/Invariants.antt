use Rattle.std.proofs.Common.{◌≡◌, ◌++◌, take}
use Rattle.lines_demo.specs.Threads.Sending.{texts_from}
use Rattle.lines_demo.proofs.threads.sending.Sender.send_all.Given as goal

-- what was published and what waits for the next call are the texts of the source so far
abbrev pub invariant-loop-publication : goal.invariant-loop-publication
invariant-loop-publication g l = (l.self.source ≡ l.fn.self.source)
    × ((l.self.submitter.sent ++ l.texts.items ≡ l.fn.self.submitter.sent ++ texts_from l.fn.self.source (take l.publication-index l.publications))
    × (l.self.submitter.dropping ≡ l.fn.self.submitter.dropping))
