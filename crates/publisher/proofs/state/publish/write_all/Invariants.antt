use Rattle.std.proofs.Common.{◌≡◌, ◌++◌, take}
use Rattle.publisher.specs.Content.{pages_of}
use Rattle.publisher.proofs.state.publish.write_all.Given as goal

-- the texts so far are written, and the pass knows it
abbrev pub invariant-loop-text : goal.invariant-loop-text
invariant-loop-text g l =
    (l.pass ≡ record l.initial.pass { sent = l.initial.pass.sent ++ take l.text-index l.texts })
    × (l.history ≡ record l.initial.history { log = l.initial.history.log ++ pages_of l.initial.pass.source (take l.text-index l.texts) })
