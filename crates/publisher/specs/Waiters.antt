-- Who waits for what others do.
use Rattle.std.specs.Prelude.{◌≡◌, ◌<◌}
use Rattle.publisher.specs.declared.state.waiters.Waiters.{Waiters}
use Rattle.publisher.specs.declared.state.waiters.Wake.{Wake}

-- all are woken if anybody waits, and else nobody
abbrev pub Tells : Waiters → Wake → Type 0
Tells waiters Wake.Nobody = waiters.waiting ≡ 0
Tells waiters Wake.All = 0 < waiters.waiting
