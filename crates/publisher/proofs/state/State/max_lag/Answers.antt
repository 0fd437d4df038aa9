use Rattle.publisher.proofs.SoundStates.KeptStates.{state_all_looked}
use Rattle.publisher.proofs.state.State.max_lag.Goals as goal

pub invariant_of-self : goal.invariant_of-self
invariant_of-self g c = state_all_looked c.self.inside.hub c.max_lag.new.self c.max_lag.ensures.looks.0 _
    c.self.invariant c.max_lag.ensures.sound c.max_lag.ensures.looks.1.0
