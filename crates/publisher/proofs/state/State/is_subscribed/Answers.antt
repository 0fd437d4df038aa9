use Rattle.publisher.proofs.SoundStates.KeptStates.{state_all_looked}
use Rattle.publisher.proofs.state.State.is_subscribed.Goals as goal

pub invariant_of-self : goal.invariant_of-self
invariant_of-self g c = state_all_looked c.self.inside.hub c.is_subscribed.new.self c.is_subscribed.ensures.looks.0 _
    c.self.invariant c.is_subscribed.ensures.sound c.is_subscribed.ensures.looks.1
