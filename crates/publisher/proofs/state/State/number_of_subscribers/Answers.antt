use Rattle.publisher.proofs.SoundStates.KeptStates.{state_all_looked}
use Rattle.publisher.proofs.state.State.number_of_subscribers.Goals as goal

pub invariant_of-self : goal.invariant_of-self
invariant_of-self g c = state_all_looked c.self.inside.hub c.number_of_subscribers.new.self
    c.number_of_subscribers.ensures.looks.0 _ c.self.invariant c.number_of_subscribers.ensures.sound
    c.number_of_subscribers.ensures.looks.1.0
