use Rattle.publisher.proofs.SoundStates.KeptStates.{state_looked_at_one}
use Rattle.publisher.proofs.state.State.standing_of.Goals as goal

pub invariant_of-self : goal.invariant_of-self
invariant_of-self g c = state_looked_at_one c.self.inside.hub c.standing.new.self c.args.entry c.standing.result _
    c.self.invariant c.standing.ensures.sound c.standing.ensures.looks
