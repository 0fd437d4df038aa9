-- A publisher that was listed stands as it did, and its figures agree.
use Rattle.publisher.proofs.SoundStates.KeptStates.{state_all_looked}
use Rattle.publisher.proofs.state.State.stats.Goals as goal

pub invariant_of-self-2 : goal.invariant_of-self-2
invariant_of-self-2 g c = state_all_looked c.self.inside.hub c.figures.new.self c.in_ok-live.ensures.ok.glances _
    c.self.invariant c.figures.ensures.sound c.in_ok-live.ensures.ok.looks
