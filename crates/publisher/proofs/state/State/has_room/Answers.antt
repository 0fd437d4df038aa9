use Rattle.publisher.proofs.SoundStates.KeptStates.{state_all_looked}
use Rattle.publisher.proofs.state.State.has_room.Goals as goal

pub invariant_of-self : goal.invariant_of-self
invariant_of-self g c = state_all_looked c.self.inside.hub c.has_room.new.self c.has_room.ensures.looks.0 _
    c.self.invariant c.has_room.ensures.sound c.has_room.ensures.looks.1.0

pub invariant_of-self-in-Waiters : goal.invariant_of-self-in-Waiters
invariant_of-self-in-Waiters g c = state_all_looked c.self.inside.hub c.has_room_for_waiters.new.self c.has_room_for_waiters.ensures.looks.0 _
    c.self.invariant c.has_room_for_waiters.ensures.sound c.has_room_for_waiters.ensures.looks.1.0
