-- The types of a World and their variants, for the files that cite them.
pub use Rattle.feed_core.specs.declared.cause.Causes.{Causes}
pub use Rattle.feed_core.specs.declared.world.events.Side.{Side}
pub use Rattle.feed_core.specs.declared.world.events.Side.TheVariants.{Producer, Handle}
pub use Rattle.feed_core.specs.declared.world.events.Cause.{Cause}
pub use Rattle.feed_core.specs.declared.world.events.Cause.TheVariants.{Cancel, Argument, State, Closing}
pub use Rattle.feed_core.specs.declared.world.events.Event.{Event}
pub use Rattle.feed_core.specs.declared.world.events.Event.TheVariants.{Make, Room, Put, PutMore, See, Take, TakeKnown, Ask, Signal, Hand, Look, Peek, Measure, Rest, End}
pub use Rattle.feed_core.specs.declared.world.parts.Producing.{Producing}
pub use Rattle.feed_core.specs.declared.world.parts.Producing.TheVariants.{Free, HasRoom, HasPut, Hands}
pub use Rattle.feed_core.specs.declared.world.parts.Requesting.{Requesting}
pub use Rattle.feed_core.specs.declared.world.parts.Requesting.TheVariants.{Idle, HasAsked, HandsOver}
pub use Rattle.feed_core.specs.declared.world.parts.Runner.{Runner}
pub use Rattle.feed_core.specs.declared.world.parts.Runner.TheVariants.{Nobody, Coming, Fresh, Ready, Looked, Saw, Measured, Taken, Over}
pub use Rattle.feed_core.specs.declared.world.parts.Parts.{Parts}
