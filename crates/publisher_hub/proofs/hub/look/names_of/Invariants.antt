use Rattle.std.specs.Prelude.{map}
use Rattle.publisher_hub.specs.Entry.{entry_of}
use Rattle.publisher_hub.proofs.PartialRounds.Naming.{AreNamed}
use Rattle.publisher_hub.proofs.hub.look.names_of.Given as goal

abbrev pub invariant-loop-number : goal.invariant-loop-number
invariant-loop-number g l = AreNamed l.live (map (entry_of g.F.Feed.meaning) l.entries) l.number-index l.names.items
