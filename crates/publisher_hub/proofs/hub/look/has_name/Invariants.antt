use Rattle.std.specs.Prelude.{map}
use Rattle.publisher_hub.specs.Entry.{entry_of}
use Rattle.publisher_hub.proofs.PartialRounds.Naming.{NoneNamed}
use Rattle.publisher_hub.proofs.hub.look.has_name.Given as goal

abbrev pub invariant-loop-number : goal.invariant-loop-number
invariant-loop-number g l = NoneNamed l.live (map (entry_of g.F.Feed.meaning) l.entries) l.name l.number-index
