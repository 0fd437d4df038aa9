-- One that isn't retired is offered the item, with its drop taken back.
use Rattle.std.proofs.Common.{◌≡◌, ◌-◌, true, false, Option, None, Some, sym, ◌∙◌, arith}
use Rattle.flow_rules.specs.Call.{Call}
use Rattle.flow_rules.specs.Feed.{End}
use Rattle.flow_rules.specs.declared.feed.put.Put.{Put}
use Rattle.flow_rules.specs.declared.item.Item.{Item}
use Rattle.publisher_hub.specs.Offering.{PutsTo, PutsAgain}
use Rattle.publisher_hub.specs.declared.entry.Entry.{Entry}
use Rattle.publisher_hub.proofs.entry.Entry.put_again.Goals as goal

-- a live subscription answers
put_once_more : {F T : Type 0} (meaning : F → End) (does : F → Call T → F → Type 0) (x : Item) (answer : Option (Put T)) (old new : Entry F)
    → old.retired ≡ false
    → PutsTo meaning does x answer (record old { dropped = old.dropped - 1 }) new → PutsAgain meaning does x (Some answer) old new
put_once_more meaning does x None old new live puts_to = let no : true ≡ false = sym puts_to.0 ∙ live in cc
put_once_more meaning does x (Some answer) old new live puts_to = puts_to

pub put-requires-clause-few_drops : goal.put-requires-clause-few_drops
put-requires-clause-few_drops g c = omega arith

pub returns-clause-again : goal.returns-clause-again
returns-clause-again g c =
    put_once_more g.F.Feed.meaning g.F.Feed.does c.args.item c.put.result c.args.self.now c.put.new.self c.requires.live c.put.ensures
