-- A call of a producer's end, with what it was handed and what it answered.
use Rattle.std.specs.Prelude.{List, Option, Result}
use Rattle.flow_rules.specs.declared.ending.Ending.{Ending}
use Rattle.flow_rules.specs.declared.feed.put.Put.{Put}
use Rattle.flow_rules.specs.declared.feed.put_all.PutAll.{PutAll}
use Rattle.flow_rules.specs.declared.feed.standing.Standing.{Standing}
use Rattle.flow_rules.specs.declared.item.Item.{Item}
use Rattle.flow_rules.specs.declared.refusal.NoMemory.{NoMemory}

-- a call of an end whose tasks are of this type
pub data Call (T : Type 0) : Type 0 where
  Readies : Result Unit NoMemory → Call T
  Puts : Item → Put T → Call T
  PutsAll : List Item → PutAll T → Call T
  Ends : Ending → Option T → Call T
  Duplicates : Option T → Call T
  Looks : Standing → Call T
