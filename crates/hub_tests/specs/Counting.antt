-- What the publisher knows of a producer's end that notes its puts.
use Rattle.std.specs.Prelude.{true}
use Rattle.flow_rules.specs.Amount.{amount_of}
use Rattle.flow_rules.specs.Feed.{End}
use Rattle.hub_tests.specs.declared.counting.Counting.{Counting}

-- its parts; what a started task needs is always there
abbrev pub end_of_counting : Counting → End
end_of_counting c = record {
  capacity = c.capacity;
  accepted = c.accepted.items;
  seen = c.taken;
  looks = amount_of c.looks;
  over = c.over;
  closing = c.closing;
  state = c.state;
  ready = true;
}
