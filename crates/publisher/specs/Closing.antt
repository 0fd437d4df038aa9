-- What the first close of a publisher does.
use Rattle.std.specs.Prelude.{◌≡◌, Some, List, length}
use Rattle.feed_cell.specs.Offering.{DoesCall}
use Rattle.feed_cell.specs.Parties.{TaskState}
use Rattle.flow_rules.specs.declared.ending.Ending.{Ending}
use Rattle.publisher_hub.specs.Closing.{ClosesAll}
use Rattle.publisher_hub.specs.declared.work.Work.{Work}
use Rattle.publisher.specs.State.{PublisherState, producer_end}

-- each live subscription was closed, and the tasks that this started are due; and it is kept how many subscriptions
-- there are
pub record ClosesFirst (ending : Ending) (due_before due_after : List (Work TaskState))
    (old new : PublisherState) : Type 0 where
  pub closes : ClosesAll producer_end DoesCall ending due_before due_after old.hub new.hub
  pub counted : new.counted ≡ Some (length old.hub.entries.items)
