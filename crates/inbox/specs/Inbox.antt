-- An inbox as the thread sees it that takes items from it.
use Rattle.std.specs.Prelude.{◌≡◌, ℕ, ◌-◌, ◌/◌, ◌<◌, ◌≤◌, pos, Option, None, Some}
use Rattle.feed_cell.specs.Parties.{HandleState}
use Rattle.flow_rules.specs.declared.item.Item.{Item}
use Rattle.flow_rules.specs.declared.how.How.{How}
use Rattle.flow_rules.specs.declared.how.How.TheVariants as How
use Rattle.flow_rules.specs.declared.signal.Fault.{Fault}
use Rattle.publisher.specs.Handles.{Requests}

-- how many items may be requested and not taken yet, how many are, and which end was met
pub record InboxState : Type 0 where
  pub batch : ℕ
  pub wanted : ℕ
  pub ending : Option How

-- before an item is taken: once half a batch was taken, as many are requested as are missing of a whole one, and else
-- none. Then this many may still be taken
pub record Refills (inbox : InboxState) (wanted : ℕ) (old new : HandleState) : Type 0 where
  pub few : inbox.wanted ≤ inbox.batch / 2
      → (wanted ≡ inbox.batch) × Requests (pos (inbox.batch - inbox.wanted)) old new
  pub enough : inbox.batch / 2 < inbox.wanted → (wanted ≡ inbox.wanted) × (new ≡ old)

-- a call that takes an item, or meets the end: an item that is taken is one of those that were requested, and ends
-- nothing
abbrev pub Takes : Option Item → InboxState → InboxState → HandleState → HandleState → Type 0
Takes (Some item) old new before after = (wanted : ℕ) × (Refills old wanted before after
    × (new ≡ record old { wanted = wanted - 1 }))
Takes None old new before after = (wanted : ℕ) × (ending : Option How) × (Refills old wanted before after
    × (new ≡ record old { wanted = wanted; ending = ending }))

-- the error with which it has ended, if it was one
abbrev pub fault_of : Option How → Option Fault
fault_of (Some (How.Errored fault)) = Some fault
fault_of _ = None

-- which end is answered for after a cancel: one that was met before stays
abbrev pub cancelled : Option How → Option How
cancelled (Some how) = Some how
cancelled None = Some How.Cancelled

-- how a subscription has ended whose subscriber was told this: with an error, whichever it is, or by a completion
abbrev pub ended_by : Option Fault → How
ended_by (Some fault) = How.Errored fault
ended_by None = How.Completed
