-- Where a script stands, and what a command or a line of it comes to.
use Rattle.std.specs.Prelude.{ℕ, Bool, true, false, Option, None, List, [], ◌∷◌, ◌++◌}
use Rattle.lines_demo.specs.Prelude.{Ending, Overtake, Refusal, DeskState}
use Rattle.commands.specs.declared.reply.Reply.{Reply}
use Rattle.commands.specs.declared.reply.Reply.TheVariants.{Refused}
use Rattle.lines_demo.specs.declared.script.session.beginning.Beginning.{Beginning}
use Rattle.lines_demo.specs.declared.script.session.TheConstants.{DEFAULT_CAPACITY}

-- a subscription: its name; the next serial number when it subscribed; how many items its buffer had no room for; and
-- what the publisher has of it, but for how often it has looked at it
pub record SubscriptionState : Type 0 where
  pub name : List ℕ
  pub since : ℕ
  pub dropped : ℕ
  pub desk : DeskState

-- where a script stands: the capacity of each buffer; what else its beginning said, and whether that is over; how the
-- publisher was closed, if it was; the next serial number; how many subscribers are left; all subscriptions, in order;
-- and the numbers of those that are woken, the one whose turn is next first
pub record SessionState : Type 0 where
  pub capacity : ℕ
  pub beginning : Beginning
  pub closing : Option Ending
  pub serial : ℕ
  pub stock : ℕ
  pub subscriptions : List SubscriptionState
  pub woken : List ℕ

-- a script begins, and closing errors overtake the items
abbrev pub beginning_at_start : Beginning
beginning_at_start = record { is_over = false; order = Overtake }

-- where a script starts, with this many subscribers to take from
abbrev pub state_at_start : ℕ → SessionState
state_at_start stock = record {
  capacity = DEFAULT_CAPACITY;
  beginning = beginning_at_start;
  closing = None;
  serial = 0;
  stock = stock;
  subscriptions = [];
  woken = [];
}

-- what a command is answered, where the script stands then, and at which of the points to come memory is refused
pub record CommandResult : Type 0 where
  pub reply : Reply
  pub state : SessionState
  pub refusals : List Bool

-- a reply that changes nothing
abbrev pub unchanged_result : SessionState → List Bool → Reply → CommandResult
unchanged_result state refusals reply = record { reply = reply; state = state; refusals = refusals }

-- a refusal that changes nothing
abbrev pub refused_result : SessionState → List Bool → Refusal → CommandResult
refused_result state refusals refusal = unchanged_result state refusals (Refused refusal)

-- a point at which memory may be refused: then the call is refused, and changes nothing. Past the end of the list it is
-- not
abbrev pub result_unless_no_memory : SessionState → List Bool → (List Bool → CommandResult)
    → CommandResult
result_unless_no_memory state [] call = call []
result_unless_no_memory state (false ∷ refusals) call = call refusals
result_unless_no_memory state (true ∷ refusals) call =
    refused_result state refusals Refusal.NoMemory

-- what is written, where the script stands then, and at which of the points to come memory is refused
pub record LineResult : Type 0 where
  pub output : List ℕ
  pub state : SessionState
  pub refusals : List Bool

-- nothing is written, and nothing changes
abbrev pub empty_result : SessionState → List Bool → LineResult
empty_result state refusals = record { output = []; state = state; refusals = refusals }

-- a result, with these bytes before its output
abbrev pub result_after_bytes : List ℕ → LineResult → LineResult
result_after_bytes bytes result =
    record { output = bytes ++ result.output; state = result.state; refusals = result.refusals }

-- a result, and then the one that follows from where it leaves the script
abbrev pub result_then : LineResult → (SessionState → List Bool → LineResult) → LineResult
result_then first later = result_after_bytes first.output (later first.state first.refusals)
