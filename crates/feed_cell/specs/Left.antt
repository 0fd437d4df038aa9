-- What is left of a subscription that is closed for good.
use Rattle.std.specs.Prelude.{◌≡◌, ℕ, ◌+◌, ◌%◌, ◌<◌, ◌≤◌, ◌==◌, ◌⊎◌, Bool, true, false, ◌||◌, Option, Some, None, IfSome, IsSome, List, length}
use Rattle.std.specs.Int.{bit_at}
use Rattle.feed_core.specs.Lane.{LaneState}
use Rattle.feed_core.specs.LeftLane.{IsLeftLane}
use Rattle.feed_core.specs.Answered.{own_by, causes_by}
use Rattle.feed_core.specs.AnsweredTurn.{Reply}
use Rattle.feed_core.specs.EndedBy.{IsEndedBy}
use Rattle.feed_core.specs.Prelude.{Signal, total_after}
use Rattle.feed_core.specs.declared.lane.Lane.{Lane}
use Rattle.feed_cell.specs.Types.{Causes}
use Rattle.feed_cell.specs.Control.{MARK, RUNNING, CANCELLED}
use Rattle.flow_rules.specs.Feed.{End}
use Rattle.feed_cell.specs.declared.cell.Held.{Held}
use Rattle.feed_cell.specs.declared.cell.Lodger.{Lodger}
use Rattle.feed_cell.specs.TaskAnswers.{EndsSo}
use Rattle.feed_cell.specs.Parties.{HandleState}

-- what is left if the subscriber is at home
abbrev pub lane_with : {B : Type 0} → Lodger B → ℕ → ℕ → ℕ → Bool → Bool → Lane B
lane_with g given accepted requested cancelled running =
    record {
      subscriber = Some g.subscriber;
      accepted = accepted;
      given = given;
      asked = total_after requested g.own;
      requested = requested;
      cancelled = cancelled;
      ending = g.how;
      order = Some g.answers.order;
      running = running;
    }

-- what is left if a task was lost with it
abbrev pub lane_without : {B : Type 0} → ℕ → ℕ → ℕ → Bool → Lane B
lane_without given accepted requested cancelled =
    record {
      subscriber = None;
      accepted = accepted;
      given = given;
      asked = requested;
      requested = requested;
      cancelled = cancelled;
      ending = None;
      order = None;
      running = true;
    }

-- the subscriber is at home, by head and control
abbrev pub IsHomeBy : ℕ → ℕ → Type 0
IsHomeBy head control = (MARK ≤ head) ⊎ (bit_at control RUNNING ≡ 0)

-- this lane is what is left by these words if this subscriber is at home: it runs on if neither it has ended nor its
-- handle has left
abbrev pub IsLaneWith : {B : Type 0} → ℕ → ℕ → ℕ → ℕ → Lane B → Lodger B → Type 0
IsLaneWith head tail asked control lane guest =
    (running : Bool)
    × (running ≡ false → (MARK ≤ head) ⊎ (MARK ≤ asked))
    × (running ≡ true → (head < MARK) × (asked < MARK))
    × (lane ≡ lane_with guest (head % MARK) tail (asked % MARK) (bit_at control CANCELLED == 1) running)

-- the causes of a subscription: its publisher's, its handle's, and those that the answers of callbacks brought about;
-- and the order of errors that the handle knows
abbrev pub causes_left : End → HandleState → Causes → Causes
causes_left end handle answers =
    record {
      order = handle.order;
      cancel = handle.cancelled || answers.cancel;
      argument = handle.argument || answers.argument;
      state = end.state;
      closing = end.closing;
      failed = answers.failed;
      memory = answers.memory;
    }

-- what its own handle did is in the total and in the causes, and what its subscriber answered
pub record CountsHandle {B : Type 0} (replied : B → List Reply) (end : End) (handle : HandleState) (left : Lane B)
    (causes : Causes) : Type 0 where
  -- what the answers of callbacks requested, and the causes that they brought about
  pub own : ℕ
  pub answers : Causes
  pub requested : left.requested ≡ handle.asked
  pub cancelled : left.cancelled ≡ handle.cancelled
  pub total_is : left.asked ≡ total_after handle.asked own
  pub causes_are : causes ≡ causes_left end handle answers
  -- that is just what the answers of the subscriber that is left amount to
  pub noted : IfSome left.subscriber (λ b. (own ≡ own_by (replied b)) × (answers ≡ causes_by handle.order (replied b)))

-- what is left of a subscription, by what its publisher knew of it, and its own handle, if that was given back, too
pub record IsLeftOf {B : Type 0} (told : B → List Signal) (replied : B → List Reply) (end : End) (handle : Option HandleState)
    (left : Lane B) : Type 0 where
  -- its lane, which has the publisher's items and causes
  pub lane : LaneState
  pub is : IsLeftLane told lane left
  pub accepted : lane.accepted ≡ end.accepted
  pub closing : lane.causes.closing ≡ end.closing
  pub state : lane.causes.state ≡ end.state
  pub room : length lane.accepted ≤ lane.given + end.capacity
  -- what was requested in all is what the owner requested and what the replies of the subscriber that is left amount
  -- to, whoever gave the handle back
  pub asked : IfSome left.subscriber (λ b. left.asked ≡ total_after left.requested (own_by (replied b)))
  -- it was cancelled by its owner or by a reply
  pub cancelled : IfSome left.subscriber (λ b. lane.causes.cancel ≡ left.cancelled || (causes_by lane.causes.order (replied b)).cancel)
  -- a callback has failed with this code, or was refused memory, if the subscriber replied so
  pub failed : IfSome left.subscriber (λ b. (lane.causes.failed ≡ (causes_by lane.causes.order (replied b)).failed)
      × (lane.causes.memory ≡ (causes_by lane.causes.order (replied b)).memory))
  -- each of its answers goes on but for the last, if that is the end
  pub ends : IfSome left.subscriber (λ b. EndsSo left.ending (replied b))
  -- a cancel, a failed callback and refused memory were asked for
  pub by : IfSome left.subscriber (λ b. IsEndedBy left.cancelled left.ending (replied b))
  pub handled : IfSome handle (λ handle. CountsHandle replied end handle left lane.causes)
  -- a subscription whose publisher has seen its end has ended
  pub over : end.over ≡ true → IsSome left.ending
  -- with its own handle given back, it runs only if a task was lost, and its subscriber with that
  pub runs : IsSome handle → left.running ≡ true → left.subscriber ≡ None

-- of the subscriber in a slot, if one is there
abbrev pub OnGuest : {B : Type 0} → Held B → (Lodger B → Type 0) → Type 0
OnGuest (Held.Guest g) P = P g
OnGuest _ P = Unit {0}
