-- What callers see of the three parties of a subscription.
use Rattle.std.specs.Prelude.{◌≡◌, ◌⊎◌, ℕ, zero, suc, ℤ, pos, negsuc, Bool, true, false, ◌||◌, None, List, [], ◌∷◌, length}
use Rattle.atomic_table.specs.Seated.{TableId}
use Rattle.flow_rules.specs.Feed.{End}
use Rattle.feed_core.specs.AnsweredTurn.{Reply}
use Rattle.feed_core.specs.Cause.{no_causes_in}
use Rattle.feed_core.specs.Prelude.{Answer, ErrorOrder, Overtake, Item, Signal, total_after}
use Rattle.feed_core.specs.World.Table.{MayLook}
use Rattle.feed_cell.specs.Types.{Causes, Runner, Fresh, Ready, Taken}
use Rattle.feed_cell.specs.Cell.{greeted}
use Rattle.feed_core.specs.declared.turn.outlook.Outlook.{Outlook}
use Rattle.feed_cell.specs.declared.cell.Grant.{Grant}
use Rattle.feed_cell.specs.declared.cell.Held.{Held}
use Rattle.feed_cell.specs.declared.cell.Lodger.{Lodger}
use Rattle.feed_cell.specs.declared.cell.View.{View}
use Rattle.feed_cell.specs.Seats.{SeatOf}
use Rattle.feed_core.specs.Answered.{own_after}
use Rattle.feed_cell.specs.TaskAnswers.{answers_after}

-- the producer: whose subscription it is, in which order a closing error is told, what its publisher knows of that, and
-- how many tasks its calls have started
pub record ProducerState : Type 0 where
  pub table : TableId
  pub order : ErrorOrder
  pub end : End
  pub started : ℕ

-- the producer's end, by what its seat knows and whether it is ready
abbrev pub known_end : View → Bool → End
known_end v ready = record {
  capacity = v.capacity;
  accepted = v.put;
  seen = v.seen;
  looks = v.looks;
  over = v.over;
  closing = v.closing;
  state = v.state;
  ready = ready;
}

-- the producer's seat knows this
abbrev pub KnowsEnd : End → View → Type 0
KnowsEnd end v = end ≡ known_end v end.ready

-- a producer that has not what a started task needs
abbrev pub not_ready : ProducerState → ProducerState
not_ready producer = record producer { end = record producer.end { ready = false } }

-- the handle: in which order a closing error is told, how many items it requested in all, whether it cancelled, whether
-- it requested a number that is not positive, whether it has what one started task needs, and how many tasks its calls
-- have started
pub record HandleState : Type 0 where
  pub table : TableId
  pub capacity : ℕ
  pub order : ErrorOrder
  pub asked : ℕ
  pub cancelled : Bool
  pub argument : Bool
  pub ready : Bool
  pub started : ℕ

-- what a task knows of its subscription: its capacity, in which order a closing error is told, where the task stands,
-- the control word that its last look left, whether its subscriber is with it, all that was taken and by what, what the
-- answers requested and the causes that they brought about, by what it brought to its last look, how often it could not
-- rest, whether it runs still, and what became of it
pub record TaskKnows : Type 0 where
  pub capacity : ℕ
  pub order : ErrorOrder
  pub runner : Runner
  pub look : ℕ
  pub away : Bool
  pub taken : List Item
  pub grants : List Grant
  pub own : ℕ
  pub answers : Causes
  pub misses : ℕ
  pub runs : Bool
  pub outlook : Outlook

-- what a task knows, by what its seat knows
abbrev pub known_by_task : View → TaskKnows
known_by_task v = record {
  capacity = v.capacity;
  order = v.order;
  runner = v.runner;
  look = v.look;
  away = v.away;
  taken = v.taken;
  grants = v.grants;
  own = v.own;
  answers = v.answers;
  misses = v.misses;
  runs = v.runs;
  outlook = v.outlook;
}

-- the task: its seat, what it knows of the subscription, and what its subscriber was told and has replied, if that
-- is with it
pub record TaskState : Type 0 where
  pub table : TableId
  pub seat : ℕ
  pub knows : TaskKnows
  pub told : List Signal
  pub replied : List Reply

-- a seat whose task is over: what it knew when it stopped, and what its subscriber had replied by then
pub record SpentState : Type 0 where
  pub table : TableId
  pub seat : ℕ
  pub knows : TaskKnows
  pub replied : List Reply

-- a new subscription's parties
abbrev pub new_producer_in : ErrorOrder → ℕ → TableId → ProducerState
new_producer_in order capacity table = record {
  table = table;
  order = order;
  end = record { capacity = capacity; accepted = []; seen = 0; looks = 0; over = false; closing = None; state = false; ready = true };
  started = 0;
}

abbrev pub new_handle_in : ErrorOrder → ℕ → TableId → HandleState
new_handle_in order capacity table = record {
  table = table;
  capacity = capacity;
  order = order;
  asked = 0;
  cancelled = false;
  argument = false;
  ready = true;
  started = 0;
}

-- its task was never run, and has its subscriber with it, which was told nothing and has replied nothing
pub record IsNewTaskIn (order : ErrorOrder) (table : TableId) (capacity : ℕ) (task : TaskState) : Type 0 where
  pub table_is : task.table ≡ table
  pub sized : task.knows.capacity ≡ capacity
  pub ordered : task.knows.order ≡ order
  pub stage : task.knows.runner ≡ Fresh
  pub taken : task.knows.taken ≡ []
  pub own : task.knows.own ≡ 0
  pub answers : task.knows.answers ≡ no_causes_in order
  pub misses : task.knows.misses ≡ 0
  pub away : task.knows.away ≡ true
  pub untold : task.told ≡ []
  pub unheard : task.replied ≡ []

-- the parties of a new subscription in which a closing error overtakes the items
abbrev pub new_producer : ℕ → TableId → ProducerState
new_producer capacity table = new_producer_in Overtake capacity table

abbrev pub new_handle : ℕ → TableId → HandleState
new_handle capacity table = new_handle_in Overtake capacity table

abbrev pub IsNewTask : TableId → ℕ → TaskState → Type 0
IsNewTask table capacity task = IsNewTaskIn Overtake table capacity task

-- a task that a signal started: its subscriber is at home
pub record IsStarted (table : TableId) (capacity : ℕ) (order : ErrorOrder) (task : TaskState) : Type 0 where
  pub table_is : task.table ≡ table
  pub sized : task.knows.capacity ≡ capacity
  pub ordered : task.knows.order ≡ order
  pub stage : task.knows.runner ≡ Ready
  pub home : task.knows.away ≡ false

-- the seat of a handle that has left knows that, and what its owner did
pub record KnowsHandle (handle : HandleState) (v : View) : Type 0 where
  pub is : v.asks ≡ true
  pub left : v.left ≡ true
  pub order : v.order ≡ handle.order
  pub asked : v.asked ≡ handle.asked
  pub cancelled : v.cancel ≡ handle.cancelled
  pub argument : v.argument ≡ handle.argument

-- a handle may request or cancel: it has what a started task needs, or it has cancelled, after which it starts none
abbrev pub MayAsk : HandleState → Type 0
MayAsk handle = (handle.ready || handle.cancelled) ≡ true

-- the handle after a request of this number: a number that is not positive is a bad request (Reactive Streams 1.0, 3.9)
abbrev pub handle_after_request : ℤ → HandleState → HandleState
handle_after_request (pos zero) handle = record handle { argument = true }
handle_after_request (pos (suc n)) handle = record handle { asked = total_after handle.asked (suc n) }
handle_after_request (negsuc n) handle = record handle { argument = true }

-- between two turns a task stands at a callback that was called, or is ready: it was kept from rest
abbrev pub StandsBetween : Runner → Type 0
StandsBetween runner = (runner ≡ Ready) ⊎ ((runner ≡ Fresh) ⊎ (runner ≡ Taken))

-- it goes on there after this answer, which is none if it is ready
abbrev pub GoesOnFrom : Answer → Runner → Type 0
GoesOnFrom Answer.Go runner = StandsBetween runner
GoesOnFrom (Answer.Request _) runner = (runner ≡ Fresh) ⊎ (runner ≡ Taken)
GoesOnFrom Answer.Cancel runner = ⊥
GoesOnFrom (Answer.Fail _) runner = ⊥

-- a task with its subscriber, and with what the last callback answered, which its next look brings in; it may stand
-- there after this answer
pub record HasGuest {B : Type 0} (told : B → List Signal) (stands : Answer → Runner → Type 0) (me : SeatOf B) : Type 0 where
  pub guest : Lodger B
  pub answer : Answer
  pub slot : me.1 ≡ (me.0.capacity, Held.Guest guest) ∷ []
  pub away : me.0.away ≡ true
  pub may : stands answer me.0.runner
  pub text : told guest.subscriber ≡ greeted me.0.taken
  pub given : guest.given ≡ length me.0.taken
  pub own : guest.own ≡ own_after answer me.0.own
  pub answers : guest.answers ≡ answers_after answer me.0.answers
  pub how : guest.how ≡ None

-- a task that goes on
abbrev pub IsGoing : {B : Type 0} → (B → List Signal) → SeatOf B → Type 0
IsGoing told me = HasGuest told GoesOnFrom me

-- a task that may look, since it goes on or has found nothing to do after a peek
abbrev pub CanLook : {B : Type 0} → (B → List Signal) → SeatOf B → Type 0
CanLook told me = HasGuest told MayLook me

-- a task that was never run: its subscriber is with it, and was told nothing
pub record IsUngreeted {B : Type 0} (told : B → List Signal) (me : SeatOf B) : Type 0 where
  pub guest : Lodger B
  pub slot : me.1 ≡ (me.0.capacity, Held.Guest guest) ∷ []
  pub away : me.0.away ≡ true
  pub stage : me.0.runner ≡ Fresh
  pub taken : me.0.taken ≡ []
  pub untold : told guest.subscriber ≡ []
  pub given : guest.given ≡ 0
  pub own : guest.own ≡ me.0.own
  pub answers : guest.answers ≡ me.0.answers
  pub how : guest.how ≡ None

-- a task that was handed over: its subscriber is at home
pub record IsHome {B : Type 0} (me : SeatOf B) : Type 0 where
  pub slot : me.1 ≡ []
  pub home : me.0.away ≡ false
  pub stage : me.0.runner ≡ Ready
