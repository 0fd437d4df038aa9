-- What a turn of a task did (`Flow.Subscriber`, Java SE 17; Reactive Streams 1.0, 1.1, 1.3, 1.5, 1.7 and 1.9).
use Rattle.std.specs.Prelude.{◌≡◌, ℕ, ◌+◌, ◌<◌, ◌≤◌, ◌⊎◌, ◌==◌, Bool, true, false, Option, None, Some, List, [], ◌∷◌, ◌++◌, length}
use Rattle.std.specs.Int.{bit_at}
use Rattle.feed_core.specs.Answered.{own_by, own_on}
use Rattle.feed_core.specs.AnsweredTurn.{Reply}
use Rattle.feed_core.specs.Cause.{stops}
use Rattle.feed_core.specs.World.Table.{MayEnd}
use Rattle.feed_core.specs.Prelude.{ErrorOrder, How, IsFlowText, Item, Signal, items_of, total_after}
use Rattle.feed_core.specs.declared.turn.TheConstants.{ITEMS_IN_A_TURN}
use Rattle.feed_core.specs.declared.turn.outlook.Outlook.{Outlook}
use Rattle.feed_core.specs.declared.turn.outlook.Outlook.TheVariants.{Again, Resting, Ended}
use Rattle.feed_cell.specs.Types.{Runner, Nobody}
use Rattle.feed_cell.specs.Cell.{greeted, IsToldAtEnd}
use Rattle.feed_cell.specs.Control.{CANCELLED}
use Rattle.feed_cell.specs.Parties.{SpentState, TaskKnows, TaskState, known_by_task, CanLook, IsGoing, IsHome, StandsBetween}
use Rattle.feed_cell.specs.TaskPauses.{told_out, replied_out}
use Rattle.feed_cell.specs.Seats.{SeatOf}
use Rattle.feed_core.specs.Replies.{AllGoOn}
use Rattle.feed_cell.specs.TaskAnswers.{AreRepliesTo, EndsSo}
use Rattle.feed_cell.specs.TaskLooks.{IsFoundBy}
use Rattle.feed_cell.specs.TaskSteps.{IsInOrder, KeepsSubscriber}
use Rattle.feed_cell.specs.declared.cell.Grant.{Grant}
use Rattle.feed_cell.specs.declared.cell.task.Stage.{Stage}
use Rattle.feed_cell.specs.declared.cell.task.turns.Turn.{Turn}

-- all that a subscriber was told that these items were taken for, after a turn with this outlook
abbrev pub IsTextAfter : Outlook → List Item → List Signal → Type 0
IsTextAfter Again taken text = text ≡ greeted taken
IsTextAfter Resting taken text = text ≡ greeted taken
IsTextAfter (Ended how) taken text = IsToldAtEnd how taken text

-- the items that were told are those that were taken, without the last if its onNext was refused memory
abbrev pub AreGivenOf : Outlook → List Item → List Item → Type 0
AreGivenOf outlook given took = (given ≡ took) ⊎ ((outlook ≡ Ended How.OutOfMemory) × ((item : Item) × (took ≡ given ++ item ∷ [])))

-- what its subscriber was told before a turn, and which items were taken by then: nothing yet, or onSubscribe and those
-- items
abbrev pub IsToldBefore : List Item → List Signal → Type 0
IsToldBefore base start = ((start ≡ []) × (base ≡ [])) ⊎ (start ≡ greeted base)

-- each of these items was taken by a look or a peek that showed no end at once (no cancel, bad request or second
-- subscribing, and no error that overtakes the items), and by a measure that showed more items requested than were
-- taken before it: by the handle, and by the answers until then. Its callback has replied once, and what that requests
-- counts for the next item
abbrev pub AreGranted : ErrorOrder → ℕ → ℕ → List Reply → List Grant → Type 0
AreGranted order given own [] [] = Unit {0}
AreGranted order given own [] (grant ∷ more) = ⊥
AreGranted order given own (reply ∷ replies) [] = ⊥
AreGranted order given own (reply ∷ replies) (grant ∷ more) = (grant.causes.order ≡ order) × (stops grant.causes ≡ None)
    × (given < grant.asked)
    × (grant.asked ≡ total_after grant.requested own)
    × AreGranted order (given + 1) (own_on reply own) replies more

-- onSubscribe has one reply, if this turn told it
abbrev pub IsGreeting : List Signal → List Reply → Type 0
IsGreeting [] replies = length replies ≡ 1
IsGreeting (signal ∷ told) replies = replies ≡ []

-- onComplete or onError has one reply, if this turn told it: it goes on, whatever was answered, or is a refusal of
-- memory
abbrev pub AreLastReplies : Outlook → List Reply → Type 0
AreLastReplies (Ended how) replies = AreRepliesTo how how replies
AreLastReplies outlook replies = replies ≡ []

-- the end, if there was one
abbrev pub end_in : Outlook → Option How
end_in (Ended how) = Some how
end_in outlook = None

-- a turn that saw these signals, of a task that knew this, and whose subscriber was known to have been told and have
-- replied that; later it has replied these
pub record IsTurnOf (old : TaskKnows) (known seen : List Signal) (replied later : List Reply) (outlook : Outlook) : Type 0 where
  -- what its subscriber was told before, and the items that were taken by then: a task that has its subscriber with it
  -- knows them, and a task that a signal started has a subscriber that was greeted
  pub start : List Signal
  pub base : List Item
  pub knew : old.away ≡ true → (start ≡ known) × (base ≡ old.taken)
  pub met : old.away ≡ false → start ≡ greeted base
  pub before : IsToldBefore base start
  -- the items that this turn took, in order
  pub took : List Item
  pub at_most : length took ≤ ITEMS_IN_A_TURN
  -- by what it took each
  pub grants : List Grant
  pub one_each : length grants ≡ length took
  -- what its subscriber has replied: before, which a task that has it with it knows; to onSubscribe; to each onNext;
  -- and to its end
  pub past : List Reply
  pub had : old.away ≡ true → past ≡ replied
  pub greeting : List Reply
  pub greets : IsGreeting start greeting
  pub each : List Reply
  pub granted : AreGranted old.order (length base) (own_by (past ++ greeting)) each grants
  pub closing : List Reply
  pub closes : AreLastReplies outlook closing
  pub replies : later ≡ (past ++ greeting) ++ (each ++ closing)
  -- each of them goes on, but for the last, if that is the end
  pub ends : EndsSo (end_in outlook) later
  -- its subscriber was told what this turn saw, after what it was told before
  pub text : IsTextAfter outlook (base ++ took) (start ++ seen)
  pub allowed : IsFlowText (start ++ seen)
  pub given : AreGivenOf outlook (items_of seen) took

-- why another turn is owed: this one told as many items as it may, or something was new when it would have rested
abbrev pub MayGoOn : TaskKnows → TaskKnows → List Signal → Type 0
MayGoOn old new seen = ((length (items_of seen) ≡ ITEMS_IN_A_TURN) × (new.misses ≡ old.misses)) ⊎ (new.misses ≡ old.misses + 1)

-- a task may end the subscription so where it stands, by what its last look saw, if that saw an end: a closing error is
-- told in this order
abbrev pub MayEndIn : ErrorOrder → How → ℕ → Runner → Type 0
MayEndIn order how given runner = MayEnd how given runner × IsInOrder order runner

-- if each reply goes on, it is an end that the last look found: by marks of the word that it left, which the handle and
-- the publisher have set, and by what the replies brought about
abbrev pub IsFoundIn : ErrorOrder → List Reply → How → ℕ → Runner → Type 0
IsFoundIn order replies how word runner = AllGoOn replies → IsFoundBy order replies how word runner

-- this control word has the mark of a cancel, which the handle has set
abbrev pub has_cancel : ℕ → Bool
has_cancel word = bit_at word CANCELLED == 1

-- another turn is owed
pub record GoesOnAs (old new : TaskKnows) (known later seen : List Signal) (replied after : List Reply) : Type 0 where
  pub turned : IsTurnOf old known seen replied after Again
  pub order : new.order ≡ old.order
  pub taken : new.taken ≡ turned.base ++ turned.took
  pub grants : new.grants ≡ old.grants ++ turned.grants
  -- its subscriber stays with it, so that it knows what that was told
  pub away : new.away ≡ true
  pub stands : StandsBetween new.runner
  pub told_is : later ≡ turned.start ++ seen

-- no turn is owed: the task rests or the subscription has ended, and its seat runs the task no more. The seat shows
-- which, and the rule of the table counts that among the rests of its events, or has it as the end that is among them
pub record StopsAs (old new : TaskKnows) (known seen : List Signal) (replied after : List Reply) (outlook : Outlook) : Type 0 where
  pub turned : IsTurnOf old known seen replied after outlook
  pub order : new.order ≡ old.order
  pub taken : new.taken ≡ turned.base ++ turned.took
  pub grants : new.grants ≡ old.grants ++ turned.grants
  pub misses : new.misses ≡ old.misses
  pub runs : new.runs ≡ false
  pub shown : new.outlook ≡ outlook

module _ {B : Type 0} (told : B → List Signal) (replied : B → List Reply) where
  -- a turn so far, after this many items: what its subscriber was told before, and since
  pub record TellsSoFar (count : ℕ) (before me : SeatOf B) (seen : List Signal) : Type 0 where
    pub start : List Signal
    pub base : List Item
    pub knew : before.0.away ≡ true → (start ≡ told_out told before.1) × (base ≡ before.0.taken)
    pub met : before.0.away ≡ false → start ≡ greeted base
    pub opened : IsToldBefore base start
    pub took : List Item
    pub counted : length took ≡ count
    pub text : start ++ seen ≡ greeted (base ++ took)
    pub ordered : me.0.order ≡ before.0.order
    pub taken : me.0.taken ≡ base ++ took
    pub told_is : told_out told me.1 ≡ start ++ seen
    pub grants : List Grant
    pub one_each : length grants ≡ count
    pub past : List Reply
    pub had : before.0.away ≡ true → past ≡ replied_out replied before.1
    pub greeting : List Reply
    pub greets : IsGreeting start greeting
    pub each : List Reply
    pub granted : AreGranted before.0.order (length base) (own_by (past ++ greeting)) each grants
    pub replies : replied_out replied me.1 ≡ (past ++ greeting) ++ each
    pub all : 0 < count → AllGoOn (replied_out replied me.1)
    pub grants_are : me.0.grants ≡ before.0.grants ++ grants
    pub misses : me.0.misses ≡ before.0.misses

  -- before each look of a turn, by where its task stands
  abbrev pub IsBeforeLook : Stage → ℕ → SeatOf B → SeatOf B → List Signal → Type 0
  IsBeforeLook Stage.Fresh count before me seen = ⊥
  IsBeforeLook Stage.Home count before me seen = (count ≡ 0) × (seen ≡ []) × IsHome me × (before.0.away ≡ me.0.away)
      × (me.0.misses ≡ before.0.misses) × (me.0.grants ≡ before.0.grants) × (me.0.order ≡ before.0.order)
  IsBeforeLook Stage.Going count before me seen = IsGoing told me × TellsSoFar count before me seen

  -- a turn that ran on a seat, by its outlook
  abbrev pub RunsAs : Outlook → SeatOf B → SeatOf B → List Signal → Type 0
  RunsAs Again before after seen = IsGoing told after
      × GoesOnAs (known_by_task before.0) (known_by_task after.0) (told_out told before.1) (told_out told after.1)
      seen (replied_out replied before.1) (replied_out replied after.1)
      × MayGoOn (known_by_task before.0) (known_by_task after.0) seen
  RunsAs Resting before after seen = StopsAs (known_by_task before.0) (known_by_task after.0) (told_out told before.1) seen
      (replied_out replied before.1) after.0.replied Resting × (after.0.runner ≡ Nobody)
  RunsAs (Ended how) before after seen = StopsAs (known_by_task before.0) (known_by_task after.0) (told_out told before.1) seen
      (replied_out replied before.1) after.0.replied (Ended how)
      × MayEndIn before.0.order how (length after.0.taken) after.0.runner
      × IsFoundIn before.0.order after.0.replied how after.0.look after.0.runner

module _ {B : Type 0} (told : B → List Signal) where
  -- a task may look, once its subscriber was greeted
  abbrev pub MayLookNext : Stage → SeatOf B → Type 0
  MayLookNext Stage.Fresh me = ⊥
  MayLookNext Stage.Home me = IsHome me
  MayLookNext Stage.Going me = CanLook told me

-- a task that goes on keeps its subscriber, and what it has taken
abbrev pub KeepsGoing : {B : Type 0} → Stage → SeatOf B → SeatOf B → Type 0
KeepsGoing Stage.Fresh before after = ⊥
KeepsGoing Stage.Home before after = Unit {0}
KeepsGoing Stage.Going before after = KeepsSubscriber before after

-- the outlook that a turn tells
abbrev pub outlook_of : {B : Type 0} → Turn B → Outlook
outlook_of (Turn.Again next) = Again
outlook_of (Turn.Resting spent) = Resting
outlook_of (Turn.Ended how spent) = Ended how

-- of the seat that a turn leaves which ended the subscription, if it did
abbrev pub OnEnded : {B : Type 0} → Turn B → (How → SpentState → Type 0) → Type 0
OnEnded (Turn.Ended how spent) P = P how spent
OnEnded _ P = Unit {0}

-- of the task that goes on, if one does
abbrev pub OnAgain : {B : Type 0} → Turn B → (TaskState → Type 0) → Type 0
OnAgain (Turn.Again next) P = P next
OnAgain _ P = Unit {0}

-- what came of a turn of a task: the task that goes on, or its seat, which runs nothing any more. It rested; or it
-- ended the subscription, as what its last look saw or its last callback answered allows
abbrev pub TurnsInto : {B : Type 0} → TaskState → List Signal → Turn B → Type 0
TurnsInto task seen (Turn.Again next) = (next.table ≡ task.table) × (next.seat ≡ task.seat)
    × GoesOnAs task.knows next.knows task.told next.told seen task.replied next.replied
TurnsInto task seen (Turn.Resting spent) = (spent.table ≡ task.table) × (spent.seat ≡ task.seat)
    × StopsAs task.knows spent.knows task.told seen task.replied spent.replied Resting × (spent.knows.runner ≡ Nobody)
TurnsInto task seen (Turn.Ended how spent) = (spent.table ≡ task.table) × (spent.seat ≡ task.seat)
    × StopsAs task.knows spent.knows task.told seen task.replied spent.replied (Ended how)
    × MayEndIn task.knows.order how (length spent.knows.taken) spent.knows.runner
    × IsFoundIn task.knows.order spent.replied how spent.knows.look spent.knows.runner
