-- Where a task stands in the middle of a turn.
use Rattle.std.specs.Prelude.{◌≡◌, ℕ, ◌+◌, ◌%◌, ◌<◌, ◌≤◌, ◌⊎◌, true, false, List, [], ◌∷◌, ◌++◌, length, Option, None, Some}
use Rattle.atomic_table.specs.Table.{rest}
use Rattle.feed_core.specs.AnsweredTurn.{Reply}
use Rattle.feed_core.specs.Cause.{stops, closes, with_cause_of}
use Rattle.feed_core.specs.PlainTurn.{terminal_of}
use Rattle.feed_core.specs.Prelude.{Answer, ErrorOrder, How, Item, Signal, UNBOUNDED, total_after}
use Rattle.feed_core.specs.Seen.{SeenState, seen_with}
use Rattle.feed_core.specs.Steps.{HasTerminal}
use Rattle.feed_core.specs.World.Table.{MayEnd}
use Rattle.feed_core.specs.declared.turn.outlook.Outlook.TheVariants.{Resting}
use Rattle.feed_cell.specs.Types.{Causes, Runner, Nobody, Ready, Looked, Saw, Measured, Taken}
use Rattle.feed_cell.specs.declared.cell.Grant.{Grant}
use Rattle.feed_cell.specs.declared.cell.Held.{Held}
use Rattle.feed_cell.specs.declared.cell.Lodger.{Lodger}
use Rattle.feed_cell.specs.declared.cell.View.{View}
use Rattle.feed_cell.specs.declared.cell.task.known.Known.{Known}
use Rattle.feed_cell.specs.Cell.{greeted, IsToldAtEnd}
use Rattle.feed_cell.specs.Control.{Flags, Reads, causes_of}
use Rattle.feed_cell.specs.TaskPauses.{told_out, replied_out}
use Rattle.feed_cell.specs.Seats.{SeatOf, how_out}
use Rattle.feed_cell.specs.TaskPlays.{grants_by, outlook_by}
use Rattle.feed_core.specs.Answered.{own_after, end_on}
use Rattle.feed_core.specs.Replies.{AllGoOn}
use Rattle.feed_cell.specs.TaskAnswers.{AreRepliesTo, EndsSo, answers_after}
use Rattle.feed_cell.specs.Parties.{IsGoing}
use Rattle.feed_cell.specs.Views.{IsRunner}

-- an answer that goes on
abbrev pub IsGoOn : Answer → Type 0
IsGoOn Answer.Go = Unit {0}
IsGoOn (Answer.Request _) = Unit {0}
IsGoOn Answer.Cancel = ⊥
IsGoOn (Answer.Fail _) = ⊥

-- an end that an answer asks for, after its signal was told
abbrev pub IsQuietEnd : How → Type 0
IsQuietEnd How.Completed = ⊥
IsQuietEnd (How.Errored _) = ⊥
IsQuietEnd How.Cancelled = Unit {0}
IsQuietEnd (How.Failed _) = Unit {0}
IsQuietEnd How.OutOfMemory = ⊥

-- the item that was out is taken, and its slot given back
abbrev pub MovesOut : {B : Type 0} → Item → SeatOf B → SeatOf B → Type 0
MovesOut item before after = after ≡ (
  record before.0 {
    taken = before.0.taken ++ item ∷ [];
    item = [];
    grants = before.0.grants ++ grants_by before.0.requested before.0.own before.0.runner;
    runner = Taken;
  },
  rest before.1,
)

-- the task is at rest, and its subscriber at home
abbrev pub ComesToRest : {B : Type 0} → (B → List Reply) → SeatOf B → SeatOf B → Type 0
ComesToRest replied before after = after ≡ (
  record before.0 {
    runner = Nobody;
    runs = false;
    away = false;
    outlook = Resting;
    replied = replied_out replied before.1;
  },
  [],
)

-- it could not rest, since something was new
abbrev pub HasMissed : {B : Type 0} → SeatOf B → SeatOf B → Type 0
HasMissed before after = after ≡ (record before.0 { runner = Ready; misses = before.0.misses + 1 }, before.1)

-- it tried no rest, and took nothing; the order of errors is the same, and so is what it knows
abbrev pub KeepsCounts : View → View → Type 0
KeepsCounts before after = (after.misses ≡ before.misses) × (after.grants ≡ before.grants) × (after.order ≡ before.order)
    × (after.known_put ≡ before.known_put)
    × (after.requested ≡ before.requested)

-- these numbers of items put, and requested by the handle, were found by loads of this task
abbrev pub IsKnown : Known → View → Type 0
IsKnown known v = (known.put ≤ v.known_put) × (known.asked ≤ v.requested)

-- by what a task looked last, if it stands after a look: a closing error is told in this order
abbrev pub IsInOrder : ErrorOrder → Runner → Type 0
IsInOrder order (Looked causes) = causes.order ≡ order
IsInOrder order (Saw causes tail) = causes.order ≡ order
IsInOrder order (Measured causes tail asked) = causes.order ≡ order
IsInOrder order _ = Unit {0}

-- a step between two looks keeps that
abbrev pub KeepsOrder : View → View → Type 0
KeepsOrder before after = (after.order ≡ before.order) × (IsInOrder before.order before.runner → IsInOrder before.order after.runner)

-- it has its subscriber with it as before, and has taken what it had
abbrev pub KeepsSubscriber : {B : Type 0} → SeatOf B → SeatOf B → Type 0
KeepsSubscriber before after = (after.1 ≡ before.1) × (after.0.taken ≡ before.0.taken)

-- what lies beside a subscriber that is out: how many items were taken, how many its answers requested, and the causes
-- of these
abbrev pub notes_of : View → ℕ × ℕ × Causes
notes_of v = (length v.taken, v.own, v.answers)

-- the end that was due by the task's last look
abbrev pub IsFound : How → Runner → Type 0
IsFound how (Looked causes) = stops causes ≡ Some how
IsFound how (Measured causes tail asked) = closes causes ≡ Some how
IsFound how _ = ⊥

-- the causes of the answers after an end: one that was due by a look adds nothing to them
abbrev pub AreAfterEnd : How → Runner → Causes → Causes → Type 0
AreAfterEnd how runner old new = (new ≡ with_cause_of how old) ⊎ (IsFound how runner × (new ≡ old))

-- this end may be told, and the end that comes if its callback is refused memory may come
abbrev pub MayFinish : How → View → Type 0
MayFinish due v = MayEnd due (length v.taken) v.runner × (HasTerminal due → MayEnd How.OutOfMemory (length v.taken) v.runner)
    × IsFound due v.runner

-- it has ended the subscription, and its subscriber is at home
abbrev pub HasLeft : {B : Type 0} → (B → List Reply) → SeatOf B → SeatOf B → Type 0
HasLeft replied ending after = after ≡ (
  record ending.0 {
    runs = false;
    away = false;
    outlook = outlook_by (how_out ending.1);
    replied = replied_out replied ending.1;
  },
  [],
)

-- the task has an item out, and the subscriber's slot behind it
pub record HasItem {B : Type 0} (me : SeatOf B) : Type 0 where
  pub item : Item
  pub one_out : me.0.item ≡ item ∷ []
  pub slot : me.1 ≡ (length me.0.taken % me.0.capacity, Held.Item item) ∷ rest me.1

module _ {B : Type 0} (told : B → List Signal) where
  -- its subscriber is with it, and goes on; what the answers brought about was brought in
  pub record Carries (me : SeatOf B) : Type 0 where
    pub guest : Lodger B
    pub slot : me.1 ≡ (me.0.capacity, Held.Guest guest) ∷ []
    pub is : IsRunner me.0
    pub away : me.0.away ≡ true
    pub none_out : me.0.item ≡ []
    pub text : told guest.subscriber ≡ greeted me.0.taken
    pub given : guest.given ≡ length me.0.taken
    pub own : guest.own ≡ me.0.own
    pub answers : guest.answers ≡ me.0.answers
    pub how : guest.how ≡ None

  -- it has looked or peeked, and this is the word that it left
  pub record HasLookedAt (word : ℕ) (me : SeatOf B) : Type 0 where
    pub carries : Carries me
    pub flags : Flags
    pub reads : Reads word flags
    pub stage : me.0.runner ≡ Looked (causes_of flags me.0.answers)
    pub ordered : me.0.answers.order ≡ me.0.order
    pub look : me.0.look ≡ word
    pub few : length me.0.taken ≤ UNBOUNDED

  -- its subscriber has ended so, and it may end the subscription
  pub record IsEnding (how : How) (me : SeatOf B) : Type 0 where
    pub guest : Lodger B
    pub slot : me.1 ≡ (me.0.capacity, Held.Guest guest) ∷ []
    pub is : IsRunner me.0
    pub away : me.0.away ≡ true
    pub none_out : me.0.item ≡ []
    pub may : MayEnd how (length me.0.taken) me.0.runner
    pub text : IsToldAtEnd how me.0.taken (told guest.subscriber)
    pub given : guest.given ≡ length me.0.taken
    pub own : guest.own ≡ me.0.own
    pub answers : AreAfterEnd how me.0.runner me.0.answers guest.answers
    pub how_is : guest.how ≡ Some how

  -- it has taken this item, and its subscriber was not told of it yet
  pub record HasTaken (item : Item) (me : SeatOf B) : Type 0 where
    pub guest : Lodger B
    pub slot : me.1 ≡ (me.0.capacity, Held.Guest guest) ∷ []
    pub is : IsRunner me.0
    pub away : me.0.away ≡ true
    pub none_out : me.0.item ≡ []
    pub stage : me.0.runner ≡ Taken
    pub before : List Item
    pub taken : me.0.taken ≡ before ++ item ∷ []
    pub text : told guest.subscriber ≡ greeted before
    pub given : guest.given ≡ length before
    pub own : guest.own ≡ me.0.own
    pub answers : guest.answers ≡ me.0.answers
    pub how : guest.how ≡ None

  -- a callback was told this, and its answer goes on
  pub record GoesOnWith (signal : Signal) (count : ℕ) (old new : Lodger B) (seen later : SeenState) : Type 0 where
    pub answer : Answer
    pub goes : IsGoOn answer
    pub text : told new.subscriber ≡ told old.subscriber ++ signal ∷ []
    pub saw : later ≡ seen_with (signal ∷ []) seen
    pub given : new.given ≡ old.given + count
    pub own : new.own ≡ own_after answer old.own
    pub answers : new.answers ≡ answers_after answer old.answers
    pub how : new.how ≡ old.how

  -- a callback was told this, and its answer is an end; or it was refused memory, which is one, and nothing was told
  pub record EndsWith (signal : Signal) (count : ℕ) (how : How) (old new : Lodger B) (seen later : SeenState) : Type 0 where
    pub last : List Signal
    pub shape : ((how ≡ How.OutOfMemory) × (last ≡ [])) ⊎ (IsQuietEnd how × (last ≡ signal ∷ []))
    pub text : told new.subscriber ≡ told old.subscriber ++ last
    pub saw : later ≡ seen_with last seen
    pub given : new.given ≡ old.given + count
    pub own : new.own ≡ old.own
    pub answers : new.answers ≡ with_cause_of how old.answers
    pub how_is : new.how ≡ Some how

  -- the end that is due was told, if it has a signal; or its callback was refused memory, which is the end
  pub record FinishesWith (due how : How) (old new : Lodger B) (seen later : SeenState) : Type 0 where
    pub last : List Signal
    pub shape : ((how ≡ due) × (last ≡ terminal_of due)) ⊎ ((how ≡ How.OutOfMemory) × HasTerminal due × (last ≡ []))
    pub text : told new.subscriber ≡ told old.subscriber ++ last
    pub saw : later ≡ seen_with last seen
    pub given : new.given ≡ old.given
    pub own : new.own ≡ old.own
    pub answers : (new.answers ≡ with_cause_of how old.answers) ⊎ ((how ≡ due) × (new.answers ≡ old.answers))
    pub how_is : new.how ≡ Some how

module _ {B : Type 0} (told : B → List Signal) (replied : B → List Reply) where
  -- what the subscriber that is with the task was told, and what the turn saw, grew by these signals, and its replies
  -- by these; nothing else changed but what lies beside it
  pub record TellsThere (last : List Signal) (fresh : List Reply) (before after : SeatOf B) (seen later : SeenState) : Type 0 where
    pub view : after.0 ≡ before.0
    pub text : told_out told after.1 ≡ told_out told before.1 ++ last
    pub replies : replied_out replied after.1 ≡ replied_out replied before.1 ++ fresh
    pub saw : later ≡ seen_with last seen

  -- it goes on after it was told this signal
  pub record GoesOnThere (signal : Signal) (before after : SeatOf B) (seen later : SeenState) : Type 0 where
    pub going : IsGoing told after
    pub reply : Reply
    pub tells : TellsThere (signal ∷ []) (reply ∷ []) before after seen later
    pub all : AllGoOn (replied_out replied after.1)

  -- its answer to this signal is an end, or it was refused memory, which is one
  pub record EndsThere (signal : Signal) (how : How) (before after : SeatOf B) (seen later : SeenState) : Type 0 where
    pub ending : IsEnding told how after
    pub last : List Signal
    pub shape : ((how ≡ How.OutOfMemory) × (last ≡ [])) ⊎ (IsQuietEnd how × (last ≡ signal ∷ []))
    pub reply : Reply
    pub asks : end_on reply ≡ Some how
    pub tells : TellsThere last (reply ∷ []) before after seen later
    pub ends : EndsSo (Some how) (replied_out replied after.1)

  -- the end that is due was told, if it has a signal; or its callback was refused memory, which is the end
  pub record FinishesThere (due how : How) (before after : SeatOf B) (seen later : SeenState) : Type 0 where
    pub ending : IsEnding told how after
    pub last : List Signal
    pub shape : ((how ≡ due) × (last ≡ terminal_of due)) ⊎ ((how ≡ How.OutOfMemory) × HasTerminal due × (last ≡ []))
    pub fresh : List Reply
    pub to_it : AreRepliesTo due how fresh
    pub tells : TellsThere last fresh before after seen later
    pub ends : EndsSo (Some how) (replied_out replied after.1)
    pub found : IsFound due before.0.runner

module _ {B : Type 0} where
  -- the task found no item that was put, or none that was requested
  pub record FindsNone (tail : ℕ) (before after : SeatOf B) : Type 0 where
    pub causes : Causes
    pub asked : ℕ
    pub stage : before.0.runner ≡ Looked causes
    pub runs_on : stops causes ≡ None
    pub why : (tail ≡ length before.0.taken) ⊎ (asked ≡ length before.0.taken)
    pub put : length before.0.taken ≤ tail
    pub requested : ℕ
    pub found : after ≡ (
      record before.0 {
        runner = Measured causes tail asked;
        requested = requested;
        item = [];
        known_put = tail;
      },
      before.1,
    )

  -- one more item was requested than were taken, by a measure, and by a look or a peek that found no end at once; this
  -- many of them by answers
  pub record IsGranted (own : ℕ) (before : SeatOf B) : Type 0 where
    pub causes : Causes
    pub asked : ℕ
    pub requested : ℕ
    pub counts : asked ≡ total_after requested own
    pub ordered : IsInOrder before.0.order before.0.runner → causes.order ≡ before.0.order
    pub runs_on : stops causes ≡ None
    pub wanted : length before.0.taken < asked

  abbrev pub grant_of : {own : ℕ} (before : SeatOf B) → IsGranted own before → Grant
  grant_of before granted = record { causes = granted.causes; asked = granted.asked; requested = granted.requested }

  -- it took this item, which was put and requested
  pub record TakesNext (item : Item) (before after : SeatOf B) : Type 0 where
    pub granted : IsGranted before.0.own before
    pub few : length before.0.taken < UNBOUNDED
    pub known_put : ℕ
    pub took : after ≡ (
      record before.0 {
        runner = Taken;
        taken = before.0.taken ++ item ∷ [];
        item = [];
        grants = before.0.grants ++ grant_of before granted ∷ [];
        requested = granted.requested;
        known_put = known_put;
      },
      before.1,
    )

  -- the task has measured, and has no item to give; this end waits for the items, if one does
  pub record HasNoneToGive (tail : ℕ) (due : Option How) (me : SeatOf B) : Type 0 where
    pub causes : Causes
    pub asked : ℕ
    pub stage : me.0.runner ≡ Measured causes tail asked
    pub waits : due ≡ closes causes
    pub why : (tail ≡ length me.0.taken) ⊎ (asked ≡ length me.0.taken)
