-- What each step of the task tells it: its seat afterwards, by its seat before and the number found.
use Rattle.std.specs.Prelude.{◌≡◌, ◌≢◌, ℕ, ◌+◌, ◌%◌, ◌<◌, ◌≤◌, ◌⊎◌, Bool, true, false, List, [], ◌∷◌, ◌++◌, length, Option, Some, None, bit_and}
use Rattle.atomic_table.specs.Table.{rest}
use Rattle.feed_core.specs.AnsweredTurn.{Reply}
use Rattle.feed_core.specs.Prelude.{How, Item, Signal, UNBOUNDED, total_after}
use Rattle.feed_core.specs.declared.turn.outlook.Outlook.{Outlook}
use Rattle.feed_core.specs.declared.turn.outlook.Outlook.TheVariants.{Again, Resting, Ended}
use Rattle.feed_core.specs.World.Table.{MaySee, MayTake, seeing, measuring}
use Rattle.feed_cell.specs.Types.{Causes, Runner, Nobody, Ready, Looked, Measured, Taken, Fresh}
use Rattle.feed_cell.specs.declared.cell.Grant.{Grant}
use Rattle.feed_cell.specs.declared.cell.Held.{Held}
use Rattle.feed_cell.specs.declared.cell.Lodger.{Lodger}
use Rattle.feed_cell.specs.declared.cell.View.{View}
use Rattle.feed_cell.specs.Cell.{greeted}
use Rattle.feed_cell.specs.Views.{IsRunner}
use Rattle.feed_cell.specs.Control.{QUIET, Flags, Reads, causes_of, marked}
use Rattle.feed_cell.specs.Seats.{SeatOf, own_out, answers_out, how_out}
use Rattle.feed_cell.specs.TaskPauses.{replied_out}

-- the first task takes its subscriber's slot out, if nobody is yet
abbrev pub Enters : {B : Type 0} → SeatOf B → SeatOf B → Type 0
Enters before after = after ≡ (record before.0 { away = true }, (before.0.capacity, Held.Empty) ∷ before.1)

-- what a look leaves of the word that it finds: all but its mark of something new
abbrev pub cleared : ℕ → ℕ
cleared found = bit_and found QUIET

-- and what a peek leaves: all of it
abbrev pub untouched : ℕ → ℕ
untouched found = found

-- the task after a look or a peek that left this word, with this from the answers of callbacks
abbrev pub after_causes : View → ℕ → Flags → ℕ → Causes → List Item → View
after_causes v word f own answers taken =
    record v { runner = Looked (causes_of f answers); look = word; away = true; own = own; answers = answers; taken = taken }

-- the task looks or peeks, with its subscriber, by what that leaves of the word
pub record LooksOut {B : Type 0} (left_of : ℕ → ℕ) (before : SeatOf B) (found : ℕ) (after : SeatOf B) : Type 0 where
  pub flags : Flags
  pub reads : Reads (left_of found) flags
  pub started : flags.run ≡ true
  pub few : length before.0.taken ≤ UNBOUNDED
  pub ordered : (answers_out before.1).order ≡ before.0.order
  pub looked : after ≡ (after_causes before.0 (left_of found) flags (own_out before.1) (answers_out before.1) before.0.taken, before.1)

-- a task that was handed over peeks for the first time, and takes its subscriber with it
pub record PeeksFirst {B : Type 0} (told : B → List Signal) (before : SeatOf B) (found : ℕ) (after : SeatOf B) : Type 0 where
  pub flags : Flags
  pub reads : Reads found flags
  pub started : flags.run ≡ true
  pub guest : Lodger B
  pub taken : List Item
  pub told_is : told guest.subscriber ≡ greeted taken
  pub given : guest.given ≡ length taken
  pub how : guest.how ≡ None
  pub few : length taken ≤ UNBOUNDED
  pub ordered : guest.answers.order ≡ before.0.order
  pub looked : after ≡ (after_causes before.0 found flags guest.own guest.answers taken, (before.0.capacity, Held.Guest guest) ∷ before.1)

-- the task found this number of items put: if there is one that it did not take, the next slot is out with it
pub record SeesPut {B : Type 0} (before : SeatOf B) (found : ℕ) (after : SeatOf B) : Type 0 where
  pub put : length before.0.taken ≤ found
  pub waits : length before.0.taken < found
      → (x : Item) × (after ≡ (
        record before.0 {
          runner = seeing found before.0.runner;
          item = x ∷ [];
          known_put = found;
        },
        (length before.0.taken % before.0.capacity, Held.Item x) ∷ before.1,
      ))
  pub empty : found ≡ length before.0.taken
      → after ≡ (record before.0 { runner = seeing found before.0.runner; known_put = found }, before.1)
  pub sized : after.0.capacity ≡ before.0.capacity

-- the slot of the next item is out, by a load of head, which only the task stores
pub record Grabs {B : Type 0} (before : SeatOf B) (found : ℕ) (after : SeatOf B) : Type 0 where
  pub item : Item
  pub took : after ≡ (record before.0 { item = item ∷ [] }, (length before.0.taken % before.0.capacity, Held.Item item) ∷ before.1)
  pub sized : after.0.capacity ≡ before.0.capacity

-- the task found this in asked; if no more is requested than was taken, the slot that was out is given back
pub record Measures {B : Type 0} (before : SeatOf B) (found : ℕ) (after : SeatOf B) : Type 0 where
  pub asked : ℕ
  pub left : Bool
  pub found_is : found ≡ marked left asked
  pub bounded : asked ≤ UNBOUNDED
  pub met : length before.0.taken ≤ total_after asked before.0.own
  pub wanted : length before.0.taken < total_after asked before.0.own
      → after ≡ (record before.0 { runner = measuring (total_after asked before.0.own) before.0.runner; requested = asked }, before.1)
  pub enough : length before.0.taken ≡ total_after asked before.0.own
      → after ≡ (
        record before.0 {
          runner = measuring (total_after asked before.0.own) before.0.runner;
          requested = asked;
          item = [];
        },
        rest before.1,
      )
  pub sized : after.0.capacity ≡ before.0.capacity

-- the task found this in asked, with no item out
pub record MeasuresNone {B : Type 0} (before : SeatOf B) (found : ℕ) (after : SeatOf B) : Type 0 where
  pub asked : ℕ
  pub left : Bool
  pub found_is : found ≡ marked left asked
  pub bounded : asked ≤ UNBOUNDED
  pub met : length before.0.taken ≤ total_after asked before.0.own
  pub grew : before.0.requested ≤ asked
  pub measured : after ≡ (
    record before.0 {
      runner = measuring (total_after asked before.0.own) before.0.runner;
      requested = asked;
    },
    before.1,
  )

-- by what a task takes an item that has measured: the causes of its look, and the total of its measure, of which the
-- handle requested this. If it takes it by what it knew before its look, the total is that with what the answers have
-- requested by now
abbrev pub grants_by : ℕ → ℕ → Runner → List Grant
grants_by requested own (Measured causes tail asked) = record { causes = causes; asked = asked; requested = requested } ∷ []
grants_by requested own (Looked causes) = record { causes = causes; asked = total_after requested own; requested = requested } ∷ []
grants_by requested own _ = []

-- a task that has looked may take the next item, if it knows that it was put and requested
abbrev pub MayTakeSoon : View → Type 0
MayTakeSoon v = MaySee v.runner × (length v.taken < v.known_put) × (length v.taken < total_after v.requested v.own)

-- or it has measured since
abbrev pub MayTakeNow : View → Type 0
MayTakeNow v = MayTake (length v.taken) v.runner ⊎ MayTakeSoon v

-- the item that was out is taken, and its slot given back
abbrev pub IsTake : {B : Type 0} → SeatOf B → SeatOf B → Type 0
IsTake before after = after ≡ (
  record before.0 {
    taken = before.0.taken ++ before.0.item;
    item = [];
    grants = before.0.grants ++ grants_by before.0.requested before.0.own before.0.runner;
    runner = Taken;
  },
  rest before.1,
)

-- the task rests if the word is the one after its look, and its subscriber is at home then; else something is new
pub record IsRest {B : Type 0} (replied : B → List Reply) (look : ℕ) (before : SeatOf B) (found : ℕ) (after : SeatOf B) : Type 0 where
  pub rested : found ≡ look → after ≡ (
    record before.0 {
      runner = Nobody;
      runs = false;
      away = false;
      outlook = Resting;
      replied = replied_out replied before.1;
    },
    rest before.1,
  )
  pub missed : found ≢ look → after ≡ (record before.0 { runner = Ready; misses = before.0.misses + 1 }, before.1)
  pub sized : after.0.capacity ≡ before.0.capacity

-- what became of the task, by how its subscriber has ended
abbrev pub outlook_by : Option How → Outlook
outlook_by None = Again
outlook_by (Some how) = Ended how

-- the subscription has ended, and its subscriber is at home
abbrev pub IsEnd : {B : Type 0} → (B → List Reply) → SeatOf B → SeatOf B → Type 0
IsEnd replied before after = after ≡ (
  record before.0 {
    runs = false;
    away = false;
    outlook = outlook_by (how_out before.1);
    replied = replied_out replied before.1;
  },
  rest before.1,
)

-- the first task has not taken its subscriber's slot out yet
pub record IsUnlodged {B : Type 0} (me : SeatOf B) : Type 0 where
  pub is : IsRunner me.0
  pub stage : me.0.runner ≡ Fresh
  pub home : me.0.away ≡ false
  pub none_out : me.1 ≡ []

-- the subscriber's slot is out with the first task, which has placed the subscriber there
abbrev pub HasLodged : {B : Type 0} → Lodger B → SeatOf B → SeatOf B → Type 0
HasLodged guest before after = after ≡ (record before.0 { away = true }, (before.0.capacity, Held.Guest guest) ∷ [])
