-- What holds of a subscription's table between any two steps.
use Rattle.std.specs.Prelude.{◌≡◌, ℕ, ◌+◌, ◌%◌, ◌<◌, ◌≤◌, ◌⊎◌, Bool, true, false, List, [], ◌∷◌, ◌++◌, length, map, take, Option, Some, None}
use mathlib.Core.Option as slot
use mathlib.Core.Option.{some}
use lib.ListN.{get_elem?}
use Rattle.atomic_table.specs.Table.{State}
use Rattle.feed_core.specs.Prelude.{Item, Ending, ErrorOrder, How, Signal, Subscribed, Next, Complete, Error}
use Rattle.feed_core.specs.World.Table.{is_started, is_over}
use Rattle.feed_cell.specs.Types.{Causes, Producing, Requesting, Idle, Runner, Nobody, Coming, Fresh, Looked, Saw, Measured, Over, Parts}
use Rattle.feed_cell.specs.declared.cell.Held.{Held}
use Rattle.feed_cell.specs.declared.cell.Lodger.{Lodger}
use Rattle.feed_cell.specs.declared.cell.View.{View}
use Rattle.feed_cell.specs.Views.{has_put, has_ask, has_run}
pub use Rattle.feed_cell.specs.WordPlaces.{words_by}
use Rattle.feed_cell.specs.Control.{Flags, Reads, causes_of, marked}
use Rattle.feed_cell.specs.Outlooks.{IsReachedBy}

-- what lies beyond tail: the items that were placed in their slots and not put yet, and the number from which on places
-- are free and at home
pub record Beyond : Type 0 where
  pub placed : List Item
  pub free : ℕ

-- what was put and taken, the item whose slot is out, if any, and what lies beyond tail
pub record Lists (capacity : ℕ) (log taken item : List Item) (beyond : Beyond) : Type 0 where
  pub sized : 0 < capacity
  -- what was taken is the first of what was put, in its order, and the item that is out comes next
  pub begins : taken ++ item ≡ take (length taken + length item) log
  pub one_out : length item ≤ 1
  pub within : length taken + length item ≤ length log
  pub above : length log + length beyond.placed ≤ beyond.free
  pub below : beyond.free ≤ length taken + capacity

-- each item from the number full on lies in its slot, and each place from the number free on is empty
pub record Lies {B : Type 0} (capacity : ℕ) (log : List Item) (head full free : ℕ) (homes : List (slot.Option (Held B))) : Type 0 where
  pub wide : length homes ≡ capacity + 1
  pub items : (k : ℕ) (x : Item) → full ≤ k → get_elem? log k ≡ some x → get_elem? homes (k % capacity) ≡ some (some (Held.Item x))
  pub places : (k : ℕ) → free ≤ k → k < head + capacity → get_elem? homes (k % capacity) ≡ some (some Held.Empty)

-- at most one seat has this part, that one, and this is what it knows
abbrev pub Only : (View → Bool) → ℕ → (View → Type 0) → List View → Type 0
Only part seat Knows views = (j : ℕ) (d : View) → get_elem? views j ≡ some d → part d ≡ true → (j ≡ seat) × Knows d

-- whether a seat runs the task
abbrev pub has_seat : Runner → Bool
has_seat Nobody = false
has_seat Coming = false
has_seat (Over _) = false
has_seat _ = true

-- whether it may have an item out
abbrev pub may_hold : Runner → Bool
may_hold (Looked _) = true
may_hold (Saw _ _) = true
may_hold (Measured _ _ _) = true
may_hold _ = false

-- whether it has looked, and neither taken nor rested since
abbrev pub has_looked : Runner → Bool
has_looked (Looked _) = true
has_looked (Saw _ _) = true
has_looked (Measured _ _ _) = true
has_looked _ = false

-- how the subscription has ended, if it has
abbrev pub how_of : Runner → Option How
how_of (Over how) = Some how
how_of _ = None

-- the signals of a subscriber that was given these items, and goes on
abbrev pub greeted : List Item → List Signal
greeted items = Subscribed ∷ map Next items

-- what a subscriber was told that these items were taken for, by how it has ended (Reactive Streams 1.0, 1.4, 1.5 and
-- 1.7)
abbrev pub IsToldAtEnd : How → List Item → List Signal → Type 0
IsToldAtEnd How.Completed taken told = told ≡ greeted taken ++ Complete ∷ []
IsToldAtEnd (How.Errored fault) taken told = told ≡ greeted taken ++ Error fault ∷ []
IsToldAtEnd How.Cancelled taken told = told ≡ greeted taken
IsToldAtEnd (How.Failed _) taken told = told ≡ greeted taken
IsToldAtEnd How.OutOfMemory taken told =
    (told ≡ greeted taken)
    ⊎ (((taken ≡ []) × (told ≡ []))
    ⊎ ((before : List Item) × (x : Item) × (taken ≡ before ++ x ∷ []) × (told ≡ greeted before)))

-- what a subscriber at home was told, by where its task stands
abbrev pub IsToldAt : Runner → List Item → List Signal → Type 0
IsToldAt (Over how) taken told = IsToldAtEnd how taken told
IsToldAt _ taken told = told ≡ greeted taken

-- what the words, the lists and the flags show of the subscription
pub record ShowsParts (capacity : ℕ) (w : Parts) (log taken item : List Item) (f : Flags) (answers : Causes)
    (away left : Bool) : Type 0 where
  pub sized : w.capacity ≡ capacity
  pub accepted : w.accepted ≡ length log
  pub given : w.given ≡ length taken
  pub none_out : may_hold w.runner ≡ false → item ≡ []
  pub started : f.run ≡ is_started w.runner
  pub new : f.active ≡ w.active
  pub causes : w.causes ≡ causes_of f answers
  pub home : has_seat w.runner ≡ false → away ≡ false
  pub settled : left ≡ true → w.handle ≡ Idle

-- the words, by what there is
abbrev pub words_of : ℕ → Parts → Bool → ℕ → List ℕ
words_of capacity w left control = words_by capacity (marked (is_over w.runner) w.given) w.accepted (marked left w.asked) control

-- the subscriber is at home, with what is kept beside it
pub record Lodges {B : Type 0} (told : B → List Signal) (capacity : ℕ) (runner : Runner) (taken : List Item) (own : ℕ) (answers : Causes)
    (homes : List (slot.Option (Held B))) : Type 0 where
  pub guest : Lodger B
  pub at : get_elem? homes capacity ≡ some (some (Held.Guest guest))
  pub given_is : guest.given ≡ length taken
  pub own_is : guest.own ≡ own
  pub answers_are : guest.answers ≡ answers
  pub how_is : guest.how ≡ how_of runner
  pub told_is : IsToldAt runner taken (told guest.subscriber)

-- while nobody has it out: before the first task takes the slot, it is empty, and later the subscriber is there
abbrev pub LodgesAt : {B : Type 0} → (B → List Signal) → ℕ → Runner → List Item → ℕ → Causes → List (slot.Option (Held B)) → Type 0
LodgesAt told capacity Fresh taken own answers homes = get_elem? homes capacity ≡ some (some Held.Empty)
LodgesAt told capacity runner taken own answers homes = Lodges told capacity runner taken own answers homes

-- what the producer knows
pub record AsProducer (capacity : ℕ) (order : ErrorOrder) (log : List Item) (given : ℕ) (beyond : Beyond) (ended : Bool) (closing : Option Ending)
    (state : Bool) (producing : Producing) (d : View) : Type 0 where
  pub sized : d.capacity ≡ capacity
  pub ordered : d.order ≡ order
  pub put : d.put ≡ log
  pub seen : d.seen ≤ given
  pub laid : d.placed ≡ beyond.placed
  pub places : beyond.free ≡ length log + length beyond.placed + d.places
  pub over : d.over ≡ true → ended ≡ true
  pub closed : d.closing ≡ closing
  pub doubled : d.state ≡ state
  pub stands : d.producing ≡ producing

-- what the handle knows
pub record AsHandle (capacity : ℕ) (order : ErrorOrder) (asked : ℕ) (cancel argument left : Bool) (requesting : Requesting)
    (d : View) : Type 0 where
  pub sized : d.capacity ≡ capacity
  pub ordered : d.order ≡ order
  pub total : d.asked ≡ asked
  pub cancels : d.cancel ≡ cancel
  pub bad : d.argument ≡ argument
  pub leaves : d.left ≡ left
  pub stands : d.requesting ≡ requesting

-- what a task that has its subscriber with it knows besides
pub record KnowsAway (taken : List Item) (own : ℕ) (answers : Causes) (d : View) : Type 0 where
  pub taken_is : d.taken ≡ taken
  pub own_is : d.own ≡ own
  pub answers_are : d.answers ≡ answers

-- what the task knows
pub record AsRunner (capacity : ℕ) (runner : Runner) (active : Bool) (control : ℕ) (away : Bool) (taken item : List Item) (own : ℕ)
    (answers : Causes) (known_put known_asked : ℕ) (d : View) : Type 0 where
  pub sized : d.capacity ≡ capacity
  pub ordered : d.order ≡ answers.order
  pub seated : has_seat runner ≡ true
  pub stands : d.runner ≡ runner
  pub out : d.away ≡ away
  pub knows : away ≡ true → KnowsAway taken own answers d
  pub fresh : runner ≡ Fresh → KnowsAway taken own answers d
  pub item_is : d.item ≡ item
  pub latest : has_looked runner ≡ true → active ≡ false → control ≡ d.look
  -- a task that was handed over knows nothing yet
  pub saw_put : d.known_put ≤ known_put
  pub saw_asked : d.requested ≤ known_asked

-- what there is of a subscription
pub record CellData : Type 0 where
  -- its parts, which some list of possible events leads to
  pub world : Parts
  -- what was put, what was taken of it, the item whose slot is out, and what lies beyond tail
  pub log : List Item
  pub taken : List Item
  pub item : List Item
  pub beyond : Beyond
  -- the control word, and what that says
  pub control : ℕ
  pub flags : Flags
  -- the causes that answers of callbacks have brought about, as far as looks brought them in, and the order of errors,
  -- which never changes
  pub answers : Causes
  -- whether the subscriber's slot is out, and whether the handle has left
  pub away : Bool
  pub left : Bool
  -- the seats of the producer, the handle and the task
  pub producer : ℕ
  pub handle : ℕ
  pub runner : ℕ

-- what each party knows of it
abbrev pub KnownByProducer : ℕ → CellData → View → Type 0
KnownByProducer capacity cell = AsProducer capacity cell.answers.order cell.log cell.world.given cell.beyond (is_over cell.world.runner)
    cell.flags.closing cell.flags.state cell.world.producer

abbrev pub KnownByHandle : ℕ → CellData → View → Type 0
KnownByHandle capacity cell = AsHandle capacity cell.answers.order cell.world.asked cell.flags.cancel cell.flags.argument cell.left
    cell.world.handle

abbrev pub KnownByRunner : ℕ → CellData → View → Type 0
KnownByRunner capacity cell = AsRunner capacity cell.world.runner cell.world.active cell.control cell.away cell.taken cell.item
    cell.world.own cell.answers cell.world.known_put cell.world.known_asked

module _ {B : Type 0} (told : B → List Signal) where
  -- the rule of a subscription of this capacity: what there is, and what of it the words, the slots and the seats show
  pub record CellRule (capacity : ℕ) (s : State (Held B) View) : Type 0 where
    pub cell : CellData
    -- the seats show each rest and the end that are among the events
    pub reached : IsReachedBy s.views cell.world
    pub lists : Lists capacity cell.log cell.taken cell.item cell.beyond
    pub shows : ShowsParts capacity cell.world cell.log cell.taken cell.item cell.flags cell.answers cell.away cell.left
    pub reads : Reads cell.control cell.flags
    pub words : s.words ≡ words_of capacity cell.world cell.left cell.control
    pub lies : Lies capacity (cell.log ++ cell.beyond.placed) (length cell.taken) (length cell.taken + length cell.item) cell.beyond.free s.homes
    pub lodges : cell.away ≡ false → LodgesAt told capacity cell.world.runner cell.taken cell.world.own cell.answers s.homes
    pub producers : Only has_put cell.producer (KnownByProducer capacity cell) s.views
    pub handles : Only has_ask cell.handle (KnownByHandle capacity cell) s.views
    pub runners : Only has_run cell.runner (KnownByRunner capacity cell) s.views
