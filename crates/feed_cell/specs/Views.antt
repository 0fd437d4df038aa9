-- What the parties of a subscription know: at first, and when seats are split.
use Rattle.std.specs.Prelude.{◌≡◌, ℕ, ◌+◌, Bool, true, false, Option, None, Some, []}
use Rattle.feed_core.specs.Cause.{no_causes_in}
use Rattle.feed_core.specs.Prelude.{ErrorOrder, Overtake}
use Rattle.feed_core.specs.declared.turn.outlook.Outlook.TheVariants.{Again}
use Rattle.feed_cell.specs.Types.{Free, Idle, Fresh, Ready}
use Rattle.feed_cell.specs.declared.cell.View.{View}

-- the maker of a subscription of this capacity, which is told a closing error in this order, has all three parts
abbrev pub first_view : ℕ → ErrorOrder → View
first_view capacity order = record {
  capacity = capacity;
  started = 0;
  puts = true;
  put = [];
  placed = [];
  producing = Free;
  places = 0;
  seen = 0;
  looks = 0;
  over = false;
  closing = None;
  state = false;
  asks = true;
  order = order;
  asked = 0;
  requesting = Idle;
  cancel = false;
  argument = false;
  left = false;
  runs = true;
  runner = Fresh;
  look = 0;
  away = false;
  taken = [];
  item = [];
  grants = [];
  known_put = 0;
  requested = 0;
  own = 0;
  answers = no_causes_in order;
  misses = 0;
  outlook = Again;
  replied = [];
}

-- which parts a seat has
abbrev pub has_put : View → Bool
has_put v = v.puts

abbrev pub has_ask : View → Bool
has_ask v = v.asks

abbrev pub has_run : View → Bool
has_run v = v.runs

-- the handle's part goes to a seat of its own
abbrev pub without_asking : View → View
without_asking v = record v { asks = false }

abbrev pub asking_alone : View → View
asking_alone v = record v { puts = false; runs = false; misses = 0; started = 0 }

-- the first task's part goes to a seat of its own
abbrev pub without_running : View → View
without_running v = record v { runs = false }

abbrev pub running_alone : View → View
running_alone v = record v { puts = false; asks = false; misses = 0; started = 0 }

-- a side has handed over the task that its signal started
abbrev pub handed : View → View
handed v = record v { producing = Free; requesting = Idle; started = v.started + 1 }

-- how many tasks were started, with this one, if there is one
abbrev pub starts_after : {T : Type 0} → Option T → ℕ → ℕ
starts_after None started = started
starts_after (Some task) started = started + 1

-- a task that was handed over is ready, and its subscriber is at home
abbrev pub ready_view : ℕ → ErrorOrder → View
ready_view capacity order = record (first_view capacity order) { puts = false; asks = false; runner = Ready }

abbrev pub running_handed : View → View
running_handed v = ready_view v.capacity v.order

-- the producer's seat takes in what the handle's knows, and that has no part any more
abbrev pub with_asking : View → View → View
with_asking v h = record v {
  asks = h.asks;
  order = h.order;
  asked = h.asked;
  requesting = h.requesting;
  cancel = h.cancel;
  argument = h.argument;
  left = h.left;
  misses = v.misses + h.misses;
  started = v.started + h.started;
}

abbrev pub no_part : View
no_part = record (first_view 0 Overtake) { puts = false; asks = false; runs = false }

-- a seat of one kind
abbrev pub IsProducer : View → Type 0
IsProducer v = (v.puts ≡ true) × (v.asks ≡ false) × (v.runs ≡ false)

abbrev pub IsHandle : View → Type 0
IsHandle v = (v.puts ≡ false) × (v.asks ≡ true) × (v.runs ≡ false)

abbrev pub IsRunner : View → Type 0
IsRunner v = (v.puts ≡ false) × (v.asks ≡ false) × (v.runs ≡ true)

-- the task, with no item out
abbrev pub RunsFree : View → Type 0
RunsFree v = IsRunner v × (v.item ≡ [])

-- the task, with its subscriber out
abbrev pub RunsAway : View → Type 0
RunsAway v = IsRunner v × (v.away ≡ true)
