-- Lists of events: what they lead to, whatever the order in which the parties make their steps.
use Rattle.std.specs.Prelude.{◌≡◌, ℕ, ◌-◌, ◌⊎◌, false, Option, None, Some, List, [], ◌∷◌}
use Rattle.feed_core.specs.Prelude.{ErrorOrder, How}
use Rattle.feed_core.specs.Cause.{no_causes_in, stops}
use Rattle.feed_core.specs.LaneCalls.{IsCapacity}
use Rattle.feed_core.specs.World.Types.{Event, Make, Signal, Free, Idle, Runner, Fresh, Taken, Parts}
use Rattle.feed_core.specs.World.Table.{joined, IsPossible, after}

-- parts: what there is, if the subscription was made cut: how many items were given before the first signal that ends
-- the subscription at once, but for the one that was just taken then
pub record WorldState : Type 0 where
  pub parts : Option Parts
  pub cut : Option ℕ

-- a part of what there is, or this, if nothing is
abbrev pub part : {A : Type 0} → A → (Parts → A) → Option Parts → A
part other read None = other
part other read (Some w) = read w

-- before any event
abbrev pub nothing : WorldState
nothing = record { parts = None; cut = None }

-- a subscription that was made
abbrev pub world_of : Parts → Option ℕ → WorldState
world_of w cut = record { parts = Some w; cut = cut }

-- a new one, which is told a closing error in this order: its task was never run
abbrev pub made : ℕ → ErrorOrder → Parts
made capacity order = record { capacity = capacity; accepted = 0; given = 0; asked = 0; own = 0; causes = no_causes_in order; active = false; producer = Free; handle = Idle; runner = Fresh; known_put = 0; known_asked = 0 }

-- when an event is possible: before the subscription was made, only that it is made
abbrev pub IsPossibleIn : Event → Option Parts → Type 0
IsPossibleIn (Make n order) None = IsCapacity n
IsPossibleIn _ None = ⊥
IsPossibleIn event (Some w) = IsPossible event w

-- the items given that an end counts from: an item that was just taken is being told
abbrev pub given_before : ℕ → Runner → ℕ
given_before given Taken = given - 1
given_before given _ = given

-- the first signal whose cause ends the subscription at once sets the cut
abbrev pub cut_where : Option How → Parts → Option ℕ
cut_where None w = None
cut_where (Some _) w = Some (given_before w.given w.runner)

abbrev pub cut_by : Event → Parts → Option ℕ
cut_by (Signal _ cause) w = cut_where (stops (joined cause (no_causes_in w.causes.order))) w
cut_by _ w = None

abbrev pub cut_after : Event → Parts → Option ℕ → Option ℕ
cut_after event w (Some cut) = Some cut
cut_after event w None = cut_by event w

-- after an event that was possible
abbrev pub next_of : Event → Option Parts → Option ℕ → WorldState
next_of (Make n order) None cut = world_of (made n order) None
next_of _ None cut = nothing
next_of event (Some w) cut = world_of (after event w) (cut_after event w cut)

-- one event: if it is not possible it changes nothing
abbrev pub Steps : Event → WorldState → WorldState → Type 0
Steps event old new =
    (IsPossibleIn event old.parts × (new ≡ next_of event old.parts old.cut))
    ⊎ ((IsPossibleIn event old.parts → ⊥) × (new ≡ old))

-- a list of events, those that are possible
abbrev pub Leads : WorldState → List Event → WorldState → Type 0
Leads old [] new = new ≡ old
Leads old (event ∷ events) new = (between : WorldState) × Steps event old between × Leads between events new

-- some list of events leads to it
pub record IsReached (w : Parts) : Type 0 where
  pub events : List Event
  pub cut : Option ℕ
  pub leads : Leads nothing events (world_of w cut)
