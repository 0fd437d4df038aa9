-- What became of the task, by the seats that ran it, and by the events.
use Rattle.std.specs.Prelude.{◌≡◌, ◌⊎◌, ℕ, ◌+◌, Bool, true, false, Option, Some, List, [], ◌∷◌}
use mathlib.Core.Option.{some}
use lib.ListN.{get_elem?}
use Rattle.feed_core.specs.Prelude.{How}
use Rattle.feed_core.specs.declared.turn.outlook.Outlook.{Outlook}
use Rattle.feed_core.specs.declared.turn.outlook.Outlook.TheVariants.{Again, Resting, Ended}
use Rattle.feed_core.specs.World.Table.{is_started}
use Rattle.feed_core.specs.World.Runs.{WorldState, nothing, world_of, Leads}
use Rattle.feed_cell.specs.Types.{Event, Runner, Coming, Ready, Measured, Over, Parts}
use Rattle.feed_cell.specs.declared.cell.View.{View}

-- one, if the task came to rest between these two stages
abbrev pub one_rest : Bool → Bool → ℕ
one_rest true false = 1
one_rest true true = 0
one_rest false _ = 0

abbrev pub rest_between : Runner → Runner → ℕ
rest_between r later = one_rest (is_started r) (is_started later)

-- one, if it tried to rest between them, and could not
abbrev pub miss_between : Runner → Runner → ℕ
miss_between (Measured _ _ _) Ready = 1
miss_between _ _ = 0

-- one, if a task was handed over between them
abbrev pub hand_between : Runner → Runner → ℕ
hand_between Coming Ready = 1
hand_between _ _ = 0

-- what one event counts, by where the task stood before and after it
abbrev pub count_in : (Runner → Runner → ℕ) → Option Parts → Option Parts → ℕ
count_in between (Some w) (Some v) = between w.runner v.runner
count_in between _ _ = 0

-- what the events count that led from there
abbrev pub count_along : (Runner → Runner → ℕ) → (old : WorldState) (events : List Event) (new : WorldState) → Leads old events new → ℕ
count_along between old [] new leads = 0
count_along between old (event ∷ events) new leads = count_in between old.parts leads.0.parts
    + count_along between leads.0 events new leads.2

-- one, if a seat shows that its task came to rest
abbrev pub rest_in : Outlook → ℕ
rest_in Again = 0
rest_in Resting = 1
rest_in (Ended _) = 0

abbrev pub rest_of : View → ℕ
rest_of v = rest_in v.outlook

-- how often a seat shows that its task tried to rest in vain, and how many tasks it shows that its signals have started
abbrev pub misses_of : View → ℕ
misses_of v = v.misses

abbrev pub starts_of : View → ℕ
starts_of v = v.started

-- what all seats show together
abbrev pub shown_count : (View → ℕ) → List View → ℕ
shown_count count [] = 0
shown_count count (v ∷ views) = count v + shown_count count views

-- a seat that has a part
abbrev pub HasPart : View → Type 0
HasPart v = (v.puts ≡ true) ⊎ ((v.asks ≡ true) ⊎ (v.runs ≡ true))

-- some list of possible events leads to what there is; in it the task came to rest, tried to rest in vain, and was
-- handed over as often as seats show, and each seat that shows an end shows how the subscription has ended
pub record IsReachedBy (views : List View) (w : Parts) : Type 0 where
  pub events : List Event
  pub cut : Option ℕ
  pub leads : Leads nothing events (world_of w cut)
  pub rests : count_along rest_between nothing events (world_of w cut) leads ≡ shown_count rest_of views
  pub misses : count_along miss_between nothing events (world_of w cut) leads ≡ shown_count misses_of views
  pub hands : count_along hand_between nothing events (world_of w cut) leads ≡ shown_count starts_of views
  pub ends : (j : ℕ) (d : View) (how : How) → get_elem? views j ≡ some d → d.outlook ≡ Ended how → w.runner ≡ Over how
  -- as long as a seat has a part, it shows neither rest nor end
  pub goes : (j : ℕ) (d : View) → get_elem? views j ≡ some d → HasPart d → d.outlook ≡ Again
