-- The handle's steps on its own word: what they ask of its seat, and what they tell it.
use Rattle.std.specs.Prelude.{◌≡◌, ℕ, ◌≤◌, Bool, true, false, []}
use Rattle.feed_core.specs.Prelude.{UNBOUNDED}
use Rattle.feed_cell.specs.Types.{Idle, HasAsked}
use Rattle.feed_cell.specs.Views.{IsHandle}
use Rattle.feed_cell.specs.Seats.{SeatOf}

-- this number is requested in all
abbrev pub IsAsk : {B : Type 0} → SeatOf B → ℕ → SeatOf B → Type 0
IsAsk before asked after = after ≡ (record before.0 { asked = asked; requesting = HasAsked }, before.1)

-- the handle makes no step any more
abbrev pub Leaves : {B : Type 0} → SeatOf B → SeatOf B → Type 0
Leaves before after = after ≡ (record before.0 { left = true }, before.1)

-- the handle may make a step: it is not in the middle of a request or a signal
pub record MayRequest {B : Type 0} (me : SeatOf B) : Type 0 where
  pub is : IsHandle me.0
  pub idle : me.0.requesting ≡ Idle
  pub stays : me.0.left ≡ false

-- a handle between two calls, which has requested this many items and has cancelled or not
pub record IsHandleOf {B : Type 0} (asked : ℕ) (cancelled : Bool) (me : SeatOf B) : Type 0 where
  pub may : MayRequest me
  pub no_slot : me.1 ≡ []
  pub counted : me.0.asked ≡ asked
  pub bounded : asked ≤ UNBOUNDED
  pub cancels : me.0.cancel ≡ cancelled
