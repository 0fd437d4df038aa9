-- What a session does to one subscription of its publisher.
use Rattle.std.specs.Prelude.{◌≡◌, ℕ, Bool, true, ◌&&◌, not, Some, List, slice_get}
use Rattle.feed_core.specs.Desk.{Owes}
use Rattle.feed_core.specs.PlainTurn.{plain_turn_of}
use Rattle.feed_core.specs.Turn.{MeetsPlainTurn}
use Rattle.publisher_hub.specs.Lending.{feed_at, with_feed}
use Rattle.publisher_hub.specs.declared.hub.Hub.{Hub}
use Rattle.lines_demo.specs.Prelude.{DeskState, Outlook, Signal, desk_after_turn, owes}
use Rattle.lines_demo.specs.Script.Obeying.{desk_after_act}
use Rattle.lines_demo.specs.declared.script.session.acting.Act.{Act}

-- whether the task of a subscription was started: a turn is owed now, and none was before
abbrev pub was_started : DeskState → DeskState → Bool
was_started before now = owes now && not (owes before)

-- the owner of the subscription of this number did this to it, and nothing else changed; its task was started, or not
pub record ActsOn (act : Act) (number : ℕ) (old : Hub DeskState) (is_started : Bool)
    (new : Hub DeskState) : Type 0 where
  pub before : DeskState
  pub stood : feed_at old number ≡ Some before
  pub left : new
      ≡ with_feed old number (slice_get old.entries.items number) (desk_after_act act before)
  pub starts : is_started ≡ was_started before (desk_after_act act before)

-- the subscription of this number owes a turn, and its subscriber is steady
pub record OwesTurn (number : ℕ) (hub : Hub DeskState) : Type 0 where
  pub desk : DeskState
  pub stands : feed_at hub number ≡ Some desk
  pub owed : Owes desk
  pub steady : desk.is_steady ≡ true

-- the subscription of this number made a turn, which told these signals and had this outlook, and nothing else changed
pub record TurnsOn (number : ℕ) (old : Hub DeskState) (told : List Signal) (outlook : Outlook)
    (new : Hub DeskState) : Type 0 where
  pub before : DeskState
  pub stood : feed_at old number ≡ Some before
  pub left : new
      ≡ with_feed old number (slice_get old.entries.items number)
      (desk_after_turn before told outlook)
  pub plain : MeetsPlainTurn (plain_turn_of before.lane) told outlook
