-- What a turn changes in a lane: what was told of the plain turn, and what follows from that.
use Rattle.std.specs.Prelude.{◌≡◌, ◌⊎◌, ℕ, ◌+◌, Bool, true, false, Option, None, Some, List, [], ◌∷◌, ◌++◌, length, take}
use Rattle.feed_core.specs.Prelude.{Item, Signal, Subscribed, Next, How, items_of}
use Rattle.feed_core.specs.declared.cause.Causes.{Causes}
use Rattle.feed_core.specs.declared.turn.outlook.Outlook.{Outlook}
use Rattle.feed_core.specs.declared.turn.outlook.Outlook.TheVariants.{Again, Resting, Ended}
use Rattle.feed_core.specs.Cause.{with_cause_of}
use Rattle.feed_core.specs.Lane.{LaneState}
use Rattle.feed_core.specs.PlainTurn.{PlainTurn, plain_turn_of}

-- how it ended, as the outlook tells it
abbrev pub how_after : Outlook → Option How
how_after Again = None
how_after Resting = None
how_after (Ended how) = Some how

-- the causes after a turn: refused memory joins if a callback was refused it
abbrev pub causes_after : Outlook → Causes → Causes
causes_after Again causes = causes
causes_after Resting causes = causes
causes_after (Ended how) causes = with_cause_of how causes

-- the list of signals ends in this one
abbrev pub EndsIn : List Signal → Signal → Type 0
EndsIn signals signal = (before : List Signal) × (signals ≡ before ++ signal ∷ [])

-- the list of signals ends in that of a callback whose answer is obeyed: onSubscribe or onNext
abbrev pub EndsInObeyed : List Signal → Type 0
EndsInObeyed signals = EndsIn signals Subscribed ⊎ ((item : Item) × EndsIn signals (Next item))

-- how many items were taken for onNext if this was told of the plain turn: those that were told, and the one whose
-- onNext came next, which was refused memory
abbrev pub taken_in : PlainTurn → List Signal → ℕ
taken_in plain seen = length (items_of (take (length seen + 1) plain.told))

-- whether another turn is owed
abbrev pub is_again : Outlook → Bool
is_again Again = true
is_again Resting = false
is_again (Ended _) = false

-- the lane after a turn that told these signals of the plain turn, and had this outlook
abbrev pub lane_after_turn : LaneState → List Signal → Outlook → LaneState
lane_after_turn lane told outlook = record {
  accepted = lane.accepted;
  given = lane.given + taken_in (plain_turn_of lane) told;
  asked = lane.asked;
  causes = causes_after outlook lane.causes;
  how = how_after outlook;
  told = lane.told ++ told;
}

-- all of the turn was told, or a callback was refused memory, which ends the subscription
abbrev pub IsOutlookOf : PlainTurn → List Signal → Outlook → Type 0
IsOutlookOf plain [] outlook = outlook ≡ plain.outlook
IsOutlookOf plain (_ ∷ _) outlook = outlook ≡ Ended How.OutOfMemory

-- a prefix of the plain turn was told, and all of it if no callback was refused memory
pub record MeetsPlainTurn (plain : PlainTurn) (told : List Signal) (outlook : Outlook) : Type 0 where
  pub missed : List Signal
  pub whole : plain.told ≡ told ++ missed
  pub seen : IsOutlookOf plain missed outlook
