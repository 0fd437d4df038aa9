-- What a turn of a subscriber that only goes on tells and changes is known by the plain turn.
use Rattle.std.proofs.Common.{◌≡◌, ◌++◌, true, List, None, ap, sym, ◌∙◌, subst}
use Rattle.std.proofs.lemmas.List.{append_cancel_left}
use Rattle.feed_core.specs.Prelude.{Signal, Outlook}
use Rattle.feed_core.specs.AnsweredTurn.{Reply}
use Rattle.feed_core.specs.Desk.{DeskState, desk_after_turn}
use Rattle.feed_core.specs.Lane.{LaneState}
use Rattle.feed_core.specs.PlainTurn.{plain_turn_of}
use Rattle.feed_core.specs.Steps.{TurnsAs}
use Rattle.feed_core.specs.Turn.{MeetsPlainTurn}
use Rattle.feed_core.proofs.Turns.PlainAnswers.{Plainly, lane_by, turn_plainly}

module _ {old new : DeskState} {seen : List Signal} {outlook : Outlook} {replies : List Reply} (turns : TurnsAs old new seen outlook replies) (unended : old.lane.how ≡ None) (steady : old.is_steady ≡ true) where
  plainly : Plainly (plain_turn_of old.lane) old.lane (record { lane = new.lane; outlook = outlook })
  plainly = subst (Plainly (plain_turn_of old.lane) old.lane) turns.turned (turn_plainly old.lane replies unended (turns.plain steady))

  -- what it told is what was seen
  same_seen : plainly.seen ≡ seen
  same_seen = append_cancel_left old.lane.told plainly.seen seen (sym (ap (λ (lane : LaneState). lane.told) plainly.changed) ∙ turns.recorded)

  -- it is the plain one, or that cut short
  pub turn_meets : MeetsPlainTurn (plain_turn_of old.lane) seen outlook
  turn_meets = subst (λ text. MeetsPlainTurn (plain_turn_of old.lane) text outlook) same_seen plainly.meets

  -- what it changes is known by what it told
  pub turn_changes : new ≡ desk_after_turn old seen outlook
  turn_changes = λ k. record {
    lane = (plainly.changed ∙ ap (λ text. lane_by (plain_turn_of old.lane) old.lane text outlook) same_seen) k;
    capacity = turns.capacity k;
    started = turns.started k;
    is_steady = (turns.steady steady ∙ sym steady) k;
    looks = turns.looks k;
    requested = turns.requested k;
    asked_badly = turns.badly k;
    is_cancelled = turns.cancelled k;
    replied = (turns.replied ∙ ap (λ (more : List Reply). old.replied ++ more) (turns.goes_on steady)) k;
  }
