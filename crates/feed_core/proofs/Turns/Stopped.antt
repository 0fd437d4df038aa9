-- The turn of a lane that a cause ends at once: whether all of it was told or it was cut short by a refusal of memory,
-- the lane stays sound.
use Rattle.std.proofs.Common.{◌≡◌, ℕ, ◌+◌, ◌-◌, ◌≤◌, List, [], ◌∷◌, ◌++◌, length, map, take, drop, refl, sym, ap, subst, ◌∙◌, append_assoc, length-append, arith, Some, None}
use Rattle.feed_core.specs.Prelude.{Signal, Next, How, Ended, items_of}
use Rattle.feed_core.specs.Cause.{stops, with_cause_of}
use Rattle.feed_core.specs.Lane.{LaneState}
use Rattle.feed_core.specs.PlainTurn.{greeting, end_by, signals_then, stop_or_turn, items_turn, terminal_of, plain_turn_of}
use Rattle.feed_core.specs.Sound.{IsSoundLane, is_begun, signals_of}
use Rattle.feed_core.specs.Turn.{lane_after_turn, taken_in}
use Rattle.feed_core.proofs.Turns.Cut.{missed_shape, missed_items, missed_told, take_next}
use Rattle.feed_core.proofs.Desks.Steps.{items_of_terminal, stops_may, has_cause}
use Rattle.feed_core.proofs.Turns.Whole.{told_is_open, grown_told, items_of_greeted, sound_after, taken_all}
use Rattle.flow_rules.proofs.Items.{items_of_append}

-- such a turn tells onSubscribe, if nothing was told yet, and then the terminal signal of the end
pub stopped_turn : (lane : LaneState) (how : How) → stops lane.causes ≡ Some how
    → plain_turn_of lane ≡ signals_then (greeting lane.told) (end_by how)
stopped_turn lane how stop =
    ap (λ end. signals_then (greeting lane.told) (stop_or_turn end (items_turn lane.causes (drop lane.given lane.accepted) (lane.asked - lane.given)))) stop

-- an end has one terminal signal at most
terminal_short : (how : How) → length (terminal_of how) ≤ 1
terminal_short How.Completed = omega arith
terminal_short (How.Errored _) = omega arith
terminal_short How.Cancelled = omega arith
terminal_short (How.Failed _) = omega arith
terminal_short How.OutOfMemory = omega arith

-- the lane stays sound if all of the turn was told
pub sound_stopped_turn : (lane : LaneState) (how : How) → IsSoundLane lane → lane.how ≡ None → stops lane.causes ≡ Some how
    → IsSoundLane (lane_after_turn lane (plain_turn_of lane).told (Ended how))
sound_stopped_turn lane how sound unended stop =
    let plain = (plain_turn_of lane).told in
    let said : plain ≡ greeting lane.told ++ (map Next [] ++ terminal_of how) = ap (λ turn. turn.told) (stopped_turn lane how stop) in
    let items : items_of plain ≡ [] = ap items_of said ∙ items_of_greeted lane.told [] (terminal_of how) (items_of_terminal how) in
    let taken : taken_in (plain_turn_of lane) plain ≡ 0 = taken_all (plain_turn_of lane) ∙ ap length items in
    let given : ℕ = lane.given + taken_in (plain_turn_of lane) plain in
    let ending : LaneState = record lane { given = given } in
    let counts = sound.counts in
    let few = counts.taken in
    let requested = counts.requested in
    sound_after lane [] (drop lane.given lane.accepted) plain given (with_cause_of how lane.causes) (Some how) sound unended refl items
    (subst (λ p. lane.told ++ p ≡ signals_of (is_begun (lane.told ++ p)) (items_of (lane.told ++ p)) (Some how)) (sym said) (grown_told lane.told [] (Some how) (told_is_open lane sound unended)))
    (omega (arith, taken)) (omega (arith, taken)) (omega (arith, taken)) (omega (arith, taken))
    (has_cause ending how (lane.told ++ plain) lane.accepted refl (stops_may ending how stop))
    (λ e. cc) (λ e. cc)

-- and if it was cut at a callback that was refused memory
pub sound_cut_stop : (lane : LaneState) (how : How) (told : List Signal) (next : Signal) (rest : List Signal) → IsSoundLane lane
    → lane.how ≡ None → stops lane.causes ≡ Some how
    → (plain_turn_of lane).told ≡ told ++ (next ∷ rest) → IsSoundLane (lane_after_turn lane told (Ended How.OutOfMemory))
sound_cut_stop lane how told next rest sound unended stop plain =
    let said : told ++ (next ∷ rest) ≡ greeting lane.told ++ (map Next [] ++ terminal_of how) = sym plain ∙ ap (λ turn. turn.told) (stopped_turn lane how stop) in
    let m = missed_shape lane.told [] (terminal_of how) told next rest said (terminal_short how) (items_of_terminal how) in
    let nothing : 0 ≡ length m.told_items + length m.left = ap length m.parts ∙ length-append m.told_items m.left in
    let room = m.fits in
    let taken : taken_in (plain_turn_of lane) told ≡ length m.told_items + length (items_of (next ∷ [])) =
    ap (λ p. length (items_of (take (length told + 1) p))) plain ∙ ap (λ p. length (items_of p)) (take_next told next rest)
    ∙ ap length (items_of_append told (next ∷ [])) ∙ length-append (items_of told) (items_of (next ∷ []))
    ∙ ap (λ i. length i + length (items_of (next ∷ []))) (missed_items lane.told told [] next m) in
    let given : ℕ = lane.given + taken_in (plain_turn_of lane) told in
    let parts : drop lane.given lane.accepted ≡ m.told_items ++ (m.left ++ drop lane.given lane.accepted) =
    ap (λ i. i ++ drop lane.given lane.accepted) m.parts ∙ append_assoc m.told_items m.left (drop lane.given lane.accepted) in
    let counts = sound.counts in
    let few = counts.taken in
    let requested = counts.requested in
    sound_after lane m.told_items (m.left ++ drop lane.given lane.accepted) told given (with_cause_of How.OutOfMemory lane.causes) (Some How.OutOfMemory) sound unended parts
    (missed_items lane.told told [] next m) (missed_told lane.told told [] next m (told_is_open lane sound unended))
    (omega (arith, taken)) (omega (arith, taken, nothing)) (omega (arith, taken, nothing)) (omega (arith, taken, nothing))
    (has_cause (record lane { given = given }) How.OutOfMemory (lane.told ++ told) lane.accepted refl tt)
    (λ e. cc) (λ e. cc)
