-- A turn whose callbacks only go on or are refused memory is the plain turn, or that cut short.
use Rattle.std.proofs.Common.{◌≡◌, ℕ, zero, suc, ◌+◌, ◌-◌, List, [], ◌∷◌, ◌++◌, length, take, drop, Option, None, Some, Ok, Err, refl, ap, sym, ◌∙◌, subst, arith, append_assoc}
use Rattle.std.proofs.lemmas.List.{append-nil}
use Rattle.feed_core.specs.Prelude.{Item, Signal, Subscribed, Next, Complete, Error, How, Outlook, Again, Resting, ITEMS_IN_A_TURN, items_of}
use Rattle.feed_core.specs.AnsweredTurn.{Reply, After, IsPlain, ArePlain, first_reply, later_replies, obeyed, ended_as, lane_taken, lane_told, called, finished, looked, and_then, looks_within, turn_after, turn_of}
use Rattle.feed_core.specs.Cause.{stops, closes, with_cause_of}
use Rattle.feed_core.specs.Lane.{LaneState}
use Rattle.feed_core.specs.PlainTurn.{PlainTurn, another_turn, turn_at_rest, end_by, close_or_rest, greeting, signals_then, terminal_of, plain_turn_of}
use Rattle.feed_core.specs.Steps.{rest_of_turn, turn_within}
use Rattle.feed_core.specs.Turn.{causes_after, how_after, taken_in, IsOutlookOf, MeetsPlainTurn}
use Rattle.feed_core.proofs.Turns.Plain.{full, gives, pauses, stopped}

-- the lane after a part of a turn that told these signals of this plain one, and had this outlook
abbrev pub lane_by : PlainTurn → LaneState → List Signal → Outlook → LaneState
lane_by plain lane seen outlook = record {
  accepted = lane.accepted;
  given = lane.given + taken_in plain seen;
  asked = lane.asked;
  causes = causes_after outlook lane.causes;
  how = how_after outlook;
  told = lane.told ++ seen;
}

-- a part of a turn told the plain one, or that cut short
pub record Plainly (plain : PlainTurn) (lane : LaneState) (after : After) : Type 0 where
  pub seen : List Signal
  pub changed : after.lane ≡ lane_by plain lane seen after.outlook
  pub meets : MeetsPlainTurn plain seen after.outlook

-- it ended by a refusal of memory before it told anything
cut_short : (plain : PlainTurn) (lane lane' : LaneState) (next : Signal) (rest : List Signal) → plain.told ≡ next ∷ rest
    → lane'.accepted ≡ lane.accepted → lane'.given ≡ lane.given + length (items_of (next ∷ []))
    → lane'.asked ≡ lane.asked → lane'.causes ≡ lane.causes → lane'.told ≡ lane.told → Plainly plain lane (ended_as How.OutOfMemory lane')
cut_short plain lane lane' next rest told accepted given asked causes same =
    let taken : lane'.given ≡ lane.given + taken_in plain [] = given ∙ ap (λ signals. lane.given + length (items_of (take 1 signals))) (sym told) in
    record {
      seen = [];
      changed = λ k. record {
        accepted = accepted k;
        given = taken k;
        asked = asked k;
        causes = with_cause_of How.OutOfMemory (causes k);
        how = Some How.OutOfMemory;
        told = (same ∙ sym (append-nil lane.told)) k;
      };
      meets = record { missed = next ∷ rest; whole = told; seen = refl };
    }

-- nothing is told and nothing changes
at_rest : (lane : LaneState) → lane.how ≡ None → Plainly turn_at_rest lane (record { lane = lane; outlook = Resting })
at_rest lane unended =
    let taken : lane.given ≡ lane.given + 0 = omega arith in
    record {
      seen = [];
      changed = λ k. record lane { given = taken k; how = unended k; told = sym (append-nil lane.told) k };
      meets = record { missed = []; whole = refl; seen = refl };
    }

again : (lane : LaneState) → lane.how ≡ None → Plainly another_turn lane (record { lane = lane; outlook = Again })
again lane unended =
    let taken : lane.given ≡ lane.given + 0 = omega arith in
    record {
      seen = [];
      changed = λ k. record lane { given = taken k; how = unended k; told = sym (append-nil lane.told) k };
      meets = record { missed = []; whole = refl; seen = refl };
    }

-- an end with a terminal signal was told
told_end : (how : How) (signal : Signal) (lane : LaneState) → terminal_of how ≡ signal ∷ [] → items_of (signal ∷ []) ≡ []
    → Plainly (end_by how) lane (ended_as how (lane_told signal lane))
told_end how signal lane last quiet =
    let none : taken_in (end_by how) (signal ∷ []) ≡ 0 = ap (λ signals. length (items_of (take 2 signals))) last ∙ ap length quiet in
    let taken : lane.given ≡ lane.given + taken_in (end_by how) (signal ∷ []) = omega (arith, none) in
    record {
      seen = signal ∷ [];
      changed = λ k. record lane { given = taken k; causes = with_cause_of how lane.causes; how = Some how; told = lane.told ++ signal ∷ [] };
      meets = record { missed = []; whole = last; seen = refl };
    }

-- one without was not
untold_end : (how : How) (lane : LaneState) → terminal_of how ≡ [] → Plainly (end_by how) lane (ended_as how lane)
untold_end how lane last =
    let none : taken_in (end_by how) [] ≡ 0 = ap (λ signals. length (items_of (take 1 signals))) last in
    let taken : lane.given ≡ lane.given + taken_in (end_by how) [] = omega (arith, none) in
    record {
      seen = [];
      changed = λ k. record lane { given = taken k; causes = with_cause_of how lane.causes; how = Some how; told = sym (append-nil lane.told) k };
      meets = record { missed = []; whole = last; seen = refl };
    }

-- the end is the plain one
ends_plainly : (how : How) (reply : Reply) (lane : LaneState) → Plainly (end_by how) lane (finished how (terminal_of how) reply lane)
ends_plainly How.Completed (Ok answer) lane = told_end How.Completed Complete lane refl refl
ends_plainly How.Completed (Err none) lane = cut_short (end_by How.Completed) lane lane Complete [] refl refl (omega arith) refl refl refl
ends_plainly (How.Errored fault) (Ok answer) lane = told_end (How.Errored fault) (Error fault) lane refl refl
ends_plainly (How.Errored fault) (Err none) lane = cut_short (end_by (How.Errored fault)) lane lane (Error fault) [] refl refl (omega arith) refl refl refl
ends_plainly How.Cancelled reply lane = untold_end How.Cancelled lane refl
ends_plainly (How.Failed code) reply lane = untold_end (How.Failed code) lane refl
ends_plainly How.OutOfMemory reply lane = untold_end How.OutOfMemory lane refl

-- the outlook of a turn is that of what is left of it
outlook_of_rest : (whole rest : PlainTurn) (outlook : Outlook) (missed : List Signal) → rest.outlook ≡ whole.outlook
    → IsOutlookOf rest missed outlook → IsOutlookOf whole missed outlook
outlook_of_rest whole rest outlook [] same seen = seen ∙ same
outlook_of_rest whole rest outlook (_ ∷ _) same seen = seen

-- a part that goes on with another one
plainly_then : (next : Signal) (plain : PlainTurn) (lane mid : LaneState) (after : After) → mid.accepted ≡ lane.accepted
    → mid.given ≡ lane.given + length (items_of (next ∷ [])) → mid.asked ≡ lane.asked
    → mid.causes ≡ lane.causes → mid.told ≡ lane.told ++ next ∷ [] → Plainly plain mid after → Plainly (signals_then (next ∷ []) plain) lane after
plainly_then next plain lane mid after accepted given asked causes told part =
    let on : suc (length part.seen) + 1 ≡ suc (length part.seen + 1) = omega arith in
    let taken : taken_in (signals_then (next ∷ []) plain) (next ∷ part.seen) ≡ length (items_of (next ∷ [])) + taken_in plain part.seen =
    ap (λ n. length (items_of (take n (next ∷ plain.told)))) on ∙ counted next (take (length part.seen + 1) plain.told) in
    let all : mid.given + taken_in plain part.seen ≡ lane.given + taken_in (signals_then (next ∷ []) plain) (next ∷ part.seen) = omega (arith, taken, given) in
    record {
      seen = next ∷ part.seen;
      changed = part.changed ∙ (λ k. record {
        accepted = accepted k;
        given = all k;
        asked = asked k;
        causes = causes_after after.outlook (causes k);
        how = how_after after.outlook;
        told = (ap (λ text. text ++ part.seen) told ∙ append_assoc lane.told (next ∷ []) part.seen) k;
      });
      meets = record {
        missed = part.meets.missed;
        whole = ap (λ signals. next ∷ signals) part.meets.whole;
        seen = outlook_of_rest (signals_then (next ∷ []) plain) plain after.outlook part.meets.missed refl part.meets.seen;
      };
    } where
      counted : (signal : Signal) (signals : List Signal)
          → length (items_of (signal ∷ signals)) ≡ length (items_of (signal ∷ [])) + length (items_of signals)
      counted Subscribed signals = omega arith
      counted (Next item) signals = omega arith
      counted Complete signals = omega arith
      counted (Error fault) signals = omega arith

-- the replies after the first are plain
later_plain : (replies : List Reply) → ArePlain replies → ArePlain (later_replies replies)
later_plain [] plain = tt
later_plain (_ ∷ replies) plain = plain.1

-- so is the first
first_plain : (replies : List Reply) → ArePlain replies → IsPlain (first_reply replies)
first_plain [] plain = refl
first_plain (reply ∷ _) plain = plain.0

-- one more item was taken
drop_next : (given : ℕ) (items : List Item) (item : Item) (rest : List Item) → drop given items ≡ item ∷ rest
    → drop (given + 1) items ≡ rest
drop_next zero [] item rest e = cc
drop_next zero (x ∷ items) item rest e = cc
drop_next (suc given) [] item rest e = cc
drop_next (suc given) (x ∷ items) item rest e =
    let on : suc given + 1 ≡ suc (given + 1) = omega arith in
    ap (λ n. drop n (x ∷ items)) on ∙ drop_next given items item rest e

-- after an end no look is made
over : (how : How) (reply : Reply) (lane : LaneState) (next : LaneState → After)
    → finished how (terminal_of how) reply lane ≡ and_then (finished how (terminal_of how) reply lane) next
over How.Completed (Ok answer) lane next = refl
over How.Completed (Err none) lane next = refl
over (How.Errored fault) (Ok answer) lane next = refl
over (How.Errored fault) (Err none) lane next = refl
over How.Cancelled reply lane next = refl
over (How.Failed code) reply lane next = refl
over How.OutOfMemory reply lane next = refl

-- if items wait it rests
rests_before : (later : Option How) (item : Item) (rest : List Item) → turn_at_rest ≡ close_or_rest later (item ∷ rest)
rests_before None item rest = refl
rests_before (Some how) item rest = refl

-- the looks of such a turn do the rest of the plain one
looks_plainly : (most : ℕ) (replies : List Reply) (lane : LaneState) → lane.how ≡ None → ArePlain replies
    → (most ≡ 0 → stops lane.causes ≡ None)
    → Plainly (rest_of_turn most lane) lane (looks_within most replies lane)
looks_plainly zero replies lane unended plain runs =
    subst (λ turn. Plainly turn lane (record { lane = lane; outlook = Again })) (sym (full lane.causes (drop lane.given lane.accepted) (lane.asked - lane.given) (runs refl))) (again lane unended)
looks_plainly (suc most) replies lane unended plain runs =
    by (stops lane.causes) (closes lane.causes) (drop lane.given lane.accepted) (lane.asked - lane.given) (first_reply replies) refl refl refl refl (first_plain replies plain)
    (λ mid unended' runs'. looks_plainly most (later_replies replies) mid unended' (later_plain replies plain) runs') where
      by : (stop later : Option How) (waiting : List Item) (unmet : ℕ) (reply : Reply) → stops lane.causes ≡ stop
          → closes lane.causes ≡ later → drop lane.given lane.accepted ≡ waiting → lane.asked - lane.given ≡ unmet → IsPlain reply
          → ((mid : LaneState) → mid.how ≡ None → (most ≡ 0 → stops mid.causes ≡ None) → Plainly (rest_of_turn most mid) mid (looks_within most (later_replies replies) mid))
          → Plainly (rest_of_turn (suc most) lane) lane (and_then (looked stop later waiting unmet reply lane) (looks_within most (later_replies replies)))
      by (Some how) later waiting unmet reply s c w u plain then =
          subst (λ after. Plainly (rest_of_turn (suc most) lane) lane after) (over how reply lane (looks_within most (later_replies replies)))
          (subst (λ turn. Plainly turn lane (finished how (terminal_of how) reply lane)) (sym (stopped (suc most) lane.causes (drop lane.given lane.accepted) (lane.asked - lane.given) how s)) (ends_plainly how reply lane))
      by None later (item ∷ rest) (suc n) (Ok answer) s c w u plain then =
          let mid : LaneState = lane_told (Next item) (lane_taken lane) in
          let part = then mid unended (λ _. s) in
          let goes : looks_within most (later_replies replies) mid ≡ and_then (obeyed answer mid) (looks_within most (later_replies replies)) =
          ap (λ a. and_then (obeyed a mid) (looks_within most (later_replies replies))) (sym plain) in
          let unmet : lane.asked - lane.given - 1 ≡ lane.asked - (lane.given + 1) = omega arith in
          let step : signals_then (Next item ∷ []) (rest_of_turn most mid) ≡ rest_of_turn (suc most) lane =
          sym (ap (λ items. turn_within (suc most) lane.causes items (lane.asked - lane.given)) w
          ∙ gives most lane.causes item rest (lane.asked - lane.given) s (omega (arith, u))
          ∙ (λ k. signals_then (Next item ∷ []) (turn_within most lane.causes (sym (drop_next lane.given lane.accepted item rest w) k) (unmet k)))) in
          subst (λ after. Plainly (rest_of_turn (suc most) lane) lane after) goes
          (subst (λ turn. Plainly turn lane (looks_within most (later_replies replies) mid)) step
          (plainly_then (Next item) (rest_of_turn most mid) lane mid (looks_within most (later_replies replies) mid) refl refl refl refl refl part))
      by None later (item ∷ rest) (suc n) (Err none) s c w u plain then =
          let step = ap (λ items. turn_within (suc most) lane.causes items (lane.asked - lane.given)) w
          ∙ gives most lane.causes item rest (lane.asked - lane.given) s (omega (arith, u)) in
          cut_short (rest_of_turn (suc most) lane) lane (lane_taken lane) (Next item) (turn_within most lane.causes rest (lane.asked - lane.given - 1)).told
          (ap (λ (turn : PlainTurn). turn.told) step) refl refl refl refl refl
      by None later (item ∷ rest) zero reply s c w u plain then =
          let step = pauses most lane.causes (drop lane.given lane.accepted) (lane.asked - lane.given) s (omega (arith, u)) in
          subst (λ turn. Plainly turn lane (record { lane = lane; outlook = Resting })) (rests_before (closes lane.causes) item rest ∙ ap (close_or_rest (closes lane.causes)) (sym w) ∙ sym step) (at_rest lane unended)
      by None (Some how) [] unmet reply s c w u plain then =
          let none : length (drop lane.given lane.accepted) ≡ 0 = ap length w in
          let step = pauses most lane.causes (drop lane.given lane.accepted) (lane.asked - lane.given) s (omega (arith, none)) in
          subst (λ after. Plainly (rest_of_turn (suc most) lane) lane after) (over how reply lane (looks_within most (later_replies replies)))
          (subst (λ turn. Plainly turn lane (finished how (terminal_of how) reply lane)) ((λ k. close_or_rest (sym c k) (sym w k)) ∙ sym step) (ends_plainly how reply lane))
      by None None [] unmet reply s c w u plain then =
          let none : length (drop lane.given lane.accepted) ≡ 0 = ap length w in
          let step = pauses most lane.causes (drop lane.given lane.accepted) (lane.asked - lane.given) s (omega (arith, none)) in
          subst (λ turn. Plainly turn lane (record { lane = lane; outlook = Resting })) ((λ k. close_or_rest (sym c k) (sym w k)) ∙ sym step) (at_rest lane unended)

-- such a turn is the plain one, or that cut short
pub turn_plainly : (lane : LaneState) (replies : List Reply) → lane.how ≡ None → ArePlain replies
    → Plainly (plain_turn_of lane) lane (turn_of lane replies)
turn_plainly lane replies unended plain = by lane.told refl replies plain where
  by : (told : List Signal) → lane.told ≡ told → (replies : List Reply) → ArePlain replies
      → Plainly (signals_then (greeting told) (rest_of_turn ITEMS_IN_A_TURN lane)) lane (turn_after told lane replies)
  by (s ∷ told) e replies plain = looks_plainly ITEMS_IN_A_TURN replies lane unended plain (λ never. absurd (omega (arith, never)))
  by [] e replies plain = greeted (first_reply replies) (later_replies replies) (first_plain replies plain) (later_plain replies plain) where
    greeted : (reply : Reply) (later : List Reply) → IsPlain reply → ArePlain later
        → Plainly (signals_then (Subscribed ∷ []) (rest_of_turn ITEMS_IN_A_TURN lane)) lane (and_then (called Subscribed reply lane) (looks_within ITEMS_IN_A_TURN later))
    greeted (Ok answer) later first rest =
        let mid : LaneState = lane_told Subscribed lane in
        let goes : looks_within ITEMS_IN_A_TURN later mid ≡ and_then (obeyed answer mid) (looks_within ITEMS_IN_A_TURN later) = ap (λ a. and_then (obeyed a mid) (looks_within ITEMS_IN_A_TURN later)) (sym first) in
        subst (λ after. Plainly (signals_then (Subscribed ∷ []) (rest_of_turn ITEMS_IN_A_TURN lane)) lane after) goes
        (plainly_then Subscribed (rest_of_turn ITEMS_IN_A_TURN lane) lane mid (looks_within ITEMS_IN_A_TURN later mid) refl (omega arith) refl refl refl
        (looks_plainly ITEMS_IN_A_TURN later mid unended rest (λ never. absurd (omega (arith, never)))))
    greeted (Err none) later first rest =
        cut_short (signals_then (Subscribed ∷ []) (rest_of_turn ITEMS_IN_A_TURN lane)) lane lane Subscribed (rest_of_turn ITEMS_IN_A_TURN lane).told refl refl (omega arith) refl refl refl
