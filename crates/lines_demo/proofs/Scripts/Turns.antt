-- The turns of a session are those of the definition, under some refusals.
use Rattle.std.proofs.Common.{◌≡◌, ℕ, zero, suc, ◌<◌, ◌≤◌, Bool, true, false, List, [], ◌∷◌, ◌++◌, length, map, refl, sym, ap, subst, ◌∙◌, append_assoc, arith, Option, Some}
use Rattle.std.specs.Prelude.{slice_get}
use Rattle.std.proofs.lemmas.List.{append-nil}
use Rattle.std.proofs.lemmas.Option.{slice_get_within}
use Rattle.feed_core.specs.PlainTurn.{plain_turn_of}
use Rattle.feed_core.specs.Turn.{IsOutlookOf}
use Rattle.lines_demo.specs.Prelude.{Signal, Outlook, LaneState}
use Rattle.commands.specs.Writing.{Writes}
use Rattle.lines_demo.specs.Script.Kept.{IsReachable}
use Rattle.lines_demo.specs.Script.State.{SubscriptionState, SessionState, LineResult, empty_result, result_then}
use Rattle.lines_demo.specs.Script.Turns.{TurnParts, parts_of_turn, with_signal_told, outlook_where, turn_lines}
use Rattle.lines_demo.specs.Script.Running.{subscription_after_turn, state_after_turn, turn_result, first_turn_result, turns_result, most_turns, run_turns}
use Rattle.lines_demo.specs.Script.Waking.{has_woken}
use Rattle.lines_demo.specs.Script.Playing.{Answers, MakesTurn, PrintsTurn}
use Rattle.lines_demo.proofs.Kept.Turns.{get_there}
use Rattle.lines_demo.proofs.Scripts.Results.{Progress, answers_known, answers_cut, progress_start, progress_more, progress_last, progress_end}
use Rattle.lines_demo.proofs.Scripts.RunEnds.{fewer_turns}

-- ---- one turn

-- memory is refused to none of these callbacks
abbrev pub no_refusals : List Signal → List Bool
no_refusals signals = map (λ signal. false) signals

-- all of the signals are told
parts_all : (told : List Signal) (more : List Bool)
    → parts_of_turn (no_refusals told ++ more) told ≡ record { told = told; missed = []; refusals = more }
parts_all [] more = refl
parts_all (signal ∷ told) more = ap (with_signal_told signal) (parts_all told more)

-- the signals are told up to the one whose callback is refused memory
parts_some : (told missed : List Signal) (next : Signal) (more : List Bool)
    → parts_of_turn (no_refusals told ++ (true ∷ more)) (told ++ (next ∷ missed)) ≡ record { told = told; missed = next ∷ missed; refusals = more }
parts_some [] missed next more = refl
parts_some (signal ∷ told) missed next more = ap (with_signal_told signal) (parts_some told missed next more)

-- the refusals under which a turn tells this much
record Tells (signals told : List Signal) (missed : List Signal) : Type 0 where
  used : List Bool
  so : (more : List Bool) → parts_of_turn (used ++ more) signals ≡ record { told = told; missed = missed; refusals = more }

tells : (signals told missed : List Signal) → signals ≡ told ++ missed → Tells signals told missed
tells signals told [] e = record {
  used = no_refusals told;
  so = λ more. ap (parts_of_turn (no_refusals told ++ more)) (e ∙ append-nil told) ∙ parts_all told more;
}
tells signals told (next ∷ missed) e = record {
  used = no_refusals told ++ (true ∷ []);
  so = λ more. ap (parts_of_turn ((no_refusals told ++ (true ∷ [])) ++ more)) e
      ∙ ap (λ refusals. parts_of_turn refusals (told ++ (next ∷ missed))) (append_assoc (no_refusals told) (true ∷ []) more) ∙ parts_some told missed next more;
}

-- the outlook of a turn of which this was missed
outlook_seen : (lane : LaneState) (missed : List Signal) (outlook : Outlook) → IsOutlookOf (plain_turn_of lane) missed outlook
    → outlook_where missed (plain_turn_of lane).outlook ≡ outlook
outlook_seen lane [] outlook seen = sym seen
outlook_seen lane (next ∷ missed) outlook seen = sym seen

-- the definition's turn, if this was told of it
turn_told : (number : ℕ) (subscription : SubscriptionState) (state : SessionState) (refusals more : List Bool) (told missed : List Signal) (outlook : Outlook)
    → parts_of_turn refusals (plain_turn_of subscription.desk.lane).told ≡ record { told = told; missed = missed; refusals = more }
    → outlook_where missed (plain_turn_of subscription.desk.lane).outlook ≡ outlook
    → turn_result number (Some subscription) state refusals
    ≡ record { output = turn_lines subscription.name told outlook; state = state_after_turn number subscription told outlook state; refusals = more }
turn_told number subscription state refusals more told missed outlook parts seen =
    let build : List Signal → List Bool → Outlook → LineResult = λ t r o.
    record { output = turn_lines subscription.name t o; state = state_after_turn number subscription t o state; refusals = r } in
    let by_parts : TurnParts → LineResult = λ p. build p.told p.refusals (outlook_where p.missed (plain_turn_of subscription.desk.lane).outlook) in
    ap by_parts parts ∙ ap (build told more) seen

-- the refusals under which the first of the woken makes this turn
pub record Makes (old new : SessionState) (name : List ℕ) (told : List Signal) (outlook : Outlook) : Type 0 where
  pub used : List Bool
  pub so : (more : List Bool) → first_turn_result old.woken old (used ++ more) ≡ record { output = turn_lines name told outlook; state = new; refusals = more }

pub makes_known : (old new : SessionState) (name : List ℕ) (told : List Signal) (outlook : Outlook) → MakesTurn old new name told outlook
    → Makes old new name told outlook
makes_known old new name told outlook makes =
    let s = makes.before in
    let tell = tells (plain_turn_of s.desk.lane).told told makes.plain.missed makes.plain.whole in
    let seen = outlook_seen s.desk.lane makes.plain.missed outlook makes.plain.seen in
    let left : SessionState = record old { woken = makes.rest } in
    let build : List ℕ → SessionState → List Bool → LineResult = λ n state more. record { output = turn_lines n told outlook; state = state; refusals = more } in
    record {
      used = tell.used;
      so = λ more. ap (λ woken. first_turn_result woken old (tell.used ++ more)) makes.woken
          ∙ ap (λ there. turn_result makes.number there left (tell.used ++ more)) makes.stands
          ∙ turn_told makes.number s left (tell.used ++ more) more told makes.plain.missed outlook (tell.so more) seen
          ∙ ap (λ n. build n (state_after_turn makes.number s told outlook left) more) makes.named
          ∙ ap (λ state. build name state more) (sym makes.after);
    }

-- a turn of the session is one of the definition
pub turn_answers : (done : Bool) (a b : Option (List ℕ)) (old new : SessionState) (name : List ℕ) (told : List Signal) (outlook : Outlook)
    → MakesTurn old new name told outlook
    → Writes done a b (turn_lines name told outlook) → Answers done (λ refusals. first_turn_result old.woken old refusals) a b new
turn_answers done a b old new name told outlook makes w =
    let known = makes_known old new name told outlook makes in
    answers_known done (λ refusals. first_turn_result old.woken old refusals) (turn_lines name told outlook) new known.used a b known.so w

-- the lines of a turn are those of the signals that it told
pub turn_prints : (done : Bool) (a b : Option (List ℕ)) (old new : SessionState) (name : List ℕ) (told : List Signal) (outlook : Outlook)
    → MakesTurn old new name told outlook
    → Writes done a b (turn_lines name told outlook) → PrintsTurn done old new a b
turn_prints done a b old new name told outlook makes w =
    let after = subscription_after_turn told outlook makes.before in
    let there : SessionState → Option SubscriptionState = λ state. slice_get state.subscriptions makes.number in
    record {
      number = makes.number;
      rest = makes.rest;
      first = makes.before;
      next = after;
      told = told;
      woken = makes.woken;
      stood = makes.stands;
      stands = ap there makes.after ∙ get_there old.subscriptions makes.number after (slice_get_within old.subscriptions makes.number makes.before makes.stands);
      grown = refl;
      lines = subst (λ n. Writes done a b (turn_lines n told outlook)) (sym makes.named) w;
    }

-- after a turn fewer are left
pub turn_fewer : (old new : SessionState) (name : List ℕ) (told : List Signal) (outlook : Outlook) → IsReachable old
    → MakesTurn old new name told outlook → most_turns new < most_turns old
turn_fewer old new name told outlook is makes =
    let known = makes_known old new name told outlook makes in
    let state_of : LineResult → SessionState = λ result. result.state in
    let same : (first_turn_result old.woken old (known.used ++ [])).state ≡ new = ap state_of (known.so []) in
    let first : (turn_result makes.number (slice_get old.subscriptions makes.number) (record old { woken = makes.rest }) (known.used ++ [])).state ≡ new =
    ap (λ woken. (first_turn_result woken old (known.used ++ [])).state) (sym makes.woken) ∙ same in
    subst (λ (state : SessionState). most_turns state < most_turns old) first (fewer_turns is.0 makes.number makes.rest old (known.used ++ []) is.1 makes.woken)

-- ---- all turns of a run

-- some turns were made: what they wrote, and that the rest of the turns follows
pub record Running (start state : SessionState) (old new : Option (List ℕ)) : Type 0 where
  pub left : ℕ
  pub enough : most_turns state ≤ left
  pub progress : Progress (run_turns start) (turns_result left state) old new

-- no turn was made yet
pub running_start : (state : SessionState) (a : Option (List ℕ)) → Running state state a a
running_start state a = record { left = most_turns state; enough = omega arith; progress = progress_start (run_turns state) a }

-- a turn is left if anybody is woken
woken_some : (state : SessionState) → has_woken state.woken ≡ true → 0 < most_turns state
woken_some state woken = by state.woken refl woken where
  by : (numbers : List ℕ) → state.woken ≡ numbers → has_woken numbers ≡ true → 0 < most_turns state
  by [] e woken = cc
  by (number ∷ rest) e woken = (let long : length state.woken ≡ length (number ∷ rest) = ap length e in omega (arith, long))

-- if nobody is woken, there are no turns
turns_rested : (most : ℕ) (state : SessionState) → state.woken ≡ [] → (refusals : List Bool)
    → turns_result most state refusals ≡ empty_result state refusals
turns_rested zero state rested refusals = refl
turns_rested (suc most) state rested refusals =
    ap (λ woken. result_then (first_turn_result woken state refusals) (turns_result most)) rested ∙ turns_rested most state rested refusals

-- one more turn
pub running_more : (start before after : SessionState) (a b c : Option (List ℕ)) → Running start before a b → has_woken before.woken ≡ true
    → Answers true (λ refusals. first_turn_result before.woken before refusals) b c after → most_turns after < most_turns before → Running start after a c
running_more start before after a b c running woken answers fewer = by_left running.left running.enough running.progress where
  by_left : (left : ℕ) → most_turns before ≤ left → Progress (run_turns start) (turns_result left before) a b → Running start after a c
  by_left zero enough progress = (let some = woken_some before woken in absurd (omega arith))
  by_left (suc most) enough progress = record {
    left = most;
    enough = omega arith;
    progress = progress_more (run_turns start) (turns_result (suc most) before) (λ refusals. first_turn_result before.woken before refusals) (turns_result most) after a b c
        progress (λ refusals. refl) answers;
  }

-- a list of nobody
pub nobody : (woken : List ℕ) → has_woken woken ≡ false → woken ≡ []
nobody [] e = refl
nobody (_ ∷ _) e = cc

-- nobody is woken any more
pub running_end : (start state : SessionState) (a b : Option (List ℕ)) → Running start state a b → has_woken state.woken ≡ false
    → Answers true (λ refusals. run_turns start refusals) a b state
running_end start state a b running rested = progress_end (run_turns start) (turns_result running.left state) state a b running.progress (turns_rested running.left state (nobody state.woken rested))

-- the writing failed within a turn
pub running_fault : (start before after later : SessionState) (a b c : Option (List ℕ)) → Running start before a b
    → has_woken before.woken ≡ true
    → Answers false (λ refusals. first_turn_result before.woken before refusals) b c after → Answers false (λ refusals. run_turns start refusals) a c later
running_fault start before after later a b c running woken answers = by_left running.left running.enough running.progress where
  by_left : (left : ℕ) → most_turns before ≤ left → Progress (run_turns start) (turns_result left before) a b
      → Answers false (λ refusals. run_turns start refusals) a c later
  by_left zero enough progress = (let some = woken_some before woken in absurd (omega arith))
  by_left (suc most) enough progress = progress_last false (run_turns start) (turns_result (suc most) before) later a b c progress
      (answers_cut (λ refusals. first_turn_result before.woken before refusals) (turns_result (suc most) before) (turns_result most) b c after later (λ refusals. refl) answers)
