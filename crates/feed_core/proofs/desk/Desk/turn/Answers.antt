-- Each look is one step of the turn, and the turn is over after 64 items at most.
use Rattle.std.proofs.Common.{length, ap, ◌∙◌, arith}
use Rattle.feed_core.specs.Prelude.{Complete, Error}
use Rattle.feed_core.specs.Seen.{SeenState}
use Rattle.feed_core.proofs.Turns.Failed.{failed_last}
use Rattle.feed_core.proofs.Turns.Greeted.{completes_greeted, errs_greeted, few_greeted, in_order_greeted, turns_greeted}
use Rattle.feed_core.proofs.Turns.Replied.{turn_ended_by, turn_refused}
use Rattle.feed_core.proofs.Turns.Steady.{turn_changes, turn_meets}
use Rattle.feed_core.proofs.Turns.StoppedLooks.{stopped_gives_nothing}
use Rattle.feed_core.proofs.Turns.Loop.{completes, errs, few_signals, in_order, in_order_yet, items_of-so_far, length-so_far, no_terminal_yet, part_after, so_far_more, turns_end, turns_full}
use Rattle.feed_core.proofs.desk.Desk.turn.Goals as goal

pub look-requires-clause-mid_turn : goal.look-requires-clause-mid_turn
look-requires-clause-mid_turn g c =
    let so_far = c.loop.invariant.0 in
    record { owed = (so_far.part.started, so_far.part.how); begun = so_far.begun }

pub look-requires-clause-room : goal.look-requires-clause-room
look-requires-clause-room g c = let short = length-so_far c.loop.invariant.0 in omega arith

pub loop-preserved : goal.loop-preserved
loop-preserved g c = (so_far_more c.loop.invariant.0 c.loop-test.true c.in-Again-look.ensures.looks, c.in-Again-look.ensures.room ∙ c.loop.invariant.1)

pub returns-in_default : goal.returns-in_default
returns-in_default g c =
    let greets = c.greet.ensures.greets in
    let other = c.in_default.not-Again in
    let nothing = ap (λ (seen : SeenState). seen.signals) c.clear.ensures in
    let turns = turns_greeted greets other nothing in
    record {
      turned = turns;
      plain = turn_meets turns.1 c.requires.owed.1;
      after = turn_changes turns.1 c.requires.owed.1;
      in_order = in_order_greeted greets other nothing;
      stopped = stopped_gives_nothing turns.1;
      demand = greets.part.grows;
      flow = greets.part.flow;
      requested = greets.part.below;
      accounted = greets.part.accounted;
      by = turn_ended_by greets.part;
      refused = turn_refused greets.part;
      at_most = let given = greets.given in omega arith;
      few = few_greeted greets other nothing;
      room = c.greet.ensures.room ∙ ap (λ (seen : SeenState). seen.room) c.clear.ensures;
      again = λ e. absurd (other e);
      completed = completes_greeted greets other nothing;
      errored = errs_greeted greets other nothing;
      failed = failed_last turns.1;
    }

pub returns-in_default-look : goal.returns-in_default-look
returns-in_default-look g c =
    let so_far = c.loop.invariant.0 in
    let looks = c.look.ensures.looks in
    let other = c.in_default-look.not-Again in
    let turns = turns_end so_far looks other c.loop-test.true in
    let part = part_after so_far looks in
    record {
      turned = turns;
      plain = turn_meets turns.1 c.requires.owed.1;
      after = turn_changes turns.1 c.requires.owed.1;
      in_order = in_order so_far looks;
      stopped = stopped_gives_nothing turns.1;
      demand = omega (arith, so_far.part.grows, looks.part.grows);
      flow = looks.part.flow;
      requested = part.below;
      accounted = part.accounted;
      by = turn_ended_by part;
      refused = turn_refused part;
      at_most = let given = so_far.given in let one = looks.few in let under = c.loop-test.true in omega arith;
      few = few_signals so_far looks c.loop-test.true;
      room = c.look.ensures.room ∙ c.loop.invariant.1;
      again = λ e. absurd (other e);
      completed = completes so_far looks;
      errored = errs so_far looks;
      failed = failed_last turns.1;
    }

pub returns-clause-turned : goal.returns-clause-turned
returns-clause-turned g c = turns_full c.loop.invariant.0 (omega arith)

pub returns-clause-plain : goal.returns-clause-plain
returns-clause-plain g c = turn_meets (turns_full c.loop.invariant.0 (omega arith)).1 c.requires.owed.1

pub returns-clause-after : goal.returns-clause-after
returns-clause-after g c = turn_changes (turns_full c.loop.invariant.0 (omega arith)).1 c.requires.owed.1

pub returns-clause-in_order : goal.returns-clause-in_order
returns-clause-in_order g c = in_order_yet c.loop.invariant.0

pub returns-clause-stopped : goal.returns-clause-stopped
returns-clause-stopped g c = stopped_gives_nothing (turns_full c.loop.invariant.0 (omega arith)).1

pub returns-clause-again : goal.returns-clause-again
returns-clause-again g c again =
    let counted = c.loop.invariant.0.counted in
    ap length (items_of-so_far c.loop.invariant.0) ∙ counted ∙ (omega arith)

pub returns-clause-completed : goal.returns-clause-completed
returns-clause-completed g c = (λ ends. absurd (no_terminal_yet c.loop.invariant.0 Complete tt ends), λ e. cc)

pub returns-clause-errored : goal.returns-clause-errored
returns-clause-errored g c fault = (λ ends. absurd (no_terminal_yet c.loop.invariant.0 (Error fault) tt ends), λ e. cc)

pub returns-clause-refused : goal.returns-clause-refused
returns-clause-refused g c = turn_refused c.loop.invariant.0.part

pub returns-clause-by : goal.returns-clause-by
returns-clause-by g c = turn_ended_by c.loop.invariant.0.part
