-- Each look is one step of the turn, and the turn is over after 64 items at most.
use Rattle.std.proofs.Common.{ℕ, Err, ◌≡◌, ap, sym, subst, ◌∙◌, arith}
use Rattle.feed_core.specs.Prelude.{How}
use Rattle.feed_core.specs.Turn.{EndsInObeyed}
use Rattle.feed_core.proofs.Turns.Failed.{ends_obeyed_after}
use Rattle.feed_core.specs.Seen.{SeenState}
use Rattle.feed_cell.specs.TaskSteps.{IsInOrder}
use Rattle.feed_cell.specs.TaskTurns.{TellsSoFar}
use Rattle.feed_cell.proofs.Tasks.Known.{known_kept}
use Rattle.feed_cell.proofs.Tasks.Turns.{ends_after, full, gave_on, going_on, looked_in_order, looked_on, may_look_next, misses_after, rests_after, room_so_far}
use Rattle.feed_cell.proofs.cell.task.turns.run.Goals as goal
use Rattle.feed_cell.proofs.cell.task.turns.run.Goals.{After-peek_next-word}
use Rattle.feed_cell.proofs.cell.task.turns.run.Given.{Over}

pub loop-init : goal.loop-init
loop-init g c =
    (c.in-Ok.ensures.goes, c.in-Ok.ensures.room, c.in-Ok.ensures.seat, c.in-Ok.ensures.runner, (omega (arith, c.nothing-known.ensures.0), omega (arith, c.nothing-known.ensures.1)))

pub returns-in-Err-clause-failed : goal.returns-in-Err-clause-failed
returns-in-Err-clause-failed g c = λ code e.
    let how : c.in-Err.how ≡ How.Failed code = cc in
    c.in-Err.ensures.failed code (ap Err how)

pub peek_next-word-requires-clause-runner : goal.peek_next-word-requires-clause-runner
peek_next-word-requires-clause-runner g c = c.loop.invariant.3

pub peek_next-word-requires-clause-may : goal.peek_next-word-requires-clause-may
peek_next-word-requires-clause-may g c = may_look_next g.B.Listener.told g.B.Listener.replied c.loop.stage c.loop.counter c.args.party.now.seat.me c.loop.party.seat.me c.loop.seen.signals c.loop.invariant.0

-- the turn so far, after the look
looked : (g : Over) (c : After-peek_next-word g)
    → TellsSoFar g.B.Listener.told g.B.Listener.replied c.loop.counter c.args.party.now.seat.me c.peek_next-word.new.party.seat.me c.loop.seen.signals
looked g c =
    let counts = c.peek_next-word.ensures.counts in
    looked_on g.B.Listener.told g.B.Listener.replied c.loop.stage c.loop.counter c.peek_next-word.result c.args.party.now.seat.me c.loop.party.seat.me c.peek_next-word.new.party.seat.me c.loop.seen.signals c.loop.invariant.0 c.peek_next-word.ensures.looked counts.0 counts.1 counts.2 c.peek_next-word.ensures.keeps

-- what that look saw tells a closing error in the order that was known before the turn
in_order : (g : Over) (c : After-peek_next-word g) → IsInOrder c.args.party.now.seat.me.0.order c.peek_next-word.new.party.seat.me.0.runner
in_order g c = looked_in_order g.B.Listener.told g.B.Listener.replied c.args.party.now.seat.me.0.order c.peek_next-word.result c.peek_next-word.new.party.seat.me c.peek_next-word.ensures.looked (looked g c).ordered

pub serve-requires-clause-room : goal.serve-requires-clause-room
serve-requires-clause-room g c = room_so_far g.B.Listener.told g.B.Listener.replied c.loop.counter c.args.party.now.seat.me c.peek_next-word.new.party.seat.me c.peek_next-word.new.party.seat.me c.loop.seen c.loop.seen (looked g (goal.at.serve-requires-clause-room g c).After-peek_next-word) (in_order g (goal.at.serve-requires-clause-room g c).After-peek_next-word) c.loop-test.true

pub serve-requires-clause-known : goal.serve-requires-clause-known
serve-requires-clause-known g c =
    let counts = c.peek_next-word.ensures.counts in
    known_kept c.loop.known c.loop.party.seat.me.0 c.peek_next-word.new.party.seat.me.0 counts.3 counts.4 c.loop.invariant.4

pub returns-in-Rested-clause-seat : goal.returns-in-Rested-clause-seat
returns-in-Rested-clause-seat g c = (c.in-Rested.ensures.seat.0 ∙ c.peek_next-word.ensures.seat.0 ∙ c.loop.invariant.2.0, c.in-Rested.ensures.seat.1 ∙ c.peek_next-word.ensures.seat.1 ∙ c.loop.invariant.2.1)

pub returns-in-Rested-clause-runs : goal.returns-in-Rested-clause-runs
returns-in-Rested-clause-runs g c =
    let rests = c.in-Rested.ensures.serves in
    rests_after g.B.Listener.told g.B.Listener.replied c.loop.counter c.args.party.now.seat.me c.peek_next-word.new.party.seat.me c.serve.new.party.seat.me c.loop.seen c.serve.new.seen (looked g (goal.at.returns-in-Rested-clause-runs g c).After-peek_next-word) (in_order g (goal.at.returns-in-Rested-clause-runs g c).After-peek_next-word) c.loop-test.true rests.0 rests.1 rests.2

pub returns-in-Rested-clause-room : goal.returns-in-Rested-clause-room
returns-in-Rested-clause-room g c = ap (λ (s : SeenState). s.room) c.in-Rested.ensures.serves.1 ∙ c.loop.invariant.1

pub returns-in-Missed-clause-seat : goal.returns-in-Missed-clause-seat
returns-in-Missed-clause-seat g c = (c.in-Missed.ensures.seat.0 ∙ c.peek_next-word.ensures.seat.0 ∙ c.loop.invariant.2.0, c.in-Missed.ensures.seat.1 ∙ c.peek_next-word.ensures.seat.1 ∙ c.loop.invariant.2.1)

pub returns-in-Missed-clause-runner : goal.returns-in-Missed-clause-runner
returns-in-Missed-clause-runner g c =
    let missed = c.in-Missed.ensures.serves.0 in
    λ e. (missed.is, missed.none_out)

pub returns-in-Missed-clause-runs : goal.returns-in-Missed-clause-runs
returns-in-Missed-clause-runs g c =
    let missed = c.in-Missed.ensures.serves in
    let goes = misses_after g.B.Listener.told g.B.Listener.replied c.loop.counter c.args.party.now.seat.me c.peek_next-word.new.party.seat.me c.serve.new.party.seat.me c.loop.seen c.serve.new.seen (looked g (goal.at.returns-in-Missed-clause-runs g c).After-peek_next-word) (in_order g (goal.at.returns-in-Missed-clause-runs g c).After-peek_next-word) c.loop-test.true missed.0 missed.1 missed.2 in
    (missed.0.going, goes.0, goes.1)

pub returns-in-Missed-clause-room : goal.returns-in-Missed-clause-room
returns-in-Missed-clause-room g c = ap (λ (s : SeenState). s.room) c.in-Missed.ensures.serves.1 ∙ c.loop.invariant.1

pub returns-in-Ended-clause-seat : goal.returns-in-Ended-clause-seat
returns-in-Ended-clause-seat g c = (c.in-Ended.ensures.seat.0 ∙ c.peek_next-word.ensures.seat.0 ∙ c.loop.invariant.2.0, c.in-Ended.ensures.seat.1 ∙ c.peek_next-word.ensures.seat.1 ∙ c.loop.invariant.2.1)

pub returns-in-Ended-clause-runs : goal.returns-in-Ended-clause-runs
returns-in-Ended-clause-runs g c = ends_after g.B.Listener.told g.B.Listener.replied c.loop.counter c.args.party.now.seat.me c.peek_next-word.new.party.seat.me c.serve.new.party.seat.me c.loop.seen c.serve.new.seen (looked g (goal.at.returns-in-Ended-clause-runs g c).After-peek_next-word) (in_order g (goal.at.returns-in-Ended-clause-runs g c).After-peek_next-word) c.in-Ended.how c.loop-test.true c.in-Ended.ensures.serves

pub returns-in-Ended-clause-failed : goal.returns-in-Ended-clause-failed
returns-in-Ended-clause-failed g c = λ code e.
    let ends = c.in-Ended.ensures.serves in
    let how : c.in-Ended.how ≡ How.Failed code = cc in
    subst EndsInObeyed (sym (ap (λ (s : SeenState). s.signals) ends.saw)) (ends_obeyed_after c.loop.seen.signals ends.last (ends.failed code how))

pub returns-in-Ended-clause-room : goal.returns-in-Ended-clause-room
returns-in-Ended-clause-room g c = ap (λ (s : SeenState). s.room) c.in-Ended.ensures.serves.saw ∙ c.loop.invariant.1

pub loop-preserved : goal.loop-preserved
loop-preserved g c =
    let gives = c.in-Gave.ensures.serves in (
      gave_on g.B.Listener.told g.B.Listener.replied c.loop.counter c.args.party.now.seat.me c.peek_next-word.new.party.seat.me c.serve.new.party.seat.me c.loop.seen c.serve.new.seen (looked g (goal.at.loop-preserved g c).After-peek_next-word) (in_order g (goal.at.loop-preserved g c).After-peek_next-word) gives,
      ap (λ (s : SeenState). s.room) gives.saw ∙ c.loop.invariant.1,
      (c.in-Gave.ensures.seat.0 ∙ c.peek_next-word.ensures.seat.0 ∙ c.loop.invariant.2.0, c.in-Gave.ensures.seat.1 ∙ c.peek_next-word.ensures.seat.1 ∙ c.loop.invariant.2.1),
      (gives.is, gives.none_out),
      c.in-Gave.ensures.known,
    )

pub returns-clause-seat : goal.returns-clause-seat
returns-clause-seat g c = c.loop.invariant.2

pub returns-clause-runner : goal.returns-clause-runner
returns-clause-runner g c = λ e. c.loop.invariant.3

pub returns-clause-runs : goal.returns-clause-runs
returns-clause-runs g c =
    let at_end = c.loop-test.false in
    let end : c.loop.counter ≡ 64 = let most = c.loop.auto.counter-end in omega arith in
    let going = going_on g.B.Listener.told g.B.Listener.replied c.loop.stage c.loop.counter c.args.party.now.seat.me c.loop.party.seat.me c.loop.seen.signals (omega arith) c.loop.invariant.0 in
    let goes = full g.B.Listener.told g.B.Listener.replied c.args.party.now.seat.me c.loop.party.seat.me c.loop.seen.signals going.0 (subst (λ (n : ℕ). TellsSoFar g.B.Listener.told g.B.Listener.replied n c.args.party.now.seat.me c.loop.party.seat.me c.loop.seen.signals) end going.1) in
    (going.0, goes.0, goes.1)

pub returns-clause-room : goal.returns-clause-room
returns-clause-room g c = c.loop.invariant.1
