-- The table of events: of a subscription that was made, when each event is possible, and what there is after it.
use Rattle.std.specs.Prelude.{◌≡◌, ℕ, zero, suc, ℤ, pos, negsuc, ◌+◌, ◌-◌, ◌<◌, ◌≤◌, ◌⊎◌, nat_lt, Bool, true, false, ◌&&◌, not, Option, None, Some}
use Rattle.feed_core.specs.Prelude.{Answer, Ending, How, total_after}
use Rattle.feed_core.specs.Cause.{stops, closes, with_cause_of}
use Rattle.feed_core.specs.World.Types.{Causes, Producer, Handle, Cause, Cancel, Argument, State, Closing, Event, Make, Room, Put, PutMore, See, Take, TakeKnown, Ask, Signal, Hand, Look, Peek, Measure, Rest, End, Producing, Free, HasRoom, HasPut, Hands, Requesting, Idle, HasAsked, HandsOver, Runner, Nobody, Coming, Fresh, Ready, Looked, Saw, Measured, Taken, Over, Parts}

-- all that was requested, by the handle and by the answers of callbacks (`Flow.Subscription.request`, Java SE 17)
abbrev pub total_of : Parts → ℕ
total_of w = total_after w.asked w.own

-- whether the task was started and is not at rest since; it stays so once the subscription has ended
abbrev pub is_started : Runner → Bool
is_started Nobody = false
is_started _ = true

-- whether the subscription has ended
abbrev pub is_over : Runner → Bool
is_over (Over _) = true
is_over _ = false

-- the producer is not in the middle of a put or of a hand-over
abbrev pub MayBegin : Producing → Type 0
MayBegin producer = (producer ≡ Free) ⊎ (producer ≡ HasRoom)

-- when the producer may put one item more, before it signals: there is room for it, and the subscription was not closed
abbrev pub MayPutMore : Parts → Type 0
MayPutMore w = (w.producer ≡ HasPut) × (w.causes.closing ≡ None) × (w.accepted - w.given < w.capacity)

-- when the producer may signal: an item after its put, a second subscribing, and a closing if none was before
abbrev pub ProducerMay : Option Cause → Producing → Option Ending → Type 0
ProducerMay None producer closing = producer ≡ HasPut
ProducerMay (Some Cancel) producer closing = ⊥
ProducerMay (Some Argument) producer closing = ⊥
ProducerMay (Some State) producer closing = MayBegin producer
ProducerMay (Some (Closing _)) producer closing = MayBegin producer × (closing ≡ None)

-- when the handle may signal: a request after it was stored, a cancel, and a bad request
abbrev pub HandleMay : Option Cause → Requesting → Type 0
HandleMay None handle = handle ≡ HasAsked
HandleMay (Some Cancel) handle = handle ≡ Idle
HandleMay (Some Argument) handle = handle ≡ Idle
HandleMay (Some State) handle = ⊥
HandleMay (Some (Closing _)) handle = ⊥

-- it has seen how many items were put, and how many requested
abbrev pub HasMeasuredAll : Runner → Type 0
HasMeasuredAll runner = (c : Causes) × (t : ℕ) × (a : ℕ) × (runner ≡ Measured c t a)

-- when the runner may look or peek, by what the callback before that answered; if it is only ready, and if it
-- has measured, there was none
abbrev pub MayLook : Answer → Runner → Type 0
MayLook Answer.Go runner = ((runner ≡ Ready) ⊎ HasMeasuredAll runner) ⊎ ((runner ≡ Fresh) ⊎ (runner ≡ Taken))
MayLook (Answer.Request _) runner = (runner ≡ Fresh) ⊎ (runner ≡ Taken)
MayLook Answer.Cancel runner = ⊥
MayLook (Answer.Fail _) runner = ⊥

-- it sees how many items there are only after a look that found no end at once
abbrev pub MaySee : Runner → Type 0
MaySee runner = (c : Causes) × (runner ≡ Looked c) × (stops c ≡ None)

-- and how many were requested only after that
abbrev pub MayMeasure : Runner → Type 0
MayMeasure runner = (c : Causes) × (t : ℕ) × (runner ≡ Saw c t)

-- it takes an item that it saw and that was requested
abbrev pub MayTake : ℕ → Runner → Type 0
MayTake given runner = (c : Causes) × (t : ℕ) × (a : ℕ) × (runner ≡ Measured c t a) × (given < t) × (given < a)

-- or, after a look that found no end at once, one that it saw before, and that was requested by what it knew of the
-- handle's requests, and by what the answers requested
abbrev pub MayTakeKnown : Parts → Type 0
MayTakeKnown w = MaySee w.runner × (w.given < w.known_put) × (w.given < total_after w.known_asked w.own)

-- it rests if it saw no item that was requested, and no end that waited for the items
abbrev pub MayRest : ℕ → Runner → Type 0
MayRest given runner = (c : Causes) × (t : ℕ) × (a : ℕ) × (runner ≡ Measured c t a)
    × ((t ≤ given) ⊎ (a ≤ given)) × ((closes c ≡ None) ⊎ (given ≡ t → ⊥))

-- the end that a callback answered, or that followed its refusal of memory
abbrev pub IsAnswered : How → Type 0
IsAnswered How.Completed = ⊥
IsAnswered (How.Errored _) = ⊥
IsAnswered How.Cancelled = Unit {0}
IsAnswered (How.Failed _) = Unit {0}
IsAnswered How.OutOfMemory = Unit {0}

-- the end that is due, or the one of a callback that should tell it and was refused memory; a cancel tells nobody
abbrev pub IsEndBy : How → How → Type 0
IsEndBy due how = (how ≡ due) ⊎ ((how ≡ How.OutOfMemory) × (due ≡ How.Cancelled → ⊥))

-- an end, if one is due
abbrev pub IsStop : Option How → How → Type 0
IsStop None how = ⊥
IsStop (Some due) how = IsEndBy due how

-- when the runner may end the subscription, with this many items given: by what a callback came back with, by what its
-- look saw, or by the end that waits for the items, if it counted no more items than were given
abbrev pub MayEnd : How → ℕ → Runner → Type 0
MayEnd how given Fresh = IsAnswered how
MayEnd how given Taken = IsAnswered how
MayEnd how given (Looked c) = IsStop (stops c) how
MayEnd how given (Measured c t a) = IsStop (closes c) how × (given ≡ t)
MayEnd how given _ = ⊥

-- when an event is possible, once the subscription was made
abbrev pub IsPossible : Event → Parts → Type 0
IsPossible (Make _ _) w = ⊥
IsPossible Room w = MayBegin w.producer
IsPossible Put w = (w.producer ≡ HasRoom) × (w.causes.closing ≡ None)
IsPossible PutMore w = MayPutMore w
IsPossible See w = MaySee w.runner
IsPossible Take w = MayTake w.given w.runner
IsPossible TakeKnown w = MayTakeKnown w
IsPossible (Ask n) w = (w.handle ≡ Idle) × (1 ≤ n)
IsPossible (Signal Producer cause) w = ProducerMay cause w.producer w.causes.closing
IsPossible (Signal Handle cause) w = HandleMay cause w.handle
IsPossible (Hand Producer) w = w.producer ≡ Hands
IsPossible (Hand Handle) w = w.handle ≡ HandsOver
IsPossible (Look answer) w = MayLook answer w.runner
IsPossible (Peek answer) w = MayLook answer w.runner
IsPossible Measure w = MayMeasure w.runner
IsPossible Rest w = MayRest w.given w.runner
IsPossible (End how) w = MayEnd how w.given w.runner

-- whether a look of the producer's shows room
abbrev pub has_room : Parts → Bool
has_room w = not (is_over w.runner) && nat_lt (w.accepted - w.given) w.capacity

-- what the producer knows after its look
abbrev pub shown_room : Bool → Producing
shown_room true = HasRoom
shown_room false = Free

-- the causes, and with them that of a signal
abbrev pub joined : Option Cause → Causes → Causes
joined None causes = causes
joined (Some Cancel) causes = record causes { cancel = true }
joined (Some Argument) causes = record causes { argument = true }
joined (Some State) causes = record causes { state = true }
joined (Some (Closing ending)) causes = record causes { closing = Some ending }

-- after a signal of the producer's that found the task started, or not: in the second case it starts the task, and has
-- to hand it over
abbrev pub producing_after : Bool → Producing
producing_after true = Free
producing_after false = Hands

-- and of the handle
abbrev pub requesting_after : Bool → Requesting
requesting_after true = Idle
requesting_after false = HandsOver

-- and where the task stands then
abbrev pub started : Runner → Runner
started Nobody = Coming
started runner = runner

-- a request that a callback answered: it adds to the demand, or is a cause if its number is not positive
abbrev pub requested : ℤ → Parts → Parts
requested (pos zero) w = record w { causes = record w.causes { argument = true } }
requested (pos (suc n)) w = record w { own = total_after w.own (suc n) }
requested (negsuc n) w = record w { causes = record w.causes { argument = true } }

-- what a callback answered; any other answer than a request is an end
abbrev pub answered : Answer → Parts → Parts
answered Answer.Go w = w
answered (Answer.Request n) w = requested n w
answered Answer.Cancel w = w
answered (Answer.Fail _) w = w

-- the look itself: nothing is new any more, and the runner knows the causes
abbrev pub looking : Parts → Parts
looking w = record w { active = false; runner = Looked w.causes }

-- a peek: the runner knows the causes, and what is new stays new
abbrev pub peeking : Parts → Parts
peeking w = record w { runner = Looked w.causes }

-- what the runner knows after it has seen that there are t items
abbrev pub seeing : ℕ → Runner → Runner
seeing t (Looked c) = Saw c t
seeing t runner = runner

-- and after it has seen that a were requested
abbrev pub measuring : ℕ → Runner → Runner
measuring a (Saw c t) = Measured c t a
measuring a runner = runner

-- it rests, unless something is new since its look
abbrev pub resting_after : Bool → Runner
resting_after true = Ready
resting_after false = Nobody

-- what there is after an event that was possible
abbrev pub after : Event → Parts → Parts
after (Make _ _) w = w
after Room w = record w { producer = shown_room (has_room w) }
after Put w = record w { accepted = w.accepted + 1; producer = HasPut }
after PutMore w = record w { accepted = w.accepted + 1; producer = HasPut }
after See w = record w { runner = seeing w.accepted w.runner; known_put = w.accepted }
after Take w = record w { given = w.given + 1; runner = Taken }
after TakeKnown w = record w { given = w.given + 1; runner = Taken }
after (Ask n) w = record w { asked = total_after w.asked n; handle = HasAsked }
after (Signal Producer cause) w = record w { causes = joined cause w.causes; active = true; producer = producing_after (is_started w.runner); runner = started w.runner }
after (Signal Handle cause) w = record w { causes = joined cause w.causes; active = true; handle = requesting_after (is_started w.runner); runner = started w.runner }
after (Hand Producer) w = record w { producer = Free; runner = Ready }
after (Hand Handle) w = record w { handle = Idle; runner = Ready }
after (Look answer) w = looking (answered answer w)
after (Peek answer) w = peeking (answered answer w)
after Measure w = record w { runner = measuring (total_of w) w.runner; known_asked = w.asked }
after Rest w = record w { runner = resting_after w.active }
after (End how) w = record w { causes = with_cause_of how w.causes; runner = Over how }
