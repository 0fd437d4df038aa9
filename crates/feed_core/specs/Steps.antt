-- The steps that a turn is made of.
use Rattle.std.specs.Prelude.{◌≡◌, ℕ, suc, ℤ, ◌+◌, ◌-◌, ◌≤◌, ◌==◌, if◌then◌else◌, min, ◌⊎◌, Bool, true, Option, None, Some, List, [], ◌∷◌, ◌++◌, length, map, take, drop}
use mathlib.Core.List.{IsPrefix}
use Rattle.feed_core.specs.Prelude.{Answer, Item, Signal, Subscribed, Next, How, Causes, Outlook, Again, Resting, Ended, ITEMS_IN_A_TURN, items_of}
use Rattle.feed_core.specs.AnsweredTurn.{Reply, ArePlain, obeyed, going_on, looks_within, turn_of}
use Rattle.feed_core.specs.Cause.{stops, closes}
use Rattle.feed_core.specs.Accounts.{IsAccounted, GivesBelow}
use Rattle.feed_core.specs.Desk.{DeskState, Owes, started_after, desk_with_request}
use Rattle.feed_core.specs.Turn.{how_after}
use Rattle.feed_core.specs.Lane.{LaneState, IsFlow}
use Rattle.feed_core.specs.LaneCalls.{lane_with_request}
use Rattle.feed_core.specs.Sound.{is_begun, loss_of}
use Rattle.feed_core.specs.Replies.{replies_in}
use Rattle.feed_core.specs.PlainTurn.{PlainTurn, another_turn, greeting, signals_then, terminal_of, stop_or_turn, close_or_rest}

-- the first of the held items was told, and moved to what was seen
pub record MovesNext (told told' : List Signal) (held held' : List Item) (seen seen' : List Signal) : Type 0 where
  pub item : Item
  pub waited : held ≡ item ∷ held'
  pub told_after : told' ≡ told ++ Next item ∷ []
  pub seen_after : seen' ≡ seen ++ Next item ∷ []

-- what a turn of at most this many items does once its subscriber was greeted
abbrev pub turn_within : ℕ → Causes → List Item → ℕ → PlainTurn
turn_within most causes waiting unmet =
    let n = min (min (length waiting) unmet) most in
    stop_or_turn (stops causes)
    (signals_then (map Next (take n waiting)) (if n == most then another_turn else close_or_rest (closes causes) (drop n waiting)))

-- what a turn of a lane, of at most this many items, does once its subscriber was greeted
abbrev pub rest_of_turn : ℕ → LaneState → PlainTurn
rest_of_turn most lane = turn_within most lane.causes (drop lane.given lane.accepted) (lane.asked - lane.given)

-- an end is owed: one at once, or the one that waits for the items if every item was given
abbrev pub OwesEnd : LaneState → How → Type 0
OwesEnd lane how =
    (stops lane.causes ≡ Some how)
    ⊎ ((stops lane.causes ≡ None) × (closes lane.causes ≡ Some how) × (lane.given ≡ length lane.accepted))

-- in any lane with these parts the answer is obeyed so: it changes them, and nothing else
abbrev pub Obeys : Answer → ℕ → ℕ → Causes → Causes → Option How → Option How → Outlook → Type 0
Obeys answer asked asked' causes causes' how how' outlook =
    (lane : LaneState) → obeyed answer (record lane { asked = asked; causes = causes; how = how })
    ≡ record { lane = record lane { asked = asked'; causes = causes'; how = how' }; outlook = outlook }

-- a request of this number changes the demand and the causes of any lane so, and nothing else
abbrev pub Asks : ℤ → ℕ → ℕ → Causes → Causes → Type 0
Asks n asked asked' causes causes' =
    (lane : LaneState) → lane_with_request n (record lane { asked = asked; causes = causes }) ≡ record lane { asked = asked'; causes = causes' }

-- a request of this number by the owner changes what any subscription knows of the owner's requests so, and nothing
-- else
abbrev pub Notes : ℤ → ℕ → ℕ → Bool → Bool → Type 0
Notes n requested requested' badly badly' =
    (desk : DeskState) → desk_with_request n (record desk { requested = requested; asked_badly = badly }) ≡ record desk { requested = requested'; asked_badly = badly' }

-- what one look tells, by its outlook: an item, nothing, or the terminal signal; or an item whose answer was an end
-- with no such signal
abbrev pub IsToldBy : Outlook → List Signal → Type 0
IsToldBy Again last = (item : Item) × (last ≡ Next item ∷ [])
IsToldBy Resting last = last ≡ []
IsToldBy (Ended how) last = (last ≡ terminal_of how) ⊎ (((item : Item) × (last ≡ Next item ∷ [])) × (terminal_of how ≡ []))

-- what the greeting tells, by its outlook: onSubscribe if nothing was told yet, and an end has no terminal signal
abbrev pub IsGreetedBy : Outlook → List Signal → List Signal → Type 0
IsGreetedBy Again told last = last ≡ greeting told
IsGreetedBy Resting told last = ⊥
IsGreetedBy (Ended how) told last = ((last ≡ []) ⊎ (last ≡ Subscribed ∷ [])) × (terminal_of how ≡ [])

-- an item was given, which was waiting
pub record GivesNext (old new : LaneState) (last : List Signal) : Type 0 where
  pub item : Item
  pub told : last ≡ Next item ∷ []
  pub waited : drop old.given old.accepted ≡ item ∷ drop new.given new.accepted
  pub counted : new.given ≡ old.given + 1

-- the end has a terminal signal
abbrev pub HasTerminal : How → Type 0
HasTerminal how = (signal : Signal) × (terminal_of how ≡ signal ∷ [])

-- a look at the causes may be made: a turn is owed, and its subscriber was greeted
pub record IsMidTurn (desk : DeskState) : Type 0 where
  pub owed : Owes desk
  pub begun : is_begun desk.lane.told ≡ true

-- what a part of a turn did that told these signals and had this outlook, beside what the lane shows: a callback came
-- back for each signal, and one more if it was refused memory
pub record IsPart (old new : DeskState) (last : List Signal) (outlook : Outlook) (replies : List Reply) : Type 0 where
  pub recorded : new.lane.told ≡ old.lane.told ++ last
  pub answered : length replies ≡ length last + loss_of (how_after outlook)
  pub replied : new.replied ≡ old.replied ++ replies
  pub accepted : new.lane.accepted ≡ old.lane.accepted
  pub grows : old.lane.asked ≤ new.lane.asked
  pub how : new.lane.how ≡ how_after outlook
  pub started : new.started ≡ started_after outlook
  pub capacity : new.capacity ≡ old.capacity
  pub looks : new.looks ≡ old.looks
  pub requested : new.requested ≡ old.requested
  pub badly : new.asked_badly ≡ old.asked_badly
  pub cancelled : new.is_cancelled ≡ old.is_cancelled
  pub steady : old.is_steady ≡ true → new.is_steady ≡ true
  pub plain : old.is_steady ≡ true → ArePlain replies
  pub goes_on : old.is_steady ≡ true → replies ≡ replies_in last outlook
  pub flow : IsFlow new.lane
  pub accounted : IsAccounted new
  pub below : GivesBelow old new

-- one look at the causes, and what followed: an item, the end, or rest
pub record Looks (old new : DeskState) (seen seen' : List Signal) (outlook : Outlook) : Type 0 where
  pub last : List Signal
  pub replies : List Reply
  pub shape : IsToldBy outlook last
  pub seen_after : seen' ≡ seen ++ last
  pub part : IsPart old new last outlook replies
  pub few : new.lane.given ≤ old.lane.given + 1
  pub ahead : IsPrefix (items_of last) (drop old.lane.given old.lane.accepted)
  pub again : outlook ≡ Again → GivesNext old.lane new.lane last
  pub left : (most : ℕ) (more : List Reply)
      → looks_within (suc most) (replies ++ more) old.lane ≡ going_on outlook new.lane (looks_within most more)

-- the subscriber was greeted, or that was the end
pub record Greets (old new : DeskState) (seen seen' : List Signal) (outlook : Outlook) : Type 0 where
  pub last : List Signal
  pub replies : List Reply
  pub shape : IsGreetedBy outlook old.lane.told last
  pub seen_after : seen' ≡ seen ++ last
  pub part : IsPart old new last outlook replies
  pub given : new.lane.given ≡ old.lane.given
  pub left : (more : List Reply) → turn_of old.lane (replies ++ more) ≡ going_on outlook new.lane (looks_within ITEMS_IN_A_TURN more)

-- a turn that told these signals and had this outlook did what it does if its callbacks come back so, and kept what
-- no turn changes
pub record TurnsAs (old new : DeskState) (seen : List Signal) (outlook : Outlook) (replies : List Reply) : Type 0 where
  pub turned : turn_of old.lane replies ≡ record { lane = new.lane; outlook = outlook }
  pub recorded : new.lane.told ≡ old.lane.told ++ seen
  pub answered : length replies ≡ length seen + loss_of (how_after outlook)
  pub replied : new.replied ≡ old.replied ++ replies
  pub started : new.started ≡ started_after outlook
  pub capacity : new.capacity ≡ old.capacity
  pub looks : new.looks ≡ old.looks
  pub requested : new.requested ≡ old.requested
  pub badly : new.asked_badly ≡ old.asked_badly
  pub cancelled : new.is_cancelled ≡ old.is_cancelled
  pub steady : old.is_steady ≡ true → new.is_steady ≡ true
  pub plain : old.is_steady ≡ true → ArePlain replies
  pub goes_on : old.is_steady ≡ true → replies ≡ replies_in seen outlook
