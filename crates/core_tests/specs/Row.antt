-- What a row says of a Desk.
use Rattle.std.specs.Prelude.{◌≡◌, ◌↔◌, Bool, false, is_some, Option, IsSome, List, [], ◌∷◌, length, true}
use Rattle.feed_core.specs.Prelude.{Signal, Ending}
use Rattle.feed_core.specs.AnsweredTurn.{Reply}
use Rattle.feed_core.specs.Steps.{TurnsAs}
use Rattle.feed_core.specs.Desk.{DeskState, AcceptsItem, IsFull, Rests, Owes, desk_after_look, desk_after_try, desk_after_signal, desk_after_request, desk_after_cancel, desk_after_end}
use Rattle.feed_core.specs.declared.turn.outlook.Outlook.{Outlook}
use Rattle.feed_core.specs.LaneCalls.{is_gone, lag_of, lane_with_duplicate}
use Rattle.core_tests.specs.Letters.{lettered_item}
use Rattle.core_tests.specs.declared.row.Row.{Row}
use Rattle.core_tests.specs.declared.row.Row.TheVariants.{Accepted, Full, Gone, Request, Cancel, Close, Fail, Duplicate, Standing, Turn, Capacity, Counts, Lag, Ended}

-- a turn was owed, and it changed the Desk as a turn does that tells some signals, has some outlook and whose callbacks come back somehow
abbrev pub MakesTurn : DeskState → DeskState → Type 0
MakesTurn old new = Owes old × ((seen : List Signal) × ((outlook : Outlook) × ((replies : List Reply) × TurnsAs old new seen outlook replies)))

-- the task is started by its owner
abbrev pub Starts : Bool → DeskState → Type 0
Starts starts desk = (starts ≡ true) ↔ ((desk.is_cancelled ≡ false) × Rests desk)

-- what is so of a Desk before and after a call that was answered as the row says
abbrev pub Fits : Row → DeskState → DeskState → Type 0
Fits (Accepted letter lag starts) old new =
    (start : Option Unit) × AcceptsItem old new (lettered_item (letter ∷ [])) lag start × ((starts ≡ true) ↔ IsSome start)
Fits (Full _) old new = IsFull old × (new ≡ desk_after_look old)
Fits (Gone _) old new = (is_gone old.lane ≡ true) × (new ≡ desk_after_try old)
Fits (Request n starts) old new = (new ≡ desk_after_request n old) × Starts starts old
Fits (Cancel starts) old new = (new ≡ desk_after_cancel old) × Starts starts old
Fits (Close starts) old new = new ≡ desk_after_end Ending.Normal old
Fits (Fail code starts) old new = new ≡ desk_after_end (Ending.Failed code) old
Fits (Duplicate starts) old new = (new ≡ desk_after_signal old (lane_with_duplicate old.lane)) × ((starts ≡ true) ↔ Rests old)
Fits (Standing ended held) old new = (new ≡ desk_after_look old) × (is_some old.lane.how ≡ ended) × (lag_of old.lane ≡ held)
Fits (Turn _ _) old new = MakesTurn old new
Fits (Capacity enforced) old new = (new ≡ old) × (old.capacity ≡ enforced)
Fits (Counts accepted given asked) old new =
    (new ≡ old) × (length old.lane.accepted ≡ accepted) × (old.lane.given ≡ given) × (old.lane.asked ≡ asked)
Fits (Lag lag) old new = (new ≡ old) × (lag_of old.lane ≡ lag)
Fits (Ended how) old new = (new ≡ old) × (old.lane.how ≡ how)
