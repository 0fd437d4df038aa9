-- A subscription as the producer's end that its publisher calls, and exactly what each of those calls does.
use Rattle.std.specs.Prelude.{◌≡◌, ◌↔◌, true, is_some, Option, None, List, IsSome, IsOk}
use Rattle.flow_rules.specs.Call.{Call}
use Rattle.flow_rules.specs.Feed.{End}
use Rattle.flow_rules.specs.declared.feed.put.Put.{Put}
use Rattle.flow_rules.specs.declared.feed.put.Put.TheVariants.{Accepted, Full, Gone}
use Rattle.flow_rules.specs.declared.feed.put_all.PutAll.{PutAll}
use Rattle.flow_rules.specs.declared.feed.put_all.PutAll.TheVariants as Several
use Rattle.flow_rules.specs.declared.feed.standing.Standing.{Standing}
use Rattle.feed_core.specs.Prelude.{Item, Ending}
use Rattle.feed_core.specs.Desk.{DeskState, AcceptsItem, AcceptsItems, GivesBack, IsFull, Rests, desk_after_look, desk_after_try, desk_after_signal}
use Rattle.feed_core.specs.Lane.{IsFlow}
use Rattle.feed_core.specs.LaneCalls.{is_gone, lag_of, lane_with_closing, lane_with_duplicate}

-- the producer's end that a subscription is: a look shows what is so, and no started task needs anything
abbrev pub end_of : DeskState → End
end_of desk = record {
  capacity = desk.capacity;
  accepted = desk.lane.accepted;
  seen = desk.lane.given;
  looks = desk.looks;
  over = is_some desk.lane.how;
  closing = desk.lane.causes.closing;
  state = desk.lane.causes.state;
  ready = true;
}

-- an item was offered: an open subscription whose buffer had room took it, and else it came back
abbrev pub AnswersPut : DeskState → DeskState → Item → Put Unit → Type 0
AnswersPut old new item (Accepted lag start) = AcceptsItem old new item lag start
AnswersPut old new item (Full back) = IsFull old × GivesBack (desk_after_look old) new item back
AnswersPut old new item (Gone back) = (is_gone old.lane ≡ true) × GivesBack (desk_after_try old) new item back

-- a put answered so, and the lane keeps the Flow rules
pub record DoesPut (old new : DeskState) (item : Item) (answer : Put Unit) : Type 0 where
  pub answers : AnswersPut old new item answer
  pub flow : IsFlow new.lane

-- several items were offered: an open subscription took them, and else they came back
abbrev pub AnswersPutAll : DeskState → DeskState → List Item → PutAll Unit → Type 0
AnswersPutAll old new items (Several.Accepted lag start) = AcceptsItems old new items lag start
AnswersPutAll old new items (Several.Gone back) = (is_gone old.lane ≡ true) × (back.items ≡ items) × (new ≡ desk_after_try old)

-- a put of several items answered so, and the lane keeps the Flow rules
pub record DoesPutAll (old new : DeskState) (items : List Item) (answer : PutAll Unit) : Type 0 where
  pub answers : AnswersPutAll old new items answer
  pub flow : IsFlow new.lane

-- it was closed: only the first time changes it, and starts it if it was at rest; the lane keeps the Flow rules
pub record AnswersEnd (old new : DeskState) (ending : Ending) (start : Option Unit) : Type 0 where
  pub first : old.lane.causes.closing ≡ None → new ≡ desk_after_signal old (lane_with_closing ending old.lane)
  pub later : IsSome old.lane.causes.closing → new ≡ old
  pub starts : IsSome start ↔ ((old.lane.causes.closing ≡ None) × Rests old)
  pub flow : IsFlow new.lane

-- a second subscribing is a cause of its end, and starts it if it was at rest; the lane keeps the Flow rules
pub record AnswersDuplicate (old new : DeskState) (start : Option Unit) : Type 0 where
  pub marked : new ≡ desk_after_signal old (lane_with_duplicate old.lane)
  pub starts : IsSome start ↔ Rests old
  pub flow : IsFlow new.lane

-- its publisher looked: it learns whether the subscription has ended, and how many items wait; the lane keeps the Flow
-- rules
pub record AnswersLook (old new : DeskState) (standing : Standing) : Type 0 where
  pub looked : new ≡ desk_after_look old
  pub ended : standing.ended ≡ is_some old.lane.how
  pub held : standing.held ≡ lag_of old.lane
  pub flow : IsFlow new.lane

-- exactly what a call of its publisher does that answered so
abbrev pub DoesCall : DeskState → Call Unit → DeskState → Type 0
DoesCall old (Call.Readies answer) new = IsOk answer × (new ≡ old)
DoesCall old (Call.Puts item answer) new = DoesPut old new item answer
DoesCall old (Call.PutsAll items answer) new = DoesPutAll old new items answer
DoesCall old (Call.Ends ending start) new = AnswersEnd old new ending start
DoesCall old (Call.Duplicates start) new = AnswersDuplicate old new start
DoesCall old (Call.Looks standing) new = AnswersLook old new standing
