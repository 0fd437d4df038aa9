-- What a put that is accepted does to the producer's end.
use Rattle.std.proofs.Common.{◌≡◌, ℕ, ◌+◌, ◌-◌, ◌<◌, Bool, true, false, [], ◌∷◌, ◌++◌, length, Option, None, is_some, ◌||◌, sym, refl, ap, ◌∙◌, length-append, arith, List, ◌≤◌, ◌%◌}
use Rattle.flow_rules.specs.Feed.{End, LookedIfOpen, TakesItem, TakesItems}
use Rattle.feed_core.specs.Prelude.{Ending, Item}
use Rattle.feed_cell.specs.Types.{Free, HasRoom, HasPut, Idle}
use Rattle.feed_cell.specs.Control.{MARK, marked}
use Rattle.feed_cell.specs.Offering.{SaysOf}
use Rattle.feed_cell.specs.Parties.{known_end}
use Rattle.feed_cell.specs.ProducerSteps.{FindsRoom, after_look}
use Rattle.feed_cell.specs.Seats.{SeatOf}
use Rattle.feed_cell.specs.Signals.{after_signal}
use Rattle.feed_cell.specs.Views.{starts_after}
use Rattle.feed_cell.specs.declared.cell.Held.{Held}
use Rattle.feed_cell.specs.declared.cell.View.{View}
use Rattle.feed_cell.specs.declared.cell.producer.steps.Found.{Found}

-- a small head has no mark
pub unmarked : (ended : Bool) (head found : ℕ) → found ≡ marked ended head → found < MARK → (ended ≡ false) × (found ≡ head)
unmarked false head found is small = (refl, is)
unmarked true head found is small = absurd (omega arith)

-- what a look that found room did
module _ {B : Type 0} (tail found held : ℕ) (before looked : SeatOf B) (finds : FindsRoom before found looked) (says : SaysOf before.0.capacity tail found (Found.Room held)) (counted : length before.0.put ≡ tail) where
  pub ends : finds.ended ≡ false
  ends = (unmarked finds.ended finds.head found finds.found_is says.0).0

  pub head_is : found ≡ finds.head
  head_is = (unmarked finds.ended finds.head found finds.found_is says.0).1

  within : length before.0.put < finds.head + before.0.capacity
  within = let h = head_is in let p = finds.put in let f = finds.fits in let room : tail - found < before.0.capacity = says.1 in omega arith

  pub looked_is : looked ≡ (after_look before.0 finds.head finds.ended HasRoom 1, (length before.0.put % before.0.capacity, Held.Empty) ∷ before.1)
  looked_is = finds.room ends within

module _ {B T S : Type 0} (tail found held : ℕ) (before looked placed after : SeatOf B) (items : List Item) (start : Option T) (task : Option S) (ready later : Bool) (finds : FindsRoom before found looked) (says : SaysOf before.0.capacity tail found (Found.Room held)) (counted : length before.0.put ≡ tail)
    (unclosed : before.0.closing ≡ None) (room : held + length items ≤ before.0.capacity)
    (put : placed ≡ (record looked.0 { put = looked.0.put ++ items; placed = []; producing = HasPut; places = 0 }, [])) (signalled : after ≡ (after_signal task None placed.0, placed.1)) (keeps : start ≡ None → later ≡ ready) where
  abbrev seen : View
  seen = after_look before.0 finds.head finds.ended HasRoom 1

  view_is : after.0 ≡ record seen { put = before.0.put ++ items; placed = []; producing = Free; requesting = Idle; places = 0; started = starts_after task before.0.started }
  view_is = ap (λ (m : SeatOf B). m.0) signalled ∙ ap (λ (m : SeatOf B). after_signal task None m.0) put ∙ ap (λ (m : SeatOf B). record m.0 { put = m.0.put ++ items; placed = []; producing = Free; requesting = Idle; places = 0; started = starts_after task m.0.started }) (looked_is tail found held before looked finds says counted)

  -- several items were taken
  pub accepted_all : (m : End) × LookedIfOpen (known_end before.0 ready) m × TakesItems m items (held + length items) start (known_end after.0 later)
  accepted_all =
      let h = head_is tail found held before looked finds says counted in
      let p = finds.put in
      let f = finds.fits in
      let count : held ≡ tail - found = says.2 in
      let longer : length (before.0.put ++ items) ≡ length before.0.put + length items = length-append before.0.put items in
      let lag : held + length items ≡ length (before.0.put ++ items) - finds.head = omega arith in (
        known_end seen ready,
        record {
          unclosed = λ _. record { seen = finds.grows; over = finds.stays; taken = finds.put; fits = omega arith; rest = refl };
          closed = λ some. (let never : false ≡ true = sym (ap (λ (o : Option Ending). is_some o) unclosed) ∙ some in cc);
        },
        record {
          open_before = ap (λ (b : Bool). b || is_some before.0.closing) (ends tail found held before looked finds says counted) ∙ ap (λ (o : Option Ending). is_some o) unclosed;
          room_before = omega arith;
          taken = ap (λ (v : View). known_end v later) view_is;
          lag_after = lag ∙ sym (ap (λ (v : View). length v.put - v.seen) view_is);
          ready = keeps;
        },
      )

-- one item was taken
pub accepted : {B T S : Type 0} (tail found held : ℕ) (before looked placed after : SeatOf B) (item : Item) (start : Option T) (task : Option S) (ready later : Bool) (finds : FindsRoom before found looked)
    → SaysOf before.0.capacity tail found (Found.Room held) → length before.0.put ≡ tail → before.0.closing ≡ None → before.0.placed ≡ []
    → placed ≡ (record looked.0 { put = looked.0.put ++ (looked.0.placed ++ item ∷ []); placed = []; producing = HasPut; places = 0 }, [])
    → after ≡ (after_signal task None placed.0, placed.1) → (start ≡ None → later ≡ ready)
    → (m : End) × LookedIfOpen (known_end before.0 ready) m × TakesItem m item (held + 1) start (known_end after.0 later)
accepted {B} tail found held before looked placed after item start task ready later finds says counted unclosed none_placed put signalled keeps =
    let room : tail - found < before.0.capacity = says.1 in
    let count : held ≡ tail - found = says.2 in
    let none : looked.0.placed ≡ [] = ap (λ (m : SeatOf B). m.0.placed) (looked_is tail found held before looked finds says counted) ∙ none_placed in
    let put_alone : placed ≡ (record looked.0 { put = looked.0.put ++ item ∷ []; placed = []; producing = HasPut; places = 0 }, []) = put ∙ ap (λ (l : List Item). (record looked.0 { put = looked.0.put ++ (l ++ item ∷ []); placed = []; producing = HasPut; places = 0 }, [])) none in
    let all = accepted_all tail found held before looked placed after (item ∷ []) start task ready later finds says counted unclosed (omega arith) put_alone signalled keeps in
    let took = all.2 in
    let fits = took.room_before in
    (all.0, all.1, record { open_before = took.open_before; room_before = omega arith; taken = took.taken; lag_after = took.lag_after; ready = took.ready })
