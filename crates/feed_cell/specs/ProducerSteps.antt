-- The producer's steps: what they ask of its seat, and what they tell it.
use Rattle.std.specs.Prelude.{◌≡◌, ◌⊎◌, ℕ, ◌+◌, ◌%◌, ◌<◌, ◌≤◌, Bool, true, false, List, [], ◌∷◌, ◌++◌, length, Option, None, ◌^◌}
use Rattle.atomic_table.specs.Table.{rest}
use Rattle.feed_core.specs.Prelude.{Item, Ending}
use Rattle.feed_core.specs.World.Table.{MayBegin}
use Rattle.feed_cell.specs.Types.{Producing, Free, HasRoom, HasPut}
use Rattle.feed_cell.specs.declared.cell.Held.{Held}
use Rattle.feed_cell.specs.declared.cell.View.{View}
use Rattle.feed_cell.specs.Views.{IsProducer}
use Rattle.feed_cell.specs.Control.{MARK, marked}
use Rattle.feed_cell.specs.Seats.{SeatOf, item_out}

-- the producer after a look at head
abbrev pub after_look : View → ℕ → Bool → Producing → ℕ → View
after_look v head ended producing places = record v {
  seen = head;
  looks = v.looks + 1;
  over = ended;
  producing = producing;
  places = places;
}

-- the producer found this in head: how many items were taken, and whether the subscription has ended; if it has not,
-- and there is room, the next slot is out with it
pub record FindsRoom {B : Type 0} (before : SeatOf B) (found : ℕ) (after : SeatOf B) : Type 0 where
  pub head : ℕ
  pub ended : Bool
  pub found_is : found ≡ marked ended head
  pub small : head < MARK
  pub grows : before.0.seen ≤ head
  pub put : head ≤ length before.0.put
  pub fits : length before.0.put ≤ head + before.0.capacity
  pub stays : before.0.over ≡ true → ended ≡ true
  pub gone : ended ≡ true → after ≡ (after_look before.0 head ended Free 0, before.1)
  pub full : ended ≡ false → length before.0.put ≡ head + before.0.capacity → after ≡ (after_look before.0 head ended Free 0, before.1)
  pub room : ended ≡ false → length before.0.put < head + before.0.capacity
      → after ≡ (after_look before.0 head ended HasRoom 1, (length before.0.put % before.0.capacity, Held.Empty) ∷ before.1)
  pub sized : after.0.capacity ≡ before.0.capacity
  pub ordered : after.0.order ≡ before.0.order

-- the producer looks how things stand: it finds this in head, and takes no slot
pub record FindsHead {B : Type 0} (before : SeatOf B) (found : ℕ) (after : SeatOf B) : Type 0 where
  pub head : ℕ
  pub ended : Bool
  pub producing : Producing
  pub found_is : found ≡ marked ended head
  pub small : head < MARK
  pub grows : before.0.seen ≤ head
  pub put : head ≤ length before.0.put
  pub fits : length before.0.put ≤ head + before.0.capacity
  pub stays : before.0.over ≡ true → ended ≡ true
  pub begins : (producing ≡ Free) ⊎ (producing ≡ HasRoom)
  pub looked : after ≡ (after_look before.0 head ended producing 0, before.1)

-- the slot of the next item
abbrev pub next_slot : View → ℕ
next_slot v = (length v.put + length v.placed) % v.capacity

-- the item in the slot that was out is placed, and the slot after it is out
abbrev pub IsPlaced : {B : Type 0} → SeatOf B → SeatOf B → Type 0
IsPlaced before after = after ≡ (
  record before.0 { placed = before.0.placed ++ item_out before.1 },
  ((length before.0.put + length before.0.placed + 1) % before.0.capacity, Held.Empty) ∷ rest before.1,
)

-- all that was placed and the item in the slot that was out are put
abbrev pub IsPut : {B : Type 0} → SeatOf B → SeatOf B → Type 0
IsPut before after = after ≡ (
  record before.0 { put = before.0.put ++ (before.0.placed ++ item_out before.1); placed = []; producing = HasPut; places = 0 },
  rest before.1,
)

-- the producer may look: it is not in the middle of a put or a signal
pub record MayOffer {B : Type 0} (me : SeatOf B) : Type 0 where
  pub is : IsProducer me.0
  pub none_out : me.0.places ≡ 0
  pub none_placed : me.0.placed ≡ []
  pub begins : MayBegin me.0.producing

-- a producer between two calls, which has put this many items and closed its subscription so
pub record IsProducerOf {B : Type 0} (tail : ℕ) (closing : Option Ending) (me : SeatOf B) : Type 0 where
  pub may : MayOffer me
  pub no_slot : me.1 ≡ []
  pub closed : me.0.closing ≡ closing
  pub counted : length me.0.put ≡ tail

-- the producer has the slot of its next item out, and may put that; before it this many are put and placed
pub record HasFreeSlot {B : Type 0} (number : ℕ) (me : SeatOf B) : Type 0 where
  pub is : IsProducer me.0
  pub stage : me.0.producing ≡ HasRoom
  pub one_out : me.0.places ≡ 1
  pub closing : me.0.closing ≡ None
  pub slot : me.1 ≡ (next_slot me.0, Held.Empty) ∷ []
  pub counted : length me.0.put + length me.0.placed ≡ number
  pub few : number < 2 ^ 62

-- its last look showed room for one more behind that item
abbrev pub HasRoomBehind : {B : Type 0} → ℕ → SeatOf B → Type 0
HasRoomBehind number me = number + 1 < me.0.seen + me.0.capacity

-- the item was placed and its slot given back, and the slot after it is out
abbrev pub HasPlacedOne : {B : Type 0} → Item → SeatOf B → SeatOf B → Type 0
HasPlacedOne item before after = after ≡ (
  record before.0 { placed = before.0.placed ++ item ∷ [] },
  ((length before.0.put + length before.0.placed + 1) % before.0.capacity, Held.Empty) ∷ [],
)

-- the item was placed, its slot given back, and all that was placed is put
abbrev pub HasPlaced : {B : Type 0} → Item → SeatOf B → SeatOf B → Type 0
HasPlaced item before after = after ≡ (
  record before.0 { put = before.0.put ++ (before.0.placed ++ item ∷ []); placed = []; producing = HasPut; places = 0 },
  [],
)

-- its last look showed room for all of these
abbrev pub HasRoomForAll : {B : Type 0} → List Item → SeatOf B → Type 0
HasRoomForAll items me = length me.0.put + length items ≤ me.0.seen + me.0.capacity

-- these items were placed, one after the other, and the slot after them is out
abbrev pub HasPlacedSome : {B : Type 0} → List Item → SeatOf B → SeatOf B → Type 0
HasPlacedSome items before after = after ≡ (
  record before.0 { placed = before.0.placed ++ items },
  ((length before.0.put + length (before.0.placed ++ items)) % before.0.capacity, Held.Empty) ∷ [],
)

-- these items are put, by one step
abbrev pub HasPutAll : {B : Type 0} → List Item → SeatOf B → SeatOf B → Type 0
HasPutAll items before after = after ≡ (
  record before.0 { put = before.0.put ++ items; placed = []; producing = HasPut; places = 0 },
  [],
)
