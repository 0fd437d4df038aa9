-- The producer's end of one subscription: what the publisher knows of it, and what each of its calls does.
use Rattle.std.specs.Prelude.{◌≡◌, ℕ, ◌+◌, ◌-◌, ◌<◌, ◌≤◌, Bool, true, false, ◌||◌, is_some, Option, None, Some, IsSome, List, [], ◌∷◌, ◌++◌, length}
use Rattle.flow_rules.specs.declared.ending.Ending.{Ending}
use Rattle.flow_rules.specs.declared.feed.put.Put.{Put}
use Rattle.flow_rules.specs.declared.feed.put.Put.TheVariants.{Accepted, Full, Gone}
use Rattle.flow_rules.specs.declared.feed.put_all.PutAll.{PutAll}
use Rattle.flow_rules.specs.declared.feed.put_all.PutAll.TheVariants as Several
use Rattle.flow_rules.specs.declared.item.Item.{Item}

-- the producer's end: the capacity of the buffer; the items that it has accepted, in order; how many of them were taken
-- for onNext, by the last look; how many looks were made; whether the subscription had ended, by the last look; how it
-- was closed, if it was; whether a second subscribing was told of; and whether it has what one started task needs
pub record End : Type 0 where
  pub capacity : ℕ
  pub accepted : List Item
  pub seen : ℕ
  pub looks : ℕ
  pub over : Bool
  pub closing : Option Ending
  pub state : Bool
  pub ready : Bool

-- how many accepted items were not taken for onNext yet, by the last look
abbrev pub held_count : End → ℕ
held_count e = length e.accepted - e.seen

-- whether it takes no more items: the last look showed that the subscription had ended, or it was closed
abbrev pub is_gone : End → Bool
is_gone e = e.over || is_some e.closing

-- a task may be started: what it needs is there, or it was closed, after which none is started
abbrev pub MayStart : End → Type 0
MayStart e = (e.ready || is_some e.closing) ≡ true

-- one look: it shows how many items were taken by now, never fewer than the look before it, and whether the
-- subscription has ended, which stays so; no more items are left than the buffer may hold; and nothing else changes
pub record Looked (e f : End) : Type 0 where
  pub seen : e.seen ≤ f.seen
  pub over : e.over ≡ true → f.over ≡ true
  pub taken : f.seen ≤ length f.accepted
  pub fits : length f.accepted ≤ f.seen + f.capacity
  pub rest : f ≡ record e { seen = f.seen; looks = e.looks + 1; over = f.over }

-- one look, or none at an end that was closed
pub record LookedIfOpen (e f : End) : Type 0 where
  pub unclosed : e.closing ≡ None → Looked e f
  pub closed : IsSome e.closing → f ≡ e

-- if no task was started, it has what one needs as before
abbrev pub KeepsReady : {T : Type 0} → Option T → End → End → Type 0
KeepsReady start e f = start ≡ None → f.ready ≡ e.ready

-- the item was accepted: the buffer had room, the list gains it, and the lag is what the buffer holds then
pub record TakesItem {T : Type 0} (e : End) (item : Item) (lag : ℕ) (start : Option T) (f : End) : Type 0 where
  pub open_before : is_gone e ≡ false
  pub room_before : held_count e < e.capacity
  pub taken : f ≡ record e { accepted = e.accepted ++ item ∷ []; ready = f.ready }
  pub lag_after : lag ≡ held_count f
  pub ready : KeepsReady start e f

-- the buffer was full: the item came back, and nothing changed
pub record FindsFull (e : End) (item back : Item) (f : End) : Type 0 where
  pub open_before : is_gone e ≡ false
  pub full : held_count e ≡ e.capacity
  pub same : back ≡ item
  pub unchanged : f ≡ e

-- the subscription had ended or was closed: the item came back, and nothing changed
pub record FindsGone (e : End) (item back : Item) (f : End) : Type 0 where
  pub gone : is_gone e ≡ true
  pub same : back ≡ item
  pub unchanged : f ≡ e

-- what a put does, by its answer, once it has looked
abbrev pub Answers : {T : Type 0} → End → Item → Put T → End → Type 0
Answers e item (Accepted lag start) f = TakesItem e item lag start f
Answers e item (Full back) f = FindsFull e item back f
Answers e item (Gone back) f = FindsGone e item back f

-- a put: one look, or none at an end that was closed, and what it allows (`SubmissionPublisher.submit` and `offer`,
-- Java SE 17)
abbrev pub Puts : {T : Type 0} → End → Item → Put T → End → Type 0
Puts e item answer f = (m : End) × LookedIfOpen e m × Answers m item answer f

-- the items were accepted: the buffer had room for all, the list gains them in their order, and the lag is what the
-- buffer holds with the last
pub record TakesItems {T : Type 0} (e : End) (items : List Item) (lag : ℕ) (start : Option T) (f : End) : Type 0 where
  pub open_before : is_gone e ≡ false
  pub room_before : held_count e + length items ≤ e.capacity
  pub taken : f ≡ record e { accepted = e.accepted ++ items; ready = f.ready }
  pub lag_after : lag ≡ held_count f
  pub ready : KeepsReady start e f

-- the subscription had ended or was closed: the items came back, and nothing changed
pub record ReturnsItems (e : End) (items back : List Item) (f : End) : Type 0 where
  pub gone : is_gone e ≡ true
  pub same : back ≡ items
  pub unchanged : f ≡ e

-- what a put of several items does, by its answer, once it has looked
abbrev pub AnswersAll : {T : Type 0} → End → List Item → PutAll T → End → Type 0
AnswersAll e items (Several.Accepted lag start) f = TakesItems e items lag start f
AnswersAll e items (Several.Gone back) f = ReturnsItems e items back.items f

-- a put of several items: one look, or none at an end that was closed, and what it allows
abbrev pub PutsAll : {T : Type 0} → End → List Item → PutAll T → End → Type 0
PutsAll e items answer f = (m : End) × LookedIfOpen e m × AnswersAll m items answer f

-- a close: only the first sets how it is closed, and only that one may start a task (`SubmissionPublisher.close`, Java
-- SE 17)
pub record Ends {T : Type 0} (e : End) (ending : Ending) (start : Option T) (f : End) : Type 0 where
  pub first : e.closing ≡ None → f ≡ record e { closing = Some ending; ready = f.ready }
  pub later : IsSome e.closing → (f ≡ e) × (start ≡ None)
  pub ready : KeepsReady start e f

-- a second subscribing of its subscriber is told of (`SubmissionPublisher.subscribe`, Java SE 17)
pub record Duplicates {T : Type 0} (e : End) (start : Option T) (f : End) : Type 0 where
  pub rest : f ≡ record e { state = true; ready = f.ready }
  pub ready : KeepsReady start e f
