-- The producer's looks at head.
use Rattle.std.proofs.Common.{◌≡◌, ℕ, ◌+◌, ◌-◌, ◌%◌, ◌<◌, ◌≤◌, ◌⊎◌, Bool, true, false, true≢false, List, length, slice_index, set, sym, refl, ap, ◌∙◌, subst, inl, inr, arith, [], ◌++◌, length-append}
use mathlib.Core.Option as slot
use mathlib.Core.Option.{some}
use mathlib.Core.Logic.{dite}
use native.Mathlib.Decide.{dec_lt}
use lib.ListN.{get_elem?}
use Rattle.atomic_table.specs.Table.{State, Act, keeps, takes, Valid, stepped, carried_after, Allows}
use Rattle.feed_core.specs.Prelude.{Item, Signal, total_after}
use Rattle.feed_core.specs.World.Table.{MayBegin, is_over, has_room, shown_room, after}
use Rattle.feed_core.proofs.Interleavings.Putting.{room_found, room_missing, room_of_ended}
use Rattle.feed_cell.specs.Types.{Room, Free, HasRoom, Producing, Parts}
use Rattle.feed_cell.proofs.Table.Outlooks.{ShowsSame, reached_more, reached_kept}
use Rattle.feed_cell.proofs.Table.Places.{lies_room, stays_home}
use Rattle.feed_cell.proofs.Table.Seats.{mine, other}
use Rattle.feed_cell.proofs.Tasks.Stages.{lodges_else}
use Rattle.feed_cell.proofs.Table.Tallies.{stays_same}
use Rattle.feed_cell.specs.Cell.{Beyond, Lists, Lies, LodgesAt, CellRule, AsProducer}
use Rattle.feed_cell.specs.Control.{MARK, marked}
use Rattle.feed_cell.specs.ProducerSteps.{FindsRoom, FindsHead, after_look}
use Rattle.feed_cell.specs.Seats.{SeatOf}
use Rattle.feed_cell.specs.Views.{IsProducer, has_put, has_ask, has_run}
use Rattle.feed_cell.specs.declared.cell.Held.{Held}
use Rattle.feed_cell.specs.declared.cell.View.{View}
use Rattle.feed_cell.specs.WordPlaces.{place}
use Rattle.feed_cell.specs.declared.cell.words.Word.{Word}
use Rattle.feed_cell.proofs.Words.FourWords.{head_at, head_loaded}

module _ {B : Type 0} (told : B → List Signal) (cap : ℕ) where
  -- the rule after a look, whatever slot it takes
  room_kept : (s : State (Held B) View) (c : CellRule told cap s) (id : ℕ) (v w : View) (beyond : Beyond) (homes : List (slot.Option (Held B)))
      → get_elem? s.views id ≡ some v → IsProducer v → MayBegin c.cell.world.producer
      → has_ask w ≡ false → has_run w ≡ false → ShowsSame v w → Lists cap c.cell.log c.cell.taken c.cell.item beyond → Lies cap (c.cell.log ++ beyond.placed) (length c.cell.taken) (length c.cell.taken + length c.cell.item) beyond.free homes
      → (c.cell.away ≡ false → LodgesAt told cap c.cell.world.runner c.cell.taken c.cell.world.own c.cell.answers homes)
      → AsProducer cap c.cell.answers.order c.cell.log c.cell.world.given beyond (is_over c.cell.world.runner) c.cell.flags.closing c.cell.flags.state (shown_room (has_room c.cell.world)) w
      → CellRule told cap (record { words = set s.words (place cap Word.Head) (slice_index s.words (place cap Word.Head)); homes = homes; views = set s.views id w })
  room_kept s c id v w beyond homes at is may asks runs same lists lies lodges knows = record {
    cell = record c.cell { world = after Room c.cell.world; beyond = beyond };
    reached = reached_more Room id v w c.reached may at (inl is.0) same (stays_same c.cell.world.runner);
    lists = lists;
    shows = record { sized = c.shows.sized; accepted = c.shows.accepted; given = c.shows.given; none_out = c.shows.none_out; started = c.shows.started; new = c.shows.new; causes = c.shows.causes; home = c.shows.home; settled = c.shows.settled };
    reads = c.reads;
    words = head_loaded _ _ _ _ _ _ c.words;
    lies = lies;
    lodges = lodges;
    producers = mine has_put c.cell.producer _ _ s.views id v w c.producers at is.0 knows;
    handles = other has_ask c.cell.handle _ _ s.views id w c.handles asks (λ d k. k);
    runners = other has_run c.cell.runner _ _ s.views id w c.runners runs (λ d k. k);
  }

  -- what a look finds, in plain numbers
  record Found (v : View) (found given : ℕ) (ended : Bool) : Type 0 where
    pub found_is : found ≡ marked ended given
    pub small : given < MARK
    pub grows : v.seen ≤ given
    pub put : given ≤ length v.put
    pub fits : length v.put ≤ given + v.capacity
    pub stays : v.over ≡ true → ended ≡ true

  finds : (s : State (Held B) View) (c : CellRule told cap s) (id : ℕ) (v : View) → get_elem? s.views id ≡ some v → v.puts ≡ true
      → Found v (slice_index s.words (place cap Word.Head)) c.cell.world.given (is_over c.cell.world.runner)
  finds s c id v at puts =
      let k = (c.producers id v at puts).1 in
      let kept = reached_kept c.reached in
      let taken : c.cell.world.given ≤ c.cell.world.accepted = kept.taken in
      let fits : c.cell.world.accepted ≤ c.cell.world.given + c.cell.world.capacity = kept.fits in
      let asked : c.cell.world.given ≤ total_after c.cell.world.asked c.cell.world.own = kept.requested in
      let put_is : length v.put ≡ length c.cell.log = ap length k.put in
      let accepted : c.cell.world.accepted ≡ length c.cell.log = c.shows.accepted in
      let sized : c.cell.world.capacity ≡ cap = c.shows.sized in
      let own : v.capacity ≡ cap = k.sized in
      let seen : v.seen ≤ c.cell.world.given = k.seen in
      record { found_is = head_at _ _ _ _ _ _ c.words; small = omega arith; grows = seen; put = omega arith; fits = omega arith; stays = k.over }

  -- if there is room, by the numbers
  room_there : (w : Parts) → is_over w.runner ≡ false → w.accepted < w.given + w.capacity → w.given ≤ w.accepted
      → shown_room (has_room w) ≡ HasRoom
  room_there w goes room below = by (has_room w) refl where
    by : (b : Bool) → has_room w ≡ b → shown_room b ≡ HasRoom
    by true e = refl
    by false e = (let full : w.capacity ≤ w.accepted - w.given = room_missing w goes (ap shown_room e) in absurd (omega arith))

  none_there : (w : Parts) → w.given + w.capacity ≤ w.accepted → shown_room (has_room w) ≡ Free
  none_there w full = by (has_room w) refl where
    by : (b : Bool) → has_room w ≡ b → shown_room b ≡ Free
    by true e = (let low = (room_found w (ap shown_room e)).1 in absurd (omega arith))
    by false e = refl

module _ {B : Type 0} (told : B → List Signal) (cap : ℕ) (s : State (Held B) View) (c : CellRule told cap s) (id : ℕ) (v : View) (more : List (ℕ × Held B)) (at : get_elem? s.views id ≡ some v)
    (is : IsProducer v) (none_out : v.places ≡ 0) (none_placed : v.placed ≡ []) (begins : MayBegin v.producing) where
  abbrev looked : Producing → ℕ → View
  looked producing places = after_look v c.cell.world.given (is_over c.cell.world.runner) producing places

  knows : (p : Producing) (places : ℕ) (beyond : Beyond) → shown_room (has_room c.cell.world) ≡ p → v.placed ≡ beyond.placed
      → beyond.free ≡ length c.cell.log + length beyond.placed + places
      → AsProducer cap c.cell.answers.order c.cell.log c.cell.world.given beyond (is_over c.cell.world.runner) c.cell.flags.closing c.cell.flags.state (shown_room (has_room c.cell.world)) (looked p places)
  knows p places beyond shown laid is_free =
      let k = (c.producers id v at is.0).1 in
      record { sized = k.sized; ordered = k.ordered; put = k.put; seen = omega arith; laid = laid; places = is_free; over = λ e. e; closed = k.closed; doubled = k.doubled; stands = sym shown }

  may : MayBegin c.cell.world.producer
  may = subst MayBegin (c.producers id v at is.0).1.stands begins

  -- nothing lies beyond tail
  none_laid : length c.cell.beyond.placed ≡ 0
  none_laid = ap length (sym (c.producers id v at is.0).1.laid ∙ none_placed)

  laid_is : length (c.cell.log ++ c.cell.beyond.placed) ≡ length c.cell.log
  laid_is = let none = none_laid in let longer : length (c.cell.log ++ c.cell.beyond.placed) ≡ length c.cell.log + length c.cell.beyond.placed = length-append c.cell.log c.cell.beyond.placed in omega arith

  free_is : c.cell.beyond.free ≡ length (c.cell.log ++ c.cell.beyond.placed)
  free_is = let places = (c.producers id v at is.0).1.places in let none = none_laid in let laid = laid_is in omega arith

  slot_is : length v.put % v.capacity ≡ length (c.cell.log ++ c.cell.beyond.placed) % cap
  slot_is = let k = (c.producers id v at is.0).1 in ap (λ (l : List Item). length l % v.capacity) k.put ∙ ap (λ (m : ℕ). length c.cell.log % m) k.sized ∙ ap (λ (m : ℕ). m % cap) (sym laid_is)

  -- no slot is taken
  stays : (p : Producing) → shown_room (has_room c.cell.world) ≡ p
      → CellRule told cap (record { words = set s.words (place cap Word.Head) (slice_index s.words (place cap Word.Head)); homes = s.homes; views = set s.views id (looked p 0) })
  stays p shown =
      let k = (c.producers id v at is.0).1 in
      let places = k.places in
      room_kept told cap s c id v (looked p 0) c.cell.beyond s.homes at is may is.1 is.2 (refl, refl, refl) c.lists c.lies c.lodges (knows p 0 c.cell.beyond shown k.laid (omega arith))

  -- the next slot is
  takes_place : length c.cell.log < length c.cell.taken + cap → shown_room (has_room c.cell.world) ≡ HasRoom
      → CellRule told cap (record { words = set s.words (place cap Word.Head) (slice_index s.words (place cap Word.Head)); homes = set s.homes (length v.put % v.capacity) slot.none; views = set s.views id (looked HasRoom 1) })
  takes_place room shown =
      let within : length c.cell.taken + length c.cell.item ≤ length c.cell.log = c.lists.within in
      let l = c.lists in
      let k = (c.producers id v at is.0).1 in
      let none = none_laid in
      let laid = laid_is in
      let beyond : Beyond = record { placed = c.cell.beyond.placed; free = length (c.cell.log ++ c.cell.beyond.placed) + 1 } in
      room_kept told cap s c id v (looked HasRoom 1) beyond (set s.homes (length v.put % v.capacity) slot.none) at is may is.1 is.2 (refl, refl, refl)
      (record { sized = l.sized; begins = l.begins; one_out = l.one_out; within = l.within; above = omega arith; below = omega arith })
      (lies_room cap (c.cell.log ++ c.cell.beyond.placed) s.homes (length c.cell.taken) (length c.cell.taken + length c.cell.item) (length v.put % v.capacity) l.sized (omega arith) (omega arith) (omega arith) slot_is
      (subst (λ (m : ℕ). Lies cap (c.cell.log ++ c.cell.beyond.placed) (length c.cell.taken) (length c.cell.taken + length c.cell.item) m s.homes) free_is c.lies))
      (λ e. lodges_else told cap c.cell.world.runner c.cell.taken c.cell.world.own c.cell.answers s.homes (set s.homes (length v.put % v.capacity) slot.none) (λ x at. stays_home cap (c.cell.log ++ c.cell.beyond.placed) s.homes (length v.put % v.capacity) (length (c.cell.log ++ c.cell.beyond.placed)) slot.none x l.sized slot_is at) (c.lodges e))
      (knows HasRoom 1 beyond shown k.laid (omega arith))

  abbrev Outcome : Type 0
  Outcome = (w : View) × (a : Act (Held B)) × Valid s.homes more a × CellRule told cap (stepped s (place cap Word.Head) (slice_index s.words (place cap Word.Head)) id more w a) × FindsRoom (v, more) (slice_index s.words (place cap Word.Head)) (w, carried_after more a)

  decides : (over : Bool) → is_over c.cell.world.runner ≡ over → Outcome
  decides true e =
      let f = finds told cap s c id v at is.0 in (
        looked Free 0,
        keeps,
        tt,
        stays Free (room_of_ended c.cell.world e),
        record { head = c.cell.world.given; ended = is_over c.cell.world.runner; found_is = f.found_is; small = f.small; grows = f.grows; put = f.put; fits = f.fits; stays = f.stays; gone = λ _. refl; full = λ goes. absurd (true≢false (sym e ∙ goes)); room = λ goes. absurd (true≢false (sym e ∙ goes)); sized = refl; ordered = refl },
      )
  decides false e =
      let f = finds told cap s c id v at is.0 in
      let k = (c.producers id v at is.0).1 in
      let kept = reached_kept c.reached in
      let below : c.cell.world.given ≤ c.cell.world.accepted = kept.taken in
      let put_is : length v.put ≡ length c.cell.log = ap length k.put in
      let accepted : c.cell.world.accepted ≡ length c.cell.log = c.shows.accepted in
      let given : c.cell.world.given ≡ length c.cell.taken = c.shows.given in
      let sized : c.cell.world.capacity ≡ cap = c.shows.sized in
      let own : v.capacity ≡ cap = k.sized in
      dite (dec_lt (length c.cell.log) (length c.cell.taken + cap))
      (λ room. (
        looked HasRoom 1,
        takes (length v.put % v.capacity) Held.Empty,
        ap (λ (j : ℕ). get_elem? s.homes j) slot_is ∙ c.lies.places (length (c.cell.log ++ c.cell.beyond.placed)) (let free = free_is in omega arith) (let laid = laid_is in omega arith),
        takes_place room (room_there told cap c.cell.world e (omega arith) below),
        record { head = c.cell.world.given; ended = is_over c.cell.world.runner; found_is = f.found_is; small = f.small; grows = f.grows; put = f.put; fits = f.fits; stays = f.stays; gone = λ ends. absurd (true≢false (sym ends ∙ e)); full = λ _ all. absurd (omega arith); room = λ _ _. refl; sized = refl; ordered = refl },
      ))
      (λ more_put. (
        looked Free 0,
        keeps,
        tt,
        stays Free (none_there told cap c.cell.world (omega (arith, more_put))),
        record { head = c.cell.world.given; ended = is_over c.cell.world.runner; found_is = f.found_is; small = f.small; grows = f.grows; put = f.put; fits = f.fits; stays = f.stays; gone = λ _. refl; full = λ _ _. refl; room = λ _ low. absurd (omega (arith, more_put)); sized = refl; ordered = refl },
      ))

  begun : (b : Bool) → (shown_room b ≡ Free) ⊎ (shown_room b ≡ HasRoom)
  begun true = inr refl
  begun false = inl refl

  abbrev Standing : Type 0
  Standing = (w : View) × (a : Act (Held B)) × Valid s.homes more a × CellRule told cap (stepped s (place cap Word.Head) (slice_index s.words (place cap Word.Head)) id more w a) × FindsHead (v, more) (slice_index s.words (place cap Word.Head)) (w, carried_after more a)

  stand_here : Standing
  stand_here =
      let f = finds told cap s c id v at is.0 in (
        looked (shown_room (has_room c.cell.world)) 0,
        keeps,
        tt,
        stays (shown_room (has_room c.cell.world)) refl,
        record { head = c.cell.world.given; ended = is_over c.cell.world.runner; producing = shown_room (has_room c.cell.world); found_is = f.found_is; small = f.small; grows = f.grows; put = f.put; fits = f.fits; stays = f.stays; begins = begun (has_room c.cell.world); looked = refl },
      )

module _ {B : Type 0} (told : B → List Signal) where
  -- a load of head takes the next slot out if it is free
  pub rooms : (cap n id : ℕ) (me : SeatOf B) → IsProducer me.0 → me.0.places ≡ 0 → me.0.placed ≡ [] → MayBegin me.0.producing
      → Allows (CellRule told cap) n id me (place cap Word.Head) (λ n. n) (FindsRoom me)
  rooms cap n id me is none_out none_placed begins s c wide at small = decides told cap s c id me.0 me.1 at is none_out none_placed begins (is_over c.cell.world.runner) refl

  -- a load of head
  pub stands : (cap n id : ℕ) (me : SeatOf B) → IsProducer me.0 → me.0.places ≡ 0 → me.0.placed ≡ [] → MayBegin me.0.producing
      → Allows (CellRule told cap) n id me (place cap Word.Head) (λ n. n) (FindsHead me)
  stands cap n id me is none_out none_placed begins s c wide at small = stand_here told cap s c id me.0 me.1 at is none_out none_placed begins
