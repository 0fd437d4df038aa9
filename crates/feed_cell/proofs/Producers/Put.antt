-- The producer's load of tail, which places an item, and its store of tail, which puts all that are placed.
use Rattle.std.proofs.Common.{◌≡◌, ℕ, ◌+◌, ◌%◌, ◌<◌, ◌≤◌, List, [], ◌∷◌, ◌++◌, length, set, None, sym, refl, ap, ap₂, ◌∙◌, subst, length-append, append-nil, append_assoc, arith, inl}
use Rattle.std.proofs.lemmas.List.{take-append-le}
use mathlib.Core.Option.{some, none}
use lib.ListN.{get_elem?}
use Rattle.atomic_table.specs.Table.{takes, gives, chain, Allows, rest}
use Rattle.feed_core.specs.Prelude.{Item, Signal}
use Rattle.feed_core.specs.World.Table.{is_over}
use Rattle.feed_cell.specs.Types.{HasRoom, HasPut}
use Rattle.feed_cell.proofs.Table.Outlooks.{with_put, reached_puts, reached_too}
use Rattle.feed_cell.proofs.Table.Places.{lies_put, lies_room, stays_home}
use Rattle.feed_cell.proofs.Table.Seats.{mine, other}
use Rattle.feed_cell.proofs.Tasks.Stages.{lodges_else}
use Rattle.feed_cell.specs.Cell.{Beyond, Lies, CellRule, words_by}
use Rattle.feed_cell.specs.Control.{marked}
use Rattle.feed_cell.specs.ProducerSteps.{IsPlaced, IsPut, HasFreeSlot, HasRoomBehind, next_slot}
use Rattle.feed_cell.specs.Seats.{SeatOf}
use Rattle.feed_cell.specs.Views.{IsProducer, has_put, has_ask, has_run}
use Rattle.feed_cell.specs.declared.cell.Held.{Held}
use Rattle.feed_cell.specs.declared.cell.View.{View}
use Rattle.feed_cell.specs.WordPlaces.{place}
use Rattle.feed_cell.specs.declared.cell.words.Word.{Word}
use Rattle.feed_cell.proofs.Words.FourWords.{tail_loaded, tail_stored}

module _ {B : Type 0} (told : B → List Signal) where
  -- a load of tail gives the slot back with its item, and takes the slot after it out
  pub places_item : (cap n id : ℕ) (v : View) (i : ℕ) (x : Item) (more : List (ℕ × Held B)) → IsProducer v → v.places ≡ 1
      → i ≡ next_slot v → length v.put + length v.placed + 1 < v.seen + v.capacity
      → Allows (CellRule told cap) n id (v, (i, Held.Item x) ∷ more) (place cap Word.Tail) (λ n. n) (λ _. IsPlaced (v, (i, Held.Item x) ∷ more))
  places_item cap n id v i x more is one slot_at behind s c wide at small =
      let k = (c.producers id v at is.0).1 in
      let p = c.cell.world in
      let laid : List Item = c.cell.log ++ c.cell.beyond.placed in
      let placed : List Item = c.cell.beyond.placed ++ x ∷ [] in
      let laid_is : length laid ≡ length c.cell.log + length c.cell.beyond.placed = length-append c.cell.log c.cell.beyond.placed in
      let longer : length placed ≡ length c.cell.beyond.placed + 1 = length-append c.cell.beyond.placed (x ∷ []) in
      let count : length (laid ++ x ∷ []) ≡ length laid + 1 = length-append laid (x ∷ []) in
      let put_is : length v.put ≡ length c.cell.log = ap length k.put in
      let placed_is : length v.placed ≡ length c.cell.beyond.placed = ap length k.laid in
      let sized : v.capacity ≡ cap = k.sized in
      let slot_is : i ≡ length laid % cap = slot_at ∙ ap₂ (λ (a b : ℕ). a % b) (omega arith) sized in
      let j : ℕ = (length v.put + length v.placed + 1) % v.capacity in
      let next_is : j ≡ length (laid ++ x ∷ []) % cap = ap₂ (λ (a b : ℕ). a % b) (omega arith) sized in
      let within : length c.cell.taken + length c.cell.item ≤ length c.cell.log = c.lists.within in
      let seen : v.seen ≤ p.given = k.seen in
      let given : p.given ≡ length c.cell.taken = c.shows.given in
      let places = k.places in
      let free_is : c.cell.beyond.free ≡ length laid + 1 = omega arith in
      let beyond : Beyond = record { placed = placed; free = length (laid ++ x ∷ []) + 1 } in
      let w : View = record v { placed = v.placed ++ x ∷ [] } in
      let put_back : Lies cap (laid ++ x ∷ []) (length c.cell.taken) (length c.cell.taken + length c.cell.item) (length laid + 1) (set s.homes i (some (Held.Item x))) =
      lies_put cap laid s.homes (length c.cell.taken) (length c.cell.taken + length c.cell.item) i x c.lists.sized (omega arith) (omega arith) (omega arith) slot_is
      (subst (λ (m : ℕ). Lies cap laid (length c.cell.taken) (length c.cell.taken + length c.cell.item) m s.homes) free_is c.lies) in (
        w,
        chain gives (takes j Held.Empty),
        (tt, ap (λ (m : ℕ). get_elem? (set s.homes i (some (Held.Item x))) m) next_is ∙ put_back.places (length (laid ++ x ∷ [])) (omega arith) (omega arith)),
        record {
          cell = record c.cell { beyond = beyond };
          reached = reached_too id v w c.reached at (inl is.0) (refl, refl, refl);
          lists = record { sized = c.lists.sized; begins = c.lists.begins; one_out = c.lists.one_out; within = c.lists.within; above = omega arith; below = omega arith };
          shows = c.shows;
          reads = c.reads;
          words = tail_loaded _ _ _ _ _ _ c.words;
          lies = subst (λ (l : List Item). Lies cap l (length c.cell.taken) (length c.cell.taken + length c.cell.item) (length (laid ++ x ∷ []) + 1) (set (set s.homes i (some (Held.Item x))) j none)) (append_assoc c.cell.log c.cell.beyond.placed (x ∷ []))
              (lies_room cap (laid ++ x ∷ []) (set s.homes i (some (Held.Item x))) (length c.cell.taken) (length c.cell.taken + length c.cell.item) j c.lists.sized (omega arith) (omega arith) (omega arith) next_is
              (subst (λ (m : ℕ). Lies cap (laid ++ x ∷ []) (length c.cell.taken) (length c.cell.taken + length c.cell.item) m (set s.homes i (some (Held.Item x)))) (sym count) put_back));
          lodges = λ e. lodges_else told cap p.runner c.cell.taken p.own c.cell.answers s.homes (set (set s.homes i (some (Held.Item x))) j none)
              (λ y at. stays_home cap laid (set s.homes i (some (Held.Item x))) j (length (laid ++ x ∷ [])) none y c.lists.sized next_is (stays_home cap laid s.homes i (length laid) (some (Held.Item x)) y c.lists.sized slot_is at)) (c.lodges e);
          producers = mine has_put c.cell.producer _ _ s.views id v w c.producers at is.0
              (record { sized = k.sized; ordered = k.ordered; put = k.put; seen = k.seen; laid = ap (λ (l : List Item). l ++ x ∷ []) k.laid; places = omega arith; over = k.over; closed = k.closed; doubled = k.doubled; stands = k.stands });
          handles = other has_ask c.cell.handle _ _ s.views id w c.handles is.1 (λ d k. k);
          runners = other has_run c.cell.runner _ _ s.views id w c.runners is.2 (λ d k. k);
        },
        refl,
      )

  -- a store of tail gives the slot back, with the last item: all that are placed are put
  pub puts_item : (cap n id : ℕ) (v : View) (i new : ℕ) (x : Item) (more : List (ℕ × Held B)) → IsProducer v → v.producing ≡ HasRoom
      → v.places ≡ 1 → v.closing ≡ None → i ≡ next_slot v → new ≡ length v.put + length v.placed + 1
      → Allows (CellRule told cap) n id (v, (i, Held.Item x) ∷ more) (place cap Word.Tail) (λ _. new) (λ _. IsPut (v, (i, Held.Item x) ∷ more))
  puts_item cap n id v i new x more is stage one closed slot_at new_is s c wide at small =
      let k = (c.producers id v at is.0).1 in
      let p = c.cell.world in
      let laid : List Item = c.cell.log ++ c.cell.beyond.placed in
      let log : List Item = c.cell.log ++ (c.cell.beyond.placed ++ x ∷ []) in
      let laid_is : length laid ≡ length c.cell.log + length c.cell.beyond.placed = length-append c.cell.log c.cell.beyond.placed in
      let log_is : laid ++ x ∷ [] ≡ log = append_assoc c.cell.log c.cell.beyond.placed (x ∷ []) in
      let longer : length (laid ++ x ∷ []) ≡ length laid + 1 = length-append laid (x ∷ []) in
      let count : length log ≡ length laid + 1 = sym (ap length log_is) ∙ longer in
      let put_is : length v.put ≡ length c.cell.log = ap length k.put in
      let placed_is : length v.placed ≡ length c.cell.beyond.placed = ap length k.laid in
      let slot_is : i ≡ length laid % cap = slot_at ∙ ap₂ (λ (a b : ℕ). a % b) (omega arith) k.sized in
      let within : length c.cell.taken + length c.cell.item ≤ length c.cell.log = c.lists.within in
      let below : c.cell.beyond.free ≤ length c.cell.taken + cap = c.lists.below in
      let places = k.places in
      let free_is : c.cell.beyond.free ≡ length laid + 1 = omega arith in
      let accepted : p.accepted ≡ length c.cell.log = c.shows.accepted in
      let given : p.given ≡ length c.cell.taken = c.shows.given in
      let capacity : p.capacity ≡ cap = c.shows.sized in
      let stage_is : p.producer ≡ HasRoom = sym k.stands ∙ stage in
      let closing_is : p.causes.closing ≡ None = ap (λ z. z.closing) c.shows.causes ∙ sym k.closed ∙ closed in
      let m : ℕ = length c.cell.beyond.placed in
      let beyond : Beyond = record { placed = []; free = length laid + 1 } in
      let w : View = record v { put = v.put ++ (v.placed ++ x ∷ []); placed = []; producing = HasPut; places = 0 } in (
        w,
        gives,
        tt,
        record {
          cell = record c.cell { world = with_put (m + 1) p; log = log; beyond = beyond };
          reached = reached_puts m id v w c.reached stage_is closing_is (omega arith) at (inl is.0) (refl, refl, refl);
          lists = record { sized = c.lists.sized; begins = c.lists.begins ∙ sym (take-append-le (length c.cell.taken + length c.cell.item) c.cell.log (c.cell.beyond.placed ++ x ∷ []) within); one_out = c.lists.one_out; within = omega arith; above = omega arith; below = omega arith };
          shows = record { sized = c.shows.sized; accepted = omega arith; given = c.shows.given; none_out = c.shows.none_out; started = c.shows.started; new = c.shows.new; causes = c.shows.causes; home = c.shows.home; settled = c.shows.settled };
          reads = c.reads;
          words = tail_stored _ _ _ _ _ _ c.words new ∙ ap (λ (m : ℕ). words_by cap (marked (is_over p.runner) p.given) m (marked c.cell.left p.asked) c.cell.control) (omega arith);
          lies = subst (λ (l : List Item). Lies cap l (length c.cell.taken) (length c.cell.taken + length c.cell.item) (length laid + 1) (set s.homes i (some (Held.Item x)))) (log_is ∙ sym (append-nil log))
              (lies_put cap laid s.homes (length c.cell.taken) (length c.cell.taken + length c.cell.item) i x c.lists.sized (omega arith) (omega arith) (omega arith) slot_is
              (subst (λ (m : ℕ). Lies cap laid (length c.cell.taken) (length c.cell.taken + length c.cell.item) m s.homes) free_is c.lies));
          lodges = λ e. lodges_else told cap p.runner c.cell.taken p.own c.cell.answers s.homes (set s.homes i (some (Held.Item x))) (λ y at. stays_home cap laid s.homes i (length laid) (some (Held.Item x)) y c.lists.sized slot_is at) (c.lodges e);
          producers = mine has_put c.cell.producer _ _ s.views id v w c.producers at is.0
              (record { sized = k.sized; ordered = k.ordered; put = ap₂ (λ (a b : List Item). a ++ (b ++ x ∷ [])) k.put k.laid; seen = k.seen; laid = refl; places = omega arith; over = k.over; closed = k.closed; doubled = k.doubled; stands = refl });
          handles = other has_ask c.cell.handle _ _ s.views id w c.handles is.1 (λ d k. k);
          runners = other has_run c.cell.runner _ _ s.views id w c.runners is.2 (λ d k. k);
        },
        refl,
      )

  module _ (cap n id capacity number : ℕ) (before me : SeatOf B) (i : ℕ) (x : Item) (h : HasFreeSlot number before) (sized : before.0.capacity ≡ capacity) (here : me ≡ (before.0, (i, Held.Item x) ∷ rest before.1)) (slot_at : i ≡ number % capacity) where
    at_next : i ≡ next_slot before.0
    at_next = slot_at ∙ ap₂ (λ (a b : ℕ). a % b) (sym h.counted) (sym sized)

    -- the same, of a seat that has its item in the slot
    pub places_held : HasRoomBehind number before → Allows (CellRule told cap) n id me (place cap Word.Tail) (λ n. n) (λ _. IsPlaced me)
    places_held behind =
        let counted = h.counted in
        subst (λ (m : SeatOf B). Allows (CellRule told cap) n id m (place cap Word.Tail) (λ n. n) (λ _. IsPlaced m)) (sym here) (places_item cap n id before.0 i x (rest before.1) h.is h.one_out at_next (omega arith))

    pub puts_placed : (new : ℕ) → new ≡ number + 1 → Allows (CellRule told cap) n id me (place cap Word.Tail) (λ _. new) (λ _. IsPut me)
    puts_placed new new_is =
        let next : new ≡ length before.0.put + length before.0.placed + 1 = new_is ∙ ap (λ (m : ℕ). m + 1) (sym h.counted) in
        subst (λ (m : SeatOf B). Allows (CellRule told cap) n id m (place cap Word.Tail) (λ _. new) (λ _. IsPut m)) (sym here) (puts_item cap n id before.0 i new x (rest before.1) h.is h.stage h.one_out h.closing at_next next)
