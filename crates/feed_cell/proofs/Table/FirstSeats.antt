-- How a subscription's table starts, how its maker's seat becomes three, and how the first task takes its subscriber
-- with it.
use Rattle.std.proofs.Common.{◌≡◌, ℕ, ◌+◌, ◌-◌, ◌%◌, bit_and, ◌<◌, ◌≤◌, true, false, List, [], ◌∷◌, length, map, replicate, set, None, sym, refl, ap, ◌∙◌, subst, mod-lt, min, arith, inl, inr, ◌++◌}
use Rattle.std.proofs.lemmas.List.{length-map, length-replicate}
use Rattle.std.proofs.lemmas.Nat.{and_mask}
use Rattle.std.specs.Int.{IsPowerOfTwo}
use mathlib.Core.Option.{some, none, some-ne-none}
use lib.ListN.{get_elem?}
use Rattle.atomic_table.proofs.Lists.{at_map}
use Rattle.atomic_table.specs.Table.{opening, takes, Allows, Splits}
use Rattle.feed_core.specs.Cause.{no_causes_in}
use Rattle.feed_core.specs.Prelude.{ErrorOrder, Signal}
use Rattle.feed_core.specs.LaneCalls.{IsCapacity}
use Rattle.feed_core.specs.World.Runs.{made}
use Rattle.feed_cell.specs.Types.{Free, Idle, Runner, Fresh}
use Rattle.feed_cell.proofs.Table.Lists.{at_replicate}
use Rattle.feed_cell.proofs.Table.Outlooks.{reached_made, reached_too, reached_with}
use Rattle.feed_cell.proofs.Table.Places.{lies_guest}
use Rattle.feed_cell.proofs.Table.Seats.{alone, mine, other, added, moved}
use Rattle.feed_cell.specs.Cell.{Lies, CellRule, AsProducer, AsHandle, AsRunner, LodgesAt, words_by}
use Rattle.feed_cell.specs.Parties.{IsUngreeted}
use Rattle.feed_cell.specs.Seats.{SeatOf}
use Rattle.feed_cell.specs.TaskPlays.{Enters}
use Rattle.feed_cell.specs.HandleSteps.{IsHandleOf}
use Rattle.feed_cell.specs.ProducerSteps.{IsProducerOf}
use Rattle.feed_cell.specs.Views.{IsRunner, RunsFree, first_view, has_put, has_ask, has_run, without_asking, asking_alone, without_running, running_alone}
use Rattle.feed_cell.specs.declared.cell.Held.{Held}
use Rattle.feed_cell.specs.declared.cell.View.{View}
use Rattle.feed_cell.specs.WordPlaces.{place}
use Rattle.feed_cell.specs.declared.cell.words.Word.{Word}
use Rattle.feed_cell.proofs.Words.FourWords.{control_loaded}

-- a capacity is positive
pub holds_one : (cap : ℕ) → IsCapacity cap → 0 < cap
holds_one cap capacity =
    let positive : 0 < capacity.0 = capacity.1 in
    let covers : min capacity.0 65536 ≤ cap = capacity.2.covers in
    omega arith

-- a mask leaves of a number its remainder by the capacity, which is a power of two
pub masks : (cap : ℕ) → IsCapacity cap → (number : ℕ) → bit_and number (cap - 1) ≡ number % cap
masks cap capacity number =
    let power : IsPowerOfTwo cap = capacity.2.power in
    subst (λ (c : ℕ). bit_and number (c - 1) ≡ number % c) (sym power.1) (and_mask number power.0)

module _ {B : Type 0} (told : B → List Signal) where
  -- the table at the start
  pub opens : (cap : ℕ) (order : ErrorOrder) → IsCapacity cap
      → CellRule told cap (opening (words_by cap 0 0 0 1) (replicate (cap + 1) Held.Empty) (first_view cap order))
  opens cap order capacity =
      let sized : 0 < cap = holds_one cap capacity in
      let slots : List (Held B) = replicate (cap + 1) Held.Empty in
      let home : (k : ℕ) → k < cap + 1 → get_elem? (map some slots) k ≡ some (some Held.Empty) = λ k within. at_map some slots k Held.Empty (at_replicate (cap + 1) Held.Empty k within) in
      record {
        cell = record {
          world = made cap order;
          log = [];
          taken = [];
          item = [];
          beyond = record { placed = []; free = 0 };
          control = 1;
          flags = record { run = true; active = false; cancel = false; argument = false; state = false; closing = None };
          answers = no_causes_in order;
          away = false;
          left = false;
          producer = 0;
          handle = 0;
          runner = 0;
        };
        reached = reached_made cap order capacity;
        lists = record { sized = sized; begins = refl; one_out = omega arith; within = omega arith; above = omega arith; below = omega arith };
        shows = record { sized = refl; accepted = refl; given = refl; none_out = λ _. refl; started = refl; new = refl; causes = refl; home = λ _. refl; settled = λ e. refl };
        reads = record { run = refl; active = refl; cancel = refl; argument = refl; state = refl; error = refl; complete = refl; code = refl };
        words = refl;
        lies = record {
          wide = length-map slots some ∙ length-replicate (cap + 1) Held.Empty;
          items = λ k x from at. absurd (some-ne-none x (sym at));
          places = λ k from to. home (k % cap) (let low : k % cap < cap = mod-lt k sized in omega arith);
        };
        lodges = λ _. home cap (omega arith);
        producers = alone has_put (AsProducer cap order [] 0 (record { placed = []; free = 0 }) false None false Free) (first_view cap order) (record { sized = refl; ordered = refl; put = refl; seen = omega arith; laid = refl; places = refl; over = λ e. cc; closed = refl; doubled = refl; stands = refl });
        handles = alone has_ask (AsHandle cap order 0 false false false Idle) (first_view cap order) (record { sized = refl; ordered = refl; total = refl; cancels = refl; bad = refl; leaves = refl; stands = refl });
        runners = alone has_run (AsRunner cap Fresh false 1 false [] [] 0 (no_causes_in order) 0 0) (first_view cap order)
            (record { sized = refl; ordered = refl; seated = refl; stands = refl; out = refl; knows = λ e. cc; fresh = λ _. record { taken_is = refl; own_is = refl; answers_are = refl }; item_is = refl; latest = λ e. cc; saw_put = omega arith; saw_asked = omega arith });
      }

  -- the first task gets a seat of its own
  pub splits_runner : (cap id : ℕ) (v : View) → v.puts ≡ true → v.asks ≡ true → v.runs ≡ true
      → Splits (CellRule told cap) id v (without_running v) (running_alone v)
  splits_runner cap id v puts asks runs s c at =
      let p = (c.producers id v at puts).1 in
      let h = (c.handles id v at asks).1 in
      let r = (c.runners id v at runs).1 in
      record {
        cell = record c.cell { runner = length s.views };
        reached = reached_with (running_alone v) (reached_too id v (without_running v) c.reached at (inl puts) (refl, refl, refl)) (c.reached.goes id v at (inl puts)) refl refl;
        lists = c.lists;
        shows = c.shows;
        reads = c.reads;
        words = c.words;
        lies = c.lies;
        lodges = c.lodges;
        producers = added has_put c.cell.producer _ (set s.views id (without_running v)) (running_alone v)
            (mine has_put c.cell.producer _ _ s.views id v (without_running v) c.producers at puts (record { sized = p.sized; ordered = p.ordered; put = p.put; seen = p.seen; laid = p.laid; places = p.places; over = p.over; closed = p.closed; doubled = p.doubled; stands = p.stands })) refl;
        handles = added has_ask c.cell.handle _ (set s.views id (without_running v)) (running_alone v)
            (mine has_ask c.cell.handle _ _ s.views id v (without_running v) c.handles at asks (record { sized = h.sized; ordered = h.ordered; total = h.total; cancels = h.cancels; bad = h.bad; leaves = h.leaves; stands = h.stands })) refl;
        runners = moved has_run c.cell.runner _ _ s.views id v (without_running v) (running_alone v) c.runners at runs refl
            (record { sized = r.sized; ordered = r.ordered; seated = r.seated; stands = r.stands; out = r.out; knows = λ e. (let k = r.knows e in record { taken_is = k.taken_is; own_is = k.own_is; answers_are = k.answers_are }); fresh = λ e. (let k = r.fresh e in record { taken_is = k.taken_is; own_is = k.own_is; answers_are = k.answers_are }); item_is = r.item_is; latest = r.latest; saw_put = r.saw_put; saw_asked = r.saw_asked });
      }

  -- the handle gets a seat of its own
  pub splits_handle : (cap id : ℕ) (v : View) → v.puts ≡ true → v.asks ≡ true → v.runs ≡ false
      → Splits (CellRule told cap) id v (without_asking v) (asking_alone v)
  splits_handle cap id v puts asks runs s c at =
      let p = (c.producers id v at puts).1 in
      let h = (c.handles id v at asks).1 in
      record {
        cell = record c.cell { handle = length s.views };
        reached = reached_with (asking_alone v) (reached_too id v (without_asking v) c.reached at (inl puts) (refl, refl, refl)) (c.reached.goes id v at (inl puts)) refl refl;
        lists = c.lists;
        shows = c.shows;
        reads = c.reads;
        words = c.words;
        lies = c.lies;
        lodges = c.lodges;
        producers = added has_put c.cell.producer _ (set s.views id (without_asking v)) (asking_alone v)
            (mine has_put c.cell.producer _ _ s.views id v (without_asking v) c.producers at puts (record { sized = p.sized; ordered = p.ordered; put = p.put; seen = p.seen; laid = p.laid; places = p.places; over = p.over; closed = p.closed; doubled = p.doubled; stands = p.stands })) refl;
        handles = moved has_ask c.cell.handle _ _ s.views id v (without_asking v) (asking_alone v) c.handles at asks refl
            (record { sized = h.sized; ordered = h.ordered; total = h.total; cancels = h.cancels; bad = h.bad; leaves = h.leaves; stands = h.stands });
        runners = added has_run c.cell.runner _ (set s.views id (without_asking v)) (asking_alone v)
            (other has_run c.cell.runner _ _ s.views id (without_asking v) c.runners runs (λ d k. k)) refl;
      }

  -- a load takes the subscriber's slot out
  pub enters : (cap n id : ℕ) (v : View) (more : List (ℕ × Held B)) → IsRunner v → v.runner ≡ Fresh → v.away ≡ false
      → Allows (CellRule told cap) n id (v, more) (place cap Word.Control) (λ n. n) (λ _. Enters (v, more))
  enters cap n id v more is fresh home s c wide at small =
      let k = (c.runners id v at is.2).1 in
      let stage : c.cell.world.runner ≡ Fresh = sym k.stands ∙ fresh in
      let inside : c.cell.away ≡ false = sym k.out ∙ home in
      let vacant : LodgesAt told cap Fresh c.cell.taken c.cell.world.own c.cell.answers s.homes = subst (λ (r : Runner). LodgesAt told cap r c.cell.taken c.cell.world.own c.cell.answers s.homes) stage (c.lodges inside) in
      let knows = k.fresh stage in
      let w : View = record v { away = true } in (
        w,
        takes v.capacity Held.Empty,
        ap (λ (j : ℕ). get_elem? s.homes j) k.sized ∙ vacant,
        record {
          cell = record c.cell { away = true };
          reached = reached_too id v w c.reached at (inr (inr is.2)) (refl, refl, refl);
          lists = c.lists;
          shows = record { sized = c.shows.sized; accepted = c.shows.accepted; given = c.shows.given; none_out = c.shows.none_out; started = c.shows.started; new = c.shows.new; causes = c.shows.causes; home = λ e. (let h = k.seated in cc); settled = c.shows.settled };
          reads = c.reads;
          words = control_loaded _ _ _ _ _ _ c.words;
          lies = subst (λ (j : ℕ). Lies cap (c.cell.log ++ c.cell.beyond.placed) (length c.cell.taken) (length c.cell.taken + length c.cell.item) c.cell.beyond.free (set s.homes j none)) (sym k.sized)
              (lies_guest cap (c.cell.log ++ c.cell.beyond.placed) s.homes (length c.cell.taken) (length c.cell.taken + length c.cell.item) c.cell.beyond.free none c.lists.sized c.lies);
          lodges = λ e. cc;
          producers = other has_put c.cell.producer _ _ s.views id w c.producers is.0 (λ d p. p);
          handles = other has_ask c.cell.handle _ _ s.views id w c.handles is.1 (λ d h. h);
          runners = mine has_run c.cell.runner _ _ s.views id v w c.runners at is.2
              (record { sized = k.sized; ordered = k.ordered; seated = k.seated; stands = k.stands; out = refl; knows = λ _. record { taken_is = knows.taken_is; own_is = knows.own_is; answers_are = knows.answers_are }; fresh = λ _. record { taken_is = knows.taken_is; own_is = knows.own_is; answers_are = knows.answers_are }; item_is = k.item_is; latest = k.latest; saw_put = k.saw_put; saw_asked = k.saw_asked });
        },
        refl,
      )

  -- the first task, with its subscriber placed in the slot
  lodged : (v : View) (order : ErrorOrder) (b : B) (me : SeatOf B) → v.runner ≡ Fresh → v.taken ≡ [] → v.own ≡ 0
      → v.answers ≡ no_causes_in order → told b ≡ []
      → me ≡ (record v { away = true }, (v.capacity, Held.Guest (record { subscriber = b; given = 0; own = 0; answers = no_causes_in order; how = None })) ∷ []) → IsUngreeted told me
  lodged v order b me stage taken own answers untold is = subst (λ (m : SeatOf B). IsUngreeted told m) (sym is) (record {
    guest = record { subscriber = b; given = 0; own = 0; answers = no_causes_in order; how = None };
    slot = refl;
    away = refl;
    stage = stage;
    taken = taken;
    untold = untold;
    given = refl;
    own = sym own;
    answers = sym answers;
    how = refl;
  })

  -- the producer's seat at first
  pub producer_first : (capacity : ℕ) (order : ErrorOrder) (maker left me : SeatOf B) → maker ≡ (first_view capacity order, [])
      → left ≡ (without_running maker.0, maker.1) → me ≡ (without_asking left.0, left.1)
      → (me.0.capacity ≡ capacity) × IsProducerOf 0 None me
  producer_first capacity order maker left me made left_is me_is =
      let is : me ≡ (without_asking (without_running (first_view capacity order)), []) = me_is ∙ ap (λ (m : SeatOf B). (without_asking m.0, m.1)) left_is ∙ ap (λ (m : SeatOf B). (without_asking (without_running m.0), m.1)) made in
      (ap (λ (m : SeatOf B). m.0.capacity) is, subst (λ (m : SeatOf B). IsProducerOf 0 None m) (sym is) (record { may = record { is = (refl, refl, refl); none_out = refl; none_placed = refl; begins = inl refl }; no_slot = refl; closed = refl; counted = refl }))

  -- the handle
  pub handle_first : (capacity : ℕ) (order : ErrorOrder) (maker left me : SeatOf B) → maker ≡ (first_view capacity order, [])
      → left ≡ (without_running maker.0, maker.1) → me ≡ (asking_alone left.0, []) → (me.0.capacity ≡ capacity) × IsHandleOf 0 false me
  handle_first capacity order maker left me made left_is me_is =
      let is : me ≡ (asking_alone (without_running (first_view capacity order)), []) = me_is ∙ ap (λ (m : SeatOf B). (asking_alone m.0, [])) left_is ∙ ap (λ (m : SeatOf B). (asking_alone (without_running m.0), [])) made in
      (ap (λ (m : SeatOf B). m.0.capacity) is, subst (λ (m : SeatOf B). IsHandleOf 0 false m) (sym is) (record { may = record { is = (refl, refl, refl); idle = refl; stays = refl }; no_slot = refl; counted = refl; bounded = omega arith; cancels = refl }))

  -- the seat of the first task, with its subscriber placed in the slot
  pub task_first : (capacity : ℕ) (order : ErrorOrder) (b : B) (maker run me : SeatOf B) → maker ≡ (first_view capacity order, [])
      → run ≡ (running_alone maker.0, []) → told b ≡ []
      → me ≡ (record run.0 { away = true }, (run.0.capacity, Held.Guest (record { subscriber = b; given = 0; own = 0; answers = no_causes_in order; how = None })) ∷ [])
      → RunsFree me.0 × IsUngreeted told me
  task_first capacity order b maker run me made run_is untold me_is =
      let is : run ≡ (running_alone (first_view capacity order), []) = run_is ∙ ap (λ (m : SeatOf B). (running_alone m.0, [])) made in
      let view : me.0 ≡ record (running_alone (first_view capacity order)) { away = true } = ap (λ (m : SeatOf B). m.0) me_is ∙ ap (λ (m : SeatOf B). record m.0 { away = true }) is in (
        subst (λ (v : View). RunsFree v) (sym view) ((refl, refl, refl), refl),
        lodged run.0 order b me (ap (λ (m : SeatOf B). m.0.runner) is) (ap (λ (m : SeatOf B). m.0.taken) is) (ap (λ (m : SeatOf B). m.0.own) is) (ap (λ (m : SeatOf B). m.0.answers) is) untold me_is,
      )
