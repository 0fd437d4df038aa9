-- The task's store of head.
use Rattle.std.proofs.Common.{◌≡◌, ℕ, ◌+◌, ◌%◌, ◌<◌, ◌≤◌, true, false, List, [], ◌∷◌, ◌++◌, length, take, set, sym, refl, ap, ◌∙◌, subst, length-append, append-nil, arith, inr, ⊎_elim}
use mathlib.Core.Option.{some}
use Rattle.atomic_table.specs.Table.{gives, Allows}
use Rattle.feed_core.specs.Prelude.{Item, Signal, total_after}
use Rattle.feed_core.specs.World.Table.{MaySee, MayTake, after}
use Rattle.feed_cell.specs.Types.{Take, TakeKnown, Taken}
use Rattle.feed_cell.proofs.Table.Outlooks.{reached_more}
use Rattle.feed_cell.proofs.Table.Places.{lies_taken}
use Rattle.feed_cell.proofs.Table.Seats.{mine, other}
use Rattle.feed_cell.proofs.Tasks.See.{lies_at}
use Rattle.feed_cell.proofs.Tasks.Stages.{seated}
use Rattle.feed_cell.proofs.Table.Tallies.{stays_on}
use Rattle.feed_cell.specs.Cell.{Lies, CellRule, KnowsAway, words_by}
use Rattle.feed_cell.specs.Control.{marked}
use Rattle.feed_cell.specs.Outlooks.{IsReachedBy}
use Rattle.feed_cell.specs.TaskPlays.{IsTake, MayTakeNow, MayTakeSoon, grants_by}
use Rattle.feed_cell.specs.Views.{IsRunner, has_put, has_ask, has_run}
use Rattle.feed_cell.specs.declared.cell.Held.{Held}
use Rattle.feed_cell.specs.declared.cell.View.{View}
use Rattle.feed_cell.specs.WordPlaces.{place}
use Rattle.feed_cell.specs.declared.cell.words.Word.{Word}
use Rattle.feed_cell.proofs.Words.FourWords.{head_stored}

module _ {B : Type 0} (told : B → List Signal) where
  -- a store of head gives the slot back, empty
  pub takes_item : (cap n id : ℕ) (v : View) (i new : ℕ) (x : Item) (more : List (ℕ × Held B)) → IsRunner v → v.away ≡ true
      → MayTakeNow v → v.item ≡ x ∷ [] → i ≡ length v.taken % v.capacity → new ≡ length v.taken + 1
      → Allows (CellRule told cap) n id (v, (i, Held.Empty) ∷ more) (place cap Word.Head) (λ _. new) (λ _. IsTake (v, (i, Held.Empty) ∷ more))
  takes_item cap n id v i new x more is out may one slot_at new_is s c wide at small =
      let k = (c.runners id v at is.2).1 in
      let p = c.cell.world in
      let know = k.knows (sym k.out ∙ out) in
      let taken_is : length v.taken ≡ length c.cell.taken = ap length know.taken_is in
      let given : p.given ≡ length c.cell.taken = c.shows.given in
      let same : length v.taken ≡ p.given = taken_is ∙ sym given in
      let seat = seated p.runner k.seated in
      let slot_is : i ≡ length c.cell.taken % cap = slot_at ∙ ap (λ (m : ℕ). m % v.capacity) taken_is ∙ ap (λ (m : ℕ). length c.cell.taken % m) k.sized in
      let item_is : v.item ≡ c.cell.item = k.item_is in
      let one_is : length c.cell.item ≡ 1 = ap length (sym item_is ∙ one) in
      let within : length c.cell.taken + length c.cell.item ≤ length c.cell.log = c.lists.within in
      let above : length c.cell.log + length c.cell.beyond.placed ≤ c.cell.beyond.free = c.lists.above in
      let below : c.cell.beyond.free ≤ length c.cell.taken + cap = c.lists.below in
      let laid : length (c.cell.log ++ c.cell.beyond.placed) ≡ length c.cell.log + length c.cell.beyond.placed = length-append c.cell.log c.cell.beyond.placed in
      let taken : List Item = c.cell.taken ++ c.cell.item in
      let longer : length taken ≡ length c.cell.taken + 1 = length-append c.cell.taken c.cell.item ∙ ap (λ (m : ℕ). length c.cell.taken + m) one_is in
      let w : View = record v { taken = v.taken ++ v.item; item = []; grants = v.grants ++ grants_by v.requested v.own v.runner; runner = Taken } in
      let knows : KnowsAway taken p.own c.cell.answers w = record { taken_is = ap (λ (l : List Item). l ++ v.item) know.taken_is ∙ ap (λ (l : List Item). c.cell.taken ++ l) item_is; own_is = know.own_is; answers_are = know.answers_are } in
      let stays = stays_on p.runner Taken seat.over refl (λ e. cc) in
      let measured : MayTake (length v.taken) v.runner → IsReachedBy (set s.views id w) (after Take p) =
      λ m. reached_more Take id v w c.reached (subst (MayTake p.given) k.stands (subst (λ (n : ℕ). MayTake n v.runner) same m)) at (inr (inr is.2)) (refl, refl, refl) stays in
      let saw_put : v.known_put ≤ p.known_put = k.saw_put in
      let saw_asked : v.requested ≤ p.known_asked = k.saw_asked in
      let own : v.own ≡ p.own = know.own_is in
      let soon : MayTakeSoon v → IsReachedBy (set s.views id w) (after Take p) =
      λ m. (let put : length v.taken < v.known_put = m.1 in let asked : length v.taken < total_after v.requested v.own = m.2 in reached_more TakeKnown id v w c.reached (subst MaySee k.stands m.0, omega arith, omega arith) at (inr (inr is.2)) (refl, refl, refl) stays) in (
        w,
        gives,
        tt,
        record {
          cell = record c.cell { world = after Take p; taken = taken; item = []; away = true };
          reached = ⊎_elim measured soon may;
          lists = record { sized = c.lists.sized; begins = append-nil taken ∙ c.lists.begins ∙ ap (λ (m : ℕ). take m c.cell.log) (omega arith); one_out = omega arith; within = omega arith; above = above; below = omega arith };
          shows = record { sized = c.shows.sized; accepted = c.shows.accepted; given = omega arith; none_out = λ _. refl; started = c.shows.started ∙ seat.runs; new = c.shows.new; causes = c.shows.causes; home = λ e. cc; settled = c.shows.settled };
          reads = c.reads;
          words = head_stored _ _ _ _ _ _ c.words new ∙ ap (λ (m : ℕ). words_by cap m p.accepted (marked c.cell.left p.asked) c.cell.control) (omega arith);
          lies = subst (λ (m : ℕ). Lies cap (c.cell.log ++ c.cell.beyond.placed) m (m + 0) c.cell.beyond.free (set s.homes i (some Held.Empty))) (sym longer)
              (lies_at cap (c.cell.log ++ c.cell.beyond.placed) (length c.cell.taken + 1) (length c.cell.taken + 1) (length c.cell.taken + 1 + 0) c.cell.beyond.free _ (omega arith)
              (lies_taken cap (c.cell.log ++ c.cell.beyond.placed) s.homes (length c.cell.taken) c.cell.beyond.free i c.lists.sized (omega arith) (omega arith) slot_is (lies_at cap (c.cell.log ++ c.cell.beyond.placed) (length c.cell.taken) (length c.cell.taken + length c.cell.item) (length c.cell.taken + 1) c.cell.beyond.free s.homes (omega arith) c.lies)));
          lodges = λ e. cc;
          producers = other has_put c.cell.producer _ _ s.views id w c.producers is.0 (λ d o. (
              let seen : d.seen ≤ p.given = o.seen in
              record { sized = o.sized; ordered = o.ordered; put = o.put; seen = omega arith; laid = o.laid; places = o.places; over = λ e. (let never : true ≡ false = sym (o.over e) ∙ seat.over in cc); closed = o.closed; doubled = o.doubled; stands = o.stands }));
          handles = other has_ask c.cell.handle _ _ s.views id w c.handles is.1 (λ d h. h);
          runners = mine has_run c.cell.runner _ _ s.views id v w c.runners at is.2
              (record { sized = k.sized; ordered = k.ordered; seated = refl; stands = refl; out = out; knows = λ _. knows; fresh = λ e. cc; item_is = refl; latest = λ e. cc; saw_put = k.saw_put; saw_asked = k.saw_asked });
        },
        refl,
      )
