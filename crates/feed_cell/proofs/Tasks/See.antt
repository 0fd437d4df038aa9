-- The task's loads of tail and asked.
use Rattle.std.proofs.Common.{◌≡◌, ℕ, ◌+◌, ◌%◌, ◌≤◌, true, List, [], ◌∷◌, ◌++◌, length, take, slice_index, set, sym, refl, ap, ◌∙◌, subst, append-nil, add-one, length-take-le, arith, inr, length-append}
use mathlib.Core.Option as slot
use mathlib.Core.Option.{some, none}
use mathlib.Core.Logic.{dite}
use native.Mathlib.Decide.{dec_lt}
use lib.ListN.{get_elem?}
use Rattle.atomic_table.specs.Table.{keeps, takes, gives, Allows}
use Rattle.feed_core.specs.Prelude.{Item, Signal, total_after}
use Rattle.feed_core.specs.World.Table.{MaySee, MayMeasure, is_started, is_over, seeing, measuring, total_of}
use Rattle.feed_cell.specs.Types.{See, Measure, Runner, Ready, Looked, Saw, Measured}
use Rattle.feed_cell.proofs.Table.Lists.{at_begin, there, take_one_more, parted}
use Rattle.feed_cell.proofs.Tasks.Move.{knows_too, move_kept}
use Rattle.feed_cell.proofs.Table.Outlooks.{ShowsSame, reached_more, reached_kept}
use Rattle.feed_cell.proofs.Table.Places.{lies_out, lies_back}
use Rattle.feed_cell.proofs.Table.Tallies.{stays_on}
use Rattle.feed_cell.specs.Cell.{Lies, CellRule, has_looked}
use Rattle.feed_cell.specs.Outlooks.{IsReachedBy}
use Rattle.feed_cell.specs.Seats.{SeatOf}
use Rattle.feed_cell.specs.TaskPlays.{SeesPut, Measures, MeasuresNone}
use Rattle.feed_cell.specs.Views.{IsRunner}
use Rattle.feed_cell.specs.declared.cell.Held.{Held}
use Rattle.feed_cell.specs.declared.cell.View.{View}
use Rattle.feed_cell.specs.WordPlaces.{place}
use Rattle.feed_cell.specs.declared.cell.words.Word.{Word}
use Rattle.feed_cell.proofs.Words.FourWords.{asked_at, asked_loaded, tail_at, tail_loaded}

-- the slots, if the numbers of items taken and of items out are known
pub lies_at : {B : Type 0} (cap : ℕ) (log : List Item) (head full full' free : ℕ) (homes : List (slot.Option (Held B))) → full ≡ full'
    → Lies cap log head full free homes → Lies cap log head full' free homes
lies_at cap log head full full' free homes same = subst (λ (m : ℕ). Lies cap log head m free homes) same

module _ {B : Type 0} (told : B → List Signal) where
  -- a load of tail takes the next slot out if it has an item
  pub sees_item : (cap n id : ℕ) (me : SeatOf B) → IsRunner me.0 → me.0.away ≡ true → me.0.item ≡ [] → MaySee me.0.runner
      → Allows (CellRule told cap) n id me (place cap Word.Tail) (λ n. n) (SeesPut me)
  sees_item cap n id me is out none_out may s c wide at small =
      let v : View = me.0 in
      let k = (c.runners id v at is.2).1 in
      let p = c.cell.world in
      let stage : p.runner ≡ Looked may.0 = sym k.stands ∙ may.1 in
      let know = k.knows (sym k.out ∙ out) in
      let found : ℕ = slice_index s.words (place cap Word.Tail) in
      let found_is : found ≡ p.accepted = tail_at _ _ _ _ _ _ c.words in
      let words_are = tail_loaded _ _ _ _ _ _ c.words in
      let reached : (w : View) → ShowsSame v w → IsReachedBy (set s.views id w) (record p { runner = Saw may.0 p.accepted; known_put = p.accepted }) =
      λ w same. subst (IsReachedBy (set s.views id w)) (ap (λ (r : Runner). record p { runner = seeing p.accepted r; known_put = p.accepted }) stage)
      (reached_more See id v w c.reached (may.0, stage, may.2) at (inr (inr is.2)) same (stays_on p.runner (seeing p.accepted p.runner) (ap is_over stage) (ap (λ (r : Runner). is_started (seeing p.accepted r)) stage) (λ e. (let clash : Saw may.0 p.accepted ≡ Ready = sym (ap (seeing p.accepted) stage) ∙ e in cc)))) in
      let stands : seeing found v.runner ≡ Saw may.0 p.accepted = ap (seeing found) may.1 ∙ ap (Saw may.0) found_is in
      let taken_is : length v.taken ≡ length c.cell.taken = ap length know.taken_is in
      let slot_is : length v.taken % v.capacity ≡ length c.cell.taken % cap = ap (λ (m : ℕ). m % v.capacity) taken_is ∙ ap (λ (m : ℕ). length c.cell.taken % m) k.sized in
      let item_is : c.cell.item ≡ [] = sym k.item_is ∙ none_out in
      let none_is : length c.cell.item ≡ 0 = ap length item_is in
      let accepted : p.accepted ≡ length c.cell.log = c.shows.accepted in
      let within : length c.cell.taken + length c.cell.item ≤ length c.cell.log = c.lists.within in
      let above : length c.cell.log + length c.cell.beyond.placed ≤ c.cell.beyond.free = c.lists.above in
      let below : c.cell.beyond.free ≤ length c.cell.taken + cap = c.lists.below in
      let laid : length (c.cell.log ++ c.cell.beyond.placed) ≡ length c.cell.log + length c.cell.beyond.placed = length-append c.cell.log c.cell.beyond.placed in
      let lies : Lies cap (c.cell.log ++ c.cell.beyond.placed) (length c.cell.taken) (length c.cell.taken) c.cell.beyond.free s.homes = lies_at cap (c.cell.log ++ c.cell.beyond.placed) (length c.cell.taken) (length c.cell.taken + length c.cell.item) (length c.cell.taken) c.cell.beyond.free s.homes (omega arith) c.lies in
      dite (dec_lt (length c.cell.taken) (length c.cell.log))
      (λ more.
      let next = there c.cell.log (length c.cell.taken) more in
      let x : Item = next.0 in
      let w : View = record v { runner = seeing found v.runner; item = x ∷ []; known_put = found } in (
        w,
        takes (length v.taken % v.capacity) (Held.Item x),
        ap (λ (j : ℕ). get_elem? s.homes j) slot_is ∙ lies.items (length c.cell.taken) x (omega arith) (at_begin c.cell.log c.cell.beyond.placed (length c.cell.taken) x next.1),
        move_kept told cap s c id v w (Saw may.0 p.accepted) p.accepted p.known_asked (x ∷ []) _ (set s.homes (length v.taken % v.capacity) none) at is is.0 is.1 refl (reached w (refl, refl, refl)) (λ e. cc)
            (record {
              sized = c.lists.sized;
              begins = ap (λ (l : List Item). l ++ x ∷ []) (sym (append-nil c.cell.taken) ∙ ap (λ (l : List Item). c.cell.taken ++ l) (sym item_is) ∙ c.lists.begins ∙ ap (λ (m : ℕ). take m c.cell.log) (omega arith))
                  ∙ sym (take_one_more c.cell.log (length c.cell.taken) x next.1) ∙ ap (λ (m : ℕ). take m c.cell.log) (sym (add-one (length c.cell.taken)));
              one_out = omega arith;
              within = omega arith;
              above = above;
              below = below;
            })
            (lies_out cap (c.cell.log ++ c.cell.beyond.placed) s.homes (length c.cell.taken) c.cell.beyond.free (length v.taken % v.capacity) c.lists.sized (omega arith) (omega arith) slot_is lies)
            words_are
            (record { sized = k.sized; ordered = k.ordered; seated = refl; stands = stands; out = out; knows = λ _. knows_too c.cell.taken p.own c.cell.answers v w refl refl refl know; fresh = λ e. cc; item_is = refl; latest = λ _ quiet. k.latest (ap has_looked stage) quiet; saw_put = omega arith; saw_asked = k.saw_asked }),
        record { put = omega arith; waits = λ _. (x, refl); empty = λ none_there. absurd (omega arith); sized = refl },
      ))
      (λ none_more.
      let w : View = record v { runner = seeing found v.runner; known_put = found } in (
        w,
        keeps,
        tt,
        move_kept told cap s c id v w (Saw may.0 p.accepted) p.accepted p.known_asked c.cell.item _ s.homes at is is.0 is.1 refl (reached w (refl, refl, refl)) (λ e. cc) c.lists c.lies words_are
            (record { sized = k.sized; ordered = k.ordered; seated = refl; stands = stands; out = out; knows = λ _. knows_too c.cell.taken p.own c.cell.answers v w refl refl refl know; fresh = λ e. cc; item_is = k.item_is; latest = λ _ quiet. k.latest (ap has_looked stage) quiet; saw_put = omega arith; saw_asked = k.saw_asked }),
        record { put = omega arith; waits = λ more. absurd (omega (arith, none_more)); empty = λ _. refl; sized = refl },
      ))

  -- a load of asked, with no item out
  pub measures_none : (cap n id : ℕ) (me : SeatOf B) → IsRunner me.0 → me.0.away ≡ true → MayMeasure me.0.runner → me.0.item ≡ []
      → Allows (CellRule told cap) n id me (place cap Word.Asked) (λ n. n) (MeasuresNone me)
  measures_none cap n id me is out may none_out s c wide at small =
      let v : View = me.0 in
      let k = (c.runners id v at is.2).1 in
      let p = c.cell.world in
      let kept = reached_kept c.reached in
      let stage : p.runner ≡ Saw may.0 may.1 = sym k.stands ∙ may.2 in
      let know = k.knows (sym k.out ∙ out) in
      let total : total_after p.asked v.own ≡ total_of p = ap (total_after p.asked) know.own_is in
      let reached : (w : View) → ShowsSame v w → IsReachedBy (set s.views id w) (record p { runner = Measured may.0 may.1 (total_of p); known_asked = p.asked }) =
      λ w same. subst (IsReachedBy (set s.views id w)) (ap (λ (r : Runner). record p { runner = measuring (total_of p) r; known_asked = p.asked }) stage)
      (reached_more Measure id v w c.reached (may.0, may.1, stage) at (inr (inr is.2)) same (stays_on p.runner (measuring (total_of p) p.runner) (ap is_over stage) (ap (λ (r : Runner). is_started (measuring (total_of p) r)) stage) (λ e. (let clash : Measured may.0 may.1 (total_of p) ≡ Ready = sym (ap (measuring (total_of p)) stage) ∙ e in cc)))) in
      let stands : measuring (total_after p.asked v.own) v.runner ≡ Measured may.0 may.1 (total_of p) = ap (measuring (total_after p.asked v.own)) may.2 ∙ ap (Measured may.0 may.1) total in
      let taken_is : length v.taken ≡ length c.cell.taken = ap length know.taken_is in
      let given : p.given ≡ length c.cell.taken = c.shows.given in
      let requested : p.given ≤ total_of p = kept.requested in
      let w : View = record v { runner = measuring (total_after p.asked v.own) v.runner; requested = p.asked } in (
        w,
        keeps,
        tt,
        move_kept told cap s c id v w (Measured may.0 may.1 (total_of p)) p.known_put p.asked c.cell.item _ s.homes at is is.0 is.1 refl (reached w (refl, refl, refl)) (λ e. cc) c.lists c.lies (asked_loaded _ _ _ _ _ _ c.words)
            (record { sized = k.sized; ordered = k.ordered; seated = refl; stands = stands; out = out; knows = λ _. knows_too c.cell.taken p.own c.cell.answers v w refl refl refl know; fresh = λ e. cc; item_is = k.item_is; latest = λ _ quiet. k.latest (ap has_looked stage) quiet; saw_put = k.saw_put; saw_asked = omega arith }),
        record { asked = p.asked; left = c.cell.left; found_is = asked_at _ _ _ _ _ _ c.words; bounded = kept.asked_bounded; met = omega arith; grew = (let saw : v.requested ≤ p.known_asked = k.saw_asked in let known : p.known_asked ≤ p.asked = kept.known_asked in omega arith); measured = refl },
      )

  -- a load of asked gives the slot back if no more is requested
  pub measures : (cap n id : ℕ) (v : View) (i : ℕ) (x : Item) (more : List (ℕ × Held B)) → IsRunner v → v.away ≡ true
      → MayMeasure v.runner → v.item ≡ x ∷ [] → i ≡ length v.taken % v.capacity
      → Allows (CellRule told cap) n id (v, (i, Held.Item x) ∷ more) (place cap Word.Asked) (λ n. n) (Measures (v, (i, Held.Item x) ∷ more))
  measures cap n id v i x more is out may one slot_at s c wide at small =
      let k = (c.runners id v at is.2).1 in
      let p = c.cell.world in
      let kept = reached_kept c.reached in
      let stage : p.runner ≡ Saw may.0 may.1 = sym k.stands ∙ may.2 in
      let know = k.knows (sym k.out ∙ out) in
      let total : total_after p.asked v.own ≡ total_of p = ap (total_after p.asked) know.own_is in
      let reached : (w : View) → ShowsSame v w → IsReachedBy (set s.views id w) (record p { runner = Measured may.0 may.1 (total_of p); known_asked = p.asked }) =
      λ w same. subst (IsReachedBy (set s.views id w)) (ap (λ (r : Runner). record p { runner = measuring (total_of p) r; known_asked = p.asked }) stage)
      (reached_more Measure id v w c.reached (may.0, may.1, stage) at (inr (inr is.2)) same (stays_on p.runner (measuring (total_of p) p.runner) (ap is_over stage) (ap (λ (r : Runner). is_started (measuring (total_of p) r)) stage) (λ e. (let clash : Measured may.0 may.1 (total_of p) ≡ Ready = sym (ap (measuring (total_of p)) stage) ∙ e in cc)))) in
      let stands : measuring (total_after p.asked v.own) v.runner ≡ Measured may.0 may.1 (total_of p) = ap (measuring (total_after p.asked v.own)) may.2 ∙ ap (Measured may.0 may.1) total in
      let taken_is : length v.taken ≡ length c.cell.taken = ap length know.taken_is in
      let given : p.given ≡ length c.cell.taken = c.shows.given in
      let requested : p.given ≤ total_of p = kept.requested in
      let words_are = asked_loaded _ _ _ _ _ _ c.words in
      let slot_is : i ≡ length c.cell.taken % cap = slot_at ∙ ap (λ (m : ℕ). m % v.capacity) taken_is ∙ ap (λ (m : ℕ). length c.cell.taken % m) k.sized in
      let item_is : c.cell.item ≡ x ∷ [] = sym k.item_is ∙ one in
      let one_is : length c.cell.item ≡ 1 = ap length item_is in
      let within : length c.cell.taken + length c.cell.item ≤ length c.cell.log = c.lists.within in
      let above : length c.cell.log + length c.cell.beyond.placed ≤ c.cell.beyond.free = c.lists.above in
      let below : c.cell.beyond.free ≤ length c.cell.taken + cap = c.lists.below in
      let laid : length (c.cell.log ++ c.cell.beyond.placed) ≡ length c.cell.log + length c.cell.beyond.placed = length-append c.cell.log c.cell.beyond.placed in
      dite (dec_lt (length v.taken) (total_after p.asked v.own))
      (λ wanted.
      let w : View = record v { runner = measuring (total_after p.asked v.own) v.runner; requested = p.asked } in (
        w,
        keeps,
        tt,
        move_kept told cap s c id v w (Measured may.0 may.1 (total_of p)) p.known_put p.asked c.cell.item _ s.homes at is is.0 is.1 refl (reached w (refl, refl, refl)) (λ e. cc) c.lists c.lies words_are
            (record { sized = k.sized; ordered = k.ordered; seated = refl; stands = stands; out = out; knows = λ _. knows_too c.cell.taken p.own c.cell.answers v w refl refl refl know; fresh = λ e. cc; item_is = k.item_is; latest = λ _ quiet. k.latest (ap has_looked stage) quiet; saw_put = k.saw_put; saw_asked = omega arith }),
        record { asked = p.asked; left = c.cell.left; found_is = asked_at _ _ _ _ _ _ c.words; bounded = kept.asked_bounded; met = omega arith; wanted = λ _. refl; enough = λ e. absurd (omega arith); sized = refl },
      ))
      (λ met.
      let next = there c.cell.log (length c.cell.taken) (omega arith) in
      let begun : c.cell.taken ++ x ∷ [] ≡ take (length c.cell.taken) c.cell.log ++ next.0 ∷ [] = ap (λ (l : List Item). c.cell.taken ++ l) (sym item_is) ∙ c.lists.begins ∙ ap (λ (m : ℕ). take m c.cell.log) (ap (λ (m : ℕ). length c.cell.taken + m) one_is ∙ add-one (length c.cell.taken)) ∙ take_one_more c.cell.log (length c.cell.taken) next.0 next.1 in
      let lengths : length (take (length c.cell.taken) c.cell.log) ≡ length c.cell.taken = length-take-le (length c.cell.taken) c.cell.log (omega arith) in
      let parts = parted c.cell.taken (take (length c.cell.taken) c.cell.log) x next.0 (sym lengths) begun in
      let w : View = record v { runner = measuring (total_after p.asked v.own) v.runner; requested = p.asked; item = [] } in (
        w,
        gives,
        tt,
        move_kept told cap s c id v w (Measured may.0 may.1 (total_of p)) p.known_put p.asked [] _ (set s.homes i (some (Held.Item x))) at is is.0 is.1 refl (reached w (refl, refl, refl)) (λ _. refl)
            (record { sized = c.lists.sized; begins = append-nil c.cell.taken ∙ parts.0 ∙ ap (λ (m : ℕ). take m c.cell.log) (omega arith); one_out = omega arith; within = omega arith; above = above; below = below })
            (lies_at cap (c.cell.log ++ c.cell.beyond.placed) (length c.cell.taken) (length c.cell.taken) (length c.cell.taken + 0) c.cell.beyond.free _ (omega arith)
            (lies_back cap (c.cell.log ++ c.cell.beyond.placed) s.homes (length c.cell.taken) c.cell.beyond.free i x c.lists.sized (omega arith) (omega arith) slot_is (at_begin c.cell.log c.cell.beyond.placed (length c.cell.taken) x (next.1 ∙ ap (λ (y : Item). some y) (sym parts.1)))
            (lies_at cap (c.cell.log ++ c.cell.beyond.placed) (length c.cell.taken) (length c.cell.taken + length c.cell.item) (length c.cell.taken + 1) c.cell.beyond.free s.homes (omega arith) c.lies)))
            words_are
            (record { sized = k.sized; ordered = k.ordered; seated = refl; stands = stands; out = out; knows = λ _. knows_too c.cell.taken p.own c.cell.answers v w refl refl refl know; fresh = λ e. cc; item_is = refl; latest = λ _ quiet. k.latest (ap has_looked stage) quiet; saw_put = k.saw_put; saw_asked = omega arith }),
        record { asked = p.asked; left = c.cell.left; found_is = asked_at _ _ _ _ _ _ c.words; bounded = kept.asked_bounded; met = omega arith; wanted = λ e. absurd (omega (arith, met)); enough = λ _. refl; sized = refl },
      ))
