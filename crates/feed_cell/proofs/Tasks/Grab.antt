-- The task's load of head, which takes the slot of the next item out.
use Rattle.std.proofs.Common.{◌≡◌, ℕ, ◌+◌, ◌%◌, ◌<◌, ◌≤◌, true, List, [], ◌∷◌, ◌++◌, length, take, set, sym, refl, ap, ◌∙◌, subst, append-nil, add-one, arith, inr, length-append}
use mathlib.Core.Option.{none}
use lib.ListN.{get_elem?}
use Rattle.atomic_table.specs.Table.{takes, Allows}
use Rattle.feed_core.specs.Prelude.{Item, Signal}
use Rattle.feed_cell.specs.Types.{Runner, Looked}
use Rattle.feed_cell.proofs.Table.Lists.{at_begin, there, take_one_more}
use Rattle.feed_cell.proofs.Table.Outlooks.{reached_too, reached_kept}
use Rattle.feed_cell.proofs.Table.Places.{lies_out}
use Rattle.feed_cell.proofs.Tasks.Move.{knows_too, move_kept}
use Rattle.feed_cell.proofs.Tasks.See.{lies_at}
use Rattle.feed_cell.specs.Cell.{Lies, CellRule, has_looked}
use Rattle.feed_cell.specs.Outlooks.{IsReachedBy}
use Rattle.feed_cell.specs.Seats.{SeatOf}
use Rattle.feed_cell.specs.TaskPlays.{Grabs, MayTakeSoon}
use Rattle.feed_cell.specs.Views.{IsRunner}
use Rattle.feed_cell.specs.declared.cell.Held.{Held}
use Rattle.feed_cell.specs.declared.cell.View.{View}
use Rattle.feed_cell.specs.WordPlaces.{place}
use Rattle.feed_cell.specs.declared.cell.words.Word.{Word}
use Rattle.feed_cell.proofs.Words.FourWords.{head_loaded}

module _ {B : Type 0} (told : B → List Signal) where
  -- what the task knows to be put lies there
  pub grabs_item : (cap n id : ℕ) (me : SeatOf B) → IsRunner me.0 → me.0.away ≡ true → me.0.item ≡ [] → MayTakeSoon me.0
      → Allows (CellRule told cap) n id me (place cap Word.Head) (λ n. n) (Grabs me)
  grabs_item cap n id me is out none_out may s c wide at small =
      let v : View = me.0 in
      let k = (c.runners id v at is.2).1 in
      let p = c.cell.world in
      let kept = reached_kept c.reached in
      let stage : p.runner ≡ Looked may.0.0 = sym k.stands ∙ may.0.1 in
      let know = k.knows (sym k.out ∙ out) in
      let taken_is : length v.taken ≡ length c.cell.taken = ap length know.taken_is in
      let slot_is : length v.taken % v.capacity ≡ length c.cell.taken % cap = ap (λ (m : ℕ). m % v.capacity) taken_is ∙ ap (λ (m : ℕ). length c.cell.taken % m) k.sized in
      let item_is : c.cell.item ≡ [] = sym k.item_is ∙ none_out in
      let none_is : length c.cell.item ≡ 0 = ap length item_is in
      let accepted : p.accepted ≡ length c.cell.log = c.shows.accepted in
      let within : length c.cell.taken + length c.cell.item ≤ length c.cell.log = c.lists.within in
      let above : length c.cell.log + length c.cell.beyond.placed ≤ c.cell.beyond.free = c.lists.above in
      let below : c.cell.beyond.free ≤ length c.cell.taken + cap = c.lists.below in
      let laid : length (c.cell.log ++ c.cell.beyond.placed) ≡ length c.cell.log + length c.cell.beyond.placed = length-append c.cell.log c.cell.beyond.placed in
      let knew : length v.taken < v.known_put = may.1 in
      let saw : v.known_put ≤ p.known_put = k.saw_put in
      let was : p.known_put ≤ p.accepted = kept.known_put in
      let more : length c.cell.taken < length c.cell.log = omega arith in
      let lies : Lies cap (c.cell.log ++ c.cell.beyond.placed) (length c.cell.taken) (length c.cell.taken) c.cell.beyond.free s.homes = lies_at cap (c.cell.log ++ c.cell.beyond.placed) (length c.cell.taken) (length c.cell.taken + length c.cell.item) (length c.cell.taken) c.cell.beyond.free s.homes (omega arith) c.lies in
      let next = there c.cell.log (length c.cell.taken) more in
      let x : Item = next.0 in
      let w : View = record v { item = x ∷ [] } in
      let reached : IsReachedBy (set s.views id w) (record p { runner = Looked may.0.0 }) = subst (IsReachedBy (set s.views id w)) (ap (λ (r : Runner). record p { runner = r }) stage) (reached_too id v w c.reached at (inr (inr is.2)) (refl, refl, refl)) in (
        w,
        takes (length v.taken % v.capacity) (Held.Item x),
        ap (λ (j : ℕ). get_elem? s.homes j) slot_is ∙ lies.items (length c.cell.taken) x (omega arith) (at_begin c.cell.log c.cell.beyond.placed (length c.cell.taken) x next.1),
        move_kept told cap s c id v w (Looked may.0.0) p.known_put p.known_asked (x ∷ []) _ (set s.homes (length v.taken % v.capacity) none) at is is.0 is.1 refl reached (λ e. cc)
            (record {
              sized = c.lists.sized;
              begins = ap (λ (l : List Item). l ++ x ∷ []) (sym (append-nil c.cell.taken) ∙ ap (λ (l : List Item). c.cell.taken ++ l) (sym item_is) ∙ c.lists.begins ∙ ap (λ (m : ℕ). take m c.cell.log) (omega arith))
                  ∙ sym (take_one_more c.cell.log (length c.cell.taken) x next.1) ∙ ap (λ (m : ℕ). take m c.cell.log) (sym (add-one (length c.cell.taken)));
              one_out = omega arith;
              within = omega arith;
              above = above;
              below = below;
            })
            (lies_out cap (c.cell.log ++ c.cell.beyond.placed) s.homes (length c.cell.taken) c.cell.beyond.free (length v.taken % v.capacity) c.lists.sized (omega arith) (omega arith) slot_is lies)
            (head_loaded _ _ _ _ _ _ c.words)
            (record { sized = k.sized; ordered = k.ordered; seated = refl; stands = may.0.1; out = out; knows = λ _. knows_too c.cell.taken p.own c.cell.answers v w refl refl refl know; fresh = λ e. cc; item_is = refl; latest = λ _ quiet. k.latest (ap has_looked stage) quiet; saw_put = k.saw_put; saw_asked = k.saw_asked }),
        record { item = x; took = refl; sized = refl },
      )
