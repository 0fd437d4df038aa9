-- The signal of an item or of a request, if both marks may be set already.
use Rattle.std.proofs.Common.{◌≡◌, ℕ, ◌%◌, ◌<◌, List, length, slice_index, set, bit_and, bit_or, None, sym, refl, ap, ◌∙◌, subst, arith}
use mathlib.Core.Logic.{dite}
use mathlib.Core.Option.{some}
use native.Mathlib.Decide.{dec_lt}
use lib.Bits.{and_mask}
use lib.ListN.{get_elem?}
use Rattle.std.specs.Int.{bit_at}
use Rattle.std.specs.Int.Bits.{or_add_and}
use Rattle.std.proofs.lemmas.Nat.Bits.{bit_at_lowest}
use Rattle.atomic_table.proofs.Lists.{set_again}
use Rattle.atomic_table.specs.Table.{State, Act, keeps, Valid, stepped, carried_after, Allows}
use Rattle.feed_core.specs.Prelude.{Signal}
use Rattle.feed_cell.proofs.Signals.Sent.{started_by}
use Rattle.feed_cell.proofs.Signals.Step.{signals}
use Rattle.feed_cell.specs.Cell.{CellRule}
use Rattle.feed_cell.specs.Control.{ITEM, Reads, signal_of}
use Rattle.feed_cell.specs.Seats.{SeatOf}
use Rattle.feed_cell.specs.Signals.{FindsMarks, MaySignal, sent}
use Rattle.feed_cell.specs.declared.cell.Held.{Held}
use Rattle.feed_cell.specs.declared.cell.View.{View}
use Rattle.feed_cell.specs.WordPlaces.{place}
use Rattle.feed_cell.specs.declared.cell.words.Word.{Word}
use Rattle.feed_cell.proofs.Words.FourWords.{control_loaded}

-- what such a signal sets
item_mask : Reads ITEM (signal_of None)
item_mask = record { run = refl; active = refl; cancel = refl; argument = refl; state = refl; error = refl; complete = refl; code = refl }

-- the two marks are the lowest bits
low_two : (found : ℕ) → bit_and found ITEM ≡ found % 4
low_two found = and_mask found 2

-- to set what is set changes nothing
set_too : (found : ℕ) → bit_and found ITEM ≡ ITEM → bit_or found ITEM ≡ found
set_too found full = let sum = or_add_and found ITEM in omega arith

module _ {B : Type 0} (told : B → List Signal) (cap n id : ℕ) (me : SeatOf B) (may : MaySignal None me.0) (s : State (Held B) View) (c : CellRule told cap s) (wide : length s.homes ≡ n) (at : get_elem? s.views id ≡ some me.0) (small : slice_index s.words (place cap Word.Control) < 18446744073709551616) where
  abbrev Outcome : Type 0
  Outcome = (w : View) × (a : Act (Held B)) × Valid s.homes me.1 a × CellRule told cap (stepped s (place cap Word.Control) (slice_index s.words (place cap Word.Control)) id me.1 w a) × FindsMarks me (slice_index s.words (place cap Word.Control)) (w, carried_after me.1 a)

  -- both are set: the signal is made
  marked : 2 < slice_index s.words (place cap Word.Control) % 4 → Outcome
  marked more =
      let found : ℕ = slice_index s.words (place cap Word.Control) in
      let low = low_two found in
      let full : bit_and found ITEM ≡ ITEM = omega arith in
      let made = signals told cap n id me ITEM None may item_mask s c wide at small in
      let lowest = bit_at_lowest found in
      let one : bit_at found 0 ≡ 1 = omega arith in (
        made.0,
        made.1,
        made.2,
        subst (λ (word : ℕ). CellRule told cap (stepped s (place cap Word.Control) word id me.1 made.0 made.1)) (set_too found full) made.3,
        record {
          marked = λ _. made.4.signalled ∙ ap (λ b. (sent None b me.0, me.1)) (started_by made.4.started found made.4.found_is one);
          unmarked = λ other. absurd (other full);
          sized = made.4.sized;
        },
      )

  -- one is missing: nothing is done
  unmarked : (2 < slice_index s.words (place cap Word.Control) % 4 → ⊥) → Outcome
  unmarked fewer =
      let found : ℕ = slice_index s.words (place cap Word.Control) in
      let low = low_two found in
      let words_same : set s.words (place cap Word.Control) found ≡ s.words = control_loaded _ _ _ _ _ _ c.words ∙ sym c.words in (
        me.0,
        keeps,
        tt,
        subst (λ (ws : List ℕ). CellRule told cap (record { words = ws; homes = s.homes; views = set s.views id me.0 })) (sym words_same)
            (subst (λ (vs : List View). CellRule told cap (record { words = s.words; homes = s.homes; views = vs })) (sym (set_again s.views id me.0 at)) c),
        record { marked = λ full. absurd (fewer (omega arith)); unmarked = λ _. refl; sized = refl },
      )

module _ {B : Type 0} (told : B → List Signal) where
  -- a load of control, by a party that has an item or a request to signal
  pub finds_marks : (cap n id : ℕ) (me : SeatOf B) → MaySignal None me.0
      → Allows (CellRule told cap) n id me (place cap Word.Control) (λ n. n) (FindsMarks me)
  finds_marks cap n id me may s c wide at small =
      dite (dec_lt 2 (slice_index s.words (place cap Word.Control) % 4)) (marked told cap n id me may s c wide at small) (unmarked told cap n id me may s c wide at small)
