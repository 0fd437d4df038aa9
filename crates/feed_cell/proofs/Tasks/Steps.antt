-- The steps of the task, of seats in the middle of a turn.
use Rattle.std.proofs.Common.{◌≡◌, ℕ, ◌+◌, ◌%◌, ◌==◌, true, List, [], ◌∷◌, length, bit_and, sym, refl, ap, ap₂, ◌∙◌, subst, arith}
use prog.Atomic.{either}
use Rattle.std.specs.Int.{bit_at}
use Rattle.std.proofs.lemmas.Nat.Bits.{bit_at_and}
use Rattle.atomic_table.specs.Table.{Allows, rest}
use Rattle.feed_core.specs.AnsweredTurn.{Reply}
use Rattle.feed_core.specs.Prelude.{How, Signal}
use Rattle.feed_core.specs.World.Table.{MayMeasure, MayRest}
use Rattle.feed_cell.proofs.Tasks.End.{ends}
use Rattle.feed_cell.proofs.Tasks.Look.{looks, peeks}
use Rattle.feed_cell.proofs.Tasks.Rest.{rests}
use Rattle.feed_cell.proofs.Tasks.See.{measures}
use Rattle.feed_cell.proofs.Tasks.Take.{takes_item}
use Rattle.feed_cell.specs.Cell.{CellRule}
use Rattle.feed_cell.specs.Control.{MARK, QUIET, RESTING}
use Rattle.feed_cell.specs.Parties.{CanLook, IsHome}
use Rattle.feed_cell.specs.Seats.{SeatOf, own_out, answers_out}
use Rattle.feed_cell.specs.TaskPlays.{cleared, untouched, LooksOut, PeeksFirst, MayTakeNow, Measures, IsTake, IsRest, IsEnd}
use Rattle.feed_cell.specs.TaskSteps.{HasItem, Carries, HasLookedAt, IsEnding}
use Rattle.feed_cell.specs.Views.{IsRunner}
use Rattle.feed_cell.specs.declared.cell.Held.{Held}
use Rattle.feed_cell.specs.WordPlaces.{place}
use Rattle.feed_cell.specs.declared.cell.words.Word.{Word}

-- a look leaves no mark of something new
pub quiet_bit : (word : ℕ) → bit_at (bit_and word QUIET) 1 ≡ 0
quiet_bit word = let both = bit_at_and word QUIET 1 in let clear : bit_at QUIET 1 ≡ 0 = refl in omega arith

module _ {B : Type 0} (told : B → List Signal) where
  -- a look with the subscriber
  pub looks_going : (cap n id : ℕ) (me : SeatOf B) → IsRunner me.0 → me.0.item ≡ [] → CanLook told me
      → Allows (CellRule told cap) n id me (place cap Word.Control) (λ n. bit_and n QUIET) (LooksOut cleared me)
  looks_going cap n id me is none_out g = subst (λ (slots : List (ℕ × Held B)). Allows (CellRule told cap) n id (me.0, slots) (place cap Word.Control) (λ n. bit_and n QUIET) (LooksOut cleared (me.0, slots))) (sym g.slot)
      (looks told cap n id me.0 me.0.capacity g.guest [] g.answer is g.away none_out g.may g.own g.answers)

  -- and a peek
  pub peeks_going : (cap n id : ℕ) (me : SeatOf B) → IsRunner me.0 → me.0.item ≡ [] → CanLook told me
      → Allows (CellRule told cap) n id me (place cap Word.Control) (λ n. n) (LooksOut untouched me)
  peeks_going cap n id me is none_out g = subst (λ (slots : List (ℕ × Held B)). Allows (CellRule told cap) n id (me.0, slots) (place cap Word.Control) (λ n. n) (LooksOut untouched (me.0, slots))) (sym g.slot)
      (peeks told cap n id me.0 me.0.capacity g.guest [] g.answer is g.away none_out g.may g.own g.answers)

  pub looked_going : (left_of : ℕ → ℕ) (before after : SeatOf B) (found : ℕ) → IsRunner before.0 → before.0.item ≡ []
      → CanLook told before → LooksOut left_of before found after → HasLookedAt told (left_of found) after
  looked_going left_of before after found is none_out g look =
      let own : own_out before.1 ≡ g.guest.own = ap own_out g.slot in
      let answers : answers_out before.1 ≡ g.guest.answers = ap answers_out g.slot in
      subst (λ (m : SeatOf B). HasLookedAt told (left_of found) m) (sym look.looked) (record {
        carries = record { guest = g.guest; slot = g.slot; is = is; away = refl; none_out = none_out; text = g.text; given = g.given; own = sym own; answers = sym answers; how = g.how };
        flags = look.flags;
        reads = look.reads;
        stage = refl;
        ordered = look.ordered;
        look = refl;
        few = look.few;
      })

  -- the first peek of a task that was handed over
  pub peeked_first : (before after : SeatOf B) (found : ℕ) → IsRunner before.0 → before.0.item ≡ [] → IsHome before
      → PeeksFirst told before found after → HasLookedAt told found after
  peeked_first before after found is none_out home look = subst (λ (m : SeatOf B). HasLookedAt told found m) (sym look.looked) (record {
    carries = record { guest = look.guest; slot = ap (λ (l : List (ℕ × Held B)). (before.0.capacity, Held.Guest look.guest) ∷ l) home.slot; is = is; away = refl; none_out = none_out; text = look.told_is; given = look.given; own = refl; answers = refl; how = look.how };
    flags = look.flags;
    reads = look.reads;
    stage = refl;
    ordered = look.ordered;
    look = refl;
    few = look.few;
  })

  -- a measure with an item out
  pub measures_out : (cap n id : ℕ) (me : SeatOf B) → IsRunner me.0 → me.0.away ≡ true → MayMeasure me.0.runner → HasItem me
      → Allows (CellRule told cap) n id me (place cap Word.Asked) (λ n. n) (Measures me)
  measures_out cap n id me is out may h = subst (λ (slots : List (ℕ × Held B)). Allows (CellRule told cap) n id (me.0, slots) (place cap Word.Asked) (λ n. n) (Measures (me.0, slots))) (sym h.slot)
      (measures told cap n id me.0 (length me.0.taken % me.0.capacity) h.item (rest me.1) is out may h.one_out refl)

  -- a store of head after the item was moved out
  pub takes_out : (cap n id : ℕ) (before me : SeatOf B) (capacity given i new : ℕ) → IsRunner before.0 → before.0.away ≡ true
      → MayTakeNow before.0 → HasItem before → length before.0.taken ≡ given → before.0.capacity ≡ capacity
      → me ≡ (before.0, (i, Held.Empty) ∷ rest before.1) → i ≡ given % capacity → new ≡ given + 1 → Allows (CellRule told cap) n id me (place cap Word.Head) (λ _. new) (λ _. IsTake me)
  takes_out cap n id before me capacity given i new is out may h counted sized moved slot_at new_is =
      subst (λ (m : SeatOf B). Allows (CellRule told cap) n id m (place cap Word.Head) (λ _. new) (λ _. IsTake m)) (sym moved)
      (takes_item told cap n id before.0 i new h.item (rest before.1) is out may h.one_out (slot_at ∙ ap₂ (λ (a b : ℕ). a % b) (sym counted) (sym sized)) (new_is ∙ ap (λ (m : ℕ). m + 1) (sym counted)))

  -- a compare-and-exchange of control, from the word after the last look
  pub rests_there : (replied : B → List Reply) (cap n id : ℕ) (me : SeatOf B) (look new : ℕ) → Carries told me
      → MayRest (length me.0.taken) me.0.runner → me.0.look ≡ look → bit_at look 1 ≡ 0 → new ≡ bit_and look RESTING
      → Allows (CellRule told cap) n id me (place cap Word.Control) (λ (m : ℕ). either (m == look) new m) (IsRest replied look me)
  rests_there replied cap n id me look new c may looked quiet new_is = subst (λ (slots : List (ℕ × Held B)). Allows (CellRule told cap) n id (me.0, slots) (place cap Word.Control) (λ (m : ℕ). either (m == look) new m) (IsRest replied look (me.0, slots))) (sym c.slot)
      (rests told replied cap n id me.0 c.guest [] look new c.is c.away may c.none_out (sym looked) quiet new_is c.given c.own c.answers c.how c.text)

  -- a store of head with its mark
  pub ends_there : (replied : B → List Reply) (cap n id : ℕ) (me : SeatOf B) (new : ℕ) (how : How) → IsEnding told how me
      → new ≡ length me.0.taken + MARK → Allows (CellRule told cap) n id me (place cap Word.Head) (λ _. new) (λ _. IsEnd replied me)
  ends_there replied cap n id me new how e new_is = subst (λ (slots : List (ℕ × Held B)). Allows (CellRule told cap) n id (me.0, slots) (place cap Word.Head) (λ _. new) (λ _. IsEnd replied (me.0, slots))) (sym e.slot)
      (ends told replied cap n id me.0 e.guest [] new how e.is e.away e.may e.none_out new_is e.given e.own e.answers e.how_is e.text)
