-- The four words of a subscription: what lies at the place of each, and what a step on one of them changes.
use Rattle.std.proofs.Common.{◌≡◌, ℕ, ◌<◌, ◌≤◌, ◌⊎◌, Bool, true, false, List, slice_index, set, sym, refl, ap, ap₂, ◌∙◌, subst, inl, inr, arith, length}
use Rattle.std.proofs.lemmas.Bool.Decides.{nat_tests}
use mathlib.Core.Option.{some}
use lib.ListN.{get_elem?}
use Rattle.atomic_table.specs.Seated.{TableId}
use Rattle.atomic_table.specs.Table.{Act, Valid, Allows, State, stepped, carried_after}
use Rattle.feed_core.specs.Prelude.{Signal}
use Rattle.feed_cell.specs.Cell.{CellRule}
use Rattle.feed_cell.specs.Seats.{SeatOf}
use Rattle.feed_cell.specs.WordPlaces.{place_in, count_in, words_in, lie_close, place, place_is, word_count, count_is, words_by, words_are, HasItsWords}
use Rattle.feed_cell.specs.declared.cell.words.Word.{Word}
use Rattle.feed_cell.specs.declared.cell.Held.{Held}
use Rattle.feed_cell.specs.declared.cell.View.{View}

-- where they lie by the capacity
close_by : (capacity : ℕ) → capacity < 32 → lie_close capacity ≡ true
close_by capacity small = grind (arith, nat_tests)

apart_by : (capacity : ℕ) → 32 ≤ capacity → lie_close capacity ≡ false
apart_by capacity large = grind (arith, nat_tests)

pub placed_close : (capacity : ℕ) (word : Word) → capacity < 32 → place capacity word ≡ place_in true word
placed_close capacity word small = place_is capacity word ∙ ap (λ (b : Bool). place_in b word) (close_by capacity small)

pub placed_apart : (capacity : ℕ) (word : Word) → 32 ≤ capacity → place capacity word ≡ place_in false word
placed_apart capacity word large = place_is capacity word ∙ ap (λ (b : Bool). place_in b word) (apart_by capacity large)

pub laid_close : (capacity head tail asked control : ℕ) → capacity < 32
    → words_by capacity head tail asked control ≡ words_in true head tail asked control
laid_close capacity head tail asked control small = words_are capacity head tail asked control ∙ ap (λ (b : Bool). words_in b head tail asked control) (close_by capacity small)

pub laid_apart : (capacity head tail asked control : ℕ) → 32 ≤ capacity
    → words_by capacity head tail asked control ≡ words_in false head tail asked control
laid_apart capacity head tail asked control large = words_are capacity head tail asked control ∙ ap (λ (b : Bool). words_in b head tail asked control) (apart_by capacity large)

-- each word's place is in the table
pub within : (capacity : ℕ) (word : Word) → place capacity word < word_count capacity
within capacity word = let at = place_is capacity word in let count = count_is capacity in let low = by (lie_close capacity) word in omega arith where
  by : (close : Bool) (word : Word) → place_in close word < count_in close
  by true Word.Head = omega arith
  by true Word.Tail = omega arith
  by true Word.Asked = omega arith
  by true Word.Control = omega arith
  by false Word.Head = omega arith
  by false Word.Tail = omega arith
  by false Word.Asked = omega arith
  by false Word.Control = omega arith

-- and there are some
some_words : (capacity : ℕ) → 0 < word_count capacity
some_words capacity = let count = count_is capacity in let some_in = by (lie_close capacity) in omega arith where
  by : (close : Bool) → 0 < count_in close
  by true = omega arith
  by false = omega arith

pub has_some_words : (capacity : ℕ) (one other : TableId) → one ≡ other → HasItsWords capacity one → 0 < other.words
has_some_words capacity one other same counted = subst (λ (z : TableId). 0 < z.words) same (subst (λ (n : ℕ). 0 < n) (sym counted) (some_words capacity))

-- as many as there are words
pub counted_by : (cap h t a c : ℕ) → length (words_by cap h t a c) ≡ word_count cap
counted_by cap h t a c = ap length (words_are cap h t a c) ∙ by (lie_close cap) ∙ sym (count_is cap) where
  by : (close : Bool) → length (words_in close h t a c) ≡ count_in close
  by true = refl
  by false = refl

-- a store at one place leaves what lies at the three others, and a load leaves all
module _ (cap : ℕ) (ws : List ℕ) (h t a c : ℕ) (is : ws ≡ words_by cap h t a c) where
  laid : ws ≡ words_in (lie_close cap) h t a c
  laid = is ∙ words_are cap h t a c

  -- what lies there
  pub head_at : slice_index ws (place cap Word.Head) ≡ h
  head_at = ap₂ slice_index laid (place_is cap Word.Head) ∙ by (lie_close cap) where
    by : (close : Bool) → slice_index (words_in close h t a c) (place_in close Word.Head) ≡ h
    by true = refl
    by false = refl

  pub tail_at : slice_index ws (place cap Word.Tail) ≡ t
  tail_at = ap₂ slice_index laid (place_is cap Word.Tail) ∙ by (lie_close cap) where
    by : (close : Bool) → slice_index (words_in close h t a c) (place_in close Word.Tail) ≡ t
    by true = refl
    by false = refl

  pub asked_at : slice_index ws (place cap Word.Asked) ≡ a
  asked_at = ap₂ slice_index laid (place_is cap Word.Asked) ∙ by (lie_close cap) where
    by : (close : Bool) → slice_index (words_in close h t a c) (place_in close Word.Asked) ≡ a
    by true = refl
    by false = refl

  pub control_at : slice_index ws (place cap Word.Control) ≡ c
  control_at = ap₂ slice_index laid (place_is cap Word.Control) ∙ by (lie_close cap) where
    by : (close : Bool) → slice_index (words_in close h t a c) (place_in close Word.Control) ≡ c
    by true = refl
    by false = refl

  -- what there is after this was stored there
  pub head_stored : (n : ℕ) → set ws (place cap Word.Head) n ≡ words_by cap n t a c
  head_stored n = ap₂ (λ (l : List ℕ) (k : ℕ). set l k n) laid (place_is cap Word.Head) ∙ by (lie_close cap) ∙ sym (words_are cap n t a c) where
    by : (close : Bool) → set (words_in close h t a c) (place_in close Word.Head) n ≡ words_in close n t a c
    by true = refl
    by false = refl

  pub tail_stored : (n : ℕ) → set ws (place cap Word.Tail) n ≡ words_by cap h n a c
  tail_stored n = ap₂ (λ (l : List ℕ) (k : ℕ). set l k n) laid (place_is cap Word.Tail) ∙ by (lie_close cap) ∙ sym (words_are cap h n a c) where
    by : (close : Bool) → set (words_in close h t a c) (place_in close Word.Tail) n ≡ words_in close h n a c
    by true = refl
    by false = refl

  pub asked_stored : (n : ℕ) → set ws (place cap Word.Asked) n ≡ words_by cap h t n c
  asked_stored n = ap₂ (λ (l : List ℕ) (k : ℕ). set l k n) laid (place_is cap Word.Asked) ∙ by (lie_close cap) ∙ sym (words_are cap h t n c) where
    by : (close : Bool) → set (words_in close h t a c) (place_in close Word.Asked) n ≡ words_in close h t n c
    by true = refl
    by false = refl

  pub control_stored : (n : ℕ) → set ws (place cap Word.Control) n ≡ words_by cap h t a n
  control_stored n = ap₂ (λ (l : List ℕ) (k : ℕ). set l k n) laid (place_is cap Word.Control) ∙ by (lie_close cap) ∙ sym (words_are cap h t a n) where
    by : (close : Bool) → set (words_in close h t a c) (place_in close Word.Control) n ≡ words_in close h t a n
    by true = refl
    by false = refl

  -- a load changes nothing
  pub head_loaded : set ws (place cap Word.Head) (slice_index ws (place cap Word.Head)) ≡ words_by cap h t a c
  head_loaded = head_stored (slice_index ws (place cap Word.Head)) ∙ ap (λ (n : ℕ). words_by cap n t a c) head_at

  pub tail_loaded : set ws (place cap Word.Tail) (slice_index ws (place cap Word.Tail)) ≡ words_by cap h t a c
  tail_loaded = tail_stored (slice_index ws (place cap Word.Tail)) ∙ ap (λ (n : ℕ). words_by cap h n a c) tail_at

  pub asked_loaded : set ws (place cap Word.Asked) (slice_index ws (place cap Word.Asked)) ≡ words_by cap h t a c
  asked_loaded = asked_stored (slice_index ws (place cap Word.Asked)) ∙ ap (λ (n : ℕ). words_by cap h t n c) asked_at

  pub control_loaded : set ws (place cap Word.Control) (slice_index ws (place cap Word.Control)) ≡ words_by cap h t a c
  control_loaded = control_stored (slice_index ws (place cap Word.Control)) ∙ ap (λ (n : ℕ). words_by cap h t a n) control_at

  -- what lies there in the list
  pub head_in : get_elem? ws (place cap Word.Head) ≡ some h
  head_in = ap₂ (λ (l : List ℕ) (k : ℕ). get_elem? l k) laid (place_is cap Word.Head) ∙ by (lie_close cap) where
    by : (close : Bool) → get_elem? (words_in close h t a c) (place_in close Word.Head) ≡ some h
    by true = refl
    by false = refl

  pub tail_in : get_elem? ws (place cap Word.Tail) ≡ some t
  tail_in = ap₂ (λ (l : List ℕ) (k : ℕ). get_elem? l k) laid (place_is cap Word.Tail) ∙ by (lie_close cap) where
    by : (close : Bool) → get_elem? (words_in close h t a c) (place_in close Word.Tail) ≡ some t
    by true = refl
    by false = refl

  pub asked_in : get_elem? ws (place cap Word.Asked) ≡ some a
  asked_in = ap₂ (λ (l : List ℕ) (k : ℕ). get_elem? l k) laid (place_is cap Word.Asked) ∙ by (lie_close cap) where
    by : (close : Bool) → get_elem? (words_in close h t a c) (place_in close Word.Asked) ≡ some a
    by true = refl
    by false = refl

  pub control_in : get_elem? ws (place cap Word.Control) ≡ some c
  control_in = ap₂ (λ (l : List ℕ) (k : ℕ). get_elem? l k) laid (place_is cap Word.Control) ∙ by (lie_close cap) where
    by : (close : Bool) → get_elem? (words_in close h t a c) (place_in close Word.Control) ≡ some c
    by true = refl
    by false = refl

-- a seat that has a part knows the capacity
abbrev pub HasPart : View → Type 0
HasPart v = (v.puts ≡ true) ⊎ ((v.asks ≡ true) ⊎ (v.runs ≡ true))

-- and still has it with another slot out
pub part_kept : {B : Type 0} (before me : SeatOf B) (slots : List (ℕ × Held B)) → me ≡ (before.0, slots) → HasPart before.0 → HasPart me.0
part_kept before me slots is part = subst (λ (m : SeatOf _). HasPart m.0) (sym is) part

module _ {B : Type 0} (told : B → List Signal) where
  sized_by : (cap : ℕ) (s : State (Held B) View) (c : CellRule told cap s) (id : ℕ) (v : View) → get_elem? s.views id ≡ some v → HasPart v
      → v.capacity ≡ cap
  sized_by cap s c id v at (inl puts) = (c.producers id v at puts).1.sized
  sized_by cap s c id v at (inr (inl asks)) = (c.handles id v at asks).1.sized
  sized_by cap s c id v at (inr (inr runs)) = (c.runners id v at runs).1.sized

  -- a step at the place of a word, which the party finds by the capacity that it knows
  pub at_place : (cap n id : ℕ) (me : SeatOf B) (capacity i : ℕ) (word : Word) (f : ℕ → ℕ) (then : ℕ → SeatOf B → Type 0) → HasPart me.0
      → me.0.capacity ≡ capacity → i ≡ place capacity word
      → Allows (CellRule told cap) n id me (place cap word) f then → Allows (CellRule told cap) n id me i f then
  at_place cap n id me capacity i word f then part sized is allowed s c wide at small =
      let same : i ≡ place cap word = is ∙ ap (λ (m : ℕ). place m word) (sym sized ∙ sized_by cap s c id me.0 at part) in
      subst (λ (k : ℕ). slice_index s.words k < 18446744073709551616 → (w : View) × (a : Act (Held B)) × Valid s.homes me.1 a × CellRule told cap (stepped s k (f (slice_index s.words k)) id me.1 w a) × then (slice_index s.words k) (w, carried_after me.1 a))
      (sym same) (allowed s c wide at) small
