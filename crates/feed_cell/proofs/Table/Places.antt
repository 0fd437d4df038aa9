-- How the slots of a subscription change: one is taken out or given back, and the others stay.
use Rattle.std.proofs.Common.{◌≡◌, ◌≢◌, ℕ, ◌+◌, ◌%◌, ◌<◌, ◌≤◌, List, [], ◌∷◌, ◌++◌, length, set, sym, ap, ◌∙◌, ⊎_elim, length-set, mod-lt, arith}
use mathlib.Core.Option as slot
use mathlib.Core.Option.{some, none}
use mathlib.Core.Logic.{dite}
use native.Mathlib.Decide.{ℕ_discrete}
use native.Mathlib.Nat.{add-mod_right}
use lib.ListN.{get_elem?}
use Rattle.atomic_table.proofs.Lists.{set_here, set_else, one_turn}
use Rattle.feed_core.specs.Prelude.{Item}
use Rattle.feed_cell.proofs.Table.Lists.{at_within, at_end}
use Rattle.feed_cell.specs.Cell.{Lies}
use Rattle.feed_cell.specs.declared.cell.Held.{Held}

-- two numbers less than one turn apart have two slots
pub apart : (p k cap : ℕ) → p < k → k < p + cap → k % cap ≢ p % cap
apart p k cap below within same = let one = one_turn p k cap (omega arith) within (sym same) in omega arith

pub apart_below : (p k cap : ℕ) → k < p → p < k + cap → k % cap ≢ p % cap
apart_below p k cap below within same = apart k p cap below within (sym same)

module _ {A : Type 0} where
  -- a slot of another number stays
  pub stays : (homes : List A) (i j : ℕ) (a x : A) → j ≢ i → get_elem? homes j ≡ some x → get_elem? (set homes i a) j ≡ some x
  stays homes i j a x other at = set_else homes i j a other ∙ at

  -- the slot that changes
  pub changed : (homes : List A) (i j : ℕ) (a : A) → j ≡ i → i < length homes → get_elem? (set homes i a) j ≡ some a
  changed homes i j a same within = ap (λ (k : ℕ). get_elem? (set homes i a) k) same ∙ set_here homes i a within

-- a place's slot is none of the subscriber's, and there is one
pub inside : (k cap : ℕ) → 0 < cap → cap ≢ k % cap
inside k cap sized same = let low : k % cap < cap = mod-lt k sized in omega arith

module _ {B : Type 0} (cap : ℕ) (log : List Item) (homes : List (slot.Option (Held B))) where
  wide_enough : (k : ℕ) → 0 < cap → length homes ≡ cap + 1 → k % cap < length homes
  wide_enough k sized wide = let low : k % cap < cap = mod-lt k sized in omega arith

  -- the free slot of the next number is taken out
  pub lies_room : (head full i : ℕ) → 0 < cap → head ≤ full → head ≤ length log → length log < head + cap → i ≡ length log % cap
      → Lies cap log head full (length log) homes → Lies cap log head full (length log + 1) (set homes i none)
  lies_room head full i sized first below room is l = record {
    wide = length-set homes i none ∙ l.wide;
    items = λ k x from at. stays homes i (k % cap) none (some (Held.Item x)) (λ same. apart_below (length log) k cap (at_within log k x at) (omega arith) (same ∙ is)) (l.items k x from at);
    places = λ k from to. stays homes i (k % cap) none (some Held.Empty) (λ same. apart (length log) k cap (omega arith) (omega arith) (same ∙ is)) (l.places k (omega arith) to);
  }

  -- it is given back with the next item
  pub lies_put : (head full i : ℕ) (x : Item) → 0 < cap → head ≤ full → head ≤ length log → length log < head + cap → i ≡ length log % cap
      → Lies cap log head full (length log + 1) homes
      → Lies cap (log ++ x ∷ []) head full (length log + 1) (set homes i (some (Held.Item x)))
  lies_put head full i x sized first below room is l = record {
    wide = length-set homes i (some (Held.Item x)) ∙ l.wide;
    items = λ k y from at. ⊎_elim
        (λ old. stays homes i (k % cap) (some (Held.Item x)) (some (Held.Item y)) (λ same. apart_below (length log) k cap (at_within log k y old) (omega arith) (same ∙ is)) (l.items k y from old))
        (λ new. changed homes i (k % cap) (some (Held.Item x)) (ap (λ (n : ℕ). n % cap) new.0 ∙ sym is) (let low : length log % cap < cap = mod-lt (length log) sized in let w = l.wide in omega (arith, is)) ∙ ap (λ z. some (some (Held.Item z))) new.1)
        (at_end log x y k at);
    places = λ k from to. stays homes i (k % cap) (some (Held.Item x)) (some Held.Empty) (λ same. apart (length log) k cap (omega arith) (omega arith) (same ∙ is)) (l.places k from to);
  }

  -- the slot of the next item is taken out
  pub lies_out : (head free i : ℕ) → 0 < cap → length log ≤ head + cap → head < free → i ≡ head % cap → Lies cap log head head free homes
      → Lies cap log head (head + 1) free (set homes i none)
  lies_out head free i sized fits after is l = record {
    wide = length-set homes i none ∙ l.wide;
    items = λ k x from at. let within = at_within log k x at in stays homes i (k % cap) none (some (Held.Item x)) (λ same. apart head k cap (omega arith) (omega arith) (same ∙ is)) (l.items k x (omega arith) at);
    places = λ k from to. stays homes i (k % cap) none (some Held.Empty) (λ same. apart head k cap (omega arith) to (same ∙ is)) (l.places k from to);
  }

  -- it is given back with its item
  pub lies_back : (head free i : ℕ) (x : Item) → 0 < cap → length log ≤ head + cap → head < free → i ≡ head % cap
      → get_elem? log head ≡ some x → Lies cap log head (head + 1) free homes
      → Lies cap log head head free (set homes i (some (Held.Item x)))
  lies_back head free i x sized fits after is next l = record {
    wide = length-set homes i (some (Held.Item x)) ∙ l.wide;
    items = λ k y from at. dite (ℕ_discrete k head)
        (λ here. changed homes i (k % cap) (some (Held.Item x)) (ap (λ (n : ℕ). n % cap) here ∙ sym is) (let low : head % cap < cap = mod-lt head sized in let w = l.wide in omega (arith, is)) ∙ ap (λ z. some z) (ap (λ z. some (Held.Item z)) (some_is x y (sym next ∙ ap (λ (n : ℕ). get_elem? log n) (sym here) ∙ at))))
        (λ else. let within = at_within log k y at in stays homes i (k % cap) (some (Held.Item x)) (some (Held.Item y)) (λ same. apart head k cap (omega (arith, else)) (omega arith) (same ∙ is)) (l.items k y (omega (arith, else)) at));
    places = λ k from to. stays homes i (k % cap) (some (Held.Item x)) (some Held.Empty) (λ same. apart head k cap (omega arith) to (same ∙ is)) (l.places k from to);
  }
    where
      some_is : (x y : Item) → some x ≡ some y → x ≡ y
      some_is x y e = slot.some-injective x y e

  -- it is given back empty, and is the place of a number one turn later
  pub lies_taken : (head free i : ℕ) → 0 < cap → length log ≤ head + cap → head < free → i ≡ head % cap
      → Lies cap log head (head + 1) free homes → Lies cap log (head + 1) (head + 1) free (set homes i (some Held.Empty))
  lies_taken head free i sized fits after is l = record {
    wide = length-set homes i (some Held.Empty) ∙ l.wide;
    items = λ k x from at. let within = at_within log k x at in stays homes i (k % cap) (some Held.Empty) (some (Held.Item x)) (λ same. apart head k cap (omega arith) (omega arith) (same ∙ is)) (l.items k x from at);
    places = λ k from to. dite (ℕ_discrete k (head + cap))
        (λ here. changed homes i (k % cap) (some Held.Empty) (ap (λ (n : ℕ). n % cap) here ∙ add-mod_right head cap ∙ sym is) (let low : head % cap < cap = mod-lt head sized in let w = l.wide in omega (arith, is)))
        (λ else. stays homes i (k % cap) (some Held.Empty) (some Held.Empty) (λ same. apart head k cap (omega arith) (omega (arith, else)) (same ∙ is)) (l.places k from (omega (arith, else))));
  }

  -- the subscriber's slot is none of theirs
  pub lies_guest : (head full free : ℕ) (a : slot.Option (Held B)) → 0 < cap → Lies cap log head full free homes
      → Lies cap log head full free (set homes cap a)
  lies_guest head full free a sized l = record {
    wide = length-set homes cap a ∙ l.wide;
    items = λ k x from at. stays homes cap (k % cap) a (some (Held.Item x)) (λ same. inside k cap sized (sym same)) (l.items k x from at);
    places = λ k from to. stays homes cap (k % cap) a (some Held.Empty) (λ same. inside k cap sized (sym same)) (l.places k from to);
  }

  -- and a slot of theirs is none of the subscriber's
  pub stays_home : (i k : ℕ) (a : slot.Option (Held B)) (x : slot.Option (Held B)) → 0 < cap → i ≡ k % cap → get_elem? homes cap ≡ some x
      → get_elem? (set homes i a) cap ≡ some x
  stays_home i k a x sized is at = stays homes i cap a x (λ same. inside k cap sized (same ∙ is)) at
