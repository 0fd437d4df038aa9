-- Lanes that were put in order of subscription are those that were closed.
use Rattle.std.proofs.Common.{◌≡◌, ◌⊎◌, inl, inr, ℕ, zero, suc, ◌<◌, ◌≤◌, Option, None, Some, List, [], ◌∷◌, length, slice_get, slice_index_or, slice_set, swap, IsPermutation, refl, sym, ap, ◌∙◌, arith}
use Rattle.std.specs.List.Sorted.{IsNonDecreasingBy}
use Rattle.std.proofs.lemmas.List.{length-set}
use Rattle.std.proofs.lemmas.List.Sorted.{IsPermutation-keeps, IsPermutation-sym, length_permutation}
use Rattle.std.proofs.lemmas.Option.{same_Some, slice_get_within}
use Rattle.feed_core.specs.AnsweredTurn.{Reply}
use Rattle.feed_core.specs.Prelude.{Signal}
use Rattle.publisher_hub.proofs.AnswerLists.Updates.{get_elsewhere, get_there}
use Rattle.publisher.specs.Leaving.{AreGiven, ClosesAll, FindsFirst}
use Rattle.publisher.specs.Outcome.{AreApart, AreInOrder, HasLane, IsAmong}
use Rattle.publisher.specs.declared.finishing.find.Found.{Found}
use Rattle.publisher.specs.declared.outcome.NamedLane.{NamedLane}

same_or_other : (a b : ℕ) → (a ≡ b) ⊎ (a ≡ b → ⊥)
same_or_other zero zero = inl refl
same_or_other zero (suc b) = inr (λ same. cc)
same_or_other (suc a) zero = inr (λ same. cc)
same_or_other (suc a) (suc b) = by (same_or_other a b) where
  by : (a ≡ b) ⊎ (a ≡ b → ⊥) → (suc a ≡ suc b) ⊎ (suc a ≡ suc b → ⊥)
  by (inl same) = inl (ap suc same)
  by (inr other) = inr (λ same. other (omega arith))

-- a swap of the places i and j brought what is at k there from m
abbrev IsBroughtFrom : ℕ → ℕ → ℕ → ℕ → Type 0
IsBroughtFrom i j k m = ((k ≡ j) × (m ≡ i)) ⊎ (((k ≡ i) × (m ≡ j)) ⊎ ((m ≡ k) × ((k ≡ i → ⊥) × (k ≡ j → ⊥))))

-- from one place to one place
brought_to_one : (i j a b m n : ℕ) → IsBroughtFrom i j a m → IsBroughtFrom i j b n → m ≡ n → a ≡ b
brought_to_one i j a b m n (inl one) (inl other) same = one.0 ∙ sym other.0
brought_to_one i j a b m n (inl one) (inr (inl other)) same =
    let at = one.0 in let from = one.1 in let on = other.0 in let came = other.1 in omega arith
brought_to_one i j a b m n (inl one) (inr (inr other)) same = absurd (other.1.0 (sym other.0 ∙ sym same ∙ one.1))
brought_to_one i j a b m n (inr (inl one)) (inl other) same =
    let at = one.0 in let from = one.1 in let on = other.0 in let came = other.1 in omega arith
brought_to_one i j a b m n (inr (inl one)) (inr (inl other)) same = one.0 ∙ sym other.0
brought_to_one i j a b m n (inr (inl one)) (inr (inr other)) same = absurd (other.1.1 (sym other.0 ∙ sym same ∙ one.1))
brought_to_one i j a b m n (inr (inr one)) (inl other) same = absurd (one.1.0 (sym one.0 ∙ same ∙ other.1))
brought_to_one i j a b m n (inr (inr one)) (inr (inl other)) same = absurd (one.1.1 (sym one.0 ∙ same ∙ other.1))
brought_to_one i j a b m n (inr (inr one)) (inr (inr other)) same = sym one.0 ∙ same ∙ other.0

module _ {X : Type 0} where
  get_within : (xs : List X) (k : ℕ) (d : X) → k < length xs → slice_get xs k ≡ Some (slice_index_or xs k d)
  get_within [] k d less = let none : k < 0 = less in absurd (omega arith)
  get_within (x ∷ xs) zero d less = refl
  get_within (x ∷ xs) (suc k) d less = get_within xs k d (omega arith)

  index_of : (xs : List X) (k : ℕ) (d x : X) → slice_get xs k ≡ Some x → slice_index_or xs k d ≡ x
  index_of xs k d x at = same_Some (slice_index_or xs k d) x (sym (get_within xs k d (slice_get_within xs k x at)) ∙ at)

  -- where an element stood before a swap
  brought_from : (xs : List X) (i j k : ℕ) (x : X) → i < length xs → j < length xs → slice_get (swap xs i j) k ≡ Some x
      → (m : ℕ) × ((slice_get xs m ≡ Some x) × IsBroughtFrom i j k m)
  brought_from [] i j k x less also at = let none : i < 0 = less in absurd (omega arith)
  brought_from (d ∷ ys) i j k x less also at = by (same_or_other k j) (same_or_other k i) where
    xs : List X
    xs = d ∷ ys

    first : List X
    first = slice_set xs i (slice_index_or xs j d)

    is : slice_get (slice_set first j (slice_index_or xs i d)) k ≡ Some x
    is = at

    before : (k ≡ j → ⊥) → slice_get first k ≡ Some x
    before other = sym (get_elsewhere first j k (slice_index_or xs i d) (λ same. other (sym same))) ∙ is

    by : (k ≡ j) ⊎ (k ≡ j → ⊥) → (k ≡ i) ⊎ (k ≡ i → ⊥) → (m : ℕ) × ((slice_get xs m ≡ Some x) × IsBroughtFrom i j k m)
    by (inl last) it =
        let long = length-set xs i (slice_index_or xs j d) in
        let there = get_there first j (slice_index_or xs i d) (omega arith) in
        let same = sym there ∙ ap (slice_get (slice_set first j (slice_index_or xs i d))) (sym last) ∙ is in
        (i, (get_within xs i d less ∙ same, inl (last, refl)))
    by (inr other) (inl here) =
        let there = get_there xs i (slice_index_or xs j d) less in
        let same = sym there ∙ ap (slice_get first) (sym here) ∙ before other in
        (j, (get_within xs j d also ∙ same, inr (inl (here, refl))))
    by (inr other) (inr elsewhere) = (
      k,
      (
        sym (get_elsewhere xs i k (slice_index_or xs j d) (λ same. elsewhere (sym same))) ∙ before other,
        inr (inr (refl, (elsewhere, other))),
      ),
    )

  -- what stands in a permutation stood somewhere before
  came_from : (xs ys : List X) → IsPermutation xs ys → (k : ℕ) (x : X) → slice_get ys k ≡ Some x
      → (m : ℕ) × (slice_get xs m ≡ Some x)
  came_from xs ys moved = IsPermutation-keeps xs
      (λ (l : List X). (k : ℕ) (x : X) → slice_get l k ≡ Some x → (m : ℕ) × (slice_get xs m ≡ Some x)) (λ k x at. (k, at))
      (λ l i j less also before k x at. let from = brought_from l i j k x less also at in before from.0 x from.1.0) ys moved

module _ {B : Type 0} where
  -- lanes that don't fall are in order
  pub in_order : (lanes : List (NamedLane B)) → IsNonDecreasingBy (λ (left : NamedLane B). left.made_before) lanes → AreInOrder lanes
  in_order lanes rises i j left other at on less =
      let within = slice_get_within lanes j other on in
      let le = rises i j left (omega arith) within in
      let low = ap (λ (l : NamedLane B). l.made_before) (index_of lanes i left left at) in
      let high = ap (λ (l : NamedLane B). l.made_before) (index_of lanes j left other on) in omega arith

  apart_still : (lanes others : List (NamedLane B)) → IsPermutation lanes others → AreApart lanes → AreApart others
  apart_still lanes others moved apart = IsPermutation-keeps lanes (λ (l : List (NamedLane B)). AreApart l) apart
      (λ l i j less also before a b left other at on same.
      let from = brought_from l i j a left less also at in
      let to = brought_from l i j b other less also on in
      brought_to_one i j a b from.0 to.0 from.1.1 to.1.1 (before from.0 to.0 left other from.1.0 to.1.0 same)) others moved

module _ {B : Type 0} (told : B → List Signal) (replied : B → List Reply) (founds : List (Found B)) (most : ℕ)
    (lanes others : List (NamedLane B)) (held : List ℕ) (first : Option (List ℕ))
    (moved : IsPermutation lanes others) (closes : ClosesAll told replied founds most lanes held first) where
  has_still : (number : ℕ) → HasLane number lanes → HasLane number others
  has_still number has =
      let at = came_from others lanes (IsPermutation-sym lanes others moved) has.0 has.1 has.2.0 in
      (at.0, has.1, (at.1, has.2.1))

  had : (number : ℕ) → HasLane number others → HasLane number lanes
  had number has = let at = came_from lanes others moved has.0 has.1 has.2.0 in (at.0, has.1, (at.1, has.2.1))

  long : length others ≡ length lanes
  long = length_permutation lanes others moved

  given : (many : ℕ) → AreGiven founds many lanes → AreGiven founds many others
  given many are number less = by (are number less) where
    by : HasLane number lanes ⊎ (slice_get founds number ≡ Some Found.Reclaimed)
        → HasLane number others ⊎ (slice_get founds number ≡ Some Found.Reclaimed)
    by (inl lane) = inl (has_still number lane)
    by (inr reclaimed) = inr reclaimed

  finds : (f : Option (List ℕ)) → FindsFirst told replied founds most lanes held f
      → FindsFirst told replied founds most others held f
  finds None it = (long ∙ it.0, (given most it.1.0, it.1.1))
  finds (Some name) it = (
    it.0,
    (
      (it.1.0.0, let few = it.1.0.1 in let same = long in omega arith),
      (given it.0 it.1.1.0, (λ has. it.1.1.1.0 (had it.0 has), it.1.1.1.1)),
    ),
  )

  -- so all that is said of lanes that were closed is said of them in another order
  pub closes_moved : ClosesAll told replied founds most others held first
  closes_moved = record {
    each = λ i left at. let from = came_from lanes others moved i left at in closes.each from.0 left from.1;
    apart = apart_still lanes others moved closes.apart;
    all = λ number taken less at. all number (closes.all number taken less at);
    held_are = λ number is.
        let it = closes.held_are number is in (it.0, (it.1.0, (it.1.1.0, λ has. it.1.1.1 (had number has))));
    finds = finds first closes.finds;
    ends = let few = closes.ends in let same = long in omega arith;
    few_lanes = let few = closes.few_lanes in let same = long in omega arith;
    few_held = closes.few_held;
  } where
    all : (number : ℕ) → HasLane number lanes ⊎ IsAmong number held → HasLane number others ⊎ IsAmong number held
    all number (inl lane) = inl (has_still number lane)
    all number (inr is_held) = inr is_held
