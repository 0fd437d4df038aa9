-- Lists read by the number of an element.
use Rattle.std.proofs.Common.{◌≡◌, ℕ, zero, suc, ◌<◌, ◌⊎◌, List, [], ◌∷◌, ◌++◌, length, take, drop, get_or, replicate, refl, sym, ap, ap₂, inl, inr, ⊎_elim, arith, set}
use mathlib.Core.Option.{some, some-injective, some-ne-none}
use lib.ListN.{get_elem?}

module _ {A : Type 0} where
  -- what is read stands within the list
  pub at_within : (l : List A) (k : ℕ) (x : A) → get_elem? l k ≡ some x → k < length l
  at_within [] k x at = absurd (some-ne-none x (sym at))
  at_within (y ∷ ys) zero x at = omega arith
  at_within (y ∷ ys) (suc k) x at = let rest = at_within ys k x at in omega arith

  -- what is read of a list with one more at its end, and where
  pub at_end : (l : List A) (x y : A) (k : ℕ) → get_elem? (l ++ x ∷ []) k ≡ some y → (get_elem? l k ≡ some y) ⊎ ((k ≡ length l) × (x ≡ y))
  at_end [] x y zero at = inr (refl, some-injective x y at)
  at_end [] x y (suc k) at = absurd (some-ne-none y (sym at))
  at_end (z ∷ zs) x y zero at = inl at
  at_end (z ∷ zs) x y (suc k) at = ⊎_elim (λ old. inl old) (λ new. inr (ap suc new.0, new.1)) (at_end zs x y k at)

  -- what is read of a list is read of one with more behind it
  pub at_begin : (l m : List A) (k : ℕ) (x : A) → get_elem? l k ≡ some x → get_elem? (l ++ m) k ≡ some x
  at_begin [] m k x at = absurd (some-ne-none x (sym at))
  at_begin (y ∷ ys) m zero x at = at
  at_begin (y ∷ ys) m (suc k) x at = at_begin ys m k x at

  -- to set an element to what it is changes nothing
  pub set_same : (l : List A) (k : ℕ) (x : A) → get_elem? l k ≡ some x → set l k x ≡ l
  set_same [] k x at = absurd (some-ne-none x (sym at))
  set_same (y ∷ ys) zero x at = ap (λ z. z ∷ ys) (sym (some-injective y x at))
  set_same (y ∷ ys) (suc k) x at = ap (λ l. y ∷ l) (set_same ys k x at)

  -- one element more of the beginning
  pub take_one_more : (l : List A) (k : ℕ) (x : A) → get_elem? l k ≡ some x → take (suc k) l ≡ take k l ++ x ∷ []
  take_one_more [] k x at = absurd (some-ne-none x (sym at))
  take_one_more (y ∷ ys) zero x at = ap (λ z. z ∷ []) (some-injective y x at)
  take_one_more (y ∷ ys) (suc k) x at = ap (λ l. y ∷ l) (take_one_more ys k x at)

  -- an element stands at each number below the length
  pub there : (l : List A) (k : ℕ) → k < length l → (x : A) × (get_elem? l k ≡ some x)
  there [] k within = let low : k < 0 = within in absurd (omega arith)
  there (x ∷ xs) zero within = (x, refl)
  there (x ∷ xs) (suc k) within = there xs k (omega arith)

  -- the same everywhere
  pub at_replicate : (n : ℕ) (x : A) (k : ℕ) → k < n → get_elem? (replicate n x) k ≡ some x
  at_replicate zero x k within = absurd (omega arith)
  at_replicate (suc n) x zero within = refl
  at_replicate (suc n) x (suc k) within = at_replicate n x k (omega arith)

  -- two lists of one length that are equal with one more at their ends
  pub parted : (l m : List A) (x y : A) → length l ≡ length m → l ++ x ∷ [] ≡ m ++ y ∷ [] → (l ≡ m) × (x ≡ y)
  parted [] [] x y same e = (refl, ap (λ (z : List A). get_or z 0 x) e)
  parted [] (z ∷ zs) x y same e = absurd (omega arith)
  parted (z ∷ zs) [] x y same e = absurd (omega arith)
  parted (a ∷ l) (b ∷ m) x y same e =
      let tails = parted l m x y (omega arith) (ap (λ (z : List A). drop 1 z) e) in
      (ap₂ (λ (c : A) (t : List A). c ∷ t) (ap (λ (z : List A). get_or z 0 x) e) tails.0, tails.1)
