-- Texts that were sent one after the other, or some after others.
use Rattle.std.proofs.Common.{◌≡◌, ℕ, zero, suc, ◌+◌, ◌-◌, ◌≤◌, Some, List, [], ◌∷◌, ◌++◌, length, take, drop, sym, ap, ◌∙◌, arith, append-nil, append_assoc}
use Rattle.std.specs.Prelude.{slice_get}
use Rattle.std.proofs.lemmas.List.{drop-drop}
use Rattle.std.proofs.Math.Seq.{take-add}
use Rattle.publisher.specs.Handles.{SubmitterState}
use Rattle.publisher.specs.Submitting.{CountsAll, CountsFirst}

-- nothing lies between a number and itself
zero_is_left : (n : ℕ) → 0 ≡ n - n
zero_is_left n = omega arith

-- one more of a list
pub take_next : {X : Type 0} (n : ℕ) (xs : List X) (x : X) → slice_get xs n ≡ Some x → take (suc n) xs ≡ take n xs ++ x ∷ []
take_next n [] x at = cc
take_next zero (y ∷ xs) x at = cc
take_next (suc n) (y ∷ xs) x at = ap (λ l. y ∷ l) (take_next n xs x at)

-- of those that are left of it: some, and some of those behind these
take_more : {X : Type 0} (n m k : ℕ) (xs : List X) → take m (drop n xs) ++ take k (drop (n + m) xs) ≡ take (m + k) (drop n xs)
take_more n m k xs =
    ap (λ l. take m (drop n xs) ++ take k l) (sym (drop-drop m n xs)) ∙ sym (take-add m k (drop n xs))

module _ (before texts : List (List ℕ)) (n : ℕ) where
  pub none_sent : before ≡ before ++ take (n - n) (drop n texts)
  none_sent = sym (append-nil before) ∙ ap (λ k. before ++ take k (drop n texts)) (zero_is_left n)

  -- of those after the n-th more were sent, after those up to this one
  pub more_sent : (sent later : List (List ℕ)) (m more new : ℕ) → n ≤ m → new ≡ m + more
      → sent ≡ before ++ take (m - n) (drop n texts) → later ≡ sent ++ take more (drop m texts)
      → later ≡ before ++ take (new - n) (drop n texts)
  more_sent sent later m more new begun is was now =
      let apart : n + (m - n) ≡ m = omega arith in
      let long : (m - n) + more ≡ new - n = omega arith in
      now ∙ ap (λ l. l ++ take more (drop m texts)) was ∙ append_assoc before (take (m - n) (drop n texts)) (take more (drop m texts))
      ∙ ap (λ l. before ++ l) (ap (λ k. take (m - n) (drop n texts) ++ take more (drop k texts)) (sym apart)
      ∙ take_more n (m - n) more texts ∙ ap (λ k. take k (drop n texts)) long)

  -- the first n were sent, and then those up to this one
  pub sent_up_to : (sent later : List (List ℕ)) (m : ℕ) → n ≤ m → sent ≡ before ++ take n texts
      → later ≡ sent ++ take (m - n) (drop n texts) → later ≡ before ++ take m texts
  sent_up_to sent later m begun was now =
      let whole : n + (m - n) ≡ m = omega arith in
      now ∙ ap (λ l. l ++ take (m - n) (drop n texts)) was ∙ append_assoc before (take n texts) (take (m - n) (drop n texts))
      ∙ ap (λ l. before ++ l) (sym (take-add n (m - n) texts) ∙ ap (λ k. take k texts) whole)

-- so a submitter that sent these counts them
pub counts_all : (old new : SubmitterState) (texts : List (List ℕ)) (lost : ℕ) → new.source ≡ old.source → new.closing ≡ old.closing
    → new.known ≡ old.known → new.published ≡ old.published + length texts → new.sent ≡ old.sent ++ texts
    → new.dropping ≡ old.dropping + lost → CountsAll texts lost old new
counts_all old new texts lost source closing known published sent dropping = λ k. record {
  source = source k;
  closing = closing k;
  known = known k;
  published = published k;
  sent = sent k;
  dropping = dropping k;
}

pub counts_first : (old new : SubmitterState) (texts : List (List ℕ)) (many lost : ℕ) → new.source ≡ old.source → new.closing ≡ old.closing
    → new.known ≡ old.known → new.published ≡ old.published + many → new.sent ≡ old.sent ++ take many texts
    → new.dropping ≡ old.dropping + lost → CountsFirst texts many lost old new
counts_first old new texts many lost source closing known published sent dropping = λ k. record {
  source = source k;
  closing = closing k;
  known = known k;
  published = published k;
  sent = sent k;
  dropping = dropping k;
}
