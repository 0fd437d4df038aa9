-- Submitters that gave their passes back, one after the other.
use Rattle.std.proofs.Common.{◌≡◌, ◌⊎◌, inl, inr, ℕ, ◌<◌, ◌≤◌, ◌==◌, Bool, true, false, Some, List, [], ◌∷◌, ◌++◌, length, refl, sym, ap, subst, ◌∙◌, arith, eq-eqb}
use Rattle.std.specs.Prelude.{slice_get}
use Rattle.std.proofs.lemmas.List.{length-append}
use Rattle.std.proofs.lemmas.Option.{same_Some, slice_get_within}
use Rattle.history.specs.History.{is_in, or_else, texts_of}
use Rattle.history.specs.declared.rule.Entry.{Entry}
use Rattle.publisher_hub.proofs.PartialRounds.Progress.{below_or_last}
use Rattle.publisher.specs.Content.{AreSentIn, IsWholeIn}
use Rattle.publisher.specs.Handles.{SubmitterState}
use Rattle.publisher.specs.Together.{AreBack}

-- a pass that was compared with the history is whole
pub whole_in : (log now : List Entry) (s : SubmitterState) (source : ℕ) (sent : List (List ℕ)) (amount : ℕ)
    → now ≡ log → source ≡ s.source → amount ≡ s.published → sent ≡ s.sent → sent ≡ texts_of source now → length sent ≡ amount
    → IsWholeIn log s
whole_in log now s source sent amount same source_is amount_is sent_is texts many = record {
  texts = sym sent_is ∙ texts ∙ (λ k. texts_of (source_is k) (same k));
  many = ap length (sym sent_is) ∙ many ∙ amount_is;
}

-- none gave its pass back yet
pub back_none : (log : List Entry) (submitters : List SubmitterState) (back : List ℕ) → AreBack log submitters submitters back
back_none log submitters back = record {
  each = λ i s at from. absurd (beyond i s at from);
  marked = λ i s at from. absurd (beyond i s at from);
  apart = λ i j s other at on from less same. beyond i s at from;
} where
  beyond : (i : ℕ) (s : SubmitterState) → slice_get submitters i ≡ Some s → length submitters ≤ i → ⊥
  beyond i s at from = let within = slice_get_within submitters i s at in absurd (omega arith)

first_in : (x : ℕ) (xs : List ℕ) → is_in x (x ∷ xs) ≡ true
first_in x xs = ap (λ (b : Bool). or_else b (is_in x xs)) (eq-eqb x x refl)

later_in : (x y : ℕ) (xs : List ℕ) → is_in x xs ≡ true → is_in x (y ∷ xs) ≡ true
later_in x y xs is = by (y == x) where
  by : (b : Bool) → or_else b (is_in x xs) ≡ true
  by true = refl
  by false = is

-- one more gave its pass back, of a source that had not before
module _ (log : List Entry) (submitters rest : List SubmitterState) (s : SubmitterState) (back : List ℕ)
    (are : AreBack log submitters (rest ++ s ∷ []) back) (stands : slice_get submitters (length rest) ≡ Some s)
    (whole : IsWholeIn log s) (first : is_in s.source back ≡ false) where
  -- it stands at that place, and those after it gave theirs back before
  where_is : (i : ℕ) → length rest ≤ i → (length rest ≡ i) ⊎ (length (rest ++ s ∷ []) ≤ i)
  where_is i from = by (below_or_last (length rest) i (omega arith)) where
    by : (length rest < i) ⊎ (length rest ≡ i) → (length rest ≡ i) ⊎ (length (rest ++ s ∷ []) ≤ i)
    by (inl less) = let many = length-append rest (s ∷ []) in inr (omega arith)
    by (inr same) = inl same

  it_is : (i : ℕ) (u : SubmitterState) → slice_get submitters i ≡ Some u → length rest ≡ i → s ≡ u
  it_is i u at same = same_Some s u (sym stands ∙ subst (λ k. slice_get submitters k ≡ Some u) (sym same) at)

  each_more : (i : ℕ) (u : SubmitterState) → slice_get submitters i ≡ Some u → length rest ≤ i → IsWholeIn log u
  each_more i u at from = by (where_is i from) where
    by : (length rest ≡ i) ⊎ (length (rest ++ s ∷ []) ≤ i) → IsWholeIn log u
    by (inl same) = subst (IsWholeIn log) (it_is i u at same) whole
    by (inr beyond) = are.each i u at beyond

  marked_more : (i : ℕ) (u : SubmitterState) → slice_get submitters i ≡ Some u → length rest ≤ i
      → is_in u.source (s.source ∷ back) ≡ true
  marked_more i u at from = by (where_is i from) where
    by : (length rest ≡ i) ⊎ (length (rest ++ s ∷ []) ≤ i) → is_in u.source (s.source ∷ back) ≡ true
    by (inl same) = subst (λ (v : SubmitterState). is_in v.source (s.source ∷ back) ≡ true) (it_is i u at same)
        (first_in s.source back)
    by (inr beyond) = later_in u.source s.source back (are.marked i u at beyond)

  apart_more : (i j : ℕ) (u v : SubmitterState) → slice_get submitters i ≡ Some u → slice_get submitters j ≡ Some v
      → length rest ≤ i → i < j → u.source ≡ v.source → ⊥
  apart_more i j u v at on from less same = by (where_is i from) where
    later : length (rest ++ s ∷ []) ≤ j
    later = let many = length-append rest (s ∷ []) in omega arith

    by : (length rest ≡ i) ⊎ (length (rest ++ s ∷ []) ≤ i) → ⊥
    by (inl here) =
        let source : s.source ≡ v.source = ap (λ (w : SubmitterState). w.source) (it_is i u at here) ∙ same in
        let no : false ≡ true = sym first ∙ ap (λ n. is_in n back) source ∙ are.marked j v on later in cc
    by (inr beyond) = are.apart i j u v at on beyond less same

  one_back : AreBack log submitters rest (s.source ∷ back)
  one_back = record { each = each_more; marked = marked_more; apart = apart_more }

pub back_more : (log : List Entry) (submitters rest : List SubmitterState) (s : SubmitterState) (back now : List ℕ) (source : ℕ)
    → AreBack log submitters (rest ++ s ∷ []) back → slice_get submitters (length rest) ≡ Some s → IsWholeIn log s
    → source ≡ s.source → is_in source back ≡ false → now ≡ source ∷ back → AreBack log submitters rest now
back_more log submitters rest s back now source are stands whole same first grown =
    subst (AreBack log submitters rest) (sym (grown ∙ ap (λ n. n ∷ back) same))
    (one_back log submitters rest s back are stands whole (ap (λ n. is_in n back) (sym same) ∙ first))

-- all gave their passes back
pub all_back : (log : List Entry) (submitters : List SubmitterState) (back : List ℕ) → AreBack log submitters [] back
    → AreSentIn log submitters
all_back log submitters back are = record {
  each = λ i s at. are.each i s at (omega arith);
  apart = λ i j s other at on less same. are.apart i j s other at on (omega arith) less same;
}
