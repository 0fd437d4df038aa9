-- Which of the lanes that are left are done.
use Rattle.std.proofs.Common.{◌≡◌, ◌⊎◌, inl, inr, ℕ, zero, suc, ◌+◌, ◌<◌, ◌≤◌, ◌||◌, ◌&&◌, if◌then◌else◌, is_none, Bool, true, false, Option, None, Some, List, [], ◌∷◌, ◌++◌, length, refl, sym, ap, subst, ◌∙◌, append-nil, arith, rules}
use Rattle.std.specs.Prelude.{slice_get, ◌==◌}
use Rattle.std.proofs.lemmas.List.{length-append}
use Rattle.std.proofs.lemmas.Option.{same_Some}
use Rattle.feed_core.specs.Prelude.{How}
use Rattle.publisher.proofs.BothEnds.LongerLists.{get_last, get_still}
use Rattle.publisher_hub.proofs.AnswerLists.Updates.{get_grown}
use Rattle.publisher.specs.Outcome.{IsUndone, is_undone}
use Rattle.publisher.specs.declared.outcome.NamedLane.{NamedLane}

-- this many of these lanes were judged, from the first on, and these names were found
pub record IsJudged {B : Type 0} (closed : Bool) (lanes : List (NamedLane B)) (n : ℕ) (names : List (List ℕ)) : Type 0 where
  pub few : length names ≤ n
  pub each : (i : ℕ) (name : List ℕ) → slice_get names i ≡ Some name → (j : ℕ) × (left : NamedLane B)
      × ((slice_get lanes j ≡ Some left) × ((left.name ≡ name) × IsUndone left))
  pub all : (j : ℕ) (left : NamedLane B) → j < n → slice_get lanes j ≡ Some left → is_undone closed left ≡ true
      → (i : ℕ) × (slice_get names i ≡ Some left.name)
  pub done : length names ≡ 0 → (i : ℕ) (left : NamedLane B) → i < n → slice_get lanes i ≡ Some left → is_undone closed left ≡ false

undone_is : {B : Type 0} (closed : Bool) (left : NamedLane B) → is_undone closed left ≡ true → IsUndone left
undone_is closed left undone = by left.lane.running left.lane.ending refl refl undone where
  by : (running : Bool) (ending : Option How) → left.lane.running ≡ running → left.lane.ending ≡ ending
      → (running || (closed && is_none ending)) ≡ true → IsUndone left
  by true ending a b e = inl a
  by false None a b e = inr b
  by false (Some how) a b e = no closed e where
    no : (c : Bool) → (c && false) ≡ true → IsUndone left
    no true e = cc
    no false e = cc

module _ {B : Type 0} (closed : Bool) (lanes : List (NamedLane B)) where
  pub judged_none : (names : List (List ℕ)) → names ≡ [] → IsJudged closed lanes 0 names
  judged_none [] none = record {
    few = omega arith;
    each = λ i name at. cc;
    all =
        λ j left less at undone. absurd (omega arith);
    done = λ empty i left less at. absurd (omega arith);
  }
  judged_none (name ∷ names) none = cc

  pub judged_more : (n : ℕ) (names : List (List ℕ)) (left : NamedLane B) → IsJudged closed lanes n names → slice_get lanes n ≡ Some left
      → IsJudged closed lanes (n + 1) (names ++ (if is_undone closed left then left.name ∷ [] else []))
  judged_more n names left is at = by (is_undone closed left) refl where
    cases_of : (a b : ℕ) → a < b + 1 → (a < b) ⊎ (a ≡ b)
    cases_of a b less = search rules

    by : (undone : Bool) → is_undone closed left ≡ undone → IsJudged closed lanes (n + 1) (names ++ (if undone then left.name ∷ [] else []))
    by true e = record {
      few = let few = is.few in let many = length-append names (left.name ∷ []) in omega arith;
      each = λ i name stands. these i name (get_grown names left.name i name stands);
      all = λ j it less on undone. named j it (cases_of j n less) on undone;
      done = λ empty. let many = length-append names (left.name ∷ []) in absurd (omega arith);
    } where
      named : (j : ℕ) (it : NamedLane B) → (j < n) ⊎ (j ≡ n) → slice_get lanes j ≡ Some it
          → is_undone closed it ≡ true → (i : ℕ) × (slice_get (names ++ left.name ∷ []) i ≡ Some it.name)
      named j it (inl less) on undone = let was = is.all j it less on undone in (was.0, get_still names left.name was.0 it.name was.1)
      named j it (inr same) on undone =
          let here : left ≡ it = same_Some left it (sym at ∙ subst (λ k. slice_get lanes k ≡ Some it) same on) in
          (length names, get_last names left.name ∙ ap (λ (l : NamedLane B). Some l.name) here)

      these : (i : ℕ) (name : List ℕ) → (slice_get names i ≡ Some name) ⊎ ((i ≡ length names) × (left.name ≡ name))
          → (j : ℕ) × (it : NamedLane B) × ((slice_get lanes j ≡ Some it) × ((it.name ≡ name) × IsUndone it))
      these i name (inl on) = is.each i name on
      these i name (inr last) = (n, left, (at, (last.1, undone_is closed left e)))
    by false e = record {
      few = let few = is.few in let many = length-append names [] in omega arith;
      each = λ i name stands. is.each i name (search rules);
      all = λ j it less on undone. named j it (cases_of j n less) on undone;
      done = λ empty i it less on. these i it (cases_of i n less) (let many = length-append names [] in omega arith) on;
    } where
      named : (j : ℕ) (it : NamedLane B) → (j < n) ⊎ (j ≡ n) → slice_get lanes j ≡ Some it
          → is_undone closed it ≡ true → (i : ℕ) × (slice_get (names ++ []) i ≡ Some it.name)
      named j it (inl less) on undone = let was = is.all j it less on undone in
          (was.0, subst (λ ns. slice_get ns was.0 ≡ Some it.name) (sym (append-nil names)) was.1)
      named j it (inr same) on undone =
          let here : left ≡ it = same_Some left it (sym at ∙ subst (λ k. slice_get lanes k ≡ Some it) same on) in
          let never : false ≡ true = sym e ∙ ap (λ (l : NamedLane B). is_undone closed l) here ∙ undone in cc

      these : (i : ℕ) (it : NamedLane B) → (i < n) ⊎ (i ≡ n) → length names ≡ 0 → slice_get lanes i ≡ Some it → is_undone closed it ≡ false
      these i it (inl less) empty on = is.done empty i it less on
      these i it (inr same) empty on = subst (λ l. is_undone closed l ≡ false)
          (same_Some left it (sym at ∙ subst (λ k. slice_get lanes k ≡ Some it) same on)) e

-- whether a list is empty
pub empty_is : (n : ℕ) → (n == 0) ≡ true → n ≡ 0
empty_is n e = search rules

pub some_is : (n : ℕ) → (n == 0) ≡ false → 0 < n
some_is zero e = cc
some_is (suc n) e = omega arith
