-- What submitters have together, one after the other.
use Rattle.std.proofs.Common.{◌≡◌, ◌⊎◌, inl, inr, ℕ, zero, suc, ◌+◌, ◌<◌, ◌≤◌, ◌||◌, Bool, true, false, is_some, None, Some, List, [], ◌∷◌, ◌++◌, length, slice_set, refl, sym, ap, subst, ◌∙◌, arith, rules}
use Rattle.std.specs.Prelude.{IsSome, slice_get}
use Rattle.std.proofs.lemmas.List.{length-append, length-set}
use Rattle.std.proofs.lemmas.List.Sums.{sum_by-append}
use Rattle.std.proofs.lemmas.Option.{slice_get_within}
use Rattle.publisher.proofs.BothEnds.LongerLists.{get_last, get_still}
use Rattle.publisher_hub.proofs.AnswerLists.Updates.{get_elsewhere, get_grown, get_there}
use Rattle.publisher.specs.Handles.{SubmitterState}
use Rattle.publisher.specs.Outcome.{AnyKnows, IsAway, IsSourceThere}
use Rattle.publisher.specs.Together.{AreTogether, marks}

pub marks_set : (bits : List Bool) (k : ℕ) → marks (slice_set bits k true) ≤ marks bits + 1
marks_set [] k = omega arith
marks_set (true ∷ bits) zero = omega arith
marks_set (false ∷ bits) zero = omega arith
marks_set (true ∷ bits) (suc k) = let more = marks_set bits k in omega arith
marks_set (false ∷ bits) (suc k) = let more = marks_set bits k in omega arith

pub marks_all : (bits : List Bool) (many : ℕ) → ((k : ℕ) → k < many → slice_get bits k ≡ Some true) → many ≤ marks bits
marks_all bits zero all = omega arith
marks_all [] (suc many) all = let no : None ≡ Some true = all 0 (omega arith) in cc
marks_all (true ∷ bits) (suc many) all = let more = marks_all bits many (λ k less. all (suc k) (omega arith)) in omega arith
marks_all (false ∷ bits) (suc many) all = let no : Some false ≡ Some true = all 0 (omega arith) in cc

or_right : (a b : Bool) → b ≡ true → (a || b) ≡ true
or_right true b e = refl
or_right false b e = e

or_left : (a b : Bool) → a ≡ true → (a || b) ≡ true
or_left true b e = refl
or_left false b e = cc

unmarked : (bits : List Bool) → marks bits ≡ 0 → (k : ℕ) → slice_get bits k ≡ Some true → ⊥
unmarked [] none k at = cc
unmarked (true ∷ bits) none k at = absurd (omega arith)
unmarked (false ∷ bits) none zero at = cc
unmarked (false ∷ bits) none (suc k) at = unmarked bits none k at

pub together_none : (submitters : List SubmitterState) (sources : List Bool) → length sources ≡ 256
    → marks sources ≡ 0 → AreTogether submitters submitters 0 0 0 0 sources false
together_none submitters sources long none = record {
  kept = λ i s at. at;
  there = λ source at. absurd (unmarked sources none source at);
  published_are = omega arith;
  dropping_are = omega arith;
  parts_are = omega arith;
  drop_parts_are = omega arith;
  long = long;
  few = omega arith;
  away = λ source unmarked away. away;
  knows_is = λ knows. inr knows;
}

-- the last of the rest stands where it stood
pub stands_last : (submitters rest : List SubmitterState) (s : SubmitterState) (published dropping parts drop_parts : ℕ)
    (sources : List Bool) (knows : Bool) → AreTogether submitters (rest ++ s ∷ []) published dropping parts drop_parts sources knows
    → slice_get submitters (length rest) ≡ Some s
stands_last submitters rest s published dropping parts drop_parts sources knows are = are.kept (length rest) s (get_last rest s)

module _ (submitters rest : List SubmitterState) (s : SubmitterState) (published dropping parts drop_parts : ℕ)
    (sources : List Bool) (knows : Bool)
    (are : AreTogether submitters (rest ++ s ∷ []) published dropping parts drop_parts sources knows) where
  away_more : (source : ℕ) → slice_get (slice_set sources s.source true) source ≡ Some false → IsAway source rest → IsAway source submitters
  away_more source unmarked away = by (cases_of s.source source) where
    cases_of : (a b : ℕ) → (a ≡ b) ⊎ (a ≡ b → ⊥)
    cases_of a b = search rules

    all_away : (s.source ≡ source → ⊥) → IsAway source (rest ++ s ∷ [])
    all_away other i it at same = these (get_grown rest s i it at) where
      these : (slice_get rest i ≡ Some it) ⊎ ((i ≡ length rest) × (s ≡ it)) → ⊥
      these (inl on) = away i it on same
      these (inr last) = other (ap (λ (u : SubmitterState). u.source) last.1 ∙ same)

    by : (s.source ≡ source) ⊎ (s.source ≡ source → ⊥) → IsAway source submitters
    by (inl same) =
        let within : source < length sources = subst (λ n. source < n) (length-set sources s.source true)
        (slice_get_within (slice_set sources s.source true) source false unmarked) in
        let set : slice_get (slice_set sources s.source true) source ≡ Some true =
        subst (λ k. slice_get (slice_set sources k true) source ≡ Some true) (sym same) (get_there sources source true within) in
        let no : Some true ≡ Some false = sym set ∙ unmarked in cc
    by (inr other) = are.away source (sym (get_elsewhere sources s.source source true other) ∙ unmarked) (all_away other)

  there_more : (source : ℕ) → slice_get (slice_set sources s.source true) source ≡ Some true → IsSourceThere source submitters
  there_more source marked = by (cases_of s.source source) where
    cases_of : (a b : ℕ) → (a ≡ b) ⊎ (a ≡ b → ⊥)
    cases_of a b = search rules

    by : (s.source ≡ source) ⊎ (s.source ≡ source → ⊥) → IsSourceThere source submitters
    by (inl same) = (length rest, s, (are.kept (length rest) s (get_last rest s), same))
    by (inr other) = are.there source (sym (get_elsewhere sources s.source source true other) ∙ marked)

  knows_more : AnyKnows submitters → ((knows || is_some s.known) ≡ true) ⊎ AnyKnows rest
  knows_more any = by (are.knows_is any) where
    last : (i : ℕ) (it : SubmitterState) → IsSome it.known
        → (slice_get rest i ≡ Some it) ⊎ ((i ≡ length rest) × (s ≡ it)) → ((knows || is_some s.known) ≡ true) ⊎ AnyKnows rest
    last i it some (inl on) = inr (i, it, (on, some))
    last i it some (inr at) = inl (or_right knows (is_some s.known)
        (subst (λ (u : SubmitterState). is_some u.known ≡ true) (sym at.1) some))

    by : (knows ≡ true) ⊎ AnyKnows (rest ++ s ∷ []) → ((knows || is_some s.known) ≡ true) ⊎ AnyKnows rest
    by (inl known) = inl (or_left knows (is_some s.known) known)
    by (inr one) = last one.0 one.1 one.2.1 (get_grown rest s one.0 one.1 one.2.0)

  pub together_more : AreTogether submitters rest (published + s.published) (dropping + s.dropping) (parts + 1)
      (drop_parts + 1) (slice_set sources s.source true) (knows || is_some s.known)
  together_more =
      let many = length-append rest (s ∷ []) in
      record {
        published_are = let sum = sum_by-append (λ (u : SubmitterState). u.published) rest (s ∷ []) in let was =
            are.published_are in omega arith;
        dropping_are = let sum = sum_by-append (λ (u : SubmitterState). u.dropping) rest (s ∷ []) in let was =
            are.dropping_are in omega arith;
        parts_are = let was = are.parts_are in omega arith;
        drop_parts_are = let was = are.drop_parts_are in omega arith;
        long = length-set sources s.source true ∙ are.long;
        few = let was = are.few in let set = marks_set sources s.source in omega arith;
        kept = λ i it at. are.kept i it (get_still rest s i it at);
        there = there_more;
        away = away_more;
        knows_is = knows_more;
      }
