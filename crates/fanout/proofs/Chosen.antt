-- The lines that pass, as they are added.
use Rattle.std.proofs.Common.{◌≡◌, ℕ, ◌+◌, ◌-◌, ◌≤◌, ⊎_elim, cond, true, refl, ap, sym, ◌∙◌, List, [], ◌∷◌, ◌++◌, length, take, drop, count_by, slice_range, arith, rules}
use Rattle.std.specs.List.{onto_first}
use Rattle.std.proofs.lemmas.Bool.{cases_eq}
use Rattle.std.proofs.lemmas.List.{append_assoc}
use Rattle.std.proofs.lemmas.List.Sums.{sum_by-cons}
use Rattle.std.proofs.Math.Seq.{drop-drop}
use Rattle.fanout.specs.Filter.{kept, passes}
use Rattle.fanout.specs.Piece.{lines_of}
use Rattle.fanout.specs.declared.filter.Rule.{Rule}
use Rattle.fanout.proofs.Ends.{lines_of_feed, lines_of_other, take_plus}

-- there are no rules
pub none_left : {A : Type 0} (xs : List A) → length xs ≡ 0 → xs ≡ []
none_left [] is = refl
none_left (x ∷ xs) is = absurd (omega (arith, is))

-- without rules all lines pass
kept_onto : (b : ℕ) (lines : List (List ℕ)) → kept [] (onto_first b lines) ≡ b ∷ kept [] lines
kept_onto b [] = refl
kept_onto b (l ∷ ls) = refl

pub kept_all : (bytes : List ℕ) → kept [] (lines_of bytes) ≡ bytes
kept_all [] = refl
kept_all (b ∷ bs) = ⊎_elim
    (λ e. ap (kept []) (lines_of_feed b bs e) ∙ ap (λ t. b ∷ t) (kept_all bs))
    (λ e. ap (kept []) (lines_of_other b bs e) ∙ (kept_onto b (lines_of bs) ∙ ap (λ t. b ∷ t) (kept_all bs)))
    (cases_eq b 10)

pub count_all : (lines : List (List ℕ)) → count_by (passes []) lines ≡ length lines
count_all [] = refl
count_all (l ∷ ls) =
    let more = sum_by-cons (λ x. cond (passes [] x) 1 0) l ls in
    let rest = count_all ls in
    omega (arith, more, rest)

-- one line more, which passes or doesn't
module _ (rules_of : List Rule) (xs : List ℕ) (run at r : ℕ) (sorted : run ≤ at)
    (line : lines_of (drop at xs) ≡ take r (drop at xs) ∷ lines_of (drop r (drop at xs))) where
  alone : slice_range xs at (at + r) ≡ take r (drop at xs)
  alone = let e : at + r - at ≡ r = omega arith in rw e refl

  next : lines_of (drop at xs) ≡ take r (drop at xs) ∷ lines_of (drop (at + r) xs)
  next = line ∙ ap (λ t. take r (drop at xs) ∷ lines_of t) (drop-drop r at xs)

  longer : slice_range xs run (at + r) ≡ slice_range xs run at ++ take r (drop at xs)
  longer =
      let e : at + r - run ≡ (at - run) + r = omega arith in
      let f : run + (at - run) ≡ at = omega arith in
      let one : take ((at - run) + r) (drop run xs) ≡ take (at - run) (drop run xs) ++ take r (drop (at - run) (drop run xs)) =
      take_plus (drop run xs) (at - run) r in
      let two : drop (at - run) (drop run xs) ≡ drop (run + (at - run)) xs = drop-drop (at - run) run xs in
      rw e (one ∙ ap (λ t. take (at - run) (drop run xs) ++ take r t) (two ∙ ap (λ k. drop k xs) f))

  pub counts : count_by (passes rules_of) (lines_of (drop at xs))
      ≡ cond (passes rules_of (slice_range xs at (at + r))) 1 0 + count_by (passes rules_of) (lines_of (drop (at + r) xs))
  counts = rw alone (ap (count_by (passes rules_of)) next
      ∙ sum_by-cons (λ x. cond (passes rules_of x) 1 0) (take r (drop at xs)) (lines_of (drop (at + r) xs)))

  pub more : length (lines_of (drop at xs)) ≡ 1 + length (lines_of (drop (at + r) xs))
  more = let e = ap length next in omega (arith, e)

  pub adds : (page total : List ℕ) → passes rules_of (slice_range xs at (at + r)) ≡ true
      → page ++ (slice_range xs run at ++ kept rules_of (lines_of (drop at xs))) ≡ total
      → page ++ (slice_range xs run (at + r) ++ kept rules_of (lines_of (drop (at + r) xs))) ≡ total
  adds page total pass is =
      let rest = kept rules_of (lines_of (drop (at + r) xs)) in
      let there : passes rules_of (take r (drop at xs)) ≡ true = ap (passes rules_of) (sym alone) ∙ pass in
      let kept_is : kept rules_of (lines_of (drop at xs)) ≡ take r (drop at xs) ++ rest =
      ap (kept rules_of) next ∙ ap (λ b. cond b (take r (drop at xs)) [] ++ rest) there in
      let joined : slice_range xs run (at + r) ++ rest ≡ slice_range xs run at ++ (take r (drop at xs) ++ rest) =
      rw longer (append_assoc (slice_range xs run at) (take r (drop at xs)) rest) in
      ap (λ t. page ++ t) (joined ∙ ap (λ t. slice_range xs run at ++ t) (sym kept_is)) ∙ is
