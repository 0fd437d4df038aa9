-- The lines of bytes: where the first ends, and how many there are.
use Rattle.std.proofs.Common.{◌≡◌, ◌≢◌, ◌⊎◌, inl, inr, ⊎_elim, ℕ, zero, suc, ◌+◌, ◌-◌, ◌<◌, ◌≤◌, cond, true, false, refl, ap, sym, ◌∙◌, List, [], ◌∷◌, ◌++◌, length, take, drop, slice_index, count_by, arith, rules}
use Rattle.std.specs.List.{onto_first}
use Rattle.std.proofs.Math.ListN.{take-append-drop}
use Rattle.std.proofs.Math.Seq.{take-take}
use Rattle.std.proofs.lemmas.Bool.{cases_eq}
use Rattle.std.proofs.lemmas.List.{drop-take}
use Rattle.std.proofs.lemmas.List.Sums.{sum_by-append, sum_by-cons, sum_by-take-drop}
use Rattle.memchr.specs.Find.{is_byte, places}
use Rattle.memchr.proofs.lemmas.CallerLemmas.{length-places}
use Rattle.fanout.specs.Piece.{ends_line, lines_of}

-- a line feed is a line's end, and any other byte stands in the line that follows it
pub lines_of_feed : (b : ℕ) (bs : List ℕ) → b ≡ 10 → lines_of (b ∷ bs) ≡ (b ∷ []) ∷ lines_of bs
lines_of_feed b bs is = rw is refl

pub lines_of_other : (b : ℕ) (bs : List ℕ) → b ≢ 10 → lines_of (b ∷ bs) ≡ onto_first b (lines_of bs)
lines_of_other b bs is_not = search rules

-- a line of one byte
line_of_one : (b : ℕ) (bs : List ℕ) → (b ≡ 10) ⊎ (1 ≡ length (b ∷ bs)) → lines_of (b ∷ bs) ≡ (b ∷ []) ∷ lines_of bs
line_of_one b bs (inl is) = lines_of_feed b bs is
line_of_one b [] (inr is) = ⊎_elim (λ e. lines_of_feed b [] e) (λ e. lines_of_other b [] e) (cases_eq b 10)
line_of_one b (x ∷ xs) (inr is) = absurd (omega (arith, is))

-- the last of more bytes is the last of those behind the first
last_behind : (b : ℕ) (bs : List ℕ) (n : ℕ) → slice_index (b ∷ bs) (suc (suc n) - 1) ≡ slice_index bs (suc n - 1)
last_behind b bs n =
    let one : suc (suc n) - 1 ≡ suc n = omega arith in
    let two : suc n - 1 ≡ n = omega arith in
    rw (one, two) refl

-- the first n bytes are the first line: no line feed stands before their end, and one does there, or there are no more bytes
pub first_line : (bytes : List ℕ) (n : ℕ) → 0 < n → n ≤ length bytes
    → ((i : ℕ) → i + 1 < n → slice_index bytes i ≢ 10)
    → (slice_index bytes (n - 1) ≡ 10) ⊎ (n ≡ length bytes)
    → lines_of bytes ≡ take n bytes ∷ lines_of (drop n bytes)
first_line [] n some within whole ends = absurd (omega arith)
first_line (b ∷ bs) zero some within whole ends = absurd (omega arith)
first_line (b ∷ bs) (suc zero) some within whole ends = line_of_one b bs ends
first_line (b ∷ bs) (suc (suc n)) some within whole ends =
    let later : (slice_index bs (suc n - 1) ≡ 10) ⊎ (suc n ≡ length bs) =
    ⊎_elim (λ e. inl (sym (last_behind b bs n) ∙ e)) (λ e. inr (omega (arith, e))) ends in
    let rest : lines_of bs ≡ take (suc n) bs ∷ lines_of (drop (suc n) bs) =
    first_line bs (suc n) (omega arith) (omega arith) (λ i less. whole (suc i) (omega arith)) later in
    lines_of_other b bs (whole 0 (omega arith)) ∙ ap (onto_first b) rest

-- bytes have as many lines as line feeds, and one more if no line feed ends them
length-onto_first : (b : ℕ) (lines : List (List ℕ)) → 0 < length lines → length (onto_first b lines) ≡ length lines
length-onto_first b [] some = absurd (omega arith)
length-onto_first b (l ∷ ls) some = refl

count_behind : (b : ℕ) (bs : List ℕ) → count_by (is_byte 10) (b ∷ bs) ≡ cond (is_byte 10 b) 1 0 + count_by (is_byte 10) bs
count_behind b bs = sum_by-cons (λ x. cond (is_byte 10 x) 1 0) b bs

onto_some : (b : ℕ) (lines : List (List ℕ)) → 0 < length (onto_first b lines)
onto_some b [] = omega arith
onto_some b (l ∷ ls) = omega arith

some_line : (b : ℕ) (bs : List ℕ) → 0 < length (lines_of (b ∷ bs))
some_line b bs = ⊎_elim
    (λ e. rw (lines_of_feed b bs e) (omega arith))
    (λ e. rw (lines_of_other b bs e) (onto_some b (lines_of bs)))
    (cases_eq b 10)

pub count_of_lines : (b : ℕ) (bs : List ℕ)
    → length (lines_of (b ∷ bs)) ≡ count_by (is_byte 10) (b ∷ bs) + cond (ends_line (b ∷ bs)) 0 1
count_of_lines b [] = ⊎_elim (λ e. rw e refl) (λ e. search rules) (cases_eq b 10)
count_of_lines b (c ∷ cs) =
    let ih : length (lines_of (c ∷ cs)) ≡ count_by (is_byte 10) (c ∷ cs) + cond (ends_line (c ∷ cs)) 0 1 = count_of_lines c cs in
    let same : ends_line (b ∷ (c ∷ cs)) ≡ ends_line (c ∷ cs) = search rules in
    let counted = count_behind b (c ∷ cs) in
    ⊎_elim
    (λ e.
    let lines = ap length (lines_of_feed b (c ∷ cs) e) in
    let one : cond {A = ℕ} (is_byte 10 b) 1 0 ≡ 1 = rw e refl in
    rw same (omega (arith, ih, lines, counted, one)))
    (λ e.
    let lines = ap length (lines_of_other b (c ∷ cs) e) ∙ length-onto_first b (lines_of (c ∷ cs)) (some_line c cs) in
    let none : cond {A = ℕ} (is_byte 10 b) 1 0 ≡ 0 = search rules in
    rw same (omega (arith, ih, lines, counted, none)))
    (cases_eq b 10)

pub closed_lines : (bytes : List ℕ) → (length bytes ≡ 0) ⊎ (ends_line bytes ≡ true)
    → count_by (is_byte 10) bytes ≡ length (lines_of bytes)
closed_lines [] is = refl
closed_lines (b ∷ bs) (inl is) = absurd (omega (arith, is))
closed_lines (b ∷ bs) (inr is) =
    let all = count_of_lines b bs in
    let none : cond {A = ℕ} (ends_line (b ∷ bs)) 0 1 ≡ 0 = rw is refl in
    omega (arith, all, none)

pub open_lines : (bytes : List ℕ) → 0 < length bytes → ends_line bytes ≡ false
    → count_by (is_byte 10) bytes + 1 ≡ length (lines_of bytes)
open_lines [] some is = absurd (omega arith)
open_lines (b ∷ bs) some is =
    let all = count_of_lines b bs in
    let one : cond {A = ℕ} (ends_line (b ∷ bs)) 0 1 ≡ 1 = rw is refl in
    omega (arith, all, one)

-- what is counted step by step
pub take_plus : (xs : List ℕ) (d r : ℕ) → take (d + r) xs ≡ take d xs ++ take r (drop d xs)
take_plus xs d r =
    let whole = take-append-drop d (take (d + r) xs) in
    let front : take d (take (d + r) xs) ≡ take d xs = take-take d (d + r) xs (omega arith) in
    let back : drop d (take (d + r) xs) ≡ take r (drop d xs) = drop-take d r xs in
    cc

pub count_plus : (xs : List ℕ) (d r : ℕ)
    → count_by (is_byte 10) (take (d + r) xs) ≡ count_by (is_byte 10) (take d xs) + count_by (is_byte 10) (take r (drop d xs))
count_plus xs d r =
    ap (count_by (is_byte 10)) (take_plus xs d r)
    ∙ sum_by-append (λ x. cond (is_byte 10 x) 1 0) (take d xs) (take r (drop d xs))

pub count_rest : (xs : List ℕ) (d : ℕ)
    → count_by (is_byte 10) (take d xs) + length (places (is_byte 10) (drop d xs)) ≡ count_by (is_byte 10) xs
count_rest xs d = rw (length-places (is_byte 10) (drop d xs)) (sum_by-take-drop (λ x. cond (is_byte 10 x) 1 0) xs d)
