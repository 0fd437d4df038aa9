-- What a search among rising numbers finds.
use Rattle.std.proofs.Common.{◌≡◌, ◌⊎◌, ℕ, ◌+◌, ◌<◌, ◌≤◌, Err, Some, List, length, get_or, ap, inl, inr, arith}
use Rattle.std.specs.Prelude.{slice_get}
use Rattle.std.proofs.lemmas.List.Sorted.{searched}
use Rattle.std.proofs.lemmas.Option.{get_or_from_slice_get, slice_get-get_or, slice_get_within}
use Rattle.publisher_hub.proofs.PartialRounds.Progress.{below_or_last}
use Rattle.publisher_hub.proofs.hub.admit.rank_of.Goals as goal

-- rising numbers don't fall
ascending : (numbers : List ℕ)
    → ((i j n m : ℕ) → slice_get numbers i ≡ Some n → slice_get numbers j ≡ Some m → i < j → n < m)
    → (i j : ℕ) → i ≤ j → j < length numbers → get_or numbers i 0 ≤ get_or numbers j 0
ascending numbers rising i j no_later within = by (below_or_last i j (omega arith)) where
  by : (i < j) ⊎ (i ≡ j) → get_or numbers i 0 ≤ get_or numbers j 0
  by (inl before) =
      let low = rising i j (get_or numbers i 0) (get_or numbers j 0) (slice_get-get_or numbers i 0 (omega arith)) (slice_get-get_or numbers j 0 within) before in
      omega arith
  by (inr same) = let e = ap (λ k. get_or numbers k 0) same in omega arith

pub returns-in-Err-clause-below : goal.returns-in-Err-clause-below
returns-in-Err-clause-below c i n at before =
    let found = searched c.args.numbers.now c.args.number (Err c.in-Err.rank) c.in-Err.ensures.position (ascending c.args.numbers.now c.requires.rising) in
    let low = found.1 i before in
    let is = get_or_from_slice_get c.args.numbers.now i n 0 at in
    omega arith

pub returns-in-Err-clause-above : goal.returns-in-Err-clause-above
returns-in-Err-clause-above c i n at after =
    let found = searched c.args.numbers.now c.args.number (Err c.in-Err.rank) c.in-Err.ensures.position (ascending c.args.numbers.now c.requires.rising) in
    let high = found.2 i after (slice_get_within c.args.numbers.now i n at) in
    let is = get_or_from_slice_get c.args.numbers.now i n 0 at in
    omega arith
