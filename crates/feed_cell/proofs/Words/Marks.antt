-- Words with a mark in bit 63, and the numbers in them.
use Rattle.std.proofs.Common.{◌≡◌, ℕ, ◌%◌, ◌<◌, ◌≤◌, Bool, true, false, refl, arith}
use Rattle.feed_cell.specs.Control.{MARK, marked}

-- a number without its mark
pub unmark : (b : Bool) (n : ℕ) → n < MARK → marked b n % MARK ≡ n
unmark false n small = omega arith
unmark true n small = omega arith

-- the mark of a word that is at least as large
pub marked_by : (b : Bool) (n word : ℕ) → n < MARK → word ≡ marked b n → MARK ≤ word → b ≡ true
marked_by true n word small is large = refl
marked_by false n word small is large = absurd (omega arith)

-- a word without its mark is below it
pub unmarked_by : (b : Bool) (n word : ℕ) → n < MARK → word ≡ marked b n → b ≡ false → word < MARK
unmarked_by false n word small is e = omega arith
unmarked_by true n word small is e = cc

-- a word with its mark is at least as large
pub large_by : (b : Bool) (n word : ℕ) → word ≡ marked b n → b ≡ true → MARK ≤ word
large_by true n word is e = omega arith
large_by false n word is e = cc
