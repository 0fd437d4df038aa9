-- What an intake holds, and what a read and a cut do to it.
use Rattle.std.specs.Prelude.{◌≡◌, ◌≢◌, ℕ, ◌+◌, ◌<◌, ◌≤◌, Bool, not, true, false, List, [], ◌∷◌, ◌++◌, length, slice_index}
use Rattle.fanout.specs.Piece.{HasNoLineFeed, ends_line, is_first, is_marked, most_of, piece_bytes}

-- the bytes that wait, and whether the line of the last text goes on
pub record IntakeState : Type 0 where
  pub waiting : List ℕ
  pub in_line : Bool

-- a text was cut off: its bytes stood before those that still wait. In the middle of a line it ends with that line at the latest;
-- else it is as many whole lines as it has room for, or a line's beginning and no line before it
pub record CutsOff (text : List ℕ) (old new : IntakeState) : Type 0 where
  pub bytes : piece_bytes text ++ new.waiting ≡ old.waiting
  pub some : 0 < length (piece_bytes text)
  pub first : is_first text ≡ not old.in_line
  pub whole : ends_line (piece_bytes text) ≡ false → HasNoLineFeed (piece_bytes text)
  pub one : old.in_line ≡ true → (i : ℕ) → i + 1 < length (piece_bytes text) → slice_index (piece_bytes text) i ≢ 10
  pub longest : old.in_line ≡ false → (i : ℕ) → length (piece_bytes text) ≤ i
      → i < most_of (is_marked old.in_line old.waiting) → i < length old.waiting → slice_index old.waiting i ≢ 10
  pub goes_on : new.in_line ≡ not (ends_line (piece_bytes text))

-- what waits at the end of a source with a line feed behind it, if a line has begun
abbrev pub ended : Bool → List ℕ → List ℕ
ended false [] = []
ended false (b ∷ bs) = (b ∷ bs) ++ (10 ∷ [])
ended true bytes = bytes ++ (10 ∷ [])

-- nothing can be cut off before more bytes come, or at the end since nothing waits
pub record NeedsMore (most : ℕ) (is_over : Bool) (old new : IntakeState) : Type 0 where
  pub same : new ≡ old
  pub short : length old.waiting < most
  pub no_line : HasNoLineFeed old.waiting
  pub over : is_over ≡ true → old.waiting ≡ []
