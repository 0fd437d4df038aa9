-- Bytes that are cut off, as a text.
use Rattle.std.proofs.Common.{◌≡◌, ◌≢◌, ◌⊎◌, ⊎_elim, ◌∙◌, sym, ℕ, ◌+◌, ◌-◌, ◌<◌, ◌≤◌, Bool, not, true, false, refl, subst, List, [], ◌∷◌, length, take, drop, slice_index, slice_range, arith, rules}
use Rattle.std.proofs.Math.ListN.{length-drop, take-append-drop}
use Rattle.std.proofs.Math.Seq.{take-take, drop-drop, length-take-le}
use Rattle.std.proofs.lemmas.List.{drop-take, get_or-take}
use Rattle.fanout.specs.Intake.{CutsOff, IntakeState}
use Rattle.std.proofs.lemmas.Bool.{cases_eq}
use Rattle.fanout.specs.Piece.{ends_line, is_first, is_marked, most_of, piece_bytes, text_of}

-- a text says whether a line begins with it, and has its bytes
first_of_text : (in_line : Bool) (bytes : List ℕ) → 0 < length bytes
    → (in_line ≡ true → (i : ℕ) → i + 1 < length bytes → slice_index bytes i ≢ 10)
    → is_first (text_of (is_marked in_line bytes) bytes) ≡ not in_line
first_of_text in_line [] some one = absurd (omega arith)
first_of_text true (x ∷ []) some one = search rules
first_of_text true (x ∷ (y ∷ ys)) some one = let is : x ≢ 10 = one refl 0 (omega arith) in search rules
first_of_text false (x ∷ []) some one = search rules
first_of_text false (x ∷ (y ∷ ys)) some one = ⊎_elim (λ e. search rules) (λ e. search rules) (cases_eq x 10)

bytes_of_text : (in_line : Bool) (bytes : List ℕ) → 0 < length bytes
    → piece_bytes (text_of (is_marked in_line bytes) bytes) ≡ bytes
bytes_of_text in_line [] some = absurd (omega arith)
bytes_of_text true (x ∷ xs) some = search rules
bytes_of_text false (x ∷ []) some = search rules
bytes_of_text false (x ∷ (y ∷ ys)) some = ⊎_elim (λ e. search rules) (λ e. search rules) (cases_eq x 10)

-- if no line ends with the first n bytes, the last of them is no line feed
not_last : (waiting : List ℕ) (n : ℕ) → 0 < n → n ≤ length waiting → ends_line (take n waiting) ≡ false → slice_index waiting (n - 1) ≢ 10
not_last waiting n some within goes_on is =
    let long : length (take n waiting) ≡ n = length-take-le n waiting within in
    let at : slice_index (take n waiting) (n - 1) ≡ 10 = get_or-take n waiting (n - 1) 0 (omega arith) ∙ is in
    search rules

-- the first n bytes of those that wait are one text's
pub record IsCut (in_line : Bool) (waiting : List ℕ) (n : ℕ) : Type 0 where
  pub some : 0 < n
  pub within : n ≤ length waiting
  pub whole : slice_index waiting (n - 1) ≢ 10 → (i : ℕ) → i < n → slice_index waiting i ≢ 10
  pub one : in_line ≡ true → (i : ℕ) → i + 1 < n → slice_index waiting i ≢ 10
  pub longest : in_line ≡ false → (i : ℕ) → n ≤ i → i < most_of (is_marked in_line waiting) → i < length waiting
      → slice_index waiting i ≢ 10

-- then the text is cut off, and the rest waits on
pub cuts_taken : (waiting : List ℕ) (n : ℕ) (in_line : Bool) → IsCut in_line waiting n
    → CutsOff (text_of (is_marked in_line (take n waiting)) (take n waiting)) (record { waiting = waiting; in_line = in_line })
    (record { waiting = drop n waiting; in_line = not (ends_line (take n waiting)) })
cuts_taken waiting n in_line is =
    let long : length (take n waiting) ≡ n = length-take-le n waiting is.within in
    let at : (i : ℕ) → i < n → slice_index (take n waiting) i ≡ slice_index waiting i = (λ i less. get_or-take n waiting i 0 less) in
    let one : in_line ≡ true → (i : ℕ) → i + 1 < length (take n waiting) → slice_index (take n waiting) i ≢ 10 =
    (λ e i less f. is.one e i (omega (arith, long, less)) (sym (at i (omega (arith, long, less))) ∙ f)) in
    let bytes : piece_bytes (text_of (is_marked in_line (take n waiting)) (take n waiting)) ≡ take n waiting =
    bytes_of_text in_line (take n waiting) (omega (arith, long, is.some)) in
    let last : ends_line (take n waiting) ≡ false → slice_index waiting (n - 1) ≢ 10 = not_last waiting n is.some is.within in
    record {
      bytes = rw bytes (take-append-drop n waiting);
      some = rw bytes (omega (arith, long, is.some));
      first = first_of_text in_line (take n waiting) (omega (arith, long, is.some)) one;
      whole = rw bytes (λ goes_on i less f. is.whole (last goes_on) i (omega (arith, long, less)) (sym (at i (omega (arith, long, less))) ∙ f));
      one = rw bytes (one);
      longest = rw bytes (rw long (is.longest));
      goes_on = rw bytes (refl);
    }

-- what stands in a room is cut in the same way
pub room_taken : (room : List ℕ) (start stop n : ℕ) → start + n ≤ stop
    → slice_range room start (start + n) ≡ take n (slice_range room start stop)
room_taken room start stop n within =
    let few : start + n - start ≡ n = omega arith in
    let same : take n (take (stop - start) (drop start room)) ≡ take n (drop start room) =
    take-take n (stop - start) (drop start room) (omega arith) in
    rw few (sym same)

pub room_left : (room : List ℕ) (start stop n : ℕ) → start + n ≤ stop
    → slice_range room (start + n) stop ≡ drop n (slice_range room start stop)
room_left room start stop n within =
    let all : n + (stop - (start + n)) ≡ stop - start = omega arith in
    let one : drop n (take (n + (stop - (start + n))) (drop start room)) ≡ take (stop - (start + n)) (drop n (drop start room)) =
    drop-take n (stop - (start + n)) (drop start room) in
    let two : drop n (drop start room) ≡ drop (start + n) room = drop-drop n start room in
    cc

-- so an intake is after a text was cut off
pub cuts_room : (room : List ℕ) (start stop n : ℕ) (in_line ends marked : Bool) (text : List ℕ)
    → start ≤ stop → stop ≤ length room
    → marked ≡ is_marked in_line (slice_range room start (start + n))
    → text ≡ text_of marked (slice_range room start (start + n))
    → ends ≡ ends_line (slice_range room start (start + n))
    → IsCut in_line (slice_range room start stop) n
    → CutsOff text (record { waiting = slice_range room start stop; in_line = in_line })
    (record { waiting = slice_range room (start + n) stop; in_line = not ends })
cuts_room room start stop n in_line ends marked text sorted room_is marked_is text_is ends_is is =
    let fits : stop - start ≤ length (drop start room) = rw (length-drop start room) (omega arith) in
    let long : length (slice_range room start stop) ≡ stop - start = length-take-le (stop - start) (drop start room) fits in
    let within : start + n ≤ stop = omega (arith, long, is.within, sorted) in
    rw (text_is, ends_is, marked_is, room_taken room start stop n within, room_left room start stop n within)
    (cuts_taken (slice_range room start stop) n in_line is)

-- the same of the state that is seen of it
pub cuts_view : (room : List ℕ) (start stop n : ℕ) (in_line ends marked : Bool) (text : List ℕ) (s : IntakeState)
    → (record { waiting = slice_range room start stop; in_line = in_line }) ≡ s
    → start ≤ stop → stop ≤ length room
    → marked ≡ is_marked in_line (slice_range room start (start + n))
    → text ≡ text_of marked (slice_range room start (start + n))
    → ends ≡ ends_line (slice_range room start (start + n))
    → IsCut s.in_line s.waiting n
    → CutsOff text s (record { waiting = slice_range room (start + n) stop; in_line = not ends })
cuts_view room start stop n in_line ends marked text s is sorted room_is marked_is text_is ends_is =
    subst (λ v. IsCut v.in_line v.waiting n
    → CutsOff text v (record { waiting = slice_range room (start + n) stop; in_line = not ends })) is
    (cuts_room room start stop n in_line ends marked text sorted room_is marked_is text_is ends_is)
