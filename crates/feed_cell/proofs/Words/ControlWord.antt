-- Marks and causes in the control word: what a signal sets and what the task clears.
use Rattle.std.proofs.Common.{◌≡◌, ℕ, ◌/◌, ◌^◌, ◌<◌, ◌⊎◌, Bool, true, false, ◌||◌, min, max, bit_and, bit_or, Option, Some, None, refl, ap, ap₂, ◌∙◌, inl, inr, arith}
use Rattle.std.specs.Int.{bit_at}
use Rattle.std.proofs.lemmas.Nat.Bits.{bit_at_or, bit_at_and}
use lib.Bits.{or_shr, and_shr, and_mask, or_comm, or_zero_r}
use Rattle.feed_core.specs.Prelude.{Ending}
use Rattle.feed_core.specs.World.Table.{joined}
use Rattle.feed_cell.specs.Types.{Causes, Cause, Cancel, Argument, State, Closing}
use Rattle.feed_cell.specs.Control.{Flags, number, is_error, is_complete, code_of, Reads, signal_of, closing_of, both, causes_of, QUIET, RESTING}

either_bit : (a b : Bool) → max (number b) (number a) ≡ number (a || b)
either_bit true true = refl
either_bit true false = refl
either_bit false true = refl
either_bit false false = refl

or_bit : (x mask i : ℕ) (f m : Bool) → bit_at x i ≡ number f → bit_at mask i ≡ number m → bit_at (bit_or x mask) i ≡ number (m || f)
or_bit x mask i f m p q = bit_at_or x mask i ∙ ap₂ (λ (a b : ℕ). max a b) p q ∙ either_bit m f

error_of : (m f : Option Ending) → (f ≡ None) ⊎ (m ≡ None) → is_error m || is_error f ≡ is_error (closing_of m f)
error_of None f one = refl
error_of (Some e) f (inl none_there) = ap (λ (g : Option Ending). is_error (Some e) || is_error g) none_there ∙ or_false (is_error (Some e)) where
  or_false : (b : Bool) → b || false ≡ b
  or_false true = refl
  or_false false = refl
error_of (Some e) f (inr other) = absurd cc

complete_of : (m f : Option Ending) → (f ≡ None) ⊎ (m ≡ None) → is_complete m || is_complete f ≡ is_complete (closing_of m f)
complete_of None f one = refl
complete_of (Some e) f (inl none_there) = ap (λ (g : Option Ending). is_complete (Some e) || is_complete g) none_there ∙ or_false (is_complete (Some e)) where
  or_false : (b : Bool) → b || false ≡ b
  or_false true = refl
  or_false false = refl
complete_of (Some e) f (inr other) = absurd cc

or_code : (m f : Option Ending) → (f ≡ None) ⊎ (m ≡ None) → bit_or (code_of f) (code_of m) ≡ code_of (closing_of m f)
or_code None f one = or_zero_r (code_of f)
or_code (Some e) f (inl none_there) = ap (λ (g : Option Ending). bit_or (code_of g) (code_of (Some e))) none_there ∙ or_comm 0 (code_of (Some e)) ∙ or_zero_r (code_of (Some e))
or_code (Some e) f (inr other) = absurd cc

-- a signal
pub reads_or : {x mask : ℕ} {f m : Flags} → Reads x f → Reads mask m → (f.closing ≡ None) ⊎ (m.closing ≡ None)
    → Reads (bit_or x mask) (both m f)
reads_or {x} {mask} {f} {m} r q one = record {
  run = or_bit x mask 0 f.run m.run r.run q.run;
  active = or_bit x mask 1 f.active m.active r.active q.active;
  cancel = or_bit x mask 2 f.cancel m.cancel r.cancel q.cancel;
  argument = or_bit x mask 3 f.argument m.argument r.argument q.argument;
  state = or_bit x mask 4 f.state m.state r.state q.state;
  error = or_bit x mask 5 (is_error f.closing) (is_error m.closing) r.error q.error ∙ ap number (error_of m.closing f.closing one);
  complete = or_bit x mask 6 (is_complete f.closing) (is_complete m.closing) r.complete q.complete ∙ ap number (complete_of m.closing f.closing one);
  code = or_shr x mask 32 ∙ ap₂ bit_or r.code q.code ∙ or_code m.closing f.closing one;
}

-- masks that clear a mark
clears : (x mask i : ℕ) → bit_at mask i ≡ 0 → bit_at (bit_and x mask) i ≡ 0
clears x mask i zero_there = let b = bit_at_and x mask i in omega arith

leaves_bit : (x mask i : ℕ) (f : Bool) → bit_at x i ≡ number f → bit_at mask i ≡ 1 → bit_at (bit_and x mask) i ≡ number f
leaves_bit x mask i f p one_there = bit_at_and x mask i ∙ ap₂ (λ (a b : ℕ). min a b) p one_there ∙ least f where
  least : (b : Bool) → min (number b) 1 ≡ number b
  least true = refl
  least false = refl

leaves_code : (x mask : ℕ) → x < 2 ^ 64 → mask / 2 ^ 32 ≡ 4294967295 → bit_and x mask / 2 ^ 32 ≡ x / 2 ^ 32
leaves_code x mask small ones = and_shr x mask 32 ∙ ap (bit_and (x / 2 ^ 32)) ones ∙ and_mask (x / 2 ^ 32) 32 ∙ omega arith

pub reads_look : {x : ℕ} {f : Flags} → x < 2 ^ 64 → Reads x f → Reads (bit_and x QUIET) (record f { active = false })
reads_look {x} {f} small r = record {
  run = leaves_bit x QUIET 0 f.run r.run refl;
  active = clears x QUIET 1 refl;
  cancel = leaves_bit x QUIET 2 f.cancel r.cancel refl;
  argument = leaves_bit x QUIET 3 f.argument r.argument refl;
  state = leaves_bit x QUIET 4 f.state r.state refl;
  error = leaves_bit x QUIET 5 (is_error f.closing) r.error refl;
  complete = leaves_bit x QUIET 6 (is_complete f.closing) r.complete refl;
  code = leaves_code x QUIET small refl ∙ r.code;
}

pub reads_rest : {x : ℕ} {f : Flags} → x < 2 ^ 64 → Reads x f → Reads (bit_and x RESTING) (record f { run = false })
reads_rest {x} {f} small r = record {
  run = clears x RESTING 0 refl;
  active = leaves_bit x RESTING 1 f.active r.active refl;
  cancel = leaves_bit x RESTING 2 f.cancel r.cancel refl;
  argument = leaves_bit x RESTING 3 f.argument r.argument refl;
  state = leaves_bit x RESTING 4 f.state r.state refl;
  error = leaves_bit x RESTING 5 (is_error f.closing) r.error refl;
  complete = leaves_bit x RESTING 6 (is_complete f.closing) r.complete refl;
  code = leaves_code x RESTING small refl ∙ r.code;
}

-- what a signal adds, beside its cause
pub record Adds (cause : Option Cause) (f : Flags) (answers : Causes) : Type 0 where
  pub run : (both (signal_of cause) f).run ≡ true
  pub active : (both (signal_of cause) f).active ≡ true
  pub causes : joined cause (causes_of f answers) ≡ causes_of (both (signal_of cause) f) answers

pub adds : (cause : Option Cause) (f : Flags) (answers : Causes) → Adds cause f answers
adds None f answers = record { run = refl; active = refl; causes = refl }
adds (Some Cancel) f answers = record { run = refl; active = refl; causes = refl }
adds (Some Argument) f answers = record { run = refl; active = refl; causes = refl }
adds (Some State) f answers = record { run = refl; active = refl; causes = refl }
adds (Some (Closing ending)) f answers = record { run = refl; active = refl; causes = refl }

pub or_true : (b : Bool) → b || true ≡ true
or_true true = refl
or_true false = refl
