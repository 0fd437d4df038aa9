-- The control word: its marks and causes, and what a signal adds.
use Rattle.std.specs.Prelude.{◌≡◌, ℕ, ◌+◌, ◌/◌, ◌^◌, ◌==◌, if◌then◌else◌, Bool, true, false, ◌||◌, Option, None, Some}
use Rattle.std.specs.Int.{bit_at}
use Rattle.feed_core.specs.Prelude.{Ending}
pub use Rattle.feed_cell.specs.declared.cell.TheConstants.{MARK, QUIET, RESTING, ITEM, RUNNING, NEW, CANCELLED, BAD_REQUEST, DOUBLED, FAILED, COMPLETED, CODE}
use Rattle.feed_cell.specs.Types.{Causes, Cause, Cancel, Argument, State, Closing}

-- run: the task was started and is not at rest since · active: something is new since the task's last look
-- cancel, argument, state, closing: what was signalled
pub record Flags : Type 0 where
  pub run : Bool
  pub active : Bool
  pub cancel : Bool
  pub argument : Bool
  pub state : Bool
  pub closing : Option Ending

abbrev pub number : Bool → ℕ
number true = 1
number false = 0

-- which of the two closings it is, and the error's code
abbrev pub is_error : Option Ending → Bool
is_error None = false
is_error (Some Ending.Normal) = false
is_error (Some (Ending.Failed code)) = true

abbrev pub is_complete : Option Ending → Bool
is_complete None = false
is_complete (Some Ending.Normal) = true
is_complete (Some (Ending.Failed code)) = false

abbrev pub code_of : Option Ending → ℕ
code_of None = 0
code_of (Some Ending.Normal) = 0
code_of (Some (Ending.Failed code)) = code

-- the word has these marks and causes
pub record Reads (word : ℕ) (f : Flags) : Type 0 where
  pub run : bit_at word RUNNING ≡ number f.run
  pub active : bit_at word NEW ≡ number f.active
  pub cancel : bit_at word CANCELLED ≡ number f.cancel
  pub argument : bit_at word BAD_REQUEST ≡ number f.argument
  pub state : bit_at word DOUBLED ≡ number f.state
  pub error : bit_at word FAILED ≡ number (is_error f.closing)
  pub complete : bit_at word COMPLETED ≡ number (is_complete f.closing)
  pub code : word / 2 ^ CODE ≡ code_of f.closing

-- what a signal with this cause sets
abbrev pub signal_of : Option Cause → Flags
signal_of None = record { run = true; active = true; cancel = false; argument = false; state = false; closing = None }
signal_of (Some Cancel) = record { run = true; active = true; cancel = true; argument = false; state = false; closing = None }
signal_of (Some Argument) = record { run = true; active = true; cancel = false; argument = true; state = false; closing = None }
signal_of (Some State) = record { run = true; active = true; cancel = false; argument = false; state = true; closing = None }
signal_of (Some (Closing ending)) = record {
  run = true;
  active = true;
  cancel = false;
  argument = false;
  state = false;
  closing = Some ending;
}

-- the cause that a signal tells, by the bits that it sets; one that sets no more than the first two tells none
abbrev pub cause_in : ℕ → Option Cause
cause_in mask =
    if bit_at mask CANCELLED == 1 then Some Cancel else
    if bit_at mask BAD_REQUEST == 1 then Some Argument else
    if bit_at mask DOUBLED == 1 then Some State else
    if bit_at mask FAILED == 1 then Some (Closing (Ending.Failed (mask / 2 ^ CODE))) else
    if bit_at mask COMPLETED == 1 then Some (Closing Ending.Normal) else None

-- the first closing there is
abbrev pub closing_of : Option Ending → Option Ending → Option Ending
closing_of None other = other
closing_of (Some ending) other = Some ending

-- what is set if these were set, too
abbrev pub both : Flags → Flags → Flags
both m f = record {
  run = m.run || f.run;
  active = m.active || f.active;
  cancel = m.cancel || f.cancel;
  argument = m.argument || f.argument;
  state = m.state || f.state;
  closing = closing_of m.closing f.closing;
}

-- the causes that the word and the answers of callbacks tell; the order of errors lies with the latter
abbrev pub causes_of : Flags → Causes → Causes
causes_of f answers = record {
  order = answers.order;
  cancel = f.cancel || answers.cancel;
  argument = f.argument || answers.argument;
  state = f.state;
  closing = f.closing;
  failed = answers.failed;
  memory = answers.memory;
}

-- a number, with its mark, which is bit 63
abbrev pub marked : Bool → ℕ → ℕ
marked true n = n + MARK
marked false n = n
