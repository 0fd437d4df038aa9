-- What the code has to do with a definition that may choose: there are refusals under which the definition says just
-- that.
use mathlib.Core.List.{IsPrefix}
use Rattle.std.specs.Prelude.{◌≡◌, ◌⊎◌, ℕ, ◌<◌, ◌≤◌, ℤ, Bool, true, false, Option, Some, None, Result, Ok, Err, List, ◌∷◌, ◌++◌, length, slice_get}
use Rattle.std.specs.Io.KnownBytes.{Appends}
use Rattle.feed_core.specs.PlainTurn.{plain_turn_of}
use Rattle.feed_core.specs.Turn.{MeetsPlainTurn}
use Rattle.lines_demo.specs.Prelude.{Signal, Refusal, Outlook, LONGEST_TEXT}
use Rattle.commands.specs.Writing.{Writes}
use Rattle.lines_demo.specs.Script.State.{SubscriptionState, SessionState, CommandResult, LineResult}
use Rattle.commands.specs.Word.{is_word}
use Rattle.lines_demo.specs.Script.Publishing.{publication_refusal, next_item, offer_answer, state_after_publication}
use Rattle.lines_demo.specs.Script.Turns.{signal_lines, untold_end_line}
use Rattle.lines_demo.specs.Script.Running.{state_after_turn}
use Rattle.commands.specs.declared.reply.Reply.{Reply}

-- under some refusals this is the reply, and the script goes on from this state
pub record Replies (results : List Bool → CommandResult) (reply : Reply) (state : SessionState)
    : Type 0 where
  pub used : List Bool
  pub replies : (more : List Bool)
      → results (used ++ more) ≡ record { reply = reply; state = state; refusals = more }

-- under some refusals this is what is written, and the script goes on from this state; if the writing failed, a prefix
-- was written
pub record Answers (is_done : Bool) (results : List Bool → LineResult) (old new : Option (List ℕ))
    (state : SessionState) : Type 0 where
  pub used : List Bool
  pub written : List ℕ
  pub appended : Appends old new written
  pub prefix : IsPrefix written (results used).output
  pub whole : is_done ≡ true → (more : List Bool)
      → results (used ++ more) ≡ record { output = written; state = state; refusals = more }

-- a text to publish, or why there is none: it is too long, or memory was refused for it
abbrev pub IsTextOf : List ℕ → Result (List ℕ) Refusal → Type 0
IsTextOf text (Ok made) = (length text ≤ LONGEST_TEXT) × (made ≡ text)
IsTextOf text (Err Refusal.LineTooLong) = LONGEST_TEXT < length text
IsTextOf text (Err Refusal.NoMemory) = length text ≤ LONGEST_TEXT
IsTextOf text (Err _) = ⊥

-- a text was offered, and this is the answer
pub record OffersText (old : SessionState) (text : List ℕ) (answer : ℤ) (new : SessionState)
    : Type 0 where
  pub allowed : publication_refusal old ≡ None
  pub answers : answer ≡ offer_answer (next_item old text) old.subscriptions
  pub after : new ≡ state_after_publication text old

-- a text was not offered: memory was refused, or it may not be published
pub record RefusesText (old : SessionState) (refusal : Refusal) (new : SessionState) : Type 0 where
  pub why : (refusal ≡ Refusal.NoMemory) ⊎ (publication_refusal old ≡ Some refusal)
  pub same : new ≡ old

-- the number of the latest subscription of this name, if there is one
abbrev pub IsLatest : List ℕ → List SubscriptionState → Option ℕ → Type 0
IsLatest name subscriptions None = (k : ℕ) (subscription : SubscriptionState)
    → slice_get subscriptions k ≡ Some subscription → is_word subscription.name name ≡ false
IsLatest name subscriptions (Some number) =
    (latest : SubscriptionState)
    × ((slice_get subscriptions number ≡ Some latest) × ((is_word latest.name name ≡ true)
    × ((k : ℕ) (later : SubscriptionState) → number < k → slice_get subscriptions k ≡ Some later
    → is_word later.name name ≡ false)))

-- the first of the woken, of this name, made a turn, which told these signals and had this outlook; nothing else
-- changed
pub record MakesTurn (old new : SessionState) (name : List ℕ) (told : List Signal)
    (outlook : Outlook) : Type 0 where
  pub number : ℕ
  pub rest : List ℕ
  pub before : SubscriptionState
  pub woken : old.woken ≡ number ∷ rest
  pub stands : slice_get old.subscriptions number ≡ Some before
  pub named : before.name ≡ name
  pub plain : MeetsPlainTurn (plain_turn_of before.desk.lane) told outlook
  pub after : new ≡ state_after_turn number before told outlook (record old { woken = rest })

-- the lines of a turn are those of the signals by which what the first of the woken was told has grown, and then one by
-- a refusal of memory
pub record PrintsTurn (is_done : Bool) (before after : SessionState) (old new : Option (List ℕ))
    : Type 0 where
  pub number : ℕ
  pub rest : List ℕ
  pub first : SubscriptionState
  pub next : SubscriptionState
  pub told : List Signal
  pub woken : before.woken ≡ number ∷ rest
  pub stood : slice_get before.subscriptions number ≡ Some first
  pub stands : slice_get after.subscriptions number ≡ Some next
  pub grown : next.desk.lane.told ≡ first.desk.lane.told ++ told
  pub lines : Writes is_done old new
      (signal_lines first.name told ++ untold_end_line first.name next.desk.lane.how)
