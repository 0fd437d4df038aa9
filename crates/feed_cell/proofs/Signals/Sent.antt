-- A signal with the hand-over of the task that it started, as one.
use Rattle.std.proofs.Common.{◌≡◌, ℕ, Bool, true, false, Option, None, Some, refl, ap, ◌∙◌, inl, inr, arith}
use Rattle.std.specs.Int.{bit_at}
use Rattle.feed_core.specs.World.Table.{producing_after, requesting_after}
use Rattle.feed_cell.specs.Types.{Cause, Cancel, Argument, State, Closing}
use Rattle.feed_cell.specs.Control.{number}
use Rattle.feed_cell.specs.Seats.{SeatOf}
use Rattle.feed_cell.specs.Signals.{Signals, sent, after_signal}
use Rattle.feed_cell.specs.Signals.{IsHanded, IsSent, MaySignal, MustHandOver}
use Rattle.feed_cell.specs.Views.{handed}
use Rattle.feed_cell.specs.declared.cell.View.{View}
use Rattle.feed_cell.proofs.Signals.Step.{sent_stays}
use Rattle.feed_cell.proofs.Words.FourWords.{HasPart}

-- a party that may signal has a part
pub signals_part : (cause : Option Cause) (v : View) → MaySignal cause v → HasPart v
signals_part cause v (inl may) = inl may.0.0
signals_part cause v (inr may) = inr (inl may.0.1)

-- whether the task was started, by the bit that was found
pub started_by : (b : Bool) (word : ℕ) → bit_at word 0 ≡ number b → bit_at word 0 ≡ 1 → b ≡ true
started_by true word e one = refl
started_by false word e one = absurd (omega arith)

stopped_by : (b : Bool) (word : ℕ) → bit_at word 0 ≡ number b → bit_at word 0 ≡ 0 → b ≡ false
stopped_by false word e none_there = refl
stopped_by true word e none_there = absurd (omega arith)

-- one that started none, and one that started a task
sent_alone : (T : Type 0) (cause : Option Cause) (v : View) → sent cause true v ≡ after_signal {T = T} None cause v
sent_alone T None v = refl
sent_alone T (Some Cancel) v = refl
sent_alone T (Some Argument) v = refl
sent_alone T (Some State) v = refl
sent_alone T (Some (Closing ending)) v = refl

sent_handed : {T : Type 0} (task : T) (cause : Option Cause) (v : View) → handed (sent cause false v) ≡ after_signal (Some task) cause v
sent_handed task None v = refl
sent_handed task (Some Cancel) v = refl
sent_handed task (Some Argument) v = refl
sent_handed task (Some State) v = refl
sent_handed task (Some (Closing ending)) v = refl

module _ {B T : Type 0} (cause : Option Cause) (found : ℕ) where
  pub signalled : (task : Option T) (before mid after : SeatOf B) → Signals cause before found mid → IsHanded found task mid after
      → IsSent cause task before after
  signalled None before mid after play end =
      end.1 ∙ play.signalled ∙ ap (λ (b : Bool). (sent cause b before.0, before.1)) (started_by play.started found play.found_is end.0) ∙ ap (λ (v : View). (v, before.1)) (sent_alone T cause before.0)
  signalled (Some task) before mid after play end =
      end.1 ∙ ap (λ (m : SeatOf B). (handed m.0, m.1)) play.signalled ∙ ap (λ (b : Bool). (handed (sent cause b before.0), before.1)) (stopped_by play.started found play.found_is end.0) ∙ ap (λ (v : View). (v, before.1)) (sent_handed task cause before.0)

-- a party whose signal found no mark of the task has to hand one over
pub must_hand_over : {B : Type 0} (cause : Option Cause) (found : ℕ) (before mid : SeatOf B) → MaySignal cause before.0
    → Signals cause before found mid → bit_at found 0 ≡ 0 → MustHandOver mid.0
must_hand_over cause found before mid may play none_there =
    let view : mid.0 ≡ sent cause false before.0 = ap (λ m. m.0) play.signalled ∙ ap (λ b. sent cause b before.0) (stopped_by play.started found play.found_is none_there) in
    let stays = sent_stays cause false before.0 in
    kind may (ap (λ v. v.puts) view ∙ stays.0) (ap (λ v. v.asks) view ∙ stays.1) (ap (λ v. v.runs) view ∙ stays.2) (ap (λ v. v.producing) view) (ap (λ v. v.requesting) view)
  where
    kind : MaySignal cause before.0 → mid.0.puts ≡ before.0.puts → mid.0.asks ≡ before.0.asks → mid.0.runs ≡ before.0.runs
        → mid.0.producing ≡ producing_after false → mid.0.requesting ≡ requesting_after false → MustHandOver mid.0
    kind (inl is) puts asks runs producing requesting = inl ((puts ∙ is.0.0, asks ∙ is.0.1, runs ∙ is.0.2), producing)
    kind (inr is) puts asks runs producing requesting = inr ((puts ∙ is.0.0, asks ∙ is.0.1, runs ∙ is.0.2), requesting)
