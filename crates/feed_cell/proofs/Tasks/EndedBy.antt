-- Who asked for an end, by the replies of the subscriber.
use Rattle.std.proofs.Common.{◌≡◌, ℕ, zero, suc, pos, negsuc, Bool, true, false, ◌||◌, Option, Some, None, List, [], ◌∷◌, ◌++◌, Ok, Err, refl, sym, ap, ◌∙◌, inl, inr}
use Rattle.feed_core.specs.Answered.{causes_on, end_on, causes_since, causes_by}
use Rattle.feed_core.specs.AnsweredTurn.{Reply}
use Rattle.feed_core.specs.Cause.{no_causes_in}
use Rattle.feed_core.specs.EndedBy.{IsEndedBy}
use Rattle.feed_core.specs.Lane.{LaneState}
use Rattle.feed_core.specs.Sound.{HasCause}
use Rattle.feed_core.specs.Prelude.{Answer, ErrorOrder, How}
use Rattle.feed_cell.specs.Types.{Causes}
use Rattle.feed_core.specs.Replies.{AllGoOn}
use Rattle.feed_cell.specs.TaskAnswers.{EndsSo}

-- no cancel, no failure and no refused memory came about
record IsCalm (old new : Causes) : Type 0 where
  cancel : new.cancel ≡ old.cancel
  failed : new.failed ≡ old.failed
  memory : new.memory ≡ old.memory

-- a reply that goes on brings none of these about
calm_one : (r : Reply) (causes : Causes) → end_on r ≡ None → IsCalm causes (causes_on r causes)
calm_one (Ok Answer.Go) causes goes = record { cancel = refl; failed = refl; memory = refl }
calm_one (Ok (Answer.Request (pos zero))) causes goes = record { cancel = refl; failed = refl; memory = refl }
calm_one (Ok (Answer.Request (pos (suc n)))) causes goes = record { cancel = refl; failed = refl; memory = refl }
calm_one (Ok (Answer.Request (negsuc n))) causes goes = record { cancel = refl; failed = refl; memory = refl }
calm_one (Ok Answer.Cancel) causes goes = cc
calm_one (Ok (Answer.Fail code)) causes goes = cc
calm_one (Err e) causes goes = cc

calm_all : (replies : List Reply) (causes : Causes) → AllGoOn replies → IsCalm causes (causes_since causes replies)
calm_all [] causes all = record { cancel = refl; failed = refl; memory = refl }
calm_all (r ∷ more) causes all =
    let one = calm_one r causes all.0 in
    let rest = calm_all more (causes_on r causes) all.1 in
    record { cancel = rest.cancel ∙ one.cancel; failed = rest.failed ∙ one.failed; memory = rest.memory ∙ one.memory }

-- the last reply, if it asks for this end
asks_cancel : (r : Reply) → end_on r ≡ Some How.Cancelled → r ≡ Ok Answer.Cancel
asks_cancel (Ok Answer.Go) e = cc
asks_cancel (Ok (Answer.Request n)) e = cc
asks_cancel (Ok Answer.Cancel) e = refl
asks_cancel (Ok (Answer.Fail code)) e = cc
asks_cancel (Err x) e = cc

asks_failure : (r : Reply) (code : ℕ) → end_on r ≡ Some (How.Failed code) → r ≡ Ok (Answer.Fail code)
asks_failure (Ok Answer.Go) code e = cc
asks_failure (Ok (Answer.Request n)) code e = cc
asks_failure (Ok Answer.Cancel) code e = cc
asks_failure (Ok (Answer.Fail other)) code e = ap (λ (m : ℕ). Ok (Answer.Fail m)) (cc)
asks_failure (Err x) code e = cc

asks_memory : (r : Reply) → end_on r ≡ Some How.OutOfMemory → r ≡ Err (record {})
asks_memory (Ok Answer.Go) e = cc
asks_memory (Ok (Answer.Request n)) e = cc
asks_memory (Ok Answer.Cancel) e = cc
asks_memory (Ok (Answer.Fail code)) e = cc
asks_memory (Err x) e = refl

by_owner : (cancelled there : Bool) → there ≡ false → (cancelled || there) ≡ true → cancelled ≡ true
by_owner true there none is = refl
by_owner false there none is = sym none ∙ is

-- an end that the last reply asks for
pub asked_last : (cancelled : Bool) (how : How) (before replies : List Reply) (last : Reply) → replies ≡ before ++ last ∷ []
    → end_on last ≡ Some how → IsEndedBy cancelled (Some how) replies
asked_last cancelled How.Completed before replies last is end = tt
asked_last cancelled (How.Errored fault) before replies last is end = tt
asked_last cancelled How.Cancelled before replies last is end = inr (before, is ∙ ap (λ (r : Reply). before ++ r ∷ []) (asks_cancel last end))
asked_last cancelled (How.Failed code) before replies last is end = (before, is ∙ ap (λ (r : Reply). before ++ r ∷ []) (asks_failure last code end))
asked_last cancelled How.OutOfMemory before replies last is end = (before, is ∙ ap (λ (r : Reply). before ++ r ∷ []) (asks_memory last end))

-- an end that has its cause, in a subscription whose replies go on but for the last, was asked for
pub ended_by : (cancelled : Bool) (how : How) (order : ErrorOrder) (replies : List Reply) → EndsSo (Some how) replies
    → (how ≡ How.Cancelled → (cancelled || (causes_by order replies).cancel) ≡ true)
    → ((code : ℕ) → how ≡ How.Failed code → (causes_by order replies).failed ≡ Some code)
    → (how ≡ How.OutOfMemory → (causes_by order replies).memory ≡ true)
    → IsEndedBy cancelled (Some how) replies
ended_by cancelled how order replies (inr (before, last, is, all, end)) cancel failed memory = asked_last cancelled how before replies last is end
ended_by cancelled How.Completed order replies (inl all) cancel failed memory = tt
ended_by cancelled (How.Errored fault) order replies (inl all) cancel failed memory = tt
ended_by cancelled How.Cancelled order replies (inl all) cancel failed memory =
    let calm = calm_all replies (no_causes_in order) all in inl (by_owner cancelled (causes_by order replies).cancel calm.cancel (cancel refl))
ended_by cancelled (How.Failed code) order replies (inl all) cancel failed memory =
    let calm = calm_all replies (no_causes_in order) all in let never : None ≡ Some code = sym calm.failed ∙ failed code refl in cc
ended_by cancelled How.OutOfMemory order replies (inl all) cancel failed memory =
    let calm = calm_all replies (no_causes_in order) all in let never : false ≡ true = sym calm.memory ∙ memory refl in cc

-- the end of a lane was asked for, by its causes
pub asked_for_by : (cancelled : Bool) (ending : Option How) (lane : LaneState) (replies : List Reply) → HasCause lane → ending ≡ lane.how
    → EndsSo ending replies
    → lane.causes.cancel ≡ cancelled || (causes_by lane.causes.order replies).cancel
    → (lane.causes.failed ≡ (causes_by lane.causes.order replies).failed) × (lane.causes.memory ≡ (causes_by lane.causes.order replies).memory)
    → IsEndedBy cancelled ending replies
asked_for_by cancelled None lane replies cause is ends cancel rest = tt
asked_for_by cancelled (Some how) lane replies cause is ends cancel rest =
    ended_by cancelled how lane.causes.order replies ends
    (λ e. sym cancel ∙ cause.cancelled (sym is ∙ ap (λ (h : How). Some h) e))
    (λ code e. sym rest.0 ∙ cause.failed code (sym is ∙ ap (λ (h : How). Some h) e))
    (λ e. sym rest.1 ∙ cause.refused (sym is ∙ ap (λ (h : How). Some h) e))
