-- The replies of a subscriber as a list: what one more adds, and what the last one asks for.
use Rattle.std.proofs.Common.{◌≡◌, ℕ, zero, suc, pos, negsuc, ◌+◌, min, Bool, true, false, Option, None, Some, List, [], ◌∷◌, ◌++◌, Ok, Err, refl, sym, ap, ◌∙◌, inl, inr, arith}
use Rattle.std.specs.Prelude.{◌||◌}
use Rattle.feed_core.specs.Answered.{own_on, causes_on, end_on, own_since, causes_since}
use Rattle.feed_core.specs.AnsweredTurn.{Reply, refused}
use Rattle.feed_core.specs.EndedBy.{EndsWith, IsEndedBy}
use Rattle.feed_core.specs.Prelude.{Answer, Causes, How, UNBOUNDED, total_after}
use Rattle.feed_core.specs.Replies.{AllGoOn, AsksFor, EndsBy}

-- ---- a list of replies, and one more

pub own_more : (own : ℕ) (xs : List Reply) (r : Reply) → own_since own (xs ++ r ∷ []) ≡ own_on r (own_since own xs)
own_more own [] r = refl
own_more own (x ∷ xs) r = own_more (own_on x own) xs r

pub causes_more : (causes : Causes) (xs : List Reply) (r : Reply)
    → causes_since causes (xs ++ r ∷ []) ≡ causes_on r (causes_since causes xs)
causes_more causes [] r = refl
causes_more causes (x ∷ xs) r = causes_more (causes_on x causes) xs r

-- no reply changes the order of a closing error
pub order_kept : (r : Reply) (causes : Causes) → (causes_on r causes).order ≡ causes.order
order_kept (Ok Answer.Go) causes = refl
order_kept (Ok (Answer.Request (pos zero))) causes = refl
order_kept (Ok (Answer.Request (pos (suc n)))) causes = refl
order_kept (Ok (Answer.Request (negsuc n))) causes = refl
order_kept (Ok Answer.Cancel) causes = refl
order_kept (Ok (Answer.Fail code)) causes = refl
order_kept (Err e) causes = refl

-- a reply adds to the sum of two totals as it does to the second
sum_more : (most requested own n : ℕ) → min (min (requested + own) most + n) most ≡ min (requested + min (own + n) most) most
sum_more most requested own n = omega arith

pub own_adds : (r : Reply) (requested own : ℕ) → own_on r (total_after requested own) ≡ total_after requested (own_on r own)
own_adds (Ok Answer.Go) requested own = refl
own_adds (Ok (Answer.Request (pos zero))) requested own = refl
own_adds (Ok (Answer.Request (pos (suc n)))) requested own = sum_more UNBOUNDED requested own (suc n)
own_adds (Ok (Answer.Request (negsuc n))) requested own = refl
own_adds (Ok Answer.Cancel) requested own = refl
own_adds (Ok (Answer.Fail code)) requested own = refl
own_adds (Err e) requested own = refl

-- a reply adds to causes as it does to those of the replies alone
pub cancel_on : (r : Reply) (c a : Causes) (owner : Bool) → c.cancel ≡ (owner || a.cancel)
    → (causes_on r c).cancel ≡ (owner || (causes_on r a).cancel)
cancel_on (Ok Answer.Go) c a owner e = e
cancel_on (Ok (Answer.Request (pos zero))) c a owner e = e
cancel_on (Ok (Answer.Request (pos (suc n)))) c a owner e = e
cancel_on (Ok (Answer.Request (negsuc n))) c a owner e = e
cancel_on (Ok Answer.Cancel) c a true e = refl
cancel_on (Ok Answer.Cancel) c a false e = refl
cancel_on (Ok (Answer.Fail code)) c a owner e = e
cancel_on (Err none) c a owner e = e

pub argument_on : (r : Reply) (c a : Causes) (owner : Bool) → c.argument ≡ (owner || a.argument)
    → (causes_on r c).argument ≡ (owner || (causes_on r a).argument)
argument_on (Ok Answer.Go) c a owner e = e
argument_on (Ok (Answer.Request (pos zero))) c a true e = refl
argument_on (Ok (Answer.Request (pos zero))) c a false e = refl
argument_on (Ok (Answer.Request (pos (suc n)))) c a owner e = e
argument_on (Ok (Answer.Request (negsuc n))) c a true e = refl
argument_on (Ok (Answer.Request (negsuc n))) c a false e = refl
argument_on (Ok Answer.Cancel) c a owner e = e
argument_on (Ok (Answer.Fail code)) c a owner e = e
argument_on (Err none) c a owner e = e

pub failed_on : (r : Reply) (c a : Causes) → c.failed ≡ a.failed → (causes_on r c).failed ≡ (causes_on r a).failed
failed_on (Ok Answer.Go) c a e = e
failed_on (Ok (Answer.Request (pos zero))) c a e = e
failed_on (Ok (Answer.Request (pos (suc n)))) c a e = e
failed_on (Ok (Answer.Request (negsuc n))) c a e = e
failed_on (Ok Answer.Cancel) c a e = e
failed_on (Ok (Answer.Fail code)) c a e = refl
failed_on (Err none) c a e = e

pub memory_on : (r : Reply) (c a : Causes) → c.memory ≡ a.memory → (causes_on r c).memory ≡ (causes_on r a).memory
memory_on (Ok Answer.Go) c a e = e
memory_on (Ok (Answer.Request (pos zero))) c a e = e
memory_on (Ok (Answer.Request (pos (suc n)))) c a e = e
memory_on (Ok (Answer.Request (negsuc n))) c a e = e
memory_on (Ok Answer.Cancel) c a e = e
memory_on (Ok (Answer.Fail code)) c a e = e
memory_on (Err none) c a e = refl

-- one more that goes on
pub all_more : (xs : List Reply) (r : Reply) → AllGoOn xs → end_on r ≡ None → AllGoOn (xs ++ r ∷ [])
all_more [] r all goes = (goes, tt)
all_more (x ∷ xs) r all goes = (all.0, all_more xs r all.1 goes)

pub ends_more : (cancelled : Bool) (xs : List Reply) (r : Reply) → AllGoOn xs → (end : Option How) → end_on r ≡ end
    → EndsBy cancelled end (xs ++ r ∷ [])
ends_more cancelled xs r all None is = all_more xs r all is
ends_more cancelled xs r all (Some how) is = inr (record { before = xs; last = r; are = refl; went_on = all; asks = is })

-- replies that go on cancel nothing
pub cancels_nothing : (causes : Causes) (xs : List Reply) → AllGoOn xs → (causes_since causes xs).cancel ≡ causes.cancel
cancels_nothing causes [] all = refl
cancels_nothing causes (Ok Answer.Go ∷ xs) all = cancels_nothing causes xs all.1
cancels_nothing causes (Ok (Answer.Request (pos zero)) ∷ xs) all = cancels_nothing (record causes { argument = true }) xs all.1
cancels_nothing causes (Ok (Answer.Request (pos (suc n))) ∷ xs) all = cancels_nothing causes xs all.1
cancels_nothing causes (Ok (Answer.Request (negsuc n)) ∷ xs) all = cancels_nothing (record causes { argument = true }) xs all.1
cancels_nothing causes (Ok Answer.Cancel ∷ xs) all = let never = all.0 in cc
cancels_nothing causes (Ok (Answer.Fail code) ∷ xs) all = let never = all.0 in cc
cancels_nothing causes (Err none ∷ xs) all = let never = all.0 in cc

-- ---- what the last reply is

-- the end that the last reply asks for
abbrev last_end : Option How → List Reply → Option How
last_end end [] = end
last_end end (r ∷ replies) = last_end (end_on r) replies

last_end-is : (end : Option How) (before : List Reply) (r : Reply) → last_end end (before ++ r ∷ []) ≡ end_on r
last_end-is end [] r = refl
last_end-is end (x ∷ before) r = last_end-is (end_on x) before r

-- of those that go on it is none
last_end-none : (replies : List Reply) → AllGoOn replies → last_end None replies ≡ None
last_end-none [] all = refl
last_end-none (r ∷ replies) all = ap (λ (end : Option How). last_end end replies) all.0 ∙ last_end-none replies all.1

asked_cancel : (r : Reply) → end_on r ≡ Some How.Cancelled → r ≡ Ok Answer.Cancel
asked_cancel (Ok Answer.Go) e = cc
asked_cancel (Ok (Answer.Request n)) e = cc
asked_cancel (Ok Answer.Cancel) e = refl
asked_cancel (Ok (Answer.Fail code)) e = cc
asked_cancel (Err none) e = cc

asked_failure : (code : ℕ) (r : Reply) → end_on r ≡ Some (How.Failed code) → r ≡ Ok (Answer.Fail code)
asked_failure code (Ok Answer.Go) e = cc
asked_failure code (Ok (Answer.Request n)) e = cc
asked_failure code (Ok Answer.Cancel) e = cc
asked_failure code (Ok (Answer.Fail other)) e = cc
asked_failure code (Err none) e = cc

asked_refusal : (r : Reply) → end_on r ≡ Some How.OutOfMemory → r ≡ refused
asked_refusal (Ok Answer.Go) e = cc
asked_refusal (Ok (Answer.Request n)) e = cc
asked_refusal (Ok Answer.Cancel) e = cc
asked_refusal (Ok (Answer.Fail code)) e = cc
asked_refusal (Err none) e = refl

last_is : {how : How} {replies : List Reply} (r : Reply) → (asks : AsksFor how replies) → asks.last ≡ r → EndsWith r replies
last_is r asks is = (asks.before, asks.are ∙ ap (λ last. asks.before ++ last ∷ []) is)

-- who asked for the end
pub ended_by : (cancelled : Bool) (how : Option How) (replies : List Reply) → EndsBy cancelled how replies → IsEndedBy cancelled how replies
ended_by cancelled None replies ends = tt
ended_by cancelled (Some How.Completed) replies ends = tt
ended_by cancelled (Some (How.Errored fault)) replies ends = tt
ended_by cancelled (Some How.Cancelled) replies (inl (all, unasked)) = inl unasked
ended_by cancelled (Some How.Cancelled) replies (inr asks) = inr (last_is (Ok Answer.Cancel) asks (asked_cancel asks.last asks.asks))
ended_by cancelled (Some (How.Failed code)) replies (inl (all, unasked)) = absurd unasked
ended_by cancelled (Some (How.Failed code)) replies (inr asks) = last_is (Ok (Answer.Fail code)) asks (asked_failure code asks.last asks.asks)
ended_by cancelled (Some How.OutOfMemory) replies (inl (all, unasked)) = absurd unasked
ended_by cancelled (Some How.OutOfMemory) replies (inr asks) = last_is refused asks (asked_refusal asks.last asks.asks)

-- one whose last callback was refused memory
pub last_refused : (cancelled : Bool) (how : Option How) (replies : List Reply) → EndsBy cancelled how replies → EndsWith refused replies
    → how ≡ Some How.OutOfMemory
last_refused cancelled how replies ends last = by how ends where
  is : last_end None replies ≡ Some How.OutOfMemory
  is = ap (last_end None) last.1 ∙ last_end-is None last.0 refused

  by : (how : Option How) → EndsBy cancelled how replies → how ≡ Some How.OutOfMemory
  by None all = let none = last_end-none replies all in let some = is in cc
  by (Some end) (inl (all, unasked)) = let none = last_end-none replies all in let some = is in cc
  by (Some end) (inr asks) = sym (ap (last_end None) asks.are ∙ last_end-is None asks.before asks.last ∙ asks.asks) ∙ is
