-- Who asked for the end of a turn: the last reply, or the cancel that the last look's word shows.
use Rattle.std.proofs.Common.{◌≡◌, ℕ, ◌==◌, Bool, true, false, ◌||◌, Option, Some, None, List, refl, sym, ap, ◌∙◌, subst, inl, inr}
use Rattle.feed_core.specs.Answered.{causes_by}
use Rattle.feed_core.specs.AnsweredTurn.{Reply}
use Rattle.feed_core.specs.Cause.{stops, closes, end_where, error_at_once, end_at_last}
use Rattle.feed_core.specs.EndedBy.{IsEndedBy}
use Rattle.feed_core.specs.Prelude.{Ending, ErrorOrder, Published, IllegalArgument, IllegalState, How, Overtake, AfterItems}
use Rattle.feed_cell.specs.Types.{Causes, Runner, Nobody, Coming, Fresh, Ready, Looked, Saw, Measured, Taken, Over}
use Rattle.feed_cell.specs.Control.{Flags, Reads, number}
use Rattle.feed_cell.specs.TaskAnswers.{AreShownAt, EndsSo}
use Rattle.feed_cell.specs.TaskSteps.{IsFound}
use Rattle.feed_cell.specs.TaskTurns.{IsFoundIn, has_cancel}
use Rattle.feed_cell.proofs.Tasks.EndedBy.{asked_last, ended_by}

-- what an end that a look found says of the cancel that it showed: no look finds a failed callback or refused memory
abbrev Says : Bool → How → Type 0
Says cancel How.Completed = Unit {0}
Says cancel (How.Errored fault) = Unit {0}
Says cancel How.Cancelled = cancel ≡ true
Says cancel (How.Failed code) = ⊥
Says cancel How.OutOfMemory = ⊥

same : (cancel : Bool) (due how : How) → Says cancel due → Some due ≡ Some how → Says cancel how
same cancel due how says e = (let is : due ≡ how = cc in subst (Says cancel) is says)

stops_says : (causes : Causes) (how : How) → stops causes ≡ Some how → Says causes.cancel how
stops_says causes how = by causes.cancel causes.argument causes.state causes.closing causes.order where
  at_once : (closing : Option Ending) (order : ErrorOrder) → error_at_once closing order ≡ Some how → Says false how
  at_once None order e = cc
  at_once (Some Ending.Normal) order e = cc
  at_once (Some (Ending.Failed code)) Overtake e = same false (How.Errored (Published code)) how tt e
  at_once (Some (Ending.Failed code)) AfterItems e = cc

  by : (cancel argument state : Bool) (closing : Option Ending) (order : ErrorOrder)
      → end_where cancel How.Cancelled (end_where argument (How.Errored IllegalArgument) (end_where state (How.Errored IllegalState) (error_at_once closing order))) ≡ Some how → Says cancel how
  by true argument state closing order e = same true How.Cancelled how refl e
  by false true state closing order e = same false (How.Errored IllegalArgument) how tt e
  by false false true closing order e = same false (How.Errored IllegalState) how tt e
  by false false false closing order e = at_once closing order e

closes_says : (causes : Causes) (how : How) → closes causes ≡ Some how → Says causes.cancel how
closes_says causes how = by causes.closing causes.order where
  by : (closing : Option Ending) (order : ErrorOrder) → end_at_last closing order ≡ Some how → Says causes.cancel how
  by None order e = cc
  by (Some Ending.Normal) order e = same causes.cancel How.Completed how tt e
  by (Some (Ending.Failed code)) Overtake e = cc
  by (Some (Ending.Failed code)) AfterItems e = same causes.cancel (How.Errored (Published code)) how tt e

-- the same, of the marks of the word that the look left, and of the answers
found_says : (how : How) (word : ℕ) (answers : Causes) (r : Runner) → IsFound how r → AreShownAt word answers r
    → (marks : Flags) × Reads word marks × Says (marks.cancel || answers.cancel) how
found_says how word answers Nobody found shown = absurd found
found_says how word answers Coming found shown = absurd found
found_says how word answers Fresh found shown = absurd found
found_says how word answers Ready found shown = absurd found
found_says how word answers (Looked c) found shown = (shown.0, shown.1, subst (λ (all : Causes). Says all.cancel how) shown.2 (stops_says c how found))
found_says how word answers (Saw c t) found shown = absurd found
found_says how word answers (Measured c t a) found shown = (shown.0, shown.1, subst (λ (all : Causes). Says all.cancel how) shown.2 (closes_says c how found))
found_says how word answers Taken found shown = absurd found
found_says how word answers (Over other) found shown = absurd found

bit_is : (b : Bool) → (number b == 1) ≡ b
bit_is true = refl
bit_is false = refl

pub turn_ended_by : (order : ErrorOrder) (replies : List Reply) (how : How) (word : ℕ) (runner : Runner) → EndsSo (Some how) replies
    → IsFoundIn order replies how word runner → IsEndedBy (has_cancel word) (Some how) replies
turn_ended_by order replies how word runner (inr (before, last, is, all, end)) found = asked_last (has_cancel word) how before replies last is end
turn_ended_by order replies how word runner (inl all) found =
    let by = found all in
    let says = found_says how word (causes_by order replies) runner by.0 by.1 in
    let marked : has_cancel word ≡ says.0.cancel = ap (λ (n : ℕ). n == 1) says.1.cancel ∙ bit_is says.0.cancel in
    subst (λ (b : Bool). IsEndedBy b (Some how) replies) (sym marked)
    (ended_by says.0.cancel how order replies (inl all) (λ e. subst (Says (says.0.cancel || (causes_by order replies).cancel)) e says.2)
    (λ code e. absurd (subst (Says (says.0.cancel || (causes_by order replies).cancel)) e says.2))
    (λ e. absurd (subst (Says (says.0.cancel || (causes_by order replies).cancel)) e says.2)))
