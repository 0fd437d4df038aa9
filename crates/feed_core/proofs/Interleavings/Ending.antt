-- The runner ends the subscription.
use Rattle.std.proofs.Common.{◌≡◌, ℕ, refl, sym, subst, ◌∙◌, arith, Option, Some, None, inl, inr}
use Rattle.feed_core.specs.Prelude.{Published, IllegalArgument, IllegalState, Ending, ErrorOrder, Overtake, AfterItems, How}
use Rattle.feed_core.specs.Cause.{stops, closes, end_at_last}
use Rattle.feed_core.specs.World.Types.{Causes, End, Runner, Nobody, Coming, Fresh, Ready, Looked, Saw, Measured, Taken, Over, Parts}
use Rattle.feed_core.specs.World.Table.{MayEnd, IsAnswered, IsEndBy, IsStop, IsPossible, after}
use Rattle.feed_core.specs.World.Kept.{IsAt, IsKeptParts, IsWithin, EndHasCause, HasLooked, HasMeasured, coming}
use Rattle.feed_core.proofs.Interleavings.Causing.{IsStopOf, stops_cause, normal_closes, error_closes}

-- what a callback answered is a cause
answered_ended : (how : How) (w : Parts) → IsAnswered how → EndHasCause how (after (End how) w)
answered_ended How.Completed w may = absurd may
answered_ended (How.Errored _) w may = absurd may
answered_ended How.Cancelled w may = refl
answered_ended (How.Failed _) w may = refl
answered_ended How.OutOfMemory w may = refl

-- an end at once has its cause, which a look saw
stop_ended : (c : Causes) (due : How) (w : Parts) → IsWithin c w.causes → IsStopOf c due → EndHasCause due (after (End due) w)
stop_ended c How.Completed w within of = absurd of
stop_ended c (How.Errored (Published code)) w within of = (within.closing (Ending.Failed code) of.0, λ waits. (let overtakes : w.causes.order ≡ Overtake = sym within.order ∙ of.1 in cc))
stop_ended c (How.Errored IllegalArgument) w within of = (within.argument of, tt)
stop_ended c (How.Errored IllegalState) w within of = (within.state of, tt)
stop_ended c How.Cancelled w within of = refl
stop_ended c (How.Failed _) w within of = absurd of
stop_ended c How.OutOfMemory w within of = absurd of

-- the end that is due, or the one of a callback that should tell it
by_end : (due how : How) (w : Parts) → EndHasCause due (after (End due) w) → IsEndBy due how → EndHasCause how (after (End how) w)
by_end due how w has (inl e) = subst (λ h. EndHasCause h (after (End h) w)) (sym e) has
by_end due how w has (inr refused) = subst (λ h. EndHasCause h (after (End h) w)) (sym refused.0) refl

looked_ended : (c : Causes) (how : How) (w : Parts) → HasLooked c w → IsStop (stops c) how → EndHasCause how (after (End how) w)
looked_ended c how w s may = by (stops c) refl may where
  by : (stop : Option How) → stops c ≡ stop → IsStop stop how → EndHasCause how (after (End how) w)
  by None e may = absurd may
  by (Some due) e may = by_end due how w (stop_ended c due w s.within (stops_cause c due e)) may

measured_ended : (c : Causes) (t a : ℕ) (how : How) (w : Parts) → HasMeasured c t a w → IsStop (closes c) how → w.given ≡ t
    → EndHasCause how (after (End how) w)
measured_ended c t a how w s may all = by c.closing c.order refl refl may where
  by : (closing : Option Ending) (order : ErrorOrder) → c.closing ≡ closing → c.order ≡ order → IsStop (end_at_last closing order) how
      → EndHasCause how (after (End how) w)
  by None order e o may = absurd may
  by (Some Ending.Normal) order e o may =
      by_end How.Completed how w (s.seen.looked.within.closing Ending.Normal e, all ∙ s.seen.last (normal_closes c e)) may
  by (Some (Ending.Failed code)) Overtake e o may = absurd may
  by (Some (Ending.Failed code)) AfterItems e o may =
      by_end (How.Errored (Published code)) how w (s.seen.looked.within.closing (Ending.Failed code) e, λ waits. all ∙ s.seen.last (error_closes c code o e)) may

-- whoever ends it has the task
ended : (how : How) (w : Parts) (r : Runner) → IsAt r w → MayEnd how w.given r → EndHasCause how (after (End how) w) × (coming r ≡ 0)
ended how w Nobody s may = absurd may
ended how w Coming s may = absurd may
ended how w Fresh s may = (answered_ended how w may, refl)
ended how w Ready s may = absurd may
ended how w (Looked c) s may = (looked_ended c how w s may, refl)
ended how w (Saw c t) s may = absurd may
ended how w (Measured c t a) s may = (measured_ended c t a how w s may.0 may.1, refl)
ended how w Taken s may = (answered_ended how w may, refl)
ended how w (Over _) s may = absurd may

pub end_kept : (how : How) (w : Parts) → IsKeptParts w → IsPossible (End how) w → IsKeptParts (after (End how) w)
end_kept how w k may =
    let so = ended how w w.runner k.stage may in
    let quiet = so.1 in let handed = k.handed in
    record {
      sized = k.sized;
      asked_bounded = k.asked_bounded;
      own_bounded = k.own_bounded;
      taken = k.taken;
      fits = k.fits;
      requested = k.requested;
      roomy = k.roomy;
      handed = omega arith;
      unfailed = λ e. cc;
      remembered = λ e. cc;
      known_put = k.known_put;
      known_asked = k.known_asked;
      stage = so.0;
    }
