-- What an end of the subscription, or none, says of its causes.
use Rattle.std.proofs.Common.{◌≡◌, ℕ, true, false, length, Some, None, is_some, sym, refl, ap, ◌∙◌}
use Rattle.feed_core.specs.Lane.{LaneState}
use Rattle.feed_core.specs.Prelude.{Fault, Published, IllegalArgument, IllegalState, Ending, AfterItems, How}
use Rattle.feed_core.specs.Sound.{HasCause}
use Rattle.feed_core.specs.World.Kept.{EndHasCause}
use Rattle.feed_core.specs.World.Table.{is_over}
use Rattle.feed_cell.specs.Types.{Runner, Nobody, Coming, Fresh, Ready, Looked, Saw, Measured, Taken, Over, Parts}
use Rattle.feed_cell.specs.Cell.{how_of}

-- an end has its cause
pub caused : (w : Parts) (how : How) (lane : LaneState) → lane.causes ≡ w.causes → lane.given ≡ w.given
    → length lane.accepted ≡ w.accepted → lane.how ≡ Some how → EndHasCause how w → HasCause lane
caused w How.Completed lane causes given accepted is e = record {
  completed = λ _. ap (λ z. z.closing) causes ∙ e.0;
  whole = λ _. given ∙ e.1 ∙ sym accepted;
  published = λ code h. (let s = sym is ∙ h in cc);
  last = λ code h. (let s = sym is ∙ h in cc);
  argument = λ h. (let s = sym is ∙ h in cc);
  state = λ h. (let s = sym is ∙ h in cc);
  cancelled = λ h. (let s = sym is ∙ h in cc);
  failed = λ code h. (let s = sym is ∙ h in cc);
  refused = λ h. (let s = sym is ∙ h in cc);
}
caused w (How.Errored fault) lane causes given accepted is e = record {
  completed = λ h. (let s = sym is ∙ h in cc);
  whole = λ h. (let s = sym is ∙ h in cc);
  published = λ code h. ap (λ z. z.closing) causes ∙ of_code fault code e (sym is ∙ h);
  last = λ code h order. given ∙ of_order fault code e (sym is ∙ h) (sym (ap (λ z. z.order) causes) ∙ order) ∙ sym accepted;
  argument = λ h. ap (λ z. z.argument) causes ∙ of_argument fault e (sym is ∙ h);
  state = λ h. ap (λ z. z.state) causes ∙ of_state fault e (sym is ∙ h);
  cancelled = λ h. (let s = sym is ∙ h in cc);
  failed = λ code h. (let s = sym is ∙ h in cc);
  refused = λ h. (let s = sym is ∙ h in cc);
} where
  of_code : (fault : Fault) (code : ℕ) → EndHasCause (How.Errored fault) w
      → Some (How.Errored fault) ≡ Some (How.Errored (Published code)) → w.causes.closing ≡ Some (Ending.Failed code)
  of_code (Published other) code e same = e.0 ∙ ap (λ (m : ℕ). Some (Ending.Failed m)) (cc)
  of_code IllegalArgument code e same = cc
  of_code IllegalState code e same = cc

  of_order : (fault : Fault) (code : ℕ) → EndHasCause (How.Errored fault) w
      → Some (How.Errored fault) ≡ Some (How.Errored (Published code)) → w.causes.order ≡ AfterItems → w.given ≡ w.accepted
  of_order (Published other) code e same = e.1
  of_order IllegalArgument code e same = cc
  of_order IllegalState code e same = cc

  of_argument : (fault : Fault) → EndHasCause (How.Errored fault) w → Some (How.Errored fault) ≡ Some (How.Errored IllegalArgument)
      → w.causes.argument ≡ true
  of_argument (Published other) e same = cc
  of_argument IllegalArgument e same = e.0
  of_argument IllegalState e same = cc

  of_state : (fault : Fault) → EndHasCause (How.Errored fault) w → Some (How.Errored fault) ≡ Some (How.Errored IllegalState)
      → w.causes.state ≡ true
  of_state (Published other) e same = cc
  of_state IllegalArgument e same = cc
  of_state IllegalState e same = e.0
caused w How.Cancelled lane causes given accepted is e = record {
  completed = λ h. (let s = sym is ∙ h in cc);
  whole = λ h. (let s = sym is ∙ h in cc);
  published = λ code h. (let s = sym is ∙ h in cc);
  last = λ code h. (let s = sym is ∙ h in cc);
  argument = λ h. (let s = sym is ∙ h in cc);
  state = λ h. (let s = sym is ∙ h in cc);
  cancelled = λ _. ap (λ z. z.cancel) causes ∙ e;
  failed = λ code h. (let s = sym is ∙ h in cc);
  refused = λ h. (let s = sym is ∙ h in cc);
}
caused w (How.Failed n) lane causes given accepted is e = record {
  completed = λ h. (let s = sym is ∙ h in cc);
  whole = λ h. (let s = sym is ∙ h in cc);
  published = λ code h. (let s = sym is ∙ h in cc);
  last = λ code h. (let s = sym is ∙ h in cc);
  argument = λ h. (let s = sym is ∙ h in cc);
  state = λ h. (let s = sym is ∙ h in cc);
  cancelled = λ h. (let s = sym is ∙ h in cc);
  failed = λ code h. (let s : Some (How.Failed n) ≡ Some (How.Failed code) = sym is ∙ h in ap (λ z. z.failed) causes ∙ e ∙ ap (λ (m : ℕ). Some m) (cc));
  refused = λ h. (let s = sym is ∙ h in cc);
}
caused w How.OutOfMemory lane causes given accepted is e = record {
  completed = λ h. (let s = sym is ∙ h in cc);
  whole = λ h. (let s = sym is ∙ h in cc);
  published = λ code h. (let s = sym is ∙ h in cc);
  last = λ code h. (let s = sym is ∙ h in cc);
  argument = λ h. (let s = sym is ∙ h in cc);
  state = λ h. (let s = sym is ∙ h in cc);
  cancelled = λ h. (let s = sym is ∙ h in cc);
  failed = λ code h. (let s = sym is ∙ h in cc);
  refused = λ _. ap (λ z. z.memory) causes ∙ e;
}

-- who has not ended has no end
pub unended : (r : Runner) → how_of r ≡ None → is_over r ≡ false
unended Nobody e = refl
unended Coming e = refl
unended Fresh e = refl
unended Ready e = refl
unended (Looked c) e = refl
unended (Saw c t) e = refl
unended (Measured c t a) e = refl
unended Taken e = refl
unended (Over how) e = cc

pub goes_on : (r : Runner) → is_over r ≡ false → how_of r ≡ None
goes_on Nobody e = refl
goes_on Coming e = refl
goes_on Fresh e = refl
goes_on Ready e = refl
goes_on (Looked c) e = refl
goes_on (Saw c t) e = refl
goes_on (Measured c t a) e = refl
goes_on Taken e = refl
goes_on (Over how) e = cc

pub has_ended : (r : Runner) → is_over r ≡ true → is_some (how_of r) ≡ true
has_ended (Over how) e = refl
has_ended Nobody e = cc
has_ended Coming e = cc
has_ended Fresh e = cc
has_ended Ready e = cc
has_ended (Looked c) e = cc
has_ended (Saw c t) e = cc
has_ended (Measured c t a) e = cc
has_ended Taken e = cc
