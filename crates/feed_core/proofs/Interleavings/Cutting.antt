-- At most one item is taken after an end at once was signalled: the runner may have looked before.
use Rattle.std.proofs.Common.{◌≡◌, ℕ, zero, suc, ℤ, pos, negsuc, ◌+◌, ◌≤◌, Bool, true, false, refl, sym, ap, subst, ◌∙◌, arith, Option, Some, None}
use Rattle.std.specs.Prelude.{IsSome}
use Rattle.feed_core.specs.Prelude.{Answer, How}
use Rattle.feed_core.specs.Cause.{stops, no_causes_in}
use Rattle.feed_core.specs.World.Types.{Producer, Handle, Cause, Event, Make, Room, Put, PutMore, See, Take, TakeKnown, Ask, Signal, Hand, Look, Peek, Measure, Rest, End, Runner, Nobody, Coming, Fresh, Ready, Looked, Saw, Measured, Taken, Over, Parts}
use Rattle.feed_core.specs.World.Table.{IsPossible, joined, requested, answered, started, seeing, resting_after, after}
use Rattle.feed_core.specs.World.Runs.{given_before, cut_where, cut_by, cut_after}
use Rattle.feed_core.specs.World.Kept.{IsCut, IsCutAt, may_follow, one_where}
use Rattle.feed_core.proofs.Interleavings.Causing.{none_some, within_argument, within_producer, within_handle, stops_within, joined_stops, stops_with_cause}
use Rattle.feed_core.proofs.Interleavings.Signalling.{started_by, may_follow_started}

one_where_few : (stop : Option How) → one_where stop ≤ 1
one_where_few None = omega arith
one_where_few (Some how) = omega arith

one_where_some : (stop : Option How) → IsSome stop → one_where stop ≡ 1
one_where_some None some = cc
one_where_some (Some how) some = refl

-- at most one item may follow
pub may_follow_few : (r : Runner) → may_follow r ≤ 1
may_follow_few Nobody = omega arith
may_follow_few Coming = omega arith
may_follow_few Fresh = omega arith
may_follow_few Ready = omega arith
may_follow_few (Looked c) = one_where_few (stops c)
may_follow_few (Saw c t) = omega arith
may_follow_few (Measured c t a) = omega arith
may_follow_few Taken = omega arith
may_follow_few (Over how) = omega arith

signal_cut : (w v : Parts) (cut : ℕ) → IsSome (stops v.causes) → v.given ≡ w.given → v.runner ≡ started w.runner
    → w.given ≤ cut + may_follow w.runner → IsCut v cut
signal_cut w v cut stopped given runner few =
    let same = may_follow_started w.runner in let is = ap may_follow runner in
    record { stopped = stopped; few = omega arith }

look_cut : (w v : Parts) (cut : ℕ) → IsSome (stops v.causes) → v.given ≡ w.given → v.runner ≡ Looked v.causes
    → w.given ≤ cut + may_follow w.runner → IsCut v cut
look_cut w v cut stopped given runner few =
    let one = one_where_some (stops v.causes) stopped in let is = ap may_follow runner in let most = may_follow_few w.runner in
    record { stopped = stopped; few = omega arith }

-- an end at once that was among the causes stays there, whatever a callback answered
requested_stops : (n : ℤ) (w : Parts) → IsSome (stops w.causes) → IsSome (stops (requested n w).causes)
requested_stops (pos zero) w some = stops_within (within_argument w.causes) some
requested_stops (pos (suc n)) w some = some
requested_stops (negsuc n) w some = stops_within (within_argument w.causes) some

answered_stops : (answer : Answer) (w : Parts) → IsSome (stops w.causes) → IsSome (stops (answered answer w).causes)
answered_stops Answer.Go w some = some
answered_stops (Answer.Request n) w some = requested_stops n w some
answered_stops Answer.Cancel w some = some
answered_stops (Answer.Fail _) w some = some

requested_given : (n : ℤ) (w : Parts) → (requested n w).given ≡ w.given
requested_given (pos zero) w = refl
requested_given (pos (suc n)) w = refl
requested_given (negsuc n) w = refl

answered_given : (answer : Answer) (w : Parts) → (answered answer w).given ≡ w.given
answered_given Answer.Go w = refl
answered_given (Answer.Request n) w = requested_given n w
answered_given Answer.Cancel w = refl
answered_given (Answer.Fail _) w = refl

rested_follow : (active : Bool) → may_follow (resting_after active) ≡ 1
rested_follow true = refl
rested_follow false = refl

-- what a cut allows goes on holding
pub cut_kept : (event : Event) (w : Parts) (cut : ℕ) → IsPossible event w → IsCut w cut → IsCut (after event w) cut
cut_kept (Make n order) w cut may c = absurd may
cut_kept Room w cut may c = record { stopped = c.stopped; few = c.few }
cut_kept Put w cut may c = record { stopped = c.stopped; few = c.few }
cut_kept PutMore w cut may c = record { stopped = c.stopped; few = c.few }
cut_kept See w cut may c =
    let few = c.few in
    let before : may_follow w.runner ≡ 0 = ap may_follow may.1 ∙ ap one_where may.2 in
    let now : may_follow (seeing w.accepted w.runner) ≡ 0 = ap (λ r. may_follow (seeing w.accepted r)) may.1 in
    record { stopped = c.stopped; few = omega arith }
cut_kept Take w cut may c =
    let few = c.few in let before : may_follow w.runner ≡ 0 = ap may_follow may.3 in
    record { stopped = c.stopped; few = omega arith }
cut_kept TakeKnown w cut may c =
    let few = c.few in let before : may_follow w.runner ≡ 0 = ap may_follow may.0.1 ∙ ap one_where may.0.2 in
    record { stopped = c.stopped; few = omega arith }
cut_kept (Ask n) w cut may c = record { stopped = c.stopped; few = c.few }
cut_kept (Signal Producer cause) w cut may c = signal_cut w _ cut (stops_within (within_producer cause w.producer w.causes may) c.stopped) refl refl c.few
cut_kept (Signal Handle cause) w cut may c = signal_cut w _ cut (stops_within (within_handle cause w.handle w.causes may) c.stopped) refl refl c.few
cut_kept (Hand Producer) w cut may c = let few = c.few in let most = may_follow_few w.runner in record { stopped = c.stopped; few = omega arith }
cut_kept (Hand Handle) w cut may c = let few = c.few in let most = may_follow_few w.runner in record { stopped = c.stopped; few = omega arith }
cut_kept (Look answer) w cut may c = look_cut w _ cut (answered_stops answer w c.stopped) (answered_given answer w) refl c.few
cut_kept (Peek answer) w cut may c = look_cut w _ cut (answered_stops answer w c.stopped) (answered_given answer w) refl c.few
cut_kept Measure w cut may c =
    let few = c.few in let before : may_follow w.runner ≡ 0 = ap may_follow may.2 in
    record { stopped = c.stopped; few = omega arith }
cut_kept Rest w cut may c =
    let few = c.few in let most = may_follow_few w.runner in let now = rested_follow w.active in
    record { stopped = c.stopped; few = omega arith }
cut_kept (End how) w cut may c =
    let few = c.few in let most = may_follow_few w.runner in
    record { stopped = stops_with_cause how w.causes c.stopped; few = omega arith }

-- a cut may be what was given by now, but for an item that was just taken
few_before : (given : ℕ) (r : Runner) → given ≤ given_before given r + may_follow r
few_before given Nobody = omega arith
few_before given Coming = omega arith
few_before given Fresh = omega arith
few_before given Ready = omega arith
few_before given (Looked c) = omega arith
few_before given (Saw c t) = omega arith
few_before given (Measured c t a) = omega arith
few_before given Taken = omega arith
few_before given (Over how) = omega arith

stopped_cut : (w : Parts) → IsSome (stops w.causes) → IsCut w (given_before w.given w.runner)
stopped_cut w stopped = record { stopped = stopped; few = few_before w.given w.runner }

before_started : (given : ℕ) (r : Runner) → given_before given (started r) ≡ given_before given r
before_started given r = started_by (λ (before later : Runner). given_before given later ≡ given_before given before) r refl (λ _. refl)

-- the first such signal sets it
first_cut : (cause : Option Cause) (w v : Parts) → v.causes ≡ joined cause w.causes → v.given ≡ w.given → v.runner ≡ started w.runner
    → IsCutAt (cut_where (stops (joined cause (no_causes_in w.causes.order))) w) v
first_cut cause w v causes given runner = by (stops (joined cause (no_causes_in w.causes.order))) refl where
  by : (stop : Option How) → stops (joined cause (no_causes_in w.causes.order)) ≡ stop → IsCutAt (cut_where stop w) v
  by None e = tt
  by (Some how) e =
      let some : IsSome (stops (joined cause (no_causes_in w.causes.order))) = subst IsSome (sym e) refl in
      let stopped : IsSome (stops v.causes) = subst (λ c. IsSome (stops c)) (sym causes) (joined_stops cause w.causes some) in
      let is : given_before v.given v.runner ≡ given_before w.given w.runner =
      ap (λ n. given_before n v.runner) given ∙ ap (given_before w.given) runner ∙ before_started w.given w.runner in
      subst (IsCut v) is (stopped_cut v stopped)

new_cut : (event : Event) (w : Parts) → IsCutAt (cut_by event w) (after event w)
new_cut (Make n order) w = tt
new_cut Room w = tt
new_cut Put w = tt
new_cut PutMore w = tt
new_cut See w = tt
new_cut Take w = tt
new_cut TakeKnown w = tt
new_cut (Ask n) w = tt
new_cut (Signal Producer cause) w = first_cut cause w _ refl refl refl
new_cut (Signal Handle cause) w = first_cut cause w _ refl refl refl
new_cut (Hand side) w = tt
new_cut (Look answer) w = tt
new_cut (Peek answer) w = tt
new_cut Measure w = tt
new_cut Rest w = tt
new_cut (End how) w = tt

pub cut_at_kept : (event : Event) (w : Parts) (cut : Option ℕ) → IsPossible event w → IsCutAt cut w
    → IsCutAt (cut_after event w cut) (after event w)
cut_at_kept event w None may c = new_cut event w
cut_at_kept event w (Some cut) may c = cut_kept event w cut may c

-- an event that adds an end at once, if none was before
adds_stop : (event : Event) (w : Parts) → IsPossible event w → stops w.causes ≡ None → IsSome (stops (after event w).causes)
    → IsCut (after event w) (given_before w.given w.runner)
adds_stop event w may none stopped = by event may stopped where
  never : IsSome (stops w.causes) → ⊥
  never some = none_some (stops w.causes) none some

  few : w.given ≤ given_before w.given w.runner + may_follow w.runner
  few = few_before w.given w.runner

  by : (event : Event) → IsPossible event w → IsSome (stops (after event w).causes) → IsCut (after event w) (given_before w.given w.runner)
  by (Make n order) may some = absurd may
  by Room may some = absurd (never some)
  by Put may some = absurd (never some)
  by PutMore may some = absurd (never some)
  by See may some = absurd (never some)
  by Take may some = absurd (never some)
  by TakeKnown may some = absurd (never some)
  by (Ask n) may some = absurd (never some)
  by (Signal Producer cause) may some = signal_cut w _ _ some refl refl few
  by (Signal Handle cause) may some = signal_cut w _ _ some refl refl few
  by (Hand Producer) may some = absurd (never some)
  by (Hand Handle) may some = absurd (never some)
  by (Look answer) may some = look_cut w _ _ some (answered_given answer w) refl few
  by (Peek answer) may some = look_cut w _ _ some (answered_given answer w) refl few
  by Measure may some = absurd (never some)
  by Rest may some = absurd (never some)
  by (End how) may some = let before = few in let most = may_follow_few w.runner in record { stopped = some; few = omega arith }

-- after an event that leaves an end at once among the causes, the cut may be what was given before it, but for an item
-- that was just taken
pub fresh_cut : (event : Event) (w : Parts) → IsPossible event w → IsSome (stops (after event w).causes)
    → IsCut (after event w) (given_before w.given w.runner)
fresh_cut event w may stopped = by (stops w.causes) refl where
  by : (stop : Option How) → stops w.causes ≡ stop → IsCut (after event w) (given_before w.given w.runner)
  by None e = adds_stop event w may e stopped
  by (Some how) e = cut_kept event w _ may (stopped_cut w (subst IsSome (sym e) refl))
