-- The runner looks or peeks, sees how many items were put, sees how many were requested, and takes one.
use Rattle.std.proofs.Common.{◌≡◌, ◌+◌, ◌<◌, ℕ, zero, suc, ℤ, pos, negsuc, ◌≤◌, Bool, true, false, refl, sym, ap, subst, ◌∙◌, arith, inl, inr}
use Rattle.feed_core.specs.Prelude.{UNBOUNDED, Answer, total_after}
use Rattle.feed_core.specs.World.Types.{Causes, Look, Peek, See, Measure, Take, TakeKnown, Runner, Looked, Saw, Measured, Taken, Parts}
use Rattle.feed_core.specs.World.Table.{total_of, is_over, MayLook, IsPossible, requested, answered, seeing, measuring, after}
use Rattle.feed_core.specs.World.Kept.{IsAt, IsKeptParts, HasSeen, HasMeasured, coming}
use Rattle.feed_core.proofs.Interleavings.Causing.{within_same}
use Rattle.feed_core.proofs.Interleavings.Growing.{stage_at}

-- if the task goes on by itself, only what holds at its new stage is to be shown
loaded_kept : (w : Parts) (r : Runner) (put asked : ℕ) → IsKeptParts w → put ≤ w.accepted → asked ≤ w.asked → coming w.runner ≡ 0
    → coming r ≡ 0 → is_over w.runner ≡ false → IsAt r (record w { runner = r; known_put = put; known_asked = asked })
    → IsKeptParts (record w { runner = r; known_put = put; known_asked = asked })
loaded_kept w r put asked k few_put few_asked before after unended stage =
    let handed = k.handed in
    record {
      sized = k.sized;
      asked_bounded = k.asked_bounded;
      own_bounded = k.own_bounded;
      taken = k.taken;
      fits = k.fits;
      requested = k.requested;
      roomy = k.roomy;
      handed = omega arith;
      unfailed = λ e. k.unfailed unended;
      remembered = λ e. k.remembered unended;
      known_put = few_put;
      known_asked = few_asked;
      stage = stage;
    }

pub moved_kept : (w : Parts) (r : Runner) → IsKeptParts w → coming w.runner ≡ 0 → coming r ≡ 0 → is_over w.runner ≡ false
    → IsAt r (record w { runner = r }) → IsKeptParts (record w { runner = r })
moved_kept w r k before after unended stage = loaded_kept w r w.known_put w.known_asked k k.known_put k.known_asked before after unended stage

-- after a look or a peek, which may bring a request or the cause of a bad one
looked_kept : (w : Parts) (active : Bool) (own : ℕ) (causes : Causes) → IsKeptParts w → coming w.runner ≡ 0 → is_over w.runner ≡ false
    → own ≤ UNBOUNDED → w.own ≤ own → causes.failed ≡ w.causes.failed → causes.memory ≡ w.causes.memory
    → IsKeptParts (record w { own = own; causes = causes; active = active; runner = Looked causes })
looked_kept w active own causes k quiet unended bounded grows failed memory =
    let handed = k.handed in let requested = k.requested in
    record {
      sized = k.sized;
      asked_bounded = k.asked_bounded;
      own_bounded = bounded;
      taken = k.taken;
      fits = k.fits;
      requested = omega arith;
      roomy = k.roomy;
      handed = omega arith;
      unfailed = λ e. failed ∙ k.unfailed unended;
      remembered = λ e. memory ∙ k.remembered unended;
      known_put = k.known_put;
      known_asked = k.known_asked;
      stage = record { within = within_same causes; newest = λ e. refl };
    }

-- who may look has the task
looks : (answer : Answer) (r : Runner) → MayLook answer r → (coming r ≡ 0) × (is_over r ≡ false)
looks Answer.Go r (inl (inl e)) = (ap coming e, ap is_over e)
looks Answer.Go r (inl (inr (c, t, a, e))) = (ap coming e, ap is_over e)
looks Answer.Go r (inr (inl e)) = (ap coming e, ap is_over e)
looks Answer.Go r (inr (inr e)) = (ap coming e, ap is_over e)
looks (Answer.Request n) r (inl e) = (ap coming e, ap is_over e)
looks (Answer.Request n) r (inr e) = (ap coming e, ap is_over e)
looks Answer.Cancel r may = absurd may
looks (Answer.Fail _) r may = absurd may

-- what there is after a look or a peek: in the second case what is new stays new
abbrev learning : Bool → Parts → Parts
learning active w = record w { active = active; runner = Looked w.causes }

requested_kept : (n : ℤ) (w : Parts) (active : Bool) → IsKeptParts w → coming w.runner ≡ 0 → is_over w.runner ≡ false
    → IsKeptParts (learning active (requested n w))
requested_kept (pos zero) w active k quiet unended = looked_kept w active w.own (record w.causes { argument = true }) k quiet unended k.own_bounded (omega arith) refl refl
requested_kept (pos (suc n)) w active k quiet unended =
    let bounded = k.own_bounded in
    looked_kept w active (total_after w.own (suc n)) w.causes k quiet unended (omega arith) (omega arith) refl refl
requested_kept (negsuc n) w active k quiet unended = looked_kept w active w.own (record w.causes { argument = true }) k quiet unended k.own_bounded (omega arith) refl refl

answered_kept : (answer : Answer) (w : Parts) (active : Bool) → IsKeptParts w → (coming w.runner ≡ 0) × (is_over w.runner ≡ false)
    → IsKeptParts (learning active (answered answer w))
answered_kept Answer.Go w active k has = looked_kept w active w.own w.causes k has.0 has.1 k.own_bounded (omega arith) refl refl
answered_kept (Answer.Request n) w active k has = requested_kept n w active k has.0 has.1
answered_kept Answer.Cancel w active k has = looked_kept w active w.own w.causes k has.0 has.1 k.own_bounded (omega arith) refl refl
answered_kept (Answer.Fail _) w active k has = looked_kept w active w.own w.causes k has.0 has.1 k.own_bounded (omega arith) refl refl

pub look_kept : (answer : Answer) (w : Parts) → IsKeptParts w → IsPossible (Look answer) w → IsKeptParts (after (Look answer) w)
look_kept answer w k may = answered_kept answer w false k (looks answer w.runner may)

pub peek_kept : (answer : Answer) (w : Parts) → IsKeptParts w → IsPossible (Peek answer) w → IsKeptParts (after (Peek answer) w)
peek_kept answer w k may = answered_kept answer w (answered answer w).active k (looks answer w.runner may)

pub see_kept : (w : Parts) → IsKeptParts w → IsPossible See w → IsKeptParts (after See w)
see_kept w k may =
    let c = may.0 in let at : w.runner ≡ Looked c = may.1 in let s = stage_at k at in
    let runner : Runner = Saw c w.accepted in
    let seen : HasSeen c w.accepted (record w { runner = runner; known_put = w.accepted }) = record {
      looked = record { within = s.within; newest = s.newest };
      runs_on = may.2;
      put = omega arith;
      last = λ some. refl;
      all_put = λ quiet put. refl;
    } in
    subst (λ r. IsKeptParts (record w { runner = r; known_put = w.accepted })) (sym (ap (seeing w.accepted) at)) (loaded_kept w runner w.accepted w.known_asked k (omega arith) k.known_asked (ap coming at) refl (ap is_over at) seen)

pub measure_kept : (w : Parts) → IsKeptParts w → IsPossible Measure w → IsKeptParts (after Measure w)
measure_kept w k may =
    let c = may.0 in let t = may.1 in let at : w.runner ≡ Saw c t = may.2 in let s = stage_at k at in
    let runner : Runner = Measured c t (total_of w) in
    let measured : HasMeasured c t (total_of w) (record w { runner = runner; known_asked = w.asked }) = record {
      seen = record {
        looked = record { within = s.looked.within; newest = s.looked.newest };
        runs_on = s.runs_on;
        put = s.put;
        last = s.last;
        all_put = s.all_put;
      };
      asked = omega arith;
      all_asked = λ quiet asked. refl;
    } in
    subst (λ r. IsKeptParts (record w { runner = r; known_asked = w.asked })) (sym (ap (measuring (total_of w)) at)) (loaded_kept w runner w.known_put w.asked k k.known_put (omega arith) (ap coming at) refl (ap is_over at) measured)

-- an item is taken that was put and requested
given_more : (w : Parts) → IsKeptParts w → w.given < w.accepted → w.given < total_of w → coming w.runner ≡ 0 → is_over w.runner ≡ false
    → IsKeptParts (record w { given = w.given + 1; runner = Taken })
given_more w k put asked quiet unended =
    let fits = k.fits in let handed = k.handed in
    record {
      sized = k.sized;
      asked_bounded = k.asked_bounded;
      own_bounded = k.own_bounded;
      taken = omega arith;
      fits = omega arith;
      requested = omega arith;
      roomy = λ e. (let room = k.roomy e in omega arith);
      handed = omega arith;
      unfailed = λ e. k.unfailed unended;
      remembered = λ e. k.remembered unended;
      known_put = k.known_put;
      known_asked = k.known_asked;
      stage = omega arith;
    }

pub take_kept : (w : Parts) → IsKeptParts w → IsPossible Take w → IsKeptParts (after Take w)
take_kept w k may =
    let at : w.runner ≡ Measured may.0 may.1 may.2 = may.3 in
    let s = stage_at k at in
    let waits = may.4 in let wanted = may.5 in
    let put = s.seen.put in let asked = s.asked in
    given_more w k (omega arith) (omega arith) (ap coming at) (ap is_over at)

pub take_known_kept : (w : Parts) → IsKeptParts w → IsPossible TakeKnown w → IsKeptParts (after TakeKnown w)
take_known_kept w k may =
    let at : w.runner ≡ Looked may.0.0 = may.0.1 in
    let waits = may.1 in let wanted = may.2 in
    let put = k.known_put in let asked = k.known_asked in
    given_more w k (omega arith) (omega arith) (ap coming at) (ap is_over at)
