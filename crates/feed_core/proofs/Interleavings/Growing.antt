-- What the steps of the other two sides do to what holds where the task stands: the numbers and the causes only grow,
-- and what is new is marked.
use Rattle.std.proofs.Common.{◌≡◌, ℕ, ◌≤◌, min, false, refl, sym, ap, subst, ◌∙◌, arith}
use Rattle.std.specs.Prelude.{IsSome}
use Rattle.feed_core.specs.Prelude.{Published, IllegalArgument, IllegalState, Ending, AfterItems, How}
use Rattle.feed_core.specs.Cause.{stops, closes}
use Rattle.feed_core.specs.World.Types.{Causes, HasPut, HasAsked, Runner, Nobody, Coming, Fresh, Ready, Looked, Saw, Measured, Taken, Over, Parts}
use Rattle.feed_core.specs.World.Table.{total_of}
use Rattle.feed_core.specs.World.Kept.{IsWithin, EndHasCause, HasRested, HasLooked, HasSeen, HasMeasured, IsAt, IsKeptParts}
use Rattle.feed_core.proofs.Interleavings.Causing.{within_step, closes_within, normal_closes, error_closes}

-- what another side's step does
pub record Grows (w v : Parts) : Type 0 where
  pub given : v.given ≡ w.given
  pub accepted : w.accepted ≤ v.accepted
  pub total : total_of w ≤ total_of v
  pub causes : IsWithin w.causes v.causes
  pub quiet : v.active ≡ false → (w.active ≡ false) × (v.causes ≡ w.causes)
  pub put : v.active ≡ false → (v.producer ≡ HasPut → ⊥) → (w.producer ≡ HasPut → ⊥) × (v.accepted ≡ w.accepted)
  pub asked : v.active ≡ false → (v.handle ≡ HasAsked → ⊥) → (w.handle ≡ HasAsked → ⊥) × (total_of v ≡ total_of w)
  pub closed : IsSome (closes w.causes) → v.accepted ≡ w.accepted

-- what holds at a known stage
pub stage_at : {w : Parts} {r : Runner} → IsKeptParts w → w.runner ≡ r → IsAt r w
stage_at {w} {r} k e = subst (λ runner. IsAt runner w) e k.stage

rested_kept : {w v : Parts} → Grows w v → v.active ≡ false → HasRested w → HasRested v
rested_kept {w} {v} g quiet s =
    let same = (g.quiet quiet).1 in
    record {
      quiet = quiet;
      runs_on = ap stops same ∙ s.runs_on;
      waits = λ some. (let waits = s.waits (subst (λ c. IsSome (closes c)) same some) in let given = g.given in let accepted = g.accepted in omega arith);
      all_given = λ put asked. (
          let one = g.put quiet put in let two = g.asked quiet asked in
          let all = s.all_given one.0 two.0 in let given = g.given in let accepted = one.1 in let total = two.1 in
          given ∙ all ∙ ap (λ n. min n (total_of w)) (sym accepted) ∙ ap (λ n. min v.accepted n) (sym total));
    }

looked_kept : {w v : Parts} {c : Causes} → Grows w v → HasLooked c w → HasLooked c v
looked_kept g s = record {
  within = within_step s.within g.causes;
  newest = λ quiet. (g.quiet quiet).1 ∙ s.newest (g.quiet quiet).0;
}

seen_kept : {w v : Parts} {c : Causes} {t : ℕ} → Grows w v → HasSeen c t w → HasSeen c t v
seen_kept {w} {v} g s = record {
  looked = looked_kept g s.looked;
  runs_on = s.runs_on;
  put = (let put = s.put in let accepted = g.accepted in omega arith);
  last = λ some. s.last some ∙ sym (g.closed (closes_within s.looked.within some));
  all_put = λ quiet put. (let one = g.put quiet put in s.all_put (g.quiet quiet).0 one.0 ∙ sym one.1);
}

measured_kept : {w v : Parts} {c : Causes} {t a : ℕ} → Grows w v → HasMeasured c t a w → HasMeasured c t a v
measured_kept {w} {v} g s = record {
  seen = seen_kept g s.seen;
  asked = (let asked = s.asked in let total = g.total in omega arith);
  all_asked = λ quiet asked. (let one = g.asked quiet asked in s.all_asked (g.quiet quiet).0 one.0 ∙ sym one.1);
}

ended_kept : {w v : Parts} → Grows w v → (how : How) → EndHasCause how w → EndHasCause how v
ended_kept {w} {v} g How.Completed s = (g.causes.closing Ending.Normal s.0, g.given ∙ s.1 ∙ sym (g.closed (normal_closes w.causes s.0)))
ended_kept {w} {v} g (How.Errored (Published code)) s = (g.causes.closing (Ending.Failed code) s.0, all) where
  all : v.causes.order ≡ AfterItems → v.given ≡ v.accepted
  all order =
      let waits : w.causes.order ≡ AfterItems = g.causes.order ∙ order in
      g.given ∙ s.1 waits ∙ sym (g.closed (error_closes w.causes code waits s.0))
ended_kept g (How.Errored IllegalArgument) s = (g.causes.argument s.0, tt)
ended_kept g (How.Errored IllegalState) s = (g.causes.state s.0, tt)
ended_kept g How.Cancelled s = g.causes.cancel s
ended_kept g (How.Failed code) s = g.causes.failed code s
ended_kept g How.OutOfMemory s = g.causes.memory s

-- what holds where the task stands goes on holding
pub stage_kept : {w v : Parts} → Grows w v → (r : Runner) → (r ≡ Nobody → v.active ≡ false) → IsAt r w → IsAt r v
stage_kept g Nobody quiet s = rested_kept g (quiet refl) s
stage_kept g Coming quiet s = tt
stage_kept g Fresh quiet s = g.given ∙ s
stage_kept g Ready quiet s = tt
stage_kept g (Looked c) quiet s = looked_kept g s
stage_kept g (Saw c t) quiet s = seen_kept g s
stage_kept g (Measured c t a) quiet s = measured_kept g s
stage_kept {w} {v} g Taken quiet s = (let given = g.given in omega arith)
stage_kept g (Over how) quiet s = ended_kept g how s
