-- The runner rests, or finds that something is new.
use Rattle.std.proofs.Common.{◌≡◌, ℕ, ◌<◌, ◌≤◌, min, Bool, true, false, refl, ap, subst, ◌∙◌, arith, None, inl, inr}
use Rattle.std.specs.Prelude.{IsSome, ◌⊎◌}
use Rattle.feed_core.specs.Cause.{stops, closes}
use Rattle.feed_core.specs.World.Types.{Causes, Rest, Nobody, Ready, Parts}
use Rattle.feed_core.specs.World.Table.{total_of, is_over, IsPossible, resting_after, after}
use Rattle.feed_core.specs.World.Kept.{IsKeptParts, HasRested, HasMeasured, coming}
use Rattle.feed_core.proofs.Interleavings.Causing.{none_some}
use Rattle.feed_core.proofs.Interleavings.Growing.{stage_at}
use Rattle.feed_core.proofs.Interleavings.Running.{moved_kept}

-- if nothing is new since the look, there is nothing to do
rested : (w : Parts) (c : Causes) (t a : ℕ) → IsKeptParts w → HasMeasured c t a w → w.active ≡ false
    → (t ≤ w.given) ⊎ (a ≤ w.given) → (closes c ≡ None) ⊎ (w.given ≡ t → ⊥) → HasRested (record w { runner = Nobody })
rested w c t a k s quiet done waits =
    let same = s.seen.looked.newest quiet in
    record {
      quiet = quiet;
      runs_on = ap stops same ∙ s.seen.runs_on;
      waits = λ some. still (subst (λ causes. IsSome (closes causes)) same some) waits;
      all_given = λ put asked. all done (s.seen.all_put quiet put) (s.all_asked quiet asked);
    } where
      still : IsSome (closes c) → (closes c ≡ None) ⊎ (w.given ≡ t → ⊥) → w.given < w.accepted
      still some (inl none) = absurd (none_some (closes c) none some)
      still some (inr short) = let last = s.seen.last some in let taken = k.taken in omega (arith, short)

      all : (t ≤ w.given) ⊎ (a ≤ w.given) → t ≡ w.accepted → a ≡ total_of w → w.given ≡ min w.accepted (total_of w)
      all (inl few) put asked = let taken = k.taken in let requested = k.requested in omega arith
      all (inr few) put asked = let taken = k.taken in let requested = k.requested in omega arith

pub rest_kept : (w : Parts) → IsKeptParts w → IsPossible Rest w → IsKeptParts (after Rest w)
rest_kept w k may = by w.active refl where
  by : (active : Bool) → w.active ≡ active → IsKeptParts (record w { runner = resting_after active })
  by true e = moved_kept w Ready k (ap coming may.3) refl (ap is_over may.3) tt
  by false e = moved_kept w Nobody k (ap coming may.3) refl (ap is_over may.3) (rested w may.0 may.1 may.2 k (stage_at k may.3) e may.4 may.5)
