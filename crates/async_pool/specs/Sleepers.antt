-- Who is called of those that sleep, and whom to wake then.
use Rattle.std.specs.Prelude.{◌≡◌, ◌<◌, ◌-◌, ◌⊎◌, true, false}
use Rattle.async_pool.specs.declared.sleepers.TheConstants.{CALLS_IN_TURN}
use Rattle.async_pool.specs.declared.sleepers.Sleepers.{Sleepers}
use Rattle.async_pool.specs.declared.sleepers.Place.TheVariants.{Lead, Others}
use Rattle.async_pool.specs.declared.sleepers.Wake.{Wake}
use Rattle.async_pool.specs.declared.sleepers.Wake.TheVariants.{Nobody, One, All}

-- whether one may be called for a job that came: somebody sleeps, and each that was called has got up
abbrev pub MayCall : Sleepers → Type 0
MayCall sleepers = (0 < sleepers.asleep) × (sleepers.called ≡ 0)

-- one was called, if one may be, and is to be woken, else nobody; the lead first, or last while calls go in turn
pub record CallsOne (old : Sleepers) (wake : Wake) (new : Sleepers) : Type 0 where
  pub called : MayCall old → new.called ≡ 1
  pub lead : MayCall old → old.has_lead ≡ true → (old.in_turn ≡ 0) ⊎ (old.asleep ≡ 1) → wake ≡ One Lead
  pub last : MayCall old → 0 < old.in_turn → 1 < old.asleep → wake ≡ One Others
  pub other : MayCall old → old.has_lead ≡ false → wake ≡ One Others
  pub in_turn : MayCall old → wake ≡ One Others → new.in_turn ≡ old.in_turn - 1
  pub alone : MayCall old → wake ≡ One Lead → new.in_turn ≡ old.in_turn
  pub together : 0 < old.called → new.in_turn ≡ CALLS_IN_TURN
  pub unchanged : (old.asleep ≡ 0) ⊎ (0 < old.called) → new.called ≡ old.called
  pub nobody : (old.asleep ≡ 0) ⊎ (0 < old.called) → wake ≡ Nobody
  pub asleep : new.asleep ≡ old.asleep
  pub has_lead : new.has_lead ≡ old.has_lead

-- all that sleep were called, and are to be woken
pub record CallsAll (old : Sleepers) (wake : Wake) (new : Sleepers) : Type 0 where
  pub called : new.called ≡ old.asleep
  pub woken : 0 < old.asleep → wake ≡ All
  pub nobody : old.asleep ≡ 0 → wake ≡ Nobody
  pub asleep : new.asleep ≡ old.asleep
  pub has_lead : new.has_lead ≡ old.has_lead
