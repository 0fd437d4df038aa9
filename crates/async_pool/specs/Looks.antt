-- What a worker finds that looks while it holds the lock.
use Rattle.std.specs.Prelude.{◌≡◌, Bool, true, false, Option, Some, None}
use Rattle.async_pool.specs.declared.crew.Crew.{Crew}
use Rattle.async_pool.specs.declared.crew.looking.Look.{Look}
use Rattle.async_pool.specs.declared.crew.looking.Look.TheVariants.{Found, Nothing, OnItsWay, Over}

module _ {J Q : Type 0} where
  -- the job that was taken is found; if none was, nothing is found in an open pool, of the crew as it is; and once the
  -- pool was shut, all is over, unless a job comes still
  abbrev pub LooksFor : Crew J Q → Option J → Bool → Look J Q → Type 0
  LooksFor crew taken comes (Found job) = taken ≡ Some job
  LooksFor crew taken comes (Nothing searched) = (taken ≡ None) × (crew.shut ≡ false) × (searched.at.value ≡ crew)
  LooksFor crew taken comes OnItsWay = (taken ≡ None) × (crew.shut ≡ true) × (comes ≡ true)
  LooksFor crew taken comes (Over _) = (taken ≡ None) × (crew.shut ≡ true) × (comes ≡ false)

  -- the same, whichever job was taken, and whether or not one was on its way
  abbrev pub Looks : Crew J Q → Look J Q → Type 0
  Looks crew look = (taken : Option J) × (comes : Bool) × LooksFor crew taken comes look
