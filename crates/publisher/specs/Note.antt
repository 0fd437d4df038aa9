-- What a note knows.
use Rattle.std.specs.Prelude.{ℕ, Option, None, Some}
use Rattle.flow_rules.specs.declared.ending.Ending.{Ending}
use Rattle.flow_rules.specs.declared.refusal.Refusal.{Refusal}
use Rattle.flow_rules.specs.declared.refusal.Refusal.TheVariants.{Closed}

-- a note: of which publisher's closing it is, and how that is closed, if it was told
pub record NoteState : Type 0 where
  pub cell : ℕ
  pub known : Option Ending

-- what a note knows once it was told of this ending: one that knew an ending keeps that
abbrev pub known_after : Ending → Option Ending → Option Ending
known_after ending None = Some ending
known_after ending (Some known) = Some known

-- what a note knows after this refusal
abbrev pub known_by : Refusal → Option Ending → Option Ending
known_by (Closed ending) known = known_after ending known
known_by _ known = known
