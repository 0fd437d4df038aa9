-- What comes of a piece at a sink.
use Rattle.std.specs.Prelude.{◌≡◌, ◌⊎◌, true, false}
use Rattle.fanout.specs.declared.strand.Deed.{Deed}
use Rattle.fanout.specs.declared.strand.Deed.TheVariants as deed
use Rattle.fanout.specs.declared.strand.Sight.{Sight}
use Rattle.fanout.specs.declared.strand.Stand.{Stand}
use Rattle.fanout.specs.declared.strand.Stand.TheVariants as stand

-- a line has begun that is written if nothing is missing
abbrev pub IsOpen : Stand → Type 0
IsOpen s = (s ≡ stand.Holding) ⊎ (s ≡ stand.Writing)

-- a piece is the next one of its line, of which a sink has all before it
pub record GoesOn (s : Stand) (sight : Sight) : Type 0 where
  pub begun : IsOpen s
  pub further : sight.is_first ≡ false
  pub next : sight.is_late ≡ false

-- a piece is written, sooner or later: it is the first of a line that passes, or goes on with one
abbrev pub Takes : Stand → Sight → Type 0
Takes s sight = ((sight.is_first ≡ true) × (sight.passes ≡ true)) ⊎ GoesOn s sight

-- a line that has begun is given up, since its next piece is missing
abbrev pub GivesUp : Stand → Sight → Type 0
GivesUp s sight = IsOpen s × ((sight.is_late ≡ true) ⊎ (sight.is_first ≡ true))

-- where a sink stands in a line that goes on after a piece
abbrev pub stand_of : Deed → Stand
stand_of deed.Skip = stand.Skipping
stand_of deed.Hold = stand.Holding
stand_of deed.Write = stand.Writing
