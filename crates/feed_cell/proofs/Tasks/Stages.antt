-- Where a task stands: what a signal leaves as it is, and what follows from having a seat.
use Rattle.std.proofs.Common.{◌≡◌, ℕ, true, false, List, None, refl}
use Rattle.feed_core.specs.Prelude.{Item, Signal}
use Rattle.feed_core.specs.World.Table.{is_started, is_over, started}
use Rattle.feed_core.proofs.Interleavings.Signalling.{started_by}
use Rattle.feed_cell.specs.Types.{Causes, Runner, Nobody, Coming, Fresh, Ready, Looked, Saw, Measured, Taken, Over}
use mathlib.Core.Option as slot
use mathlib.Core.Option.{some}
use lib.ListN.{get_elem?}
use Rattle.feed_cell.specs.declared.cell.Held.{Held}
use Rattle.feed_cell.specs.Cell.{has_seat, may_hold, how_of, LodgesAt}

-- what a signal that starts a task, or finds it started, leaves as it is
pub record Started (before later : Runner) : Type 0 where
  pub runs : is_started later ≡ true
  pub over : is_over later ≡ is_over before
  pub seat : has_seat later ≡ has_seat before
  pub holds : may_hold later ≡ may_hold before
  pub same : has_seat before ≡ true → later ≡ before

pub starts : (r : Runner) → Started r (started r)
starts r = started_by Started r
    (record { runs = refl; over = refl; seat = refl; holds = refl; same = λ e. cc })
    (λ on. record { runs = on; over = refl; seat = refl; holds = refl; same = λ e. refl })

-- a task that has a seat
pub record Seated (r : Runner) : Type 0 where
  pub runs : is_started r ≡ true
  pub over : is_over r ≡ false
  pub how : how_of r ≡ None

pub seated : (r : Runner) → has_seat r ≡ true → Seated r
seated Nobody e = cc
seated Coming e = cc
seated Fresh e = record { runs = refl; over = refl; how = refl }
seated Ready e = record { runs = refl; over = refl; how = refl }
seated (Looked c) e = record { runs = refl; over = refl; how = refl }
seated (Saw c t) e = record { runs = refl; over = refl; how = refl }
seated (Measured c t a) e = record { runs = refl; over = refl; how = refl }
seated Taken e = record { runs = refl; over = refl; how = refl }
seated (Over how) e = cc

-- a slot of another number is written, and who lodges stays
pub lodges_else : {B : Type 0} (told : B → List Signal) (cap : ℕ) (r : Runner) (taken : List Item) (own : ℕ) (answers : Causes) (homes later : List (slot.Option (Held B)))
    → ((x : slot.Option (Held B)) → get_elem? homes cap ≡ some x → get_elem? later cap ≡ some x) → LodgesAt told cap r taken own answers homes → LodgesAt told cap r taken own answers later
lodges_else told cap Fresh taken own answers homes later stays at = stays (some Held.Empty) at
lodges_else told cap Nobody taken own answers homes later stays g = record { guest = g.guest; at = stays (some (Held.Guest g.guest)) g.at; given_is = g.given_is; own_is = g.own_is; answers_are = g.answers_are; how_is = g.how_is; told_is = g.told_is }
lodges_else told cap Coming taken own answers homes later stays g = record { guest = g.guest; at = stays (some (Held.Guest g.guest)) g.at; given_is = g.given_is; own_is = g.own_is; answers_are = g.answers_are; how_is = g.how_is; told_is = g.told_is }
lodges_else told cap Ready taken own answers homes later stays g = record { guest = g.guest; at = stays (some (Held.Guest g.guest)) g.at; given_is = g.given_is; own_is = g.own_is; answers_are = g.answers_are; how_is = g.how_is; told_is = g.told_is }
lodges_else told cap (Looked c) taken own answers homes later stays g = record { guest = g.guest; at = stays (some (Held.Guest g.guest)) g.at; given_is = g.given_is; own_is = g.own_is; answers_are = g.answers_are; how_is = g.how_is; told_is = g.told_is }
lodges_else told cap (Saw c t) taken own answers homes later stays g = record { guest = g.guest; at = stays (some (Held.Guest g.guest)) g.at; given_is = g.given_is; own_is = g.own_is; answers_are = g.answers_are; how_is = g.how_is; told_is = g.told_is }
lodges_else told cap (Measured c t a) taken own answers homes later stays g = record { guest = g.guest; at = stays (some (Held.Guest g.guest)) g.at; given_is = g.given_is; own_is = g.own_is; answers_are = g.answers_are; how_is = g.how_is; told_is = g.told_is }
lodges_else told cap Taken taken own answers homes later stays g = record { guest = g.guest; at = stays (some (Held.Guest g.guest)) g.at; given_is = g.given_is; own_is = g.own_is; answers_are = g.answers_are; how_is = g.how_is; told_is = g.told_is }
lodges_else told cap (Over how) taken own answers homes later stays g = record { guest = g.guest; at = stays (some (Held.Guest g.guest)) g.at; given_is = g.given_is; own_is = g.own_is; answers_are = g.answers_are; how_is = g.how_is; told_is = g.told_is }

-- a task is started, and who lodges stays
pub lodges_started : {B : Type 0} (told : B → List Signal) (cap : ℕ) (r : Runner) (taken : List Item) (own : ℕ) (answers : Causes) (homes : List (slot.Option (Held B)))
    → LodgesAt told cap r taken own answers homes → LodgesAt told cap (started r) taken own answers homes
lodges_started told cap r taken own answers homes =
    started_by (λ (before later : Runner). LodgesAt told cap before taken own answers homes → LodgesAt told cap later taken own answers homes) r
    (λ g. record { guest = g.guest; at = g.at; given_is = g.given_is; own_is = g.own_is; answers_are = g.answers_are; how_is = g.how_is; told_is = g.told_is })
    (λ _ at. at)
