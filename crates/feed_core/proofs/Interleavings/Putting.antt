-- The producer looks for room, and puts an item.
use Rattle.std.proofs.Common.{◌≡◌, ◌+◌, ◌-◌, ◌<◌, ◌≤◌, Bool, true, false, ◌&&◌, not, refl, sym, ap, ◌∙◌, None, arith, inl, inr}
use Rattle.std.specs.Prelude.{nat_lt}
use Rattle.std.proofs.lemmas.Bool.Decides.{nat_tests}
use Rattle.feed_core.specs.World.Types.{Room, Put, PutMore, Producing, Free, HasRoom, HasPut, Parts}
use Rattle.feed_core.specs.World.Table.{is_over, MayBegin, IsPossible, has_room, shown_room, after}
use Rattle.feed_core.specs.World.Kept.{IsKeptParts, producer_hands}
use Rattle.feed_core.proofs.Interleavings.Causing.{within_same, unclosed_waits}
use Rattle.feed_core.proofs.Interleavings.Growing.{Grows, stage_at, stage_kept}

-- who may begin is not in the middle of a put, and has no task to hand over
begins_unput : {producer : Producing} → MayBegin producer → producer ≡ HasPut → ⊥
begins_unput (inl free) e = cc
begins_unput (inr room) e = cc

pub begins_idle : {producer : Producing} → MayBegin producer → producer_hands producer ≡ 0
begins_idle (inl free) = ap producer_hands free
begins_idle (inr room) = ap producer_hands room

shown_hands : (b : Bool) → producer_hands (shown_room b) ≡ 0
shown_hands true = refl
shown_hands false = refl

-- if a look shows room there is room, and the subscription has not ended
pub room_found : (w : Parts) → shown_room (has_room w) ≡ HasRoom → (is_over w.runner ≡ false) × (w.accepted < w.given + w.capacity)
room_found w e = by (is_over w.runner) (nat_lt (w.accepted - w.given) w.capacity) refl refl e where
  by : (over room : Bool) → is_over w.runner ≡ over → nat_lt (w.accepted - w.given) w.capacity ≡ room
      → shown_room (not over && room) ≡ HasRoom
      → (is_over w.runner ≡ false) × (w.accepted < w.given + w.capacity)
  by true room o r e = cc
  by false false o r e = cc
  by false true o r e = (o, grind (arith, nat_tests))

-- if it shows none the subscription has ended, or the buffer is full
pub room_missing : (w : Parts) → is_over w.runner ≡ false → shown_room (has_room w) ≡ Free → w.capacity ≤ w.accepted - w.given
room_missing w unended e = by (nat_lt (w.accepted - w.given) w.capacity) refl (ap (λ over. shown_room (not over && nat_lt (w.accepted - w.given) w.capacity)) (sym unended) ∙ e) where
  by : (room : Bool) → nat_lt (w.accepted - w.given) w.capacity ≡ room → shown_room room ≡ Free → w.capacity ≤ w.accepted - w.given
  by true r e = cc
  by false r e = grind (arith, nat_tests)

-- an ended subscription shows no room
pub room_of_ended : (w : Parts) → is_over w.runner ≡ true → shown_room (has_room w) ≡ Free
room_of_ended w ended = ap (λ over. shown_room (not over && nat_lt (w.accepted - w.given) w.capacity)) ended

pub room_kept : (w : Parts) → IsKeptParts w → IsPossible Room w → IsKeptParts (after Room w)
room_kept w k may =
    let idle = begins_idle may in let shown = shown_hands (has_room w) in let handed = k.handed in
    let grows : Grows w (after Room w) = record {
      given = refl;
      accepted = omega arith;
      total = omega arith;
      causes = within_same w.causes;
      quiet = λ e. (e, refl);
      put = λ e never. (begins_unput may, refl);
      asked = λ e never. (never, refl);
      closed = λ some. refl;
    } in
    record {
      sized = k.sized;
      asked_bounded = k.asked_bounded;
      own_bounded = k.own_bounded;
      taken = k.taken;
      fits = k.fits;
      requested = k.requested;
      roomy = λ e. (room_found w e).1;
      handed = omega arith;
      unfailed = k.unfailed;
      remembered = k.remembered;
      known_put = k.known_put;
      known_asked = k.known_asked;
      stage = stage_kept grows w.runner (λ e. (stage_at k e).quiet) k.stage;
    }

-- one item more is put, by a producer that has no task to hand over
one_kept : (w : Parts) → IsKeptParts w → w.causes.closing ≡ None → w.accepted < w.given + w.capacity → producer_hands w.producer ≡ 0
    → IsKeptParts (after Put w)
one_kept w k unclosed room idle =
    let handed = k.handed in let taken = k.taken in let known = k.known_put in
    let grows : Grows w (after Put w) = record {
      given = refl;
      accepted = omega arith;
      total = omega arith;
      causes = within_same w.causes;
      quiet = λ e. (e, refl);
      put = λ e never. absurd (never refl);
      asked = λ e never. (never, refl);
      closed = λ some. absurd (unclosed_waits w.causes unclosed some);
    } in
    record {
      sized = k.sized;
      asked_bounded = k.asked_bounded;
      own_bounded = k.own_bounded;
      taken = omega arith;
      fits = omega arith;
      requested = k.requested;
      roomy = λ e. cc;
      handed = omega arith;
      unfailed = k.unfailed;
      remembered = k.remembered;
      known_put = omega arith;
      known_asked = k.known_asked;
      stage = stage_kept grows w.runner (λ e. (stage_at k e).quiet) k.stage;
    }

pub put_kept : (w : Parts) → IsKeptParts w → IsPossible Put w → IsKeptParts (after Put w)
put_kept w k may = one_kept w k may.1 (k.roomy may.0) (ap producer_hands may.0)

pub put_more_kept : (w : Parts) → IsKeptParts w → IsPossible PutMore w → IsKeptParts (after PutMore w)
put_more_kept w k may = let taken = k.taken in let room = may.2 in one_kept w k may.1 (omega arith) (ap producer_hands may.0)
