-- The handle stores a request.
use Rattle.std.proofs.Common.{◌≡◌, ℕ, refl, ap, arith}
use Rattle.feed_core.specs.World.Types.{Ask, Parts}
use Rattle.feed_core.specs.World.Table.{IsPossible, after}
use Rattle.feed_core.specs.World.Kept.{IsKeptParts, handle_hands}
use Rattle.feed_core.proofs.Interleavings.Causing.{within_same}
use Rattle.feed_core.proofs.Interleavings.Growing.{Grows, stage_at, stage_kept}

pub ask_kept : (n : ℕ) (w : Parts) → IsKeptParts w → IsPossible (Ask n) w → IsKeptParts (after (Ask n) w)
ask_kept n w k may =
    let idle : handle_hands w.handle ≡ 0 = ap handle_hands may.0 in let handed = k.handed in
    let requested = k.requested in let bounded = k.asked_bounded in let known = k.known_asked in
    let grows : Grows w (after (Ask n) w) = record {
      given = refl;
      accepted = omega arith;
      total = omega arith;
      causes = within_same w.causes;
      quiet = λ e. (e, refl);
      put = λ e never. (never, refl);
      asked = λ e never. absurd (never refl);
      closed = λ some. refl;
    } in
    let total = grows.total in
    record {
      sized = k.sized;
      asked_bounded = omega arith;
      own_bounded = k.own_bounded;
      taken = k.taken;
      fits = k.fits;
      requested = omega arith;
      roomy = k.roomy;
      handed = omega arith;
      unfailed = k.unfailed;
      remembered = k.remembered;
      known_put = k.known_put;
      known_asked = omega arith;
      stage = stage_kept grows w.runner (λ e. (stage_at k e).quiet) k.stage;
    }
