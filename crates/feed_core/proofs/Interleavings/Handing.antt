-- A side hands the task over that its signal started.
use Rattle.std.proofs.Common.{◌≡◌, ◌+◌, ◌≤◌, false, refl, ap, arith}
use Rattle.feed_core.specs.World.Types.{Producer, Handle, Hand, Producing, Free, HasRoom, Requesting, Idle, Runner, Nobody, Coming, Fresh, Ready, Looked, Saw, Measured, Taken, Over, Parts}
use Rattle.feed_core.specs.World.Table.{is_over, IsPossible, after}
use Rattle.feed_core.specs.World.Kept.{IsKeptParts, producer_hands, handle_hands, coming}

-- at most one task is to come
pub coming_few : (r : Runner) → coming r ≤ 1
coming_few Nobody = omega arith
coming_few Coming = omega arith
coming_few Fresh = omega arith
coming_few Ready = omega arith
coming_few (Looked c) = omega arith
coming_few (Saw c t) = omega arith
coming_few (Measured c t a) = omega arith
coming_few Taken = omega arith
coming_few (Over how) = omega arith

pub is_coming : (r : Runner) → coming r ≡ 1 → r ≡ Coming
is_coming Nobody e = absurd (omega arith)
is_coming Coming e = refl
is_coming Fresh e = absurd (omega arith)
is_coming Ready e = absurd (omega arith)
is_coming (Looked c) e = absurd (omega arith)
is_coming (Saw c t) e = absurd (omega arith)
is_coming (Measured c t a) e = absurd (omega arith)
is_coming Taken e = absurd (omega arith)
is_coming (Over how) e = absurd (omega arith)

-- the task is ready once it is handed over, whoever had it
hand_kept : (w : Parts) (producer : Producing) (handle : Requesting) → IsKeptParts w → coming w.runner ≡ 1
    → (producer ≡ HasRoom → w.producer ≡ HasRoom) → producer_hands producer + handle_hands handle ≡ 0
    → IsKeptParts (record w { producer = producer; handle = handle; runner = Ready })
hand_kept w producer handle k comes roomy handed =
    let unended : is_over w.runner ≡ false = ap is_over (is_coming w.runner comes) in
    record {
      sized = k.sized;
      asked_bounded = k.asked_bounded;
      own_bounded = k.own_bounded;
      taken = k.taken;
      fits = k.fits;
      requested = k.requested;
      roomy = λ e. k.roomy (roomy e);
      handed = handed;
      unfailed = λ e. k.unfailed unended;
      remembered = λ e. k.remembered unended;
      known_put = k.known_put;
      known_asked = k.known_asked;
      stage = tt;
    }

pub producer_hand_kept : (w : Parts) → IsKeptParts w → IsPossible (Hand Producer) w → IsKeptParts (after (Hand Producer) w)
producer_hand_kept w k may =
    let hands : producer_hands w.producer ≡ 1 = ap producer_hands may in let handed = k.handed in let few = coming_few w.runner in
    hand_kept w Free w.handle k (omega arith) (λ e. cc) (omega arith)

pub handle_hand_kept : (w : Parts) → IsKeptParts w → IsPossible (Hand Handle) w → IsKeptParts (after (Hand Handle) w)
handle_hand_kept w k may =
    let hands : handle_hands w.handle ≡ 1 = ap handle_hands may in let handed = k.handed in let few = coming_few w.runner in
    hand_kept w w.producer Idle k (omega arith) (λ e. e) (omega arith)
