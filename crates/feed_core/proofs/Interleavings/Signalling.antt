-- A side signals.
use Rattle.std.proofs.Common.{◌≡◌, ℕ, ◌+◌, Bool, true, false, refl, sym, ap, ◌∙◌, arith, Option, Some, None}
use Rattle.feed_core.specs.World.Types.{Causes, Producer, Handle, Cause, Cancel, Argument, State, Closing, Signal, Producing, HasRoom, Requesting, Runner, Nobody, Coming, Fresh, Ready, Looked, Saw, Measured, Taken, Over, Parts}
use Rattle.feed_core.specs.World.Table.{is_over, is_started, started, ProducerMay, HandleMay, IsPossible, producing_after, requesting_after, joined, after}
use Rattle.feed_core.specs.World.Kept.{IsKeptParts, IsAt, IsWithin, producer_hands, handle_hands, coming, may_follow}
use Rattle.feed_core.proofs.Interleavings.Causing.{within_producer, within_handle, joined_failed, joined_memory}
use Rattle.feed_core.proofs.Interleavings.Growing.{Grows, stage_kept}
use Rattle.feed_core.proofs.Interleavings.Putting.{begins_idle}

-- a signal starts a task that is at rest, and leaves any other where it stands
pub started_by : (P : Runner → Runner → Type 0) (r : Runner) → P Nobody Coming → (is_started r ≡ true → P r r) → P r (started r)
started_by P Nobody starts stays = starts
started_by P Coming starts stays = stays refl
started_by P Fresh starts stays = stays refl
started_by P Ready starts stays = stays refl
started_by P (Looked c) starts stays = stays refl
started_by P (Saw c t) starts stays = stays refl
started_by P (Measured c t a) starts stays = stays refl
started_by P Taken starts stays = stays refl
started_by P (Over how) starts stays = stays refl

-- a signal leaves nobody's task at rest
pub started_never : (r : Runner) → started r ≡ Nobody → ⊥
started_never r = started_by (λ (_ later : Runner). later ≡ Nobody → ⊥) r (λ e. cc) (λ on e. (let off = sym (ap is_started e) ∙ on in cc))

pub starts_nobody : (r : Runner) → is_started r ≡ false → r ≡ Nobody
starts_nobody r = started_by (λ (before _ : Runner). is_started before ≡ false → before ≡ Nobody) r (λ _. refl) (λ on e. (let both = sym e ∙ on in cc))

pub is_over_started : (r : Runner) → is_over (started r) ≡ is_over r
is_over_started r = started_by (λ (before later : Runner). is_over later ≡ is_over before) r refl (λ _. refl)

pub may_follow_started : (r : Runner) → may_follow (started r) ≡ may_follow r
may_follow_started r = started_by (λ (before later : Runner). may_follow later ≡ may_follow before) r refl (λ _. refl)

stage_started : (w : Parts) (r : Runner) → IsAt r w → IsAt (started r) w
stage_started w r = started_by (λ (before later : Runner). IsAt before w → IsAt later w) r (λ _. tt) (λ _ at. at)

-- a task that was started is with the side that started it
signal_handed : (r : Runner) (n : ℕ) → n ≡ coming r → producer_hands (producing_after (is_started r)) + n ≡ coming (started r)
signal_handed r n = started_by (λ (before later : Runner). n ≡ coming before → producer_hands (producing_after (is_started before)) + n ≡ coming later) r
    (λ e. omega arith) (λ on e. (let started = ap (λ b. producer_hands (producing_after b)) on in omega arith))

-- the two sides hand over alike
same_hands : (b : Bool) → handle_hands (requesting_after b) ≡ producer_hands (producing_after b)
same_hands true = refl
same_hands false = refl

no_room : (b : Bool) → producing_after b ≡ HasRoom → ⊥
no_room true e = cc
no_room false e = cc

producer_idle : (cause : Option Cause) (producer : Producing) (w : Parts) → ProducerMay cause producer w.causes.closing
    → producer_hands producer ≡ 0
producer_idle None producer w may = ap producer_hands may
producer_idle (Some Cancel) producer w may = absurd may
producer_idle (Some Argument) producer w may = absurd may
producer_idle (Some State) producer w may = begins_idle may
producer_idle (Some (Closing _)) producer w may = begins_idle may.0

handle_idle : (cause : Option Cause) (handle : Requesting) → HandleMay cause handle → handle_hands handle ≡ 0
handle_idle None handle may = ap handle_hands may
handle_idle (Some Cancel) handle may = ap handle_hands may
handle_idle (Some Argument) handle may = ap handle_hands may
handle_idle (Some State) handle may = absurd may
handle_idle (Some (Closing _)) handle may = absurd may

-- whichever side signals
signal_kept : (w : Parts) (causes : Causes) (producer : Producing) (handle : Requesting) → IsKeptParts w → IsWithin w.causes causes
    → causes.failed ≡ w.causes.failed → causes.memory ≡ w.causes.memory
    → (producer ≡ HasRoom → w.producer ≡ HasRoom) → producer_hands producer + handle_hands handle ≡ coming (started w.runner)
    → IsKeptParts (record w { causes = causes; active = true; producer = producer; handle = handle; runner = started w.runner })
signal_kept w causes producer handle k within failed memory roomy handed =
    let v : Parts = record w { causes = causes; active = true; producer = producer; handle = handle; runner = started w.runner } in
    let grows : Grows w v = record {
      given = refl;
      accepted = omega arith;
      total = omega arith;
      causes = within;
      quiet = λ e. cc;
      put = λ e never. cc;
      asked = λ e never. cc;
      closed = λ some. refl;
    } in
    record {
      sized = k.sized;
      asked_bounded = k.asked_bounded;
      own_bounded = k.own_bounded;
      taken = k.taken;
      fits = k.fits;
      requested = k.requested;
      roomy = λ e. k.roomy (roomy e);
      handed = handed;
      unfailed = λ e. failed ∙ k.unfailed (sym (is_over_started w.runner) ∙ e);
      remembered = λ e. memory ∙ k.remembered (sym (is_over_started w.runner) ∙ e);
      known_put = k.known_put;
      known_asked = k.known_asked;
      stage = stage_kept grows (started w.runner) (λ e. absurd (started_never w.runner e)) (stage_started w w.runner k.stage);
    }

pub producer_signal_kept : (cause : Option Cause) (w : Parts) → IsKeptParts w → IsPossible (Signal Producer cause) w
    → IsKeptParts (after (Signal Producer cause) w)
producer_signal_kept cause w k may =
    let idle = producer_idle cause w.producer w may in let handed = k.handed in
    signal_kept w (joined cause w.causes) (producing_after (is_started w.runner)) w.handle k (within_producer cause w.producer w.causes may)
    (joined_failed cause w.causes) (joined_memory cause w.causes) (λ e. absurd (no_room (is_started w.runner) e))
    (signal_handed w.runner (handle_hands w.handle) (omega arith))

pub handle_signal_kept : (cause : Option Cause) (w : Parts) → IsKeptParts w → IsPossible (Signal Handle cause) w
    → IsKeptParts (after (Signal Handle cause) w)
handle_signal_kept cause w k may =
    let idle = handle_idle cause w.handle may in let handed = k.handed in
    let same = same_hands (is_started w.runner) in let one = signal_handed w.runner (producer_hands w.producer) (omega arith) in
    signal_kept w (joined cause w.causes) w.producer (requesting_after (is_started w.runner)) k (within_handle cause w.handle w.causes may)
    (joined_failed cause w.causes) (joined_memory cause w.causes) (λ e. e) (omega arith)
