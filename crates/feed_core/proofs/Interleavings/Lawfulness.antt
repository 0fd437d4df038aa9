-- What is kept gives the law.
use Rattle.std.proofs.Common.{◌≡◌, ℕ, ◌+◌, refl, ap, ◌∙◌, arith, Option, Some, None, inl, inr}
use Rattle.std.specs.Prelude.{◌⊎◌}
use Rattle.feed_core.specs.World.Types.{Producing, Free, HasRoom, HasPut, Hands, Requesting, Idle, HasAsked, HandsOver, Coming, Parts}
use Rattle.feed_core.specs.World.Table.{is_over}
use Rattle.feed_core.specs.World.Kept.{IsKeptParts, IsCutAt, IsKeptIn, producer_hands, handle_hands, coming}
use Rattle.feed_core.specs.World.Lawful.{IsLawful, IsLawfulIn, FollowsCut}
use Rattle.feed_core.proofs.Interleavings.Cutting.{may_follow_few}
use Rattle.feed_core.proofs.Interleavings.Growing.{stage_at}
use Rattle.feed_core.proofs.Interleavings.Handing.{coming_few, is_coming}

-- who has one task to hand over
hands_one : (producer : Producing) (handle : Requesting) → producer_hands producer + handle_hands handle ≡ 1
    → (producer ≡ Hands) ⊎ (handle ≡ HandsOver)
hands_one Hands handle e = inl refl
hands_one Free HandsOver e = inr refl
hands_one HasRoom HandsOver e = inr refl
hands_one HasPut HandsOver e = inr refl
hands_one Free Idle e = absurd (omega arith)
hands_one HasRoom Idle e = absurd (omega arith)
hands_one HasPut Idle e = absurd (omega arith)
hands_one Free HasAsked e = absurd (omega arith)
hands_one HasRoom HasAsked e = absurd (omega arith)
hands_one HasPut HasAsked e = absurd (omega arith)

handed_comes : {w : Parts} → IsKeptParts w → (w.producer ≡ Hands) ⊎ (w.handle ≡ HandsOver) → w.runner ≡ Coming
handed_comes {w} k (inl e) = let hands : producer_hands w.producer ≡ 1 = ap producer_hands e in let handed = k.handed in let few = coming_few w.runner in is_coming w.runner (omega arith)
handed_comes {w} k (inr e) = let hands : handle_hands w.handle ≡ 1 = ap handle_hands e in let handed = k.handed in let few = coming_few w.runner in is_coming w.runner (omega arith)

pub lawful : {w : Parts} → IsKeptParts w → IsLawful w
lawful {w} k = record {
  taken = k.taken;
  fits = k.fits;
  requested = k.requested;
  coming = (λ e. hands_one w.producer w.handle (k.handed ∙ ap coming e), handed_comes k);
  from_one = λ producer handle. (
      let one : producer_hands w.producer ≡ 1 = ap producer_hands producer in let two : handle_hands w.handle ≡ 1 = ap handle_hands handle in
      let handed = k.handed in let few = coming_few w.runner in omega arith);
  runs_on = λ e. (stage_at k e).runs_on;
  unfailed = λ e. (k.unfailed (ap is_over e), k.remembered (ap is_over e));
  all_given = λ e quiet. (stage_at k e).all_given quiet.put quiet.asked;
  waits = λ e. (stage_at k e).waits;
  ended = λ how e. stage_at k e;
}

follows : (cut : Option ℕ) (w : Parts) → IsCutAt cut w → FollowsCut cut w
follows None w c = tt
follows (Some cut) w c = let few = c.few in let most = may_follow_few w.runner in omega arith

pub lawful_in : (parts : Option Parts) (cut : Option ℕ) → IsKeptIn parts cut → IsLawfulIn parts cut
lawful_in None cut k = k
lawful_in (Some w) cut k = (lawful k.0, follows cut w k.1)
