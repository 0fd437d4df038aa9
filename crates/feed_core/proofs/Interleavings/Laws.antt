-- The laws follow from what every event keeps.
use Rattle.std.proofs.Common.{ℕ, refl, sym, subst, arith, Option, Some, None, List, [], ◌∷◌, inl, inr}
use Rattle.feed_core.specs.World.Types.{Event, Parts}
use Rattle.feed_core.specs.World.Runs.{WorldState, nothing, world_of, IsPossibleIn, given_before, next_of, Steps, Leads}
use Rattle.feed_core.specs.World.Kept.{IsKeptParts, IsCut}
use Rattle.feed_core.specs.World.Laws.{IsResting, ForgetsNothing, NothingIsForgotten, EndsWithinOneItem}
use Rattle.feed_core.proofs.Interleavings.Cutting.{may_follow_few, cut_kept, fresh_cut}
use Rattle.feed_core.proofs.Interleavings.Growing.{stage_at}
use Rattle.feed_core.proofs.Interleavings.Reaching.{leads_kept}

resting_forgets_nothing : {w : Parts} → IsKeptParts w → IsResting w → ForgetsNothing w
resting_forgets_nothing {w} k rests =
    let s = stage_at k rests.unserved in
    let all = s.all_given rests.quiet.put rests.quiet.asked in
    record {
      all_given = all;
      none_at_once = s.runs_on;
      none_at_last = λ some. (let waits = s.waits some in omega arith);
    }

pub nothing_is_forgotten : NothingIsForgotten
nothing_is_forgotten events w cut leads rests = resting_forgets_nothing (leads_kept nothing events (world_of w cut) refl leads).0 rests

-- a cut, of what was made
abbrev HasCut : ℕ → Option Parts → Type 0
HasCut cut None = ⊥
HasCut cut (Some w) = IsCut w cut

next_cut : (bound : ℕ) (event : Event) (parts : Option Parts) (cut : Option ℕ) → IsPossibleIn event parts → HasCut bound parts
    → HasCut bound (next_of event parts cut).parts
next_cut bound event None cut may c = absurd c
next_cut bound event (Some w) cut may c = cut_kept event w bound may c

leads_cut : (bound : ℕ) (old : WorldState) (events : List Event) (new : WorldState) → HasCut bound old.parts → Leads old events new
    → HasCut bound new.parts
leads_cut bound old [] new c e = subst (λ (w : WorldState). HasCut bound w.parts) (sym e) c
leads_cut bound old (event ∷ events) new c leads = leads_cut bound leads.0 events new (step leads.1) leads.2 where
  step : Steps event old leads.0 → HasCut bound leads.0.parts
  step (inl s) = subst (λ (w : WorldState). HasCut bound w.parts) (sym s.1) (next_cut bound event old.parts old.cut s.0 c)
  step (inr s) = subst (λ (w : WorldState). HasCut bound w.parts) (sym s.1) c

pub ends_within_one_item : EndsWithinOneItem
ends_within_one_item events w cut event later v cut' leads may stopped follow =
    let bound : ℕ = given_before w.given w.runner in
    let c : IsCut v bound = leads_cut bound (next_of event (Some w) cut) later (world_of v cut') (fresh_cut event w may stopped) follow in
    let few = c.few in let most = may_follow_few v.runner in omega arith
