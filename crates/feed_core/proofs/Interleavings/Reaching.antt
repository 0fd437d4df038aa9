-- What any list of events leads to.
use Rattle.std.proofs.Common.{◌≡◌, ℕ, ◌↔◌, Bool, true, false, refl, sym, subst, Option, Some, None, List, [], ◌∷◌, ◌++◌, inl, inr}
use Rattle.feed_core.specs.Prelude.{ErrorOrder}
use Rattle.feed_core.specs.LaneCalls.{IsCapacity}
use Rattle.feed_core.specs.World.Types.{Event, Make, Room, Put, PutMore, See, Take, TakeKnown, Ask, Signal, Hand, Look, Peek, Measure, Rest, End, Parts}
use Rattle.feed_core.specs.World.Table.{IsPossible, after}
use Rattle.feed_core.specs.World.Runs.{WorldState, nothing, world_of, made, IsPossibleIn, cut_after, next_of, Steps, Leads, IsReached}
use Rattle.feed_core.specs.World.Kept.{IsKeptParts, IsKeptIn}
use Rattle.feed_core.specs.World.Lawful.{IsLawful}
use Rattle.feed_core.proofs.Interleavings.Cutting.{cut_at_kept}
use Rattle.feed_core.proofs.Interleavings.Events.{made_kept, event_kept}
use Rattle.feed_core.proofs.Interleavings.Lawfulness.{lawful}

pub next_kept : (event : Event) (parts : Option Parts) (cut : Option ℕ) → IsKeptIn parts cut → IsPossibleIn event parts
    → IsKeptIn (next_of event parts cut).parts (next_of event parts cut).cut
next_kept event (Some w) cut k may = (event_kept event w k.0 may, cut_at_kept event w cut may k.1)
next_kept (Make n order) None cut k may = (made_kept n order may, tt)
next_kept Room None cut k may = absurd may
next_kept Put None cut k may = absurd may
next_kept PutMore None cut k may = absurd may
next_kept See None cut k may = absurd may
next_kept Take None cut k may = absurd may
next_kept TakeKnown None cut k may = absurd may
next_kept (Ask n) None cut k may = absurd may
next_kept (Signal side cause) None cut k may = absurd may
next_kept (Hand side) None cut k may = absurd may
next_kept (Look answer) None cut k may = absurd may
next_kept (Peek answer) None cut k may = absurd may
next_kept Measure None cut k may = absurd may
next_kept Rest None cut k may = absurd may
next_kept (End how) None cut k may = absurd may

-- of a subscription that was made
pub parts_kept : (event : Event) (w v : Parts) (cut cut' : Option ℕ) → IsKeptIn (Some w) cut → IsPossible event w
    → v ≡ after event w → cut' ≡ cut_after event w cut → IsKeptIn (Some v) cut'
parts_kept event w v cut cut' k may parts number =
    subst (λ (p : Parts). IsKeptIn (Some p) cut') (sym parts) (subst (IsKeptIn (Some (after event w))) (sym number) (next_kept event (Some w) cut k may))

-- what a call of `apply` promises is one event
pub applied : (event : Event) (old new : WorldState) (did : Bool) → (did ≡ true) ↔ IsPossibleIn event old.parts
    → (did ≡ true → new ≡ next_of event old.parts old.cut) → (did ≡ false → new ≡ old) → Steps event old new
applied event old new true possible done unchanged = inl (possible.0 refl, done refl)
applied event old new false possible done unchanged = inr (λ may. (let never = possible.1 may in cc), unchanged refl)

pub steps_kept : (event : Event) (old new : WorldState) → IsKeptIn old.parts old.cut → Steps event old new → IsKeptIn new.parts new.cut
steps_kept event old new k (inl s) = subst (λ (w : WorldState). IsKeptIn w.parts w.cut) (sym s.1) (next_kept event old.parts old.cut k s.0)
steps_kept event old new k (inr s) = subst (λ (w : WorldState). IsKeptIn w.parts w.cut) (sym s.1) k

pub leads_kept : (old : WorldState) (events : List Event) (new : WorldState) → IsKeptIn old.parts old.cut → Leads old events new
    → IsKeptIn new.parts new.cut
leads_kept old [] new k e = subst (λ (w : WorldState). IsKeptIn w.parts w.cut) (sym e) k
leads_kept old (event ∷ events) new k leads = leads_kept leads.0 events new (steps_kept event old leads.0 k leads.1) leads.2

-- one event more
pub leads_more : (old : WorldState) (events : List Event) (event : Event) (between new : WorldState) → Leads old events between
    → Steps event between new → Leads old (events ++ event ∷ []) new
leads_more old [] event between new e step = (new, subst (λ (w : WorldState). Steps event w new) e step, refl)
leads_more old (first ∷ events) event between new leads step = (leads.0, leads.1, leads_more leads.0 events event between new leads.2 step)

-- every list that leads to a subscription leads, with an event that is possible, to the one after it
pub leads_event : (events : List Event) (w : Parts) (cut : Option ℕ) (event : Event) → Leads nothing events (world_of w cut)
    → IsPossible event w
    → Leads nothing (events ++ event ∷ []) (world_of (after event w) (cut_after event w cut))
leads_event events w cut event leads may = leads_more nothing events event (world_of w cut) (world_of (after event w) (cut_after event w cut)) leads (inl (may, refl))

pub reached_made : (n : ℕ) (order : ErrorOrder) → IsCapacity n → IsReached (made n order)
reached_made n order sized = record { events = Make n order ∷ []; cut = None; leads = (world_of (made n order) None, inl (sized, refl), refl) }

pub reached_more : (event : Event) {w : Parts} → IsReached w → IsPossible event w → IsReached (after event w)
reached_more event {w} r may = record { events = r.events ++ event ∷ []; cut = cut_after event w r.cut; leads = leads_event r.events w r.cut event r.leads may }

pub reached_kept : {w : Parts} → IsReached w → IsKeptParts w
reached_kept {w} r = (leads_kept nothing r.events (world_of w r.cut) refl r.leads).0

pub reached_lawful : {w : Parts} → IsReached w → IsLawful w
reached_lawful r = lawful (reached_kept r)
