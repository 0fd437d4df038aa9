-- A sound Hub stays sound if items are published, one or a batch of them by one call.
use Rattle.std.proofs.Common.{◌≡◌, ◌⊎◌, ℕ, suc, ◌<◌, Some, List, [], ◌∷◌, ◌++◌, refl, ap, sym, subst, ◌∙◌, inl, inr, arith}
use Rattle.std.specs.Prelude.{slice_get}
use Rattle.flow_rules.specs.Feed.{End}
use Rattle.flow_rules.specs.declared.item.Item.{Item}
use Rattle.publisher_hub.specs.Entry.{EntryState}
use Rattle.publisher_hub.specs.Hub.{HubState, Progress}
use Rattle.publisher_hub.specs.Offering.{IsOffered, ReachesAll}
use Rattle.publisher_hub.specs.Batch.{IsGivenAnother, ReachesAllBy, ReachesAllInTurn, ReachesAllToo}
use Rattle.publisher_hub.specs.Sound.{IsAccepted, IsSound}
use Rattle.publisher_hub.specs.declared.hub.TheConstants.{MOST_SOURCES}
use Rattle.publisher_hub.proofs.AnswerLists.Places.{stood_at}
use Rattle.publisher_hub.proofs.Soundness.Gaining.{IsLeft, hub_accepted, sound_left}

-- a subscription that was looked at and has grown has gained the item
offered_left : (x : Item) (old new : EntryState) → IsOffered x old new → IsLeft x old new
offered_left x old new (inl stays) = inl stays
offered_left x old new (inr (inr others)) = inr (inr others)
offered_left x old new (inr (inl grown)) = inr (inl (record {
  before = grown.before;
  after = grown.after;
  live = grown.live;
  was = grown.was;
  accepted = ap (λ (end : End). end.accepted) grown.grown ∙ ap (λ (end : End). end.accepted ++ x ∷ []) grown.follows.rest;
  closing = ap (λ (end : End). end.closing) grown.grown ∙ ap (λ (end : End). end.closing) grown.follows.rest;
  capacity = ap (λ (end : End). end.capacity) grown.grown ∙ ap (λ (end : End). end.capacity) grown.follows.rest;
  now = grown.now;
}))

-- a sound Hub stays sound if an item is published
pub sound_offered : (old new : HubState) (x : Item) → x.source < MOST_SOURCES → IsSound old → ReachesAll x old new → IsSound new
sound_offered old new x source sound reaches = sound_left old new x source sound (record {
  next = reaches.next;
  rest = reaches.rest;
  entries = record {
    as_long = reaches.entries.as_long;
    each = λ k before after at at'. offered_left x before after (reaches.entries.each k before after at at');
  };
  drops = reaches.drops.1;
  dropped = reaches.dropped;
})

-- what was accepted after a publication was accepted before, or is this item
pub accepted_offered : (old new : HubState) (x y : Item) → ReachesAll x old new → IsAccepted new.entries y
    → IsAccepted old.entries y ⊎ (x ≡ y)
accepted_offered old new x y reaches = hub_accepted old.progress x new.progress.dropping reaches.next old.entries new.entries y (record {
  as_long = reaches.entries.as_long;
  each = λ k before after at at'. offered_left x before after (reaches.entries.each k before after at at');
})

-- a subscription that accepted another item of the same call has gained it, and counts no more drops
another_left : (x : Item) (old new : EntryState) → IsGivenAnother x old new → IsLeft x old new × (new.dropped ≡ old.dropped)
another_left x old new (inl stays) = (inl stays, ap (λ (entry : EntryState). entry.dropped) stays.same)
another_left x old new (inr takes) = (
  inr (inl (record {
    before = takes.before;
    after = record takes.before { accepted = takes.before.accepted ++ x ∷ [] };
    live = takes.live;
    was = takes.was;
    accepted = refl;
    closing = refl;
    capacity = refl;
    now = takes.now;
  })),
  ap (λ (entry : EntryState). entry.dropped) takes.now,
)

-- what was accepted after another publication of the same call was accepted before, or is this item
pub accepted_too : (old new : HubState) (x y : Item) → ReachesAllToo x old new → IsAccepted new.entries y
    → IsAccepted old.entries y ⊎ (x ≡ y)
accepted_too old new x y reaches = hub_accepted old.progress x new.progress.dropping reaches.next old.entries new.entries y (record {
  as_long = reaches.entries.as_long;
  each = λ k before after at at'. (another_left x before after (reaches.entries.each k before after at at')).0;
})

-- a sound Hub stays sound if another item of the same call is published
sound_too : (old new : HubState) (x : Item) → x.source < MOST_SOURCES → IsSound old → ReachesAllToo x old new → IsSound new
sound_too old new x source sound reaches = sound_left old new x source sound (record {
  next = reaches.next;
  rest = reaches.rest ∙ ap (λ n. record old { progress = after n; entries = new.entries }) (sym dropping);
  entries = record {
    as_long = reaches.entries.as_long;
    each = λ k before after at at'. (another_left x before after (reaches.entries.each k before after at at')).0;
  };
  drops = let same = dropping in omega arith;
  dropped = λ k entry at.
      let stood = stood_at (IsGivenAnother x) old.entries new.entries k entry reaches.entries at in
      let same = (another_left x stood.entry entry stood.became).1 in
      let few = (sound.entries k stood.entry stood.at).drops in
      let drops = dropping in
      omega arith;
}) where
  after : ℕ → Progress
  after n = Rattle.publisher_hub.specs.Offering.progress_after x n old.progress

  dropping : new.progress.dropping ≡ old.progress.dropping
  dropping = ap (λ (s : HubState). s.progress.dropping) reaches.rest

-- so it does after a batch, one after the other
pub sound_in_turn : (items : List Item) (old new : HubState)
    → ((i : ℕ) (x : Item) → slice_get items i ≡ Some x → x.source < MOST_SOURCES)
    → IsSound old → ReachesAllInTurn items old new → IsSound new
sound_in_turn [] old new sources sound same = subst (λ (hub : HubState). IsSound hub) (sym same) sound
sound_in_turn (x ∷ items) old new sources sound (middle, (first, others)) =
    sound_in_turn items middle new (λ i y at. sources (suc i) y at) (sound_too old middle x (sources 0 x refl) sound first) others

-- a sound Hub stays sound if a batch of items is published by one call
pub sound_by : (items : List Item) (old new : HubState)
    → ((i : ℕ) (x : Item) → slice_get items i ≡ Some x → x.source < MOST_SOURCES)
    → IsSound old → ReachesAllBy items old new → IsSound new
sound_by [] old new sources sound none = absurd none
sound_by (x ∷ items) old new sources sound (middle, (first, others)) =
    sound_in_turn items middle new (λ i y at. sources (suc i) y at) (sound_offered old middle x (sources 0 x refl) sound first) others
