-- A sound Hub stays sound if a subscription is replaced by another that accepted and dropped the same, or whose
-- producer's end was taken out.
use Rattle.std.proofs.Common.{rules, ◌≡◌, ◌⊎◌, ℕ, zero, suc, ◌<◌, ◌≤◌, true, false, None, Some, List, [], ◌∷◌, set, refl, ap, sym, subst, ◌∙◌, inl, inr}
use Rattle.std.specs.Prelude.{IsSome, slice_get}
use Rattle.std.proofs.lemmas.List.{length-set}
use Rattle.flow_rules.specs.Feed.{End, is_gone}
use Rattle.flow_rules.specs.declared.item.Item.{Item}
use Rattle.publisher_hub.specs.Entry.{EntryState, until_of}
use Rattle.publisher_hub.specs.Hub.{HubState, Progress}
use Rattle.publisher_hub.specs.Lists.{Each}
use Rattle.publisher_hub.specs.Sound.{AreLive, IsAccepted, IsCounted, IsEntry, IsOrdered, IsPublished, IsSound, MOST_ENTRIES}
use Rattle.publisher_hub.proofs.PartialRounds.Progress.{same_some}
use Rattle.publisher_hub.proofs.AnswerLists.Places.{stood_at}

-- a subscription whose end is there, after a call that neither put an item into it nor closed it
pub record Succeeds (progress : Progress) (old new : EntryState) : Type 0 where
  pub before : End
  pub after : End
  pub was : old.feed ≡ Some before
  pub now : new.feed ≡ Some after
  pub since : new.since ≡ old.since
  pub dropped : new.dropped ≡ old.dropped
  pub until : until_of progress.next new ≡ until_of progress.next old
  pub gone : new.retired ≡ true → is_gone after ≡ true
  pub lives : new.retired ≡ false → old.retired ≡ false
  pub capacity : after.capacity ≡ before.capacity
  pub accepted : after.accepted ≡ before.accepted
  pub closing : after.closing ≡ before.closing

-- it is counted as before
counted_after : (p : Progress) (old new : EntryState) (s : Succeeds p old new) → IsCounted p old s.before → IsCounted p new s.after
counted_after p old new s is = record {
  capacity = s.capacity ∙ is.capacity;
  ordered = subst (λ (items : List Item). IsOrdered items) (sym s.accepted) is.ordered;
  items = λ i x at. published x (is.items i x (subst (λ (items : List Item). slice_get items i ≡ Some x) s.accepted at));
  count = let count = is.count in rw (s.since, s.dropped, s.accepted, s.until) count;
  until = subst (λ u. u ≤ p.next) (sym s.until) is.until;
  gone = s.gone;
  closed = λ some. s.until ∙ is.closed (subst (λ c. IsSome c) s.closing some);
  closed_as = λ ending at. is.closed_as ending (sym s.closing ∙ at);
} where
  published : (x : Item) → IsPublished p old x → IsPublished p new x
  published x was = record {
    since = subst (λ since. since ≤ x.serial) (sym s.since) was.since;
    until = subst (λ until. x.serial < until) (sym s.until) was.until;
    seq = was.seq;
    source = was.source;
  }

entry_after : (p : Progress) (old new : EntryState) → Succeeds p old new → IsEntry p old → IsEntry p new
entry_after p old new s is = record {
  here = λ _. let there : IsSome {T = End} (Some s.after) = search rules in subst (λ feed. IsSome feed) (sym s.now) there;
  counted = λ e was. subst (λ (end : End). IsCounted p new end) (same_some (sym s.now ∙ was)) (counted_after p old new s (is.counted s.before s.was));
  drops = subst (λ dropped. dropped ≤ p.dropping) (sym s.dropped) is.drops;
}

-- what a subscription owes to the subscription whose place it takes, for a sound Hub to stay sound
pub record Replaces (p : Progress) (old new : EntryState) : Type 0 where
  pub entry : IsEntry p old → IsEntry p new
  pub lives : new.retired ≡ false → old.retired ≡ false
  pub had : (f : End) → new.feed ≡ Some f → (e : End) × (old.feed ≡ Some e) × (f.accepted ≡ e.accepted)

-- it owes nothing if it is the same
replaces_same : (p : Progress) (entry : EntryState) → Replaces p entry entry
replaces_same p entry = record { entry = λ is. is; lives = λ lives. lives; had = λ f is. (f, is, refl) }

-- and if it accepted and dropped the same
replaces_after : (p : Progress) (old new : EntryState) → Succeeds p old new → Replaces p old new
replaces_after p old new s = record {
  entry = entry_after p old new s;
  lives = s.lives;
  had = λ f is. (s.before, s.was, ap (λ (end : End). end.accepted) (same_some (sym is ∙ s.now)) ∙ s.accepted);
}

-- or if it was retired and its producer's end was taken out
pub replaces_taken : (p : Progress) (old new : EntryState) → new.retired ≡ true → new.feed ≡ None → new.dropped ≡ old.dropped
    → Replaces p old new
replaces_taken p old new retired none dropped = record {
  entry = λ is. record {
    here = λ lives. let never : true ≡ false = sym retired ∙ lives in cc;
    counted = λ e there. let never : None ≡ Some e = sym none ∙ there in cc;
    drops = subst (λ drops. drops ≤ p.dropping) (sym dropped) is.drops;
  };
  lives = λ lives. let never : true ≡ false = sym retired ∙ lives in cc;
  had = λ f there. let never : None ≡ Some f = sym none ∙ there in cc;
}

was_accepted : (p : Progress) (xs ys : List EntryState) (x : Item) → Each (Replaces p) xs ys → IsAccepted ys x → IsAccepted xs x
was_accepted p xs ys x each is =
    let stood = stood_at (Replaces p) xs ys is.number is.entry each is.stands in
    let before = stood.became.had is.feed is.end_of in
    record {
      number = is.number;
      place = is.place;
      entry = stood.entry;
      feed = before.0;
      stands = stood.at;
      end_of = before.1;
      item = subst (λ (items : List Item). slice_get items is.place ≡ Some x) before.2 is.item;
    }

live_after : (p : Progress) (live : List ℕ) (xs ys : List EntryState) → Each (Replaces p) xs ys → AreLive live xs → AreLive live ys
live_after p live xs ys each are = record {
  numbers = record {
    rising = are.numbers.rising;
    within = λ i n at. subst (λ many. n < many) (sym each.as_long) (are.numbers.within i n at);
  };
  covers = λ k entry at lives. let stood = stood_at (Replaces p) xs ys k entry each at in
      are.covers k stood.entry stood.at (stood.became.lives lives);
}

-- a list in which an element was set to what it was
pub set_same : {X : Type 0} (xs : List X) (k : ℕ) (x : X) → slice_get xs k ≡ Some x → set xs k x ≡ xs
set_same [] k x at = refl
set_same (first ∷ xs) zero x at = ap (λ y. y ∷ xs) (sym (same_some at))
set_same (first ∷ xs) (suc k) x at = ap (λ ys. first ∷ ys) (set_same xs k x at)

-- what stands in a list in which a place was set
pub set_or_stood : {X : Type 0} (xs : List X) (place : ℕ) (value : X) (i : ℕ) (y : X) → slice_get (set xs place value) i ≡ Some y
    → ((place ≡ i) × (value ≡ y)) ⊎ (slice_get xs i ≡ Some y)
set_or_stood [] place value i y at = inr at
set_or_stood (first ∷ xs) zero value zero y at = inl (refl, same_some at)
set_or_stood (first ∷ xs) zero value (suc i) y at = inr at
set_or_stood (first ∷ xs) (suc place) value zero y at = inr at
set_or_stood {X} (first ∷ xs) (suc place) value (suc i) y at = by (set_or_stood xs place value i y at) where
  by : ((place ≡ i) × (value ≡ y)) ⊎ (slice_get xs i ≡ Some y) → ((suc place ≡ suc i) × (value ≡ y)) ⊎ (slice_get xs i ≡ Some y)
  by (inl now) = inl (ap suc now.0, now.1)
  by (inr before) = inr before

each_replaces : (p : Progress) (xs : List EntryState) (number : ℕ) (old new : EntryState) → slice_get xs number ≡ Some old
    → Replaces p old new → Each (Replaces p) xs (set xs number new)
each_replaces p xs number old new stood s = record {
  as_long = length-set xs number new;
  each = λ k x y at at'. by k x y at (set_or_stood xs number new k y at');
} where
  by : (k : ℕ) (x y : EntryState) → slice_get xs k ≡ Some x → ((number ≡ k) × (new ≡ y)) ⊎ (slice_get xs k ≡ Some y) → Replaces p x y
  by k x y at (inl now) =
      let same : old ≡ x = same_some (sym stood ∙ subst (λ j. slice_get xs j ≡ Some x) (sym now.0) at) in
      subst (λ (entry : EntryState). Replaces p x entry) now.1 (subst (λ (entry : EntryState). Replaces p entry new) same s)
  by k x y at (inr before) = subst (λ (entry : EntryState). Replaces p x entry) (same_some (sym at ∙ before)) (replaces_same p x)

-- a sound Hub stays sound if a subscription is replaced in this way
pub sound_with : (hub : HubState) (number : ℕ) (old new : EntryState) → IsSound hub → slice_get hub.entries number ≡ Some old
    → Replaces hub.progress old new
    → IsSound (record hub { entries = set hub.entries number new })
sound_with hub number old new sound stood s =
    let p = hub.progress in
    let xs = hub.entries in
    let ys = set xs number new in
    let each = each_replaces p xs number old new stood s in
    record {
      entries = λ k entry at. let before = stood_at (Replaces p) xs ys k entry each at in before.became.entry (sound.entries k before.entry before.at);
      agreed = λ x y a b same. sound.agreed x y (was_accepted p xs ys x each a) (was_accepted p xs ys y each b) same;
      live = live_after p hub.live xs ys each sound.live;
      few_live = sound.few_live;
      few_entries = subst (λ many. many ≤ MOST_ENTRIES) (sym each.as_long) sound.few_entries;
      few_items = sound.few_items;
      few_drops = sound.few_drops;
      sources = sound.sources;
      all_sources = sound.all_sources;
      few_counts = sound.few_counts;
    }

-- in particular by a subscription that accepted and dropped the same
pub sound_replaced : (hub : HubState) (number : ℕ) (old new : EntryState) → IsSound hub → slice_get hub.entries number ≡ Some old
    → Succeeds hub.progress old new
    → IsSound (record hub { entries = set hub.entries number new })
sound_replaced hub number old new sound stood s = sound_with hub number old new sound stood (replaces_after hub.progress old new s)
