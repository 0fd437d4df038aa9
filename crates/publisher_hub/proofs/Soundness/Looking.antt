-- A sound Hub that is looked at stays sound.
use Rattle.std.proofs.Common.{◌≡◌, ℕ, ◌<◌, ◌≤◌, true, false, Option, None, Some, List, refl, ap, sym, subst, ◌∙◌, inl, inr, arith}
use Rattle.std.specs.Prelude.{IsSome, slice_get}
use Rattle.flow_rules.specs.Feed.{End, is_gone}
use Rattle.flow_rules.specs.declared.ending.Ending.{Ending}
use Rattle.flow_rules.specs.declared.item.Item.{Item}
use Rattle.publisher_hub.specs.Entry.{EntryState, until_of}
use Rattle.publisher_hub.specs.Hub.{HubState, Progress}
use Rattle.publisher_hub.specs.Lists.{Each}
use Rattle.publisher_hub.specs.Looking.{Follows, IsKept, IsLookedAt}
use Rattle.publisher_hub.specs.Sound.{AreAgreed, AreLive, IsAccepted, IsCounted, IsEntry, IsPublished, IsSound}
use Rattle.publisher_hub.proofs.AnswerLists.Places.{stood_at}

-- a subscription has no two ends
pub same_end : {e f : End} → Some e ≡ Some f → e ≡ f
same_end e = cc

-- a subscription that isn't retired takes part up to the next serial number
pub until_next : (next : ℕ) (entry : EntryState) → entry.retired ≡ false → until_of next entry ≡ next
until_next next entry live = rw live refl

-- no end of a Hub that was not closed is closed
pub unclosed_by : (p : Progress) (entry : EntryState) (e : End) → IsCounted p entry e → p.ending ≡ None → e.closing ≡ None
unclosed_by p entry e is unclosed = by e.closing refl where
  by : (closing : Option Ending) → e.closing ≡ closing → closing ≡ None
  by None at = refl
  by (Some ending) at = let no : Some ending ≡ None = sym (is.closed_as ending at) ∙ unclosed in cc

-- an item that was published while a subscription took part still is such an item if only the end of the subscription
-- changed, or it is retired now
still_published : (p : Progress) (old new : EntryState) (x : Item) → new.since ≡ old.since → until_of p.next new ≡ until_of p.next old
    → IsPublished p old x → IsPublished p new x
still_published p old new x since until is = record {
  since = subst (λ s. s ≤ x.serial) (sym since) is.since;
  until = subst (λ u. x.serial < u) (sym until) is.until;
  seq = is.seq;
  source = is.source;
}

-- a subscription that was looked at is counted as before
counted_looked : (p : Progress) (old new : EntryState) (e f : End) → Follows e f → new.since ≡ old.since → new.dropped ≡ old.dropped
    → until_of p.next new ≡ until_of p.next old → until_of p.next new ≤ p.next → (new.retired ≡ true → is_gone f ≡ true)
    → IsCounted p old e → IsCounted p new f
counted_looked p old new e f follows since dropped until within gone is =
    let accepted : f.accepted ≡ e.accepted = ap (λ (end : End). end.accepted) follows.rest in
    let closing : f.closing ≡ e.closing = ap (λ (end : End). end.closing) follows.rest in
    record {
      capacity = ap (λ (end : End). end.capacity) follows.rest ∙ is.capacity;
      ordered = subst (λ (items : List Item). Rattle.publisher_hub.specs.Sound.IsOrdered items) (sym accepted) is.ordered;
      items = λ i x at. still_published p old new x since until (is.items i x (subst (λ (items : List Item). slice_get items i ≡ Some x) accepted at));
      count = let count = is.count in rw (since, dropped, accepted, until) count;
      until = within;
      gone = gone;
      closed = λ some. until ∙ is.closed (subst (λ c. IsSome c) closing some);
      closed_as = λ ending at. is.closed_as ending (sym closing ∙ at);
    }

-- a subscription of a sound Hub stays such a subscription if it is looked at
pub entry_kept : (p : Progress) (old new : EntryState) → IsKept p.next old new → IsEntry p old → IsEntry p new
entry_kept p old new (inl stays) is = subst (λ (entry : EntryState). IsEntry p entry) (sym stays.same) is
entry_kept p old new (inr (inl stays)) is =
    subst (λ (entry : EntryState). IsEntry p entry) (sym stays.now) (record {
      here = λ live. cc;
      counted = λ f was. subst (λ (end : End). IsCounted p (record old { feed = Some stays.after }) end) (same_end was)
          (counted_looked p old (record old { feed = Some stays.after }) stays.before stays.after stays.became refl refl refl
          (is.counted stays.before stays.was).until (λ retired. let e = sym stays.live ∙ retired in cc) (is.counted stays.before stays.was));
      drops = is.drops;
    })
entry_kept p old new (inr (inr now)) is =
    let until = until_next p.next old now.live in
    let after : EntryState = record old { feed = Some now.after; retired = true; until = p.next } in
    subst (λ (entry : EntryState). IsEntry p entry) (sym now.now) (record {
      here = λ live. cc;
      counted = λ f was. subst (λ (end : End). IsCounted p after end) (same_end was)
          (counted_looked p old after now.before now.after now.follows refl refl (sym until) (omega arith) (λ _. now.gone) (is.counted now.before now.was));
      drops = is.drops;
    })

-- what a looked-at subscription has accepted it had accepted before
accepted_before : (next : ℕ) (old new : EntryState) (f : End) → IsKept next old new → new.feed ≡ Some f
    → (e : End) × (old.feed ≡ Some e) × (f.accepted ≡ e.accepted)
accepted_before next old new f (inl stays) was = (f, sym (ap (λ (entry : EntryState). entry.feed) stays.same) ∙ was, refl)
accepted_before next old new f (inr (inl stays)) was =
    (stays.before, stays.was, ap (λ (end : End). end.accepted) (same_end (sym was ∙ ap (λ (entry : EntryState). entry.feed) stays.now)) ∙ ap (λ (end : End). end.accepted) stays.became.rest)
accepted_before next old new f (inr (inr now)) was =
    (now.before, now.was, ap (λ (end : End). end.accepted) (same_end (sym was ∙ ap (λ (entry : EntryState). entry.feed) now.now)) ∙ ap (λ (end : End). end.accepted) now.follows.rest)

-- an item that a looked-at subscription has accepted was accepted before
was_accepted : (next : ℕ) (xs ys : List EntryState) (x : Item) → Each (IsKept next) xs ys → IsAccepted ys x → IsAccepted xs x
was_accepted next xs ys x each is =
    let stood = stood_at (IsKept next) xs ys is.number is.entry each is.stands in
    let before = accepted_before next stood.entry is.entry is.feed stood.became is.end_of in
    record {
      number = is.number;
      place = is.place;
      entry = stood.entry;
      feed = before.0;
      stands = stood.at;
      end_of = before.1;
      item = subst (λ (items : List Item). slice_get items is.place ≡ Some x) before.2 is.item;
    }

-- a subscription that isn't retired now was not before
was_live : (next : ℕ) (old new : EntryState) → IsKept next old new → new.retired ≡ false → old.retired ≡ false
was_live next old new (inl stays) live = ap (λ (entry : EntryState). entry.retired) (sym stays.same) ∙ live
was_live next old new (inr (inl stays)) live = stays.live
was_live next old new (inr (inr now)) live = now.live

-- the numbers of those that may be live still cover those that are
live_kept : (next : ℕ) (live : List ℕ) (xs ys : List EntryState) → Each (IsKept next) xs ys → AreLive live xs → AreLive live ys
live_kept next live xs ys each are = record {
  numbers = record {
    rising = are.numbers.rising;
    within = λ i n at. subst (λ many. n < many) (sym each.as_long) (are.numbers.within i n at);
  };
  covers = λ k entry at lives. let stood = stood_at (IsKept next) xs ys k entry each at in
      are.covers k stood.entry stood.at (was_live next stood.entry entry stood.became lives);
}

-- a sound Hub stays sound if its subscriptions are looked at
pub sound_looked_at : (old new : HubState) → IsSound old → IsLookedAt old new → IsSound new
sound_looked_at old new sound looked =
    let next = old.progress.next in
    let xs = old.entries in
    let ys = new.entries in
    subst (λ (hub : HubState). IsSound hub) (sym looked.rest) (record {
      entries = λ k entry at. let stood = stood_at (IsKept next) xs ys k entry looked.entries at in
          entry_kept old.progress stood.entry entry stood.became (sound.entries k stood.entry stood.at);
      agreed = λ x y a b same. sound.agreed x y (was_accepted next xs ys x looked.entries a) (was_accepted next xs ys y looked.entries b) same;
      live = live_kept next old.live xs ys looked.entries sound.live;
      few_live = sound.few_live;
      few_entries = subst (λ many. many ≤ Rattle.publisher_hub.specs.Sound.MOST_ENTRIES) (sym looked.entries.as_long) sound.few_entries;
      few_items = sound.few_items;
      few_drops = sound.few_drops;
      sources = sound.sources;
      all_sources = sound.all_sources;
      few_counts = sound.few_counts;
    })
