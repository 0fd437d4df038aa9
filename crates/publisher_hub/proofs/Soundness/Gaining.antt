-- A sound Hub stays sound if its live subscriptions gain an item, however often they were looked at.
use Rattle.std.proofs.Common.{◌≡◌, ◌⊎◌, ℕ, ◌+◌, ◌<◌, ◌≤◌, true, false, Option, None, Some, List, [], ◌∷◌, ◌++◌, length, refl, ap, sym, subst, ◌∙◌, inl, inr, arith}
use Rattle.std.specs.Prelude.{IsSome, slice_get}
use Rattle.std.proofs.lemmas.List.{length-append, length-set}
use Rattle.std.proofs.lemmas.Option.{slice_get_within}
use Rattle.flow_rules.specs.Feed.{End, is_gone}
use Rattle.flow_rules.specs.declared.ending.Ending.{Ending}
use Rattle.flow_rules.specs.declared.item.Item.{Item}
use Rattle.publisher_hub.specs.Entry.{EntryState, until_of}
use Rattle.publisher_hub.specs.Hub.{HubState, Progress}
use Rattle.publisher_hub.specs.Lists.{Each}
use Rattle.publisher_hub.specs.Looking.{Follows, StaysRetired}
use Rattle.publisher_hub.specs.Offering.{HasDropped, HasEnded, IsNextItem, progress_after}
use Rattle.publisher_hub.specs.declared.hub.TheConstants.{MOST_SOURCES}
use Rattle.publisher_hub.specs.Sound.{AreAgreed, AreLive, IsAccepted, IsBefore, IsCounted, IsEntry, IsOrdered, IsPublished, IsSound, MOST_ENTRIES}
use Rattle.publisher_hub.proofs.AnswerLists.Updates.{get_grown, get_set, get_set_there}
use Rattle.publisher_hub.proofs.Soundness.Looking.{same_end, unclosed_by, until_next}
use Rattle.publisher_hub.proofs.AnswerLists.Places.{stood_at}

-- a live subscription accepted the item
pub record Gains (x : Item) (old new : EntryState) : Type 0 where
  pub before : End
  pub after : End
  pub live : old.retired ≡ false
  pub was : old.feed ≡ Some before
  pub accepted : after.accepted ≡ before.accepted ++ x ∷ []
  pub closing : after.closing ≡ before.closing
  pub capacity : after.capacity ≡ before.capacity
  pub now : new ≡ record old { feed = Some after }

-- what a publication leaves of a subscription
abbrev pub IsLeft : Item → EntryState → EntryState → Type 0
IsLeft x old new = StaysRetired old new ⊎ (Gains x old new ⊎ (HasEnded x old new ⊎ HasDropped x old new))

-- what a publication leaves of a Hub
pub record Leaves (x : Item) (old new : HubState) : Type 0 where
  pub next : IsNextItem old.progress x
  pub rest : new ≡ record old { progress = progress_after x new.progress.dropping old.progress; entries = new.entries }
  pub entries : Each (IsLeft x) old.entries new.entries
  pub drops : new.progress.dropping ≤ old.progress.dropping + 1
  pub dropped : (k : ℕ) (entry : EntryState) → slice_get new.entries k ≡ Some entry → entry.dropped ≤ new.progress.dropping

module _ (p : Progress) (x : Item) (dropping : ℕ) (next : IsNextItem p x) where
  abbrev q : Progress
  q = progress_after x dropping p

  -- the number among a source's items is below the source's count still
  seq_below : (y : Item) → ((count : ℕ) → slice_get p.counts y.source ≡ Some count → y.seq < count) → (count : ℕ)
      → slice_get q.counts y.source ≡ Some count → y.seq < count
  seq_below y below count at = by (get_set p.counts x.source (x.seq + 1) y.source count at) where
    by : (slice_get p.counts y.source ≡ Some count) ⊎ ((y.source ≡ x.source) × (x.seq + 1 ≡ count)) → y.seq < count
    by (inl before) = below count before
    by (inr now) = let before : y.seq < x.seq = below x.seq (subst (λ s. slice_get p.counts s ≡ Some x.seq) (sym now.0) next.seq) in let e = now.1 in omega arith

  -- an item that was published before was published, as long as its subscription takes part as long
  published_before : (old new : EntryState) (y : Item) → new.since ≡ old.since → until_of p.next old ≤ until_of q.next new
      → IsPublished p old y → IsPublished q new y
  published_before old new y since longer is = record {
    since = subst (λ s. s ≤ y.serial) (sym since) is.since;
    until = let until = is.until in omega arith;
    seq = seq_below y is.seq;
    source = is.source;
  }

  -- what is some ending is some
  some_of : (closing : Option Ending) (ending : Ending) → closing ≡ Some ending → IsSome closing
  some_of closing ending at = rw at refl

  -- no end of a Hub that was not closed is closed
  never_closed : (old : EntryState) (e f : End) → IsCounted p old e → f.closing ≡ e.closing → IsSome f.closing → ⊥
  never_closed old e f is closing some = let none : f.closing ≡ None = closing ∙ unclosed_by p old e is next.unclosed in let e : IsSome {T = Ending} None = subst (λ c. IsSome c) none some in cc

  -- a subscription whose list is as it was is counted after the publication, too
  counted_same : (old new : EntryState) (e f : End) → Follows e f → new.since ≡ old.since → until_of p.next old ≤ until_of q.next new
      → until_of q.next new ≤ q.next → new.since + (length e.accepted + new.dropped) ≡ until_of q.next new
      → (new.retired ≡ true → is_gone f ≡ true)
      → IsCounted p old e → IsCounted q new f
  counted_same old new e f follows since longer within count gone is =
      let accepted : f.accepted ≡ e.accepted = ap (λ (end : End). end.accepted) follows.rest in
      let closing : f.closing ≡ e.closing = ap (λ (end : End). end.closing) follows.rest in
      record {
        capacity = ap (λ (end : End). end.capacity) follows.rest ∙ is.capacity;
        ordered = subst (λ (items : List Item). IsOrdered items) (sym accepted) is.ordered;
        items = λ i y at. published_before old new y since longer (is.items i y (subst (λ (items : List Item). slice_get items i ≡ Some y) accepted at));
        count = rw accepted count;
        until = within;
        gone = gone;
        closed = λ some. absurd (never_closed old e f is closing some);
        closed_as = λ ending at. absurd (never_closed old e f is closing (some_of f.closing ending at));
      }

  -- the items that a live subscription had accepted come before this one
  before_this : (old : EntryState) (e : End) (i : ℕ) (y : Item) → old.retired ≡ false → IsCounted p old e → slice_get e.accepted i ≡ Some y
      → IsBefore y x
  before_this old e i y live is at =
      let published = is.items i y at in
      record {
        serial = let until = published.until in let same = until_next p.next old live in let serial = next.serial in omega arith;
        seq = λ same. published.seq x.seq (subst (λ s. slice_get p.counts s ≡ Some x.seq) (sym same) next.seq);
      }

  -- with this item the list rises still
  still_ordered : (old : EntryState) (e : End) → old.retired ≡ false → IsCounted p old e → IsOrdered (e.accepted ++ x ∷ [])
  still_ordered old e live is i j y z at at' before = by (get_grown e.accepted x i y at) (get_grown e.accepted x j z at') where
    by : (slice_get e.accepted i ≡ Some y) ⊎ ((i ≡ length e.accepted) × (x ≡ y))
        → (slice_get e.accepted j ≡ Some z) ⊎ ((j ≡ length e.accepted) × (x ≡ z)) → IsBefore y z
    by (inl old_y) (inl old_z) = is.ordered i j y z old_y old_z before
    by (inl old_y) (inr new_z) = subst (λ (item : Item). IsBefore y item) new_z.1 (before_this old e i y live is old_y)
    by (inr new_y) (inl old_z) = let within = slice_get_within e.accepted j z old_z in let there = new_y.0 in absurd (omega arith)
    by (inr new_y) (inr new_z) = let there = new_y.0 in let there' = new_z.0 in absurd (omega arith)

  -- a subscription that accepted the item is counted with it
  counted_grown : x.source < MOST_SOURCES → (old new : EntryState) (e : End) → (g : Gains x old new)
      → IsCounted p old g.before → IsCounted q (record old { feed = Some g.after }) g.after
  counted_grown source old new e g is =
      let live = until_next p.next old g.live in
      let lists = g.accepted in
      let closing = g.closing in
      let entry : EntryState = record old { feed = Some g.after } in
      let longer : until_of q.next entry ≡ p.next + 1 = until_next q.next entry g.live in
      let before = is.count in
      let many : length (g.before.accepted ++ x ∷ []) ≡ length g.before.accepted + 1 = length-append g.before.accepted (x ∷ []) in
      let serial = next.serial in
      record {
        capacity = g.capacity ∙ is.capacity;
        ordered = subst (λ (items : List Item). IsOrdered items) (sym lists) (still_ordered old g.before g.live is);
        items = λ i y at. by i y (get_grown g.before.accepted x i y (subst (λ (items : List Item). slice_get items i ≡ Some y) lists at));
        count = rw lists (omega arith);
        until = omega arith;
        gone = λ retired. let e = sym g.live ∙ retired in cc;
        closed = λ some. absurd (never_closed old g.before g.after is closing some);
        closed_as = λ ending at. absurd (never_closed old g.before g.after is closing (some_of g.after.closing ending at));
      } where
        by : (i : ℕ) (y : Item) → (slice_get g.before.accepted i ≡ Some y) ⊎ ((i ≡ length g.before.accepted) × (x ≡ y)) → IsPublished q (record old { feed = Some g.after }) y
        by i y (inl stood) = published_before old (record old { feed = Some g.after }) y refl
            (let live = until_next p.next old g.live in let longer : until_of q.next (record old { feed = Some g.after }) ≡ p.next + 1 = until_next q.next (record old { feed = Some g.after }) g.live in omega arith)
            (is.items i y stood)
        by i y (inr added) = subst (λ (item : Item). IsPublished q (record old { feed = Some g.after }) item) added.1 (record {
          since = let live = until_next p.next old g.live in let count = is.count in let serial = next.serial in omega arith;
          until = let longer : until_of q.next (record old { feed = Some g.after }) ≡ p.next + 1 = until_next q.next (record old { feed = Some g.after }) g.live in let serial = next.serial in omega arith;
          seq = λ count at. let there = get_set_there p.counts x.source (x.seq + 1) count at in omega arith;
          source = source;
        })

  -- a subscription that was retired before stays as it was counted
  counted_retired : (entry : EntryState) (e : End) → entry.retired ≡ true → IsCounted p entry e → IsCounted q entry e
  counted_retired entry e retired is =
      let before : until_of p.next entry ≡ entry.until = rw retired refl in
      let after : until_of q.next entry ≡ entry.until = rw retired refl in
      let within = is.until in
      record {
        capacity = is.capacity;
        ordered = is.ordered;
        items = λ i y at. published_before entry entry y refl (omega arith) (is.items i y at);
        count = is.count ∙ before ∙ sym after;
        until = omega arith;
        gone = is.gone;
        closed = λ some. absurd (never_closed entry e e is refl some);
        closed_as = λ ending at. absurd (never_closed entry e e is refl (some_of e.closing ending at));
      }

  -- a subscription of a sound Hub stays such a subscription if an item is offered to it
  entry_offered : x.source < MOST_SOURCES → (old new : EntryState) → IsLeft x old new → new.dropped ≤ dropping → IsEntry p old
      → IsEntry q new
  entry_offered source old new (inl stays) few is = subst (λ (entry : EntryState). IsEntry q entry) (sym stays.same) (record {
    here = is.here;
    counted = λ e was. counted_retired old e stays.retired (is.counted e was);
    drops = subst (λ (entry : EntryState). entry.dropped ≤ dropping) stays.same few;
  })
  entry_offered source old new (inr (inl grown)) few is = subst (λ (entry : EntryState). IsEntry q entry) (sym grown.now) (record {
    here = λ live. cc;
    counted = λ f was. subst (λ (end : End). IsCounted q (record old { feed = Some grown.after }) end) (same_end was)
        (counted_grown source old new grown.before grown (is.counted grown.before grown.was));
    drops = subst (λ (entry : EntryState). entry.dropped ≤ dropping) grown.now few;
  })
  entry_offered source old new (inr (inr (inl ended))) few is =
      let after : EntryState = record old { feed = Some ended.after; retired = true; until = x.serial } in
      let until = until_next p.next old ended.live in
      let counted = is.counted ended.before ended.was in
      let serial = next.serial in
      let count = counted.count in
      subst (λ (entry : EntryState). IsEntry q entry) (sym ended.now) (record {
        here = λ live. cc;
        counted = λ f was. subst (λ (end : End). IsCounted q after end) (same_end was)
            (counted_same old after ended.before ended.after ended.follows refl (omega arith) (omega arith) (omega arith) (λ _. ended.gone) counted);
        drops = subst (λ (entry : EntryState). entry.dropped ≤ dropping) ended.now few;
      })
  entry_offered source old new (inr (inr (inr dropped))) few is =
      let after : EntryState = record old { feed = Some dropped.after; dropped = old.dropped + 1 } in
      let until = until_next p.next old dropped.live in
      let later : until_of q.next after ≡ p.next + 1 = until_next q.next after dropped.live in
      let counted = is.counted dropped.before dropped.was in
      let count = counted.count in
      subst (λ (entry : EntryState). IsEntry q entry) (sym dropped.now) (record {
        here = λ live. cc;
        counted = λ f was. subst (λ (end : End). IsCounted q after end) (same_end was)
            (counted_same old after dropped.before dropped.after dropped.follows refl (omega arith) (omega arith) (omega arith)
            (λ retired. let e = sym dropped.live ∙ retired in cc) counted);
        drops = subst (λ (entry : EntryState). entry.dropped ≤ dropping) dropped.now few;
      })

  -- an item that a subscription has accepted after the publication was accepted before, or is this one
  accepted_or_this : (old new : EntryState) (f : End) (place : ℕ) (y : Item) → IsLeft x old new → new.feed ≡ Some f
      → slice_get f.accepted place ≡ Some y
      → ((e : End) × (old.feed ≡ Some e) × (slice_get e.accepted place ≡ Some y)) ⊎ (x ≡ y)
  accepted_or_this old new f place y (inl stays) was at = inl (f, sym (ap (λ (entry : EntryState). entry.feed) stays.same) ∙ was, at)
  accepted_or_this old new f place y (inr (inl grown)) was at =
      let same : grown.after ≡ f = same_end (sym (ap (λ (entry : EntryState). entry.feed) grown.now) ∙ was) in
      let lists : f.accepted ≡ grown.before.accepted ++ x ∷ [] =
      ap (λ (end : End). end.accepted) (sym same) ∙ grown.accepted in
      by (get_grown grown.before.accepted x place y (subst (λ (items : List Item). slice_get items place ≡ Some y) lists at)) where
        by : (slice_get grown.before.accepted place ≡ Some y) ⊎ ((place ≡ length grown.before.accepted) × (x ≡ y))
            → ((e : End) × (old.feed ≡ Some e) × (slice_get e.accepted place ≡ Some y)) ⊎ (x ≡ y)
        by (inl stood) = inl (grown.before, grown.was, stood)
        by (inr added) = inr added.1
  accepted_or_this old new f place y (inr (inr (inl ended))) was at =
      let same : ended.after ≡ f = same_end (sym (ap (λ (entry : EntryState). entry.feed) ended.now) ∙ was) in
      let lists : f.accepted ≡ ended.before.accepted =
      ap (λ (end : End). end.accepted) (sym same) ∙ ap (λ (end : End). end.accepted) ended.follows.rest in
      inl (ended.before, ended.was, subst (λ (items : List Item). slice_get items place ≡ Some y) lists at)
  accepted_or_this old new f place y (inr (inr (inr dropped))) was at =
      let same : dropped.after ≡ f = same_end (sym (ap (λ (entry : EntryState). entry.feed) dropped.now) ∙ was) in
      let lists : f.accepted ≡ dropped.before.accepted =
      ap (λ (end : End). end.accepted) (sym same) ∙ ap (λ (end : End). end.accepted) dropped.follows.rest in
      inl (dropped.before, dropped.was, subst (λ (items : List Item). slice_get items place ≡ Some y) lists at)

  -- the same of a Hub's subscriptions
  pub hub_accepted : (xs ys : List EntryState) (y : Item) → Each (IsLeft x) xs ys → IsAccepted ys y → IsAccepted xs y ⊎ (x ≡ y)
  hub_accepted xs ys y each is =
      let stood = stood_at (IsLeft x) xs ys is.number is.entry each is.stands in
      by (accepted_or_this stood.entry is.entry is.feed is.place y stood.became is.end_of is.item) where
        by : ((e : End) × ((stood_at (IsLeft x) xs ys is.number is.entry each is.stands).entry.feed ≡ Some e) × (slice_get e.accepted is.place ≡ Some y)) ⊎ (x ≡ y)
            → IsAccepted xs y ⊎ (x ≡ y)
        by (inl before) = inl (record {
          number = is.number;
          place = is.place;
          entry = (stood_at (IsLeft x) xs ys is.number is.entry each is.stands).entry;
          feed = before.0;
          stands = (stood_at (IsLeft x) xs ys is.number is.entry each is.stands).at;
          end_of = before.1;
          item = before.2;
        })
        by (inr this) = inr this

  -- a subscription that isn't retired now was not before
  was_live : (old new : EntryState) → IsLeft x old new → new.retired ≡ false → old.retired ≡ false
  was_live old new (inl stays) live = ap (λ (entry : EntryState). entry.retired) (sym stays.same) ∙ live
  was_live old new (inr (inl grown)) live = grown.live
  was_live old new (inr (inr (inl ended))) live = ended.live
  was_live old new (inr (inr (inr dropped))) live = dropped.live

-- what a sound Hub's subscriptions have accepted comes before the next serial number
accepted_below : (hub : HubState) (y : Item) → IsSound hub → IsAccepted hub.entries y → y.serial < hub.progress.next
accepted_below hub y sound is =
    let counted = (sound.entries is.number is.entry is.stands).counted is.feed is.end_of in
    let published = counted.items is.place y is.item in
    let until = published.until in let within = counted.until in omega arith

-- items with the same serial number still are the same item
still_agreed : (old : HubState) (ys : List EntryState) (x : Item) (dropping : ℕ) → IsSound old → IsNextItem old.progress x
    → Each (IsLeft x) old.entries ys → AreAgreed ys
still_agreed old ys x dropping sound next each y z a b same =
    by (hub_accepted old.progress x dropping next old.entries ys y each a) (hub_accepted old.progress x dropping next old.entries ys z each b) where
      by : IsAccepted old.entries y ⊎ (x ≡ y) → IsAccepted old.entries z ⊎ (x ≡ z) → y ≡ z
      by (inl before) (inl before') = sound.agreed y z before before' same
      by (inl before) (inr this) =
          let low = accepted_below old y sound before in
          let serial = next.serial in
          let high : x.serial ≡ z.serial = ap (λ (item : Item). item.serial) this in absurd (omega arith)
      by (inr this) (inl before) =
          let low = accepted_below old z sound before in
          let serial = next.serial in
          let high : x.serial ≡ y.serial = ap (λ (item : Item). item.serial) this in absurd (omega arith)
      by (inr this) (inr this') = sym this ∙ this'

-- the numbers of those that may be live still cover those that are
live_offered : (old : HubState) (ys : List EntryState) (x : Item) (dropping : ℕ) → IsNextItem old.progress x
    → Each (IsLeft x) old.entries ys → AreLive old.live old.entries → AreLive old.live ys
live_offered old ys x dropping next each are = record {
  numbers = record {
    rising = are.numbers.rising;
    within = λ i n at. subst (λ many. n < many) (sym each.as_long) (are.numbers.within i n at);
  };
  covers = λ k entry at lives. let stood = stood_at (IsLeft x) old.entries ys k entry each at in
      are.covers k stood.entry stood.at (was_live old.progress x dropping next stood.entry entry stood.became lives);
}

-- a sound Hub stays sound after such a publication
pub sound_left : (old new : HubState) (x : Item) → x.source < MOST_SOURCES → IsSound old → Leaves x old new → IsSound new
sound_left old new x source sound offers =
    let p = old.progress in
    let dropping = new.progress.dropping in
    let ys = new.entries in
    let few = offers.next.few in
    let drops = offers.drops in
    let few_drops = sound.few_drops in
    subst (λ (hub : HubState). IsSound hub) (sym offers.rest) (record {
      entries = λ k entry at. let stood = stood_at (IsLeft x) old.entries ys k entry offers.entries at in
          entry_offered p x dropping offers.next source stood.entry entry stood.became (offers.dropped k entry at) (sound.entries k stood.entry stood.at);
      agreed = still_agreed old ys x dropping sound offers.next offers.entries;
      live = live_offered old ys x dropping offers.next offers.entries sound.live;
      few_live = sound.few_live;
      few_entries = subst (λ many. many ≤ MOST_ENTRIES) (sym offers.entries.as_long) sound.few_entries;
      few_items = omega arith;
      few_drops = omega arith;
      sources = sound.sources;
      all_sources = length-set p.counts x.source (x.seq + 1) ∙ sound.all_sources;
      few_counts = λ s count at. by s count (get_set p.counts x.source (x.seq + 1) s count at);
    }) where
      by : (s count : ℕ) → (slice_get old.progress.counts s ≡ Some count) ⊎ ((s ≡ x.source) × (x.seq + 1 ≡ count))
          → count ≤ old.progress.next + 1
      by s count (inl before) = let few = sound.few_counts s count before in omega arith
      by s count (inr now) = let few = sound.few_counts x.source x.seq offers.next.seq in let e = now.1 in omega arith
