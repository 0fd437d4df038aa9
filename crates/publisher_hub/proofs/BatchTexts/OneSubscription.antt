-- What a publication of a batch of texts does to one subscription: it is looked at, accepts the first item, and then the
-- others.
use Rattle.std.proofs.Common.{◌≡◌, ◌⊎◌, ◌||◌, ℕ, ◌+◌, ◌<◌, ◌≤◌, Bool, true, false, Option, None, Some, option_map, is_some, List, [], ◌∷◌, ◌++◌, append_assoc, length, refl, ap, sym, subst, ◌∙◌, inl, inr, arith}
use Rattle.std.proofs.lemmas.List.{append-nil, length-append}
use Rattle.flow_rules.specs.Call.{Call}
use Rattle.flow_rules.specs.Feed.{End, Looked, LookedIfOpen, PutsAll, TakesItems, held_count, is_gone}
use Rattle.flow_rules.specs.declared.feed.put_all.PutAll.{PutAll}
use Rattle.flow_rules.specs.declared.feed.put_all.PutAll.TheVariants.{Accepted, Gone}
use Rattle.flow_rules.specs.declared.feed.standing.Standing.{Standing}
use Rattle.flow_rules.specs.declared.item.Item.{Item}
use Rattle.publisher_hub.specs.Entry.{EntryState, entry_of}
use Rattle.publisher_hub.specs.Looking.{Follows, Prepares, StaysRetired}
use Rattle.publisher_hub.specs.Offering.{IsOffered}
use Rattle.publisher_hub.specs.Batch.{IsGivenAnother, OfferedBatch, PutsBatchTo, entry_after_puts}
use Rattle.publisher_hub.specs.declared.entry.Entry.{Entry}
use Rattle.publisher_hub.proofs.Subscribed.Ends.{follows_look, look_counted}
use Rattle.publisher_hub.proofs.Subscribed.AfterLooks.{follows_on}
use Rattle.publisher_hub.proofs.PartialRounds.Progress.{same_some}
use Rattle.publisher_hub.proofs.Publications.OneSubscription.{IsReadyFor, not_both, prepared_live}

-- a live subscription that was looked at accepted all of these items
pub record TakesOthers (items : List Item) (old new : EntryState) : Type 0 where
  pub before : End
  pub live : old.retired ≡ false
  pub was : old.feed ≡ Some before
  pub taking : is_gone before ≡ false
  pub fits : held_count before + length items ≤ before.capacity
  pub now : new ≡ record old { feed = Some (record before { accepted = before.accepted ++ items }) }

abbrev pub IsGivenOthers : List Item → EntryState → EntryState → Type 0
IsGivenOthers items old new = StaysRetired old new ⊎ TakesOthers items old new

-- what the first item left of a subscription, before the others
abbrev pub IsGivenFirst : Item → EntryState → EntryState → Type 0
IsGivenFirst x old new = IsOffered x old new × (new.dropped ≡ old.dropped)

-- a subscription between the first item and the others
abbrev pub HasBetween : Item → List Item → EntryState → EntryState → Type 0
HasBetween x items old new = (middle : EntryState) × (IsGivenFirst x old middle × IsGivenOthers items middle new)

-- no other item leaves a subscription as it was
pub given_none : (old new : EntryState) → IsGivenOthers [] old new → new ≡ old
given_none old new (inl stays) = stays.same
given_none old new (inr takes) =
    takes.now ∙ ap (λ items. record old { feed = Some (record takes.before { accepted = items }) }) (append-nil takes.before.accepted)
    ∙ ap (λ feed. record old { feed = feed }) (sym takes.was)

-- of a batch of other items, the first is another item, and the others follow
pub given_next : (x : Item) (items : List Item) (old new : EntryState) → IsGivenOthers (x ∷ items) old new
    → (middle : EntryState) × (IsGivenAnother x old middle × IsGivenOthers items middle new)
given_next x items old new (inl stays) = (old, (inl (record { retired = stays.retired; same = refl }), inl stays))
given_next x items old new (inr takes) =
    let before = takes.before in
    let grown : End = record before { accepted = before.accepted ++ x ∷ [] } in
    let fits = takes.fits in
    let more = length-append before.accepted (x ∷ []) in (
      record old { feed = Some grown },
      (
        inr (record { before = before; live = takes.live; was = takes.was; taking = takes.taking; fits = omega arith; now = refl }),
        inr (record {
          before = grown;
          live = takes.live;
          was = refl;
          taking = takes.taking;
          fits = omega arith;
          now = takes.now
              ∙ ap (λ all. record old { feed = Some (record before { accepted = all }) }) (sym (append_assoc before.accepted (x ∷ []) items));
        }),
      ),
    )

module _ {F T : Type 0} (meaning : F → End) (does : F → Call T → F → Type 0) (next : ℕ) (x : Item) (items : List Item)
    (serial : x.serial ≡ next) where
  -- a subscription that goes on was offered the items
  offered_batch : (answer : PutAll T) (old ready new : Entry F) → IsReadyFor meaning does next old ready
      → OfferedBatch meaning does next (x ∷ items) answer ready new
      → ((e : End) → (entry_of meaning old).feed ≡ Some e → e.closing ≡ None)
      → HasBetween x items (entry_of meaning old) (entry_of meaning new)
  offered_batch answer old ready new goes_on offered unclosed =
      by answer offered.means (ap (λ (entry : Entry F). entry_of meaning entry) offered.now) where
        was : (entry_of meaning old).feed ≡ Some (meaning goes_on.before)
        was = ap (λ feed. option_map meaning feed) goes_on.was

        before_is : offered.before ≡ goes_on.after
        before_is = same_some (sym offered.was ∙ ap (λ (entry : Entry F). entry.feed) goes_on.now)

        follows : Follows (meaning goes_on.before) (meaning offered.before)
        follows = subst (λ (f : F). Follows (meaning goes_on.before) (meaning f)) (sym before_is) goes_on.follows

        is_unclosed : (meaning offered.before).closing ≡ None
        is_unclosed = ap (λ (end : End). end.closing) follows.rest ∙ unclosed (meaning goes_on.before) was

        look : (m : End) → LookedIfOpen (meaning offered.before) m → Looked (meaning offered.before) m
        look m looked = looked.unclosed is_unclosed

        follows_put : (m : End) → Looked (meaning offered.before) m → Follows (meaning goes_on.before) m
        follows_put m looked = follows_on (meaning goes_on.before) (meaning offered.before) m follows (follows_look (meaning offered.before) m looked)

        counted_put : (m : End) → Looked (meaning offered.before) m → (meaning goes_on.before).looks < m.looks
        counted_put m looked = let later = look_counted (meaning offered.before) m looked in let first = follows.looks in omega arith

        by : (answer : PutAll T) → PutsAll (meaning offered.before) (x ∷ items) answer (meaning offered.after)
            → entry_of meaning new ≡ entry_of meaning (entry_after_puts next answer offered.after ready)
            → HasBetween x items (entry_of meaning old) (entry_of meaning new)
        by (Accepted lag start) means now =
            let m = means.0 in
            let takes : TakesItems m (x ∷ items) lag start (meaning offered.after) = means.2 in
            let first : End = record m { accepted = m.accepted ++ x ∷ []; ready = (meaning offered.after).ready } in
            let room = takes.room_before in
            let more = length-append m.accepted (x ∷ []) in (
              record (entry_of meaning old) { feed = Some first },
              (
                (
                  inr (inl (record {
                    before = meaning goes_on.before;
                    seen = m;
                    after = first;
                    live = goes_on.live;
                    was = was;
                    follows = follows_put m (look m means.1);
                    looked = counted_put m (look m means.1);
                    taking = takes.open_before;
                    grown = refl;
                    fits = omega arith;
                    now = refl;
                  })),
                  refl,
                ),
                inr (record {
                  before = first;
                  live = goes_on.live;
                  was = refl;
                  taking = takes.open_before;
                  fits = omega arith;
                  now = now ∙ ap (λ (entry : Entry F). entry_of meaning (record entry { feed = Some offered.after })) goes_on.now
                      ∙ ap (λ (end : End). record (entry_of meaning old) { feed = Some end }) takes.taken
                      ∙ ap (λ all. record (entry_of meaning old) { feed = Some (record first { accepted = all }) }) (sym (append_assoc m.accepted (x ∷ []) items));
                }),
              ),
            )
        by (Gone back) means now =
            let same : meaning offered.after ≡ means.0 = means.2.unchanged in (
              entry_of meaning new,
              (
                (
                  inr (inr (inl (record {
                    before = meaning goes_on.before;
                    after = meaning offered.after;
                    live = goes_on.live;
                    was = was;
                    follows = subst (λ (end : End). Follows (meaning goes_on.before) end) (sym same) (follows_put means.0 (look means.0 means.1));
                    looked = subst (λ (end : End). (meaning goes_on.before).looks < end.looks) (sym same) (counted_put means.0 (look means.0 means.1));
                    gone = subst (λ (end : End). is_gone end ≡ true) (sym same) means.2.gone;
                    now = now
                        ∙ ap (λ (entry : Entry F). entry_of meaning (record entry { feed = Some offered.after; retired = true; until = next })) goes_on.now
                        ∙ ap (λ until. entry_of meaning (record old { feed = Some offered.after; retired = true; until = until })) (sym serial);
                  }))),
                  ap (λ (entry : EntryState). entry.dropped) now ∙ ap (λ (entry : Entry F). entry.dropped) goes_on.now,
                ),
                inl (record { retired = ap (λ (entry : EntryState). entry.retired) now; same = refl }),
              ),
            )

  -- a subscription was looked at, and offered the items unless it had ended
  pub prepared_batch : (glance : Option Standing) (put : Option (PutAll T)) (old middle new : Entry F)
      → ((e : End) → (entry_of meaning old).feed ≡ Some e → e.closing ≡ None)
      → Prepares meaning does next glance old middle → PutsBatchTo meaning does next (x ∷ items) put middle new
      → HasBetween x items (entry_of meaning old) (entry_of meaning new)
  prepared_batch glance (Some answer) old middle new unclosed prepared offered =
      offered_batch answer old middle new (prepared_live meaning does next glance old middle prepared offered.live) offered unclosed
  prepared_batch None None old middle new unclosed stays puts_to =
      let same : entry_of meaning new ≡ entry_of meaning old = ap (λ (entry : Entry F). entry_of meaning entry) (puts_to.1 ∙ stays.1) in (
        entry_of meaning old,
        (
          (inl (record { retired = stays.0; same = refl }), refl),
          inl (record { retired = stays.0; same = same }),
        ),
      )
  prepared_batch (Some standing) None old middle new unclosed sees puts_to = by standing.ended refl where
    by : (ended : Bool) → standing.ended ≡ ended → HasBetween x items (entry_of meaning old) (entry_of meaning new)
    by true is =
        let now : new ≡ record old { feed = Some sees.sees.after; retired = true; until = next } =
        puts_to.1 ∙ sees.ended is ∙ sees.sees.ended is in (
          entry_of meaning new,
          (
            (
              inr (inr (inl (record {
                before = meaning sees.sees.before;
                after = meaning sees.sees.after;
                live = sees.sees.live;
                was = ap (λ feed. option_map meaning feed) sees.sees.was;
                follows = follows_look (meaning sees.sees.before) (meaning sees.sees.after) sees.sees.stands.look;
                looked = look_counted (meaning sees.sees.before) (meaning sees.sees.after) sees.sees.stands.look;
                gone = let over : (meaning sees.sees.after).over ≡ true = sym sees.sees.stands.ended
                    ∙ is in ap (λ b. b || is_some (meaning sees.sees.after).closing) over;
                now = ap (λ (entry : Entry F). entry_of meaning entry) now
                    ∙ ap (λ until. entry_of meaning (record old { feed = Some sees.sees.after; retired = true; until = until })) (sym serial);
              }))),
              ap (λ (entry : Entry F). entry.dropped) now,
            ),
            inl (record { retired = ap (λ (entry : Entry F). entry.retired) now; same = refl }),
          ),
        )
    by false is = not_both puts_to.0 (ap (λ (entry : Entry F). entry.retired) ((sees.stays is).1.1.now ∙ ap (λ (entry : Entry F). record entry { feed = Some (sees.stays is).1.1.after }) (sees.sees.stays is)) ∙ sees.sees.live)
